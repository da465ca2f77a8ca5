-- A record's name that is taken from one transaction's. It serves the goals of locks.rt.
use Rattle.std.proofs.Common.{◌≡◌, ◌⊎◌, inl, inr, Bool, true, false, ◌||◌, ◌++◌, ◌∷◌, List, [], Option, Some, None, refl, sym, ap, subst, ◌∙◌, ⊎_elim}
use Rattle.std.proofs.lemmas.Bool.{cond-true, cond-false, cases_Bool}
use Rattle.std.proofs.lemmas.List.Folds.{list_any-append}
use Rattle.std.specs.List.{list_any}
use Rattle.std.specs.Map.{lookup}
use Rattle.std.specs.Global.{Vec}
use Rattle.sd_base.specs.declared.ids.TxnId.{TxnId}
use Rattle.sd_base.specs.declared.ids.Rid.{Rid}
use Rattle.sd_base.specs.declared.place.Mode.{Mode}
use Rattle.sd_base.specs.Ids.{same_txn, same_rid}
use Rattle.sd_reclock.specs.Locks.{Held, held_in, IsNoStronger}
use Rattle.sd_reclock.specs.Indexing.{Index, names, rids_of, IsIndexed}
use Rattle.sd_reclock.proofs.Noting.{PutsTxn}
use Rattle.sd_reclock.proofs.Writes.{Changes}
use Rattle.sd_reclock.proofs.Agreeing.{here}
use Rattle.sd_reclock.proofs.Lowering.{none_after}
use Rattle.sd_base.proofs.SameIds.{cases_txn, ne-same}
use Rattle.sd_base.proofs.Orders.{same-txn, same-rid-is}

or-false : (b : Bool) → (b || false) ≡ b
or-false true = refl
or-false false = refl

-- where the last name is taken
pub unnamed_kept : (old new : Index) (t : TxnId) (r : Rid) (to : Option Mode) (w : Vec Rid) → to ≡ None → PutsTxn old new t (Some w) → rids_of (lookup (same_txn t) old) ≡ w.items ++ r ∷ []
    → (u : TxnId) (q : Rid) → names new u q ≡ false → (names old u q ≡ false) ⊎ ((to ≡ None) × (t ≡ u) × (q ≡ r))
unnamed_kept old new t r to w none puts is u q h = ⊎_elim
    (λ e. ⊎_elim
    (λ same. inr (none, e, same-rid-is q r same))
    (λ other.
    let now : names new t q ≡ list_any (same_rid q) w.items = ap (λ (o : Option (Vec Rid)). list_any (same_rid q) (rids_of o)) (puts t ∙ cond-true (same_txn t t) (Some w) (lookup (same_txn t) old) (same-txn t)) in
    inl (subst (λ (z : TxnId). names old z q ≡ false) e
    (ap (λ (rids : List Rid). list_any (same_rid q) rids) is ∙ list_any-append (same_rid q) w.items (r ∷ [])
    ∙ ap (λ (b : Bool). list_any (same_rid q) w.items || (b || false)) other ∙ or-false (list_any (same_rid q) w.items) ∙ sym now ∙ subst (λ (z : TxnId). names new z q ≡ false) (sym e) h)))
    (cases_Bool (same_rid q r)))
    (λ ne. inl (sym (ap (λ (o : Option (Vec Rid)). list_any (same_rid q) (rids_of o)) (puts u ∙ cond-false (same_txn t u) (Some w) (lookup (same_txn u) old) (ne-same t u ne))) ∙ h))
    (cases_txn t u)

-- the index still names what is held
pub indexed_unnamed : (old new : Held) (index rest : Index) (t : TxnId) (r : Rid) (to : Option Mode) → IsIndexed old index → Changes old new t r to → IsNoStronger to (held_in old t r)
    → ((u : TxnId) (q : Rid) → names rest u q ≡ false → (names index u q ≡ false) ⊎ ((to ≡ None) × (t ≡ u) × (q ≡ r))) → IsIndexed new rest
indexed_unnamed old new index rest t r to indexed changed weaker kept u q h = ⊎_elim
    (λ e. none_after old new t r to changed weaker u q (indexed u q e))
    (λ e. subst (λ (z : Rid). held_in new u z ≡ None) (sym e.2) (subst (λ (z : TxnId). held_in new z r ≡ None) e.1 (here old new t r to changed ∙ e.0)))
    (kept u q h)
