-- A lock that is lowered or taken away leaves the others in agreement. It serves the goals of others.rt and locks.rt.
use Rattle.std.proofs.Common.{◌≡◌, Bool, true, false, ◌&&◌, cond, Option, Some, None, refl, sym, subst, ◌∙◌, ⊎_elim}
use Rattle.std.proofs.lemmas.Bool.{cond-true, cond-false, cases_Bool, true≢false}
use Rattle.std.specs.Option.{IsSome}
use Rattle.sd_base.specs.declared.ids.TxnId.{TxnId}
use Rattle.sd_base.specs.declared.ids.Rid.{Rid}
use Rattle.sd_base.specs.declared.place.Mode.{Mode}
use Rattle.sd_base.specs.declared.place.Mode.TheVariants as modes
use Rattle.sd_base.specs.Ids.{same_txn, same_rid}
use Rattle.sd_base.specs.Waits.{Clash}
use Rattle.sd_reclock.specs.Locks.{Held, Modes, held_in, mode_of, Agree, IsNoStronger}
use Rattle.sd_reclock.proofs.Writes.{Changes}
use Rattle.sd_reclock.proofs.Agreeing.{clash-sym}
use Rattle.sd_base.proofs.Orders.{same-txn-is, same-rid-is}

-- who has no lock gets none
pub none_lowered : (to had : Option Mode) → IsNoStronger to had → had ≡ None → to ≡ None
none_lowered None had w e = refl
none_lowered (Some modes.Shared) had w e = let P : Option Mode → Type 0 = λ o. IsSome o in absurd (true≢false (sym (subst P e w)))
none_lowered (Some modes.Excl) had w e = absurd (cc (w, e))

-- where t has no lock, its lock that is taken away changes nothing
pub none_taken : (holders : Modes) (t u : TxnId) → mode_of holders t ≡ None → mode_of holders u ≡ cond {A = Option Mode} (same_txn t u) None (mode_of holders u)
none_taken holders t u none = ⊎_elim
    (λ h. subst (λ (z : TxnId). mode_of holders z ≡ None) (same-txn-is t u h) none ∙ sym (cond-true (same_txn t u) None (mode_of holders u) h))
    (λ h. sym (cond-false (same_txn t u) None (mode_of holders u) h))
    (cases_Bool (same_txn t u))

-- a lock that was there is as strong
abbrev pub Stronger : Held → TxnId → Rid → Mode → Type 0
Stronger old u q m = (k : Mode) × (held_in old u q ≡ Some k) × ((n : Mode) → Clash m n → Clash k n)

stronger : (to had : Option Mode) (m : Mode) → to ≡ Some m → IsNoStronger to had → (k : Mode) × (had ≡ Some k) × ((n : Mode) → Clash m n → Clash k n)
stronger None had m e w = absurd (cc e)
stronger (Some modes.Shared) None m e w = absurd (true≢false (sym w))
stronger (Some modes.Shared) (Some modes.Shared) m e w = (m, sym (sym e), λ n c. c)
stronger (Some modes.Shared) (Some modes.Excl) m e w = (modes.Excl, refl, λ n c. tt)
stronger (Some modes.Excl) had m e w = (m, w ∙ e, λ n c. c)

and_left : (a b : Bool) → (a && b) ≡ true → a ≡ true
and_left true b h = refl
and_left false b h = h

and_right : (a b : Bool) → (a && b) ≡ true → b ≡ true
and_right true b h = h
and_right false b h = absurd (true≢false (sym h))

pub lowered_from : (old new : Held) (t : TxnId) (r : Rid) (to : Option Mode) → Changes old new t r to → IsNoStronger to (held_in old t r) → (u : TxnId) (q : Rid) (m : Mode) → held_in new u q ≡ Some m → Stronger old u q m
lowered_from old new t r to changed weaker u q m is = ⊎_elim
    (λ h. let a : t ≡ u = same-txn-is t u (and_left (same_txn t u) (same_rid r q) h) in
    let b : r ≡ q = same-rid-is r q (and_right (same_txn t u) (same_rid r q) h) in
    subst (λ (z : Rid). Stronger old u z m) b (subst (λ (z : TxnId). Stronger old z r m) a
    (stronger to (held_in old t r) m (sym (cond-true (same_txn t u && same_rid r q) to (held_in old u q) h) ∙ sym (changed u q) ∙ is) weaker)))
    (λ h. (m, sym (cond-false (same_txn t u && same_rid r q) to (held_in old u q) h) ∙ sym (changed u q) ∙ is, λ n c. c))
    (cases_Bool (same_txn t u && same_rid r q))

pub agree_lowered : (old new : Held) (t : TxnId) (r : Rid) (to : Option Mode) → Changes old new t r to → IsNoStronger to (held_in old t r) → Agree old → Agree new
agree_lowered old new t r to changed weaker agree q a b m n apart is_a is_b clash =
    let x = lowered_from old new t r to changed weaker a q m is_a in
    let y = lowered_from old new t r to changed weaker b q n is_b in
    agree q a b x.0 y.0 apart x.1 y.1 (clash-sym y.0 x.0 (y.2 x.0 (clash-sym x.0 n (x.2 n clash))))

-- what wasn't held isn't held now
pub none_after : (old new : Held) (t : TxnId) (r : Rid) (to : Option Mode) → Changes old new t r to → IsNoStronger to (held_in old t r) → (u : TxnId) (q : Rid) → held_in old u q ≡ None → held_in new u q ≡ None
none_after old new t r to changed weaker u q none = at (held_in new u q) refl
  where
    at : (o : Option Mode) → held_in new u q ≡ o → held_in new u q ≡ None
    at None e = e
    at (Some m) e = let x = lowered_from old new t r to changed weaker u q m e in absurd (cc (x.1, none))
