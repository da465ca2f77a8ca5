use Rattle.std.proofs.Common.{◌≡◌, inl, Option, Some, ap, refl, sym, subst, ◌∙◌, ◌-◌, List, ◌++◌, ◌<◌, ℕ, vec_len, length, get_or, arith}
use Rattle.std.specs.Option.{IsSome, option_to_list}
use Rattle.std.specs.Map.{lookup}
use Rattle.std.specs.List.{slice_get}
use Rattle.std.specs.Global.{Vec}
use Rattle.std.proofs.lemmas.Option.{slice_get_within, get_or_from_slice_get}
use Rattle.sd_base.specs.declared.ids.Rid.{Rid}
use Rattle.sd_base.specs.Ids.{same_txn, same_rid}
use Rattle.sd_reclock.specs.Indexing.{rids_of}
use Rattle.sd_reclock.proofs.Noting.{PutsTxn}
use Rattle.sd_reclock.proofs.Writes.{stay}
use Rattle.sd_reclock.proofs.Unnaming.{unnamed_kept}
use Rattle.sd_reclock.proofs.many.unname.Goals as goal
use Rattle.sd_base.proofs.Orders.{put-txn, look-txn, same-rid-is}

pub returns-else-eq : goal.returns-else-eq
returns-else-eq c =
    let P : Option (Vec Rid) → Type 0 = λ o. IsSome o in
    let puts : PutsTxn c.args.index.now.entries (c.get_mut.follows.lender c.in-Some-get_mut.rids.now).entries c.args.t.now (Some c.in-Some-get_mut.rids.now) =
    λ u. put-txn c.args.t.now u (Some c.in-Some-get_mut.rids.now) c.args.index.now.entries (c.get_mut.follows.lender c.in-Some-get_mut.rids.now).entries (((c.get_mut.follows.holds c.in-Some-get_mut.rids.now).3 (subst P c.in-Some-get_mut.ensures.value refl)).0 u) in
    let had : c.in-Some-get_mut.rids.now.items ≡ rids_of (lookup (same_txn c.args.t.now) c.args.index.now.entries) = ap rids_of (c.in-Some-get_mut.ensures.value ∙ look-txn c.args.t.now c.args.index.now.entries) in
    λ u q h. inl (sym (stay c.args.index.now.entries (c.get_mut.follows.lender c.in-Some-get_mut.rids.now).entries c.args.t.now c.in-Some-get_mut.rids.now puts had u q) ∙ h)

pub returns-then-eq : goal.returns-then-eq
unfolding same_rid
returns-then-eq c =
    let P : Option (Vec Rid) → Type 0 = λ o. IsSome o in
    let puts : PutsTxn c.args.index.now.entries (c.get_mut.follows.lender c.pop.new.self).entries c.args.t.now (Some c.pop.new.self) =
    λ u. put-txn c.args.t.now u (Some c.pop.new.self) c.args.index.now.entries (c.get_mut.follows.lender c.pop.new.self).entries (((c.get_mut.follows.holds c.pop.new.self).3 (subst P c.in-Some-get_mut.ensures.value refl)).0 u) in
    let had : c.in-Some-get_mut.rids.now.items ≡ rids_of (lookup (same_txn c.args.t.now) c.args.index.now.entries) = ap rids_of (c.in-Some-get_mut.ensures.value ∙ look-txn c.args.t.now c.args.index.now.entries) in
    let items = c.in-Some-get_mut.rids.now.items in
    let x = c.in-Some-copied.last in
    let at : slice_get items (length items - 1) ≡ Some x = subst (λ (xs : List Rid). slice_get xs (length xs - 1) ≡ Some x) c.deref.ensures.value (sym c.last.ensures.value ∙ sym c.copied.ensures ∙ c.in-Some-copied.is) in
    let within : length items - 1 < length items = slice_get_within items (length items - 1) x at in
    let long : length items ≡ vec_len c.in-Some-get_mut.rids.now = sym (ap length c.deref.ensures.value) ∙ c.deref.ensures.len in
    let last : x ≡ c.args.r.now = same-rid-is x c.args.r.now (sym c.if-eq.ensures) in
    unnamed_kept c.args.index.now.entries (c.get_mut.follows.lender c.pop.new.self).entries c.args.t.now c.args.r.now c.args.to c.pop.new.self c.in-None.is puts
    (sym had ∙ c.pop.ensures.items ∙ ap (λ (o : Option Rid). c.pop.new.self.items ++ option_to_list o) (c.pop.ensures.value x (omega (arith, within, long)) ∙ ap (λ (y : Rid). Some y) (ap (λ (n : ℕ). get_or items (n - 1) x) (sym long) ∙ get_or_from_slice_get items (length items - 1) x x at ∙ last)))

pub returns-in_default-copied : goal.returns-in_default-copied
returns-in_default-copied c =
    let P : Option (Vec Rid) → Type 0 = λ o. IsSome o in
    let puts : PutsTxn c.args.index.now.entries (c.get_mut.follows.lender c.in-Some-get_mut.rids.now).entries c.args.t.now (Some c.in-Some-get_mut.rids.now) =
    λ u. put-txn c.args.t.now u (Some c.in-Some-get_mut.rids.now) c.args.index.now.entries (c.get_mut.follows.lender c.in-Some-get_mut.rids.now).entries (((c.get_mut.follows.holds c.in-Some-get_mut.rids.now).3 (subst P c.in-Some-get_mut.ensures.value refl)).0 u) in
    let had : c.in-Some-get_mut.rids.now.items ≡ rids_of (lookup (same_txn c.args.t.now) c.args.index.now.entries) = ap rids_of (c.in-Some-get_mut.ensures.value ∙ look-txn c.args.t.now c.args.index.now.entries) in
    λ u q h. inl (sym (stay c.args.index.now.entries (c.get_mut.follows.lender c.in-Some-get_mut.rids.now).entries c.args.t.now c.in-Some-get_mut.rids.now puts had u q) ∙ h)
