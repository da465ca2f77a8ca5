-- The lowest other holder, from the part of a map below a transaction and the part above it. It serves the goals of others.rt.
use Rattle.std.proofs.Common.{◌≡◌, List, [], ◌∷◌, Option, Some, None, refl, sym, subst, ◌∙◌, ⊎_elim}
use Rattle.std.proofs.lemmas.Bool.{true≢false}
use Rattle.std.specs.Option.{IsSome, IfSome}
use Rattle.std.specs.List.{slice_get}
use Rattle.std.specs.BTreeMap.{BTreeMap, get}
use Rattle.std.specs.BTreeMap.Range.{IsRangeOf, IsEntryInRange, IsLeBy}
use Rattle.std.specs.declared.ops.Bound.TheVariants.{Excluded, Unbounded}
use Rattle.sd_base.specs.declared.ids.TxnId.{TxnId}
use Rattle.sd_base.specs.declared.place.Mode.{Mode}
use Rattle.sd_base.specs.Ids.{IsBelow}
use Rattle.sd_reclock.specs.Locks.{mode_of, IsLowestHolder}
use Rattle.sd_base.proofs.Orders.{txn_cmp, look-txn, below_from_cmp, cmp_from_below, not_below, not_below_itself, below_trans, below_or_above}

abbrev pub Map : Type 0
Map = BTreeMap TxnId Mode

abbrev pub Row : Type 0
Row = TxnId × Mode

at_first : (P : Row → Type 0) (r rest : List Row) (e : Row) → r ≡ e ∷ rest → IfSome (slice_get r 0) P → P e
at_first P r rest e is h = let Q : List Row → Type 0 = λ xs. IfSome (slice_get xs 0) P in subst Q is h

there : (m : Map) (t : TxnId) → IsSome (mode_of m.entries t) → IsSome (get txn_cmp m t)
there m t h = let P : Option Mode → Type 0 = λ o. IsSome o in subst P (sym (look-txn t m.entries)) h

has : (m : Map) (e : Row) → get txn_cmp m e.0 ≡ Some e.1 → IsSome (mode_of m.entries e.0)
has m e is = let P : Option Mode → Type 0 = λ o. IsSome o in subst P (sym (sym (look-txn e.0 m.entries) ∙ is)) refl

nothing : (m : Map) (t : TxnId) → get txn_cmp m t ≡ None → IsSome (mode_of m.entries t) → ⊥
nothing m t is h = let P : Option Mode → Type 0 = λ o. IsSome o in absurd (true≢false (sym (subst P is (there m t h))))

pub lowest_below : (m : Map) (not : TxnId) (r rest : List Row) (e : Row) → IsRangeOf txn_cmp Unbounded (Excluded not) m r → r ≡ e ∷ rest → IsLowestHolder (mode_of m.entries) not (Some e.0)
lowest_below m not r rest e range is =
    let first : IsEntryInRange txn_cmp Unbounded (Excluded not) m e = at_first (IsEntryInRange txn_cmp Unbounded (Excluded not) m) r rest e is range.1 in
    let below : IsBelow e.0 not = below_from_cmp e.0 not first.0.1 in (
      (λ same. not_below_itself not (subst (λ (x : TxnId). IsBelow x not) (sym same) below)),
      has m e first.1,
      λ u apart is_there lower. not_below e.0 u
          (at_first (λ (x : Row). IsLeBy txn_cmp x.0 u) r rest e is (range.2 u (tt, cmp_from_below u not (below_trans u e.0 not lower below)) (there m u is_there))) lower,
    )

pub lowest_above : (m : Map) (not : TxnId) (low r rest : List Row) (e : Row) → IsRangeOf txn_cmp Unbounded (Excluded not) m low → low ≡ []
    → IsRangeOf txn_cmp (Excluded not) Unbounded m r → r ≡ e ∷ rest → IsLowestHolder (mode_of m.entries) not (Some e.0)
lowest_above m not low r rest e below none range is =
    let first : IsEntryInRange txn_cmp (Excluded not) Unbounded m e = at_first (IsEntryInRange txn_cmp (Excluded not) Unbounded m) r rest e is range.1 in
    let above : IsBelow not e.0 = below_from_cmp not e.0 first.0.0 in (
      (λ same. not_below_itself not (subst (λ (x : TxnId). IsBelow not x) (sym same) above)),
      has m e first.1,
      λ u apart is_there lower. ⊎_elim
          (λ h. not_below e.0 u (at_first (λ (x : Row). IsLeBy txn_cmp x.0 u) r rest e is (range.2 u (cmp_from_below not u h, tt) (there m u is_there))) lower)
          (λ h. nothing m u (below.5 none u (tt, cmp_from_below u not h)) is_there)
          (below_or_above not u apart),
    )

pub lowest_none : (m : Map) (not : TxnId) (low r : List Row) → IsRangeOf txn_cmp Unbounded (Excluded not) m low → low ≡ []
    → IsRangeOf txn_cmp (Excluded not) Unbounded m r → r ≡ [] → IsLowestHolder (mode_of m.entries) not None
lowest_none m not low r below none range is = λ u apart. sym (look-txn u m.entries) ∙ ⊎_elim
    (λ h. range.5 is u (cmp_from_below not u h, tt))
    (λ h. below.5 none u (tt, cmp_from_below u not h))
    (below_or_above not u apart)
