use Rattle.std.proofs.Common.{rules, ◌≡◌, ◌<◌, List, Some, length, get_or, sym, ap, subst, ◌∙◌}
use Rattle.std.specs.Map.{lookup}
use Rattle.std.specs.List.Sorted.{IsPartitionPoint}
use Rattle.std.specs.declared.cmp.Ordering.TheVariants.{Less, Equal, Greater}
use Rattle.std.proofs.lemmas.List.Sorted.{answers_always}
use Rattle.std.proofs.lemmas.Option.{slice_get-get_or}
use Rattle.sd_base.specs.Ids.{same_txn}
use Rattle.sd_base.proofs.Orders.{txn_cmp}
use Rattle.sd_recovered.proofs.Rising.{Row, AreRising, at_gap, at_place, none_below, searchable}
use Rattle.sd_recovered.proofs.closed.Closed.find.Goals as goal

pub returns-then-are_below : goal.returns-then-are_below
returns-then-are_below c = sym (none_below c.args.txn.now c.args.self.now (c.are_below.ensures c.if-are_below.true))

pub returns-in-Ok : goal.returns-in-Ok
returns-in-Ok c =
    let rows = c.self.inside.rows.items in
    let t = c.args.txn.now in
    let row = c.index.result.now in
    let lt : c.in-Ok.index < length rows = subst (λ (l : List Row). c.in-Ok.index < length l) c.deref.ensures.value c.in-Ok.ensures.bound in
    let hit = c.in-Ok.ensures.position (λ (y : Row). y.0) (answers_always _ _ _ (λ f a r g called. search rules)) row in
    let same : txn_cmp (get_or rows c.in-Ok.index row).0 t ≡ Equal =
    subst (λ (l : List Row). txn_cmp (get_or l c.in-Ok.index row).0 t ≡ Equal) c.deref.ensures.value hit in
    ap (λ (y : Row). Some y.1) c.index.ensures
    ∙ sym (at_place rows t c.in-Ok.index (get_or rows c.in-Ok.index row) c.self.invariant (slice_get-get_or rows c.in-Ok.index row lt) same)
    ∙ ap (λ (l : List Row). lookup (same_txn t) l) c.self.view_is

pub returns-in-Err : goal.returns-in-Err
returns-in-Err c =
    let rows = c.self.inside.rows.items in
    let t = c.args.txn.now in
    let point = c.in-Err.ensures.position (λ (y : Row). y.0) (answers_always _ _ _ (λ f a r g called. search rules))
    (searchable c.deref.result.now t (subst (λ (l : List Row). AreRising l) (sym c.deref.ensures.value) c.self.invariant)) in
    sym (at_gap rows t c.in-Err.field-0 c.self.invariant
    (subst (λ (l : List Row). IsPartitionPoint (λ (y : Row). txn_cmp y.0 t ≡ Less) (λ (y : Row). txn_cmp y.0 t ≡ Greater) l c.in-Err.field-0)
    c.deref.ensures.value point))
    ∙ ap (λ (l : List Row). lookup (same_txn t) l) c.self.view_is
