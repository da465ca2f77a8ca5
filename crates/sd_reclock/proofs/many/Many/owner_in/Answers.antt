use Rattle.std.proofs.Common.{List, subst, sym, ◌∙◌}
use Rattle.std.specs.List.{All}
use Rattle.std.specs.BTreeMap.Range.{IsEntryInRange}
use Rattle.std.specs.declared.ops.Bound.TheVariants.{Included}
use Rattle.sd_reclock.specs.Locks.{Held, IsLowestOwner}
use Rattle.sd_reclock.proofs.Placing.{Entry}
use Rattle.sd_reclock.proofs.Ranging.{rid_at, seen_more, seen_past, seen_next, seen_all, found_row, row_agrees, same_page, other_page}
use Rattle.sd_reclock.proofs.many.Many.owner_in.Goals as goal
use Rattle.sd_base.proofs.Orders.{rid_cmp}

pub owner-requires : goal.owner-requires
owner-requires c =
    let e : Entry = (c.in-Some.rid.now, c.in-Some.holders.now) in
    let all : All (IsEntryInRange rid_cmp (Included (rid_at c.args.p)) c.end_of.result c.self.inside.records) c.into_iter-rid-iterator.result =
    subst (λ (rows : List Entry). All (IsEntryInRange rid_cmp (Included (rid_at c.args.p)) c.end_of.result c.self.inside.records) rows) (sym c.into_iter-rid-iterator.ensures.into_iter_gives) (c.range-rid-items.ensures.in_range tt).0 in
    record {
      agree = row_agrees c.self.inside.records.entries e c.self.invariant.1
          (found_row c.self.inside.records (Included (rid_at c.args.p)) c.end_of.result c.into_iter-rid-iterator.result e all
          (seen_next c.args.p c.into_iter-rid-iterator.result c.loop-rid.rid-iterator c.next.new.self e c.loop-rid.lowest c.in-Some.ensures.steps c.loop-rid.invariant.2));
    }

pub loop-rid-preserved-then-eq : goal.loop-rid-preserved-then-eq
loop-rid-preserved-then-eq c = (
  tt,
  tt,
  seen_more c.args.p c.into_iter-rid-iterator.result c.loop-rid.rid-iterator c.next.new.self (c.in-Some.rid.now, c.in-Some.holders.now) c.loop-rid.lowest c.owner.result c.lower_of-lowest.result c.in-Some.ensures.steps
      (same_page c.in-Some.rid.now.page c.args.p (sym c.if-eq.ensures)) c.owner.ensures c.lower_of-lowest.ensures c.loop-rid.invariant.2,
)

pub loop-rid-preserved : goal.loop-rid-preserved
loop-rid-preserved c = (
  tt,
  tt,
  seen_past c.args.p c.into_iter-rid-iterator.result c.loop-rid.rid-iterator c.next.new.self (c.in-Some.rid.now, c.in-Some.holders.now) c.loop-rid.lowest c.in-Some.ensures.steps
      (other_page c.in-Some.rid.now.page c.args.p (sym c.if-eq.ensures)) c.loop-rid.invariant.2,
)

pub returns : goal.returns
returns c =
    let given = c.into_iter-rid-iterator.ensures.into_iter_gives in
    let all : All (IsEntryInRange rid_cmp (Included (rid_at c.args.p)) c.end_of.result c.self.inside.records) c.into_iter-rid-iterator.result =
    subst (λ (rows : List Entry). All (IsEntryInRange rid_cmp (Included (rid_at c.args.p)) c.end_of.result c.self.inside.records) rows) (sym given) (c.range-rid-items.ensures.in_range tt).0 in
    subst (λ (locks : Held). IsLowestOwner locks c.args.p c.loop-rid.lowest) c.self.view_is
    (seen_all c.self.inside.records c.args.p c.end_of.result c.into_iter-rid-iterator.result c.loop-rid.rid-iterator c.loop-rid.lowest c.end_of.ensures (given ∙ c.range-rid-items.ensures.between tt) all
    c.in-None.ensures.steps.0 c.loop-rid.invariant.2)
