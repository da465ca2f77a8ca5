use Rattle.std.proofs.Common.{ap, ◌∙◌, rules}
use Rattle.sd_recovered.proofs.Indices.{at_within}
use Rattle.sd_recovered.specs.Kept.{open_rec}
use Rattle.sd_recovered.proofs.Stacked.{is-update, named, read-is, reopening_more}
use Rattle.sd_recovered.proofs.relisting.reopen.Goals as goal

pub bounds-log-at : goal.bounds-log-at
bounds-log-at c =
    let n = named c.args.log.now c.args.loser.now c.items-at-items.result.now c.loop-at.at-index c.requires.loser c.items-at-items.ensures
    c.loop-at-test.true in
    at_within c.args.log.now _ n.rec n.there

pub open_rec-requires : goal.open_rec-requires
open_rec-requires c =
    let log = c.args.log.now in
    let n = named log c.args.loser.now c.items-at-items.result.now c.loop-at.at-index c.requires.loser c.items-at-items.ensures
    c.loop-at-test.true in
    ap (λ x. x.kind) (read-is log _ c.index-log-at.result n.rec n.there) ∙ is-update log c.args.loser.now c.loop-at.at-index n.rec n.here

pub loop-at-preserved : goal.loop-at-preserved
loop-at-preserved c =
    let log = c.args.log.now in
    let loser = c.args.loser.now in
    let n = named log loser c.items-at-items.result.now c.loop-at.at-index c.requires.loser c.items-at-items.ensures c.loop-at-test.true in
    reopening_more log loser c.args.table.now c.loop-at.table c.push.new.self c.loop-at.at-index n.rec c.in_ok-open_rec.field-0
    c.loop-at.invariant n.here (c.in_ok-open_rec.ensures ∙ ap open_rec (read-is log _ c.index-log-at.result n.rec n.there))
    c.in_ok-push.ensures.changed c.in_ok-push.ensures.others c.in_ok-push.ensures.order

pub offset_bounds-log-at : goal.offset_bounds-log-at
offset_bounds-log-at c =
    let n = named c.args.log.now c.args.loser.now c.items-at-items.result.now c.loop-at.at-index c.requires.loser c.items-at-items.ensures
    c.loop-at-test.true in
    let inside = at_within c.args.log.now _ n.rec n.there in
    search rules
