use Rattle.std.proofs.Common.{ap, ◌∙◌, rules}
use Rattle.sd_recovered.proofs.Indices.{at_within}
use Rattle.sd_recovered.proofs.Stacked.{is-update, named, read-is}
use Rattle.sd_state.specs.Values.{rid_of}
use Rattle.sd_restart.proofs.Claiming.{claim_all, claim_free, claim_more}
use Rattle.sd_restart.proofs.claims.claim.Goals as goal

pub bounds-log-at : goal.bounds-log-at
bounds-log-at c =
    let n = named c.args.log.now c.args.loser.now c.items-at-items.result.now c.loop-at.at-index c.requires.loser c.items-at-items.ensures
    c.loop-at-test.true in
    at_within c.args.log.now _ n.rec n.there

pub offset_bounds-log-at : goal.offset_bounds-log-at
offset_bounds-log-at c =
    let n = named c.args.log.now c.args.loser.now c.items-at-items.result.now c.loop-at.at-index c.requires.loser c.items-at-items.ensures
    c.loop-at-test.true in
    let inside = at_within c.args.log.now _ n.rec n.there in
    search rules

pub rid_of-requires : goal.rid_of-requires
rid_of-requires c =
    let log = c.args.log.now in
    let n = named log c.args.loser.now c.items-at-items.result.now c.loop-at.at-index c.requires.loser c.items-at-items.ensures
    c.loop-at-test.true in
    ap (λ x. x.kind) (read-is log _ c.index-log-at.result n.rec n.there) ∙ is-update log c.args.loser.now c.loop-at.at-index n.rec n.here

pub grant-requires : goal.grant-requires
grant-requires c =
    let log = c.args.log.now in
    let n = named log c.args.loser.now c.items-at-items.result.now c.loop-at.at-index c.requires.loser c.items-at-items.ensures
    c.loop-at-test.true in
    record {
      free = claim_free log c.args.loser.now c.args.locks.now c.loop-at.locks c.loop-at.at-index n.rec c.rid_of.result c.requires.free
          c.loop-at.invariant.0 n.here (c.rid_of.ensures ∙ ap rid_of (read-is log _ c.index-log-at.result n.rec n.there));
    }

pub loop-at-preserved : goal.loop-at-preserved
loop-at-preserved c =
    let log = c.args.log.now in
    let n = named log c.args.loser.now c.items-at-items.result.now c.loop-at.at-index c.requires.loser c.items-at-items.ensures
    c.loop-at-test.true in (
      claim_more log c.args.loser.now c.args.locks.now c.loop-at.locks c.grant.new.self c.loop-at.at-index n.rec c.rid_of.result
          c.loop-at.invariant.0 n.here (c.rid_of.ensures ∙ ap rid_of (read-is log _ c.index-log-at.result n.rec n.there))
          c.in_ok-grant.ensures.given,
      c.in_ok-grant.ensures.waits ∙ c.loop-at.invariant.1,
    )

pub returns-clause-claimed : goal.returns-clause-claimed
returns-clause-claimed c =
    claim_all c.args.log.now c.args.loser.now c.args.locks.now c.loop-at.locks c.items-at-items.result.now c.loop-at.at-index
    c.requires.loser c.items-at-items.ensures c.loop-at.invariant.0 c.loop-at-test.false c.loop-at.auto.at-index-end
