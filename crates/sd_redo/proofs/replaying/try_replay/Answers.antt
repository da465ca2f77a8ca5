use Rattle.std.proofs.Common.{arith, ◌<◌}
use Rattle.sd_log.specs.Logs.{flats, lsn_of}
use Rattle.sd_redo.specs.Replayed.{IsStopped}
use Rattle.sd_redo.proofs.Replays.{passed_over, redone, stopped_misfit, stops}
use Rattle.sd_redo.proofs.replaying.try_replay.Goals as goal

pub loop-found-preserved-then-lsn-floor : goal.loop-found-preserved-then-lsn-floor
loop-found-preserved-then-lsn-floor c = (
  c.loop-found.invariant.0,
  passed_over c.args.image.now c.loop-found.image c.args.chain.now c.loop-found.found-index c.loop-found.invariant.1
      c.found-item.result c.loop-found-test.true c.found-item.is
      (omega (arith, c.lsn.ensures, c.loop-found.invariant.0, c.if-lsn-floor.true)),
)

stopped : (c : goal.Then-not-fits) → IsStopped c.args.image.now c.loop-found.image (flats c.args.chain.now)
stopped c =
    let up : c.args.image.now.lsn < lsn_of c.found-item.result =
    omega (arith, c.lsn.ensures, c.loop-found.invariant.0, c.if-lsn-floor.false) in
    stops c.args.image.now c.loop-found.image c.args.chain.now c.loop-found.found-index c.loop-found.invariant.1
    c.found-item.result c.loop-found-test.true c.found-item.is up
    (λ fit. let yes = c.fits.ensures.1 fit in let no = c.if-not-fits.true in absurd (cc))

pub returns-then-not-fits-clause-fit : goal.returns-then-not-fits-clause-fit
returns-then-not-fits-clause-fit c = (
  (λ no. absurd (cc)),
  (λ fit. absurd (stopped_misfit c.args.image.now c.loop-found.image (flats c.args.chain.now) (stopped c) fit)),
)

pub returns-then-not-fits-clause-stopped : goal.returns-then-not-fits-clause-stopped
returns-then-not-fits-clause-stopped c is = stopped c

pub loop-found-preserved : goal.loop-found-preserved
loop-found-preserved c = (
  c.loop-found.invariant.0,
  redone c.args.image.now c.loop-found.image c.args.chain.now c.loop-found.found-index c.loop-found.invariant.1
      c.found-item.result c.loop-found-test.true c.found-item.is c.redo.new.image
      (omega (arith, c.lsn.ensures, c.loop-found.invariant.0, c.if-lsn-floor.false))
      (c.fits.ensures.0 c.if-not-fits.false) c.redo.ensures,
)
