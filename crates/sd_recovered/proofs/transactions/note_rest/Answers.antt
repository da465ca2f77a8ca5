use Rattle.std.proofs.Common.{◌≡◌, true, take, rules}
use Rattle.sd_log.specs.Logs.{flats}
use Rattle.sd_chain.specs.Order.{none_yet, after_all}
use Rattle.sd_recovered.proofs.Known.{finds_it, least_at, rec_at}
use Rattle.sd_recovered.proofs.Runs.{noting_more, others_on, tells_on}
use Rattle.sd_recovered.proofs.transactions.note_rest.Goals as goal

pub loop-at-preserved : goal.loop-at-preserved
loop-at-preserved c =
    let log = c.args.log.now in
    let at = c.loop-at.at in
    let d = c.index-log-at.result in
    let x = rec_at log at d in
    let t = c.args.txn.now in
    let seen = c.loop-at.seen in
    let own : c.is_of.result ≡ true = search rules in
    let noting = noting_more log at d t seen c.loop-at-test.true c.loop-at.invariant.tells (c.is_of.ensures own) in
    let sofar = after_all x.txn none_yet (flats (take at log)) in
    record {
      tells = tells_on log at x t seen c.note.new.self c.loop-at-test.true noting
          (c.in_ok-note.ensures.noted log sofar noting.there noting.ready.fits) c.in_ok-note.ensures.first c.in_ok-note.ensures.prev
          c.in_ok-note.ensures.closed;
      least = least_at log at c.loop-at.worst c.misplaced.result c.least-worst.result c.loop-at-test.true c.loop-at.invariant.least
          (finds_it log at x t seen c.misplaced.result c.loop-at-test.true noting c.misplaced.ensures.shut c.misplaced.ensures.next)
          c.least-worst.ensures.either c.least-worst.ensures.covers;
      others = others_on log at x t seen (flats (take c.args.from log)) noting c.loop-at.invariant.others;
    }
