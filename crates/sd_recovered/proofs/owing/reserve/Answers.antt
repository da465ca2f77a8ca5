use Rattle.sd_chain.specs.Checks as checks
use Rattle.sd_log.specs.Logs.{flats}
use Rattle.sd_recovered.specs.Owing.{bytes_for}
use Rattle.sd_recovered.proofs.LosersOwe.{reserve-is, sum-all}
use Rattle.sd_recovered.proofs.owing.reserve.Goals as goal

pub returns : goal.returns
returns c =
    let log = c.args.log.now in
    sum-all (bytes_for log) c.loop-loser.loser-index 18446744073709551615 c.loop-loser.bytes (checks.reserve (flats log))
    c.items-loser-items.result.now c.args.losers.now c.loop-loser.invariant c.loop-loser.auto.loser-index-end c.loop-loser-test.false
    c.items-loser-items.ensures (reserve-is log c.args.losers.now c.requires.losers)
