use Rattle.std.proofs.Common.{◌+◌, length}
use Rattle.sd_recovered.specs.declared.losers.Loser.{Loser}
use Rattle.sd_chain.specs.Checks as checks
use Rattle.sd_log.specs.Logs.{flats}
use Rattle.sd_recovered.proofs.LosersOwe.{owed-is, sum-all}
use Rattle.sd_recovered.proofs.owing.owed.Goals as goal

pub returns : goal.returns
returns c = λ log are.
    sum-all (λ (l : Loser). 1 + length l.open) c.loop-loser.loser-index 18446744073709551615 c.loop-loser.count (checks.owed (flats log))
    c.items-loser-items.result.now c.args.losers.now c.loop-loser.invariant c.loop-loser.auto.loser-index-end c.loop-loser-test.false
    c.items-loser-items.ensures (owed-is log c.args.losers.now are)
