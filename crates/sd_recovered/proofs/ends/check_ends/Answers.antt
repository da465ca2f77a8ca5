use Rattle.std.proofs.Common.{ℕ, ◌+◌, ◌∙◌, List, ap, arith}
use Rattle.std.proofs.lemmas.Bool.{both_ways}
use Rattle.sd_base.specs.declared.refusal.Refusal.TheVariants as R
use Rattle.sd_log.specs.Logs.{LogState}
use Rattle.sd_recovered.specs.Ends.{owed_in}
use Rattle.sd_recovered.proofs.Room.{lsns_lack}
use Rattle.sd_recovered.proofs.ends.check_ends.Goals.{then-not-low-via-then-not-low, then-not-low-via-else-not-low+then-not-are_logs_low}
use Rattle.sd_recovered.proofs.ends.check_ends.Goals as goal

pub returns-then-not-low-clause-place : goal.returns-then-not-low-clause-place
returns-then-not-low-clause-place c = λ dev at is.
    let logs : List LogState = c.args.logs.now in
    let owed = c.owed_by-owed.ensures 1 logs c.requires.losers in
    lsns_lack c.args.low logs c.index-logs-0.result c.damaged_log.result dev at (omega (arith, c.requires.eight)) c.index-logs-0.is
    (c.damaged_log.ensures ∙ ap (λ (n : ℕ). R.Damaged 1 (130 + n)) c.gate.ensures) is
    (λ low lows. elim c.then-not-low.branch [
      | then-not-low-via-then-not-low w ↦ both_ways c.args.low w.if-not-low.true low
      | then-not-low-via-else-not-low+then-not-are_logs_low w ↦
          both_ways w.are_logs_low.result w.if-not-are_logs_low.true ((w.are_logs_low.ensures (owed_in logs) owed).1 lows)
    ])
