use Rattle.std.proofs.Common.{◌+◌, ◌≤◌, length, sym, ap, ◌∙◌, subst, arith}
use Rattle.sd_log.specs.Logs.{AreForced, AreSpelled, LogState, scanned, tail_len}
use Rattle.sd_log.proofs.Counted.{all_spelled, few_records, tail_fits}
use Rattle.sd_log.proofs.Places.{placed_bytes}
use Rattle.sd_log.proofs.log.Log.keeps.Goals as goal

pub returns-clause-start : goal.returns-clause-start
returns-clause-start c =
    let w = c.self.inside.written in
    let bytes = placed_bytes w.start w.gate w.groups c.self.invariant.forced_are.places in
    subst (λ (s : LogState). s.start ≤ s.gate) c.self.view_is (omega arith)

pub returns-clause-placed : goal.returns-clause-placed
returns-clause-placed c = subst (λ (s : LogState). AreForced s.start s.gate s.groups) c.self.view_is c.self.invariant.forced_are

pub returns-clause-fits : goal.returns-clause-fits
returns-clause-fits c some =
    subst (λ (s : LogState). s.gate + 5 + tail_len s + 1 ≤ 1048576) c.self.view_is
    (tail_fits c.self.inside c.self.invariant (λ none. some (sym (ap (λ (s : LogState). s.tail) c.self.view_is) ∙ none)))

pub returns-clause-spelled : goal.returns-clause-spelled
returns-clause-spelled c = subst (λ (s : LogState). AreSpelled (scanned s)) c.self.view_is (all_spelled c.self.inside c.self.invariant)

pub returns-clause-few : goal.returns-clause-few
returns-clause-few c = subst (λ (s : LogState). length (scanned s) ≤ 116508) c.self.view_is (few_records c.self.inside c.self.invariant)
