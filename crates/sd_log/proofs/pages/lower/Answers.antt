use Rattle.std.proofs.Common.{◌-◌, ◌∙◌, ap, arith, set}
use Rattle.sd_log.proofs.Lowered.{writes}
use Rattle.sd_log.proofs.pages.lower.Goals as goal

pub loop-end-preserved : goal.loop-end-preserved
loop-end-preserved c =
    let l = c.loop-end in
    ap (set l.ends l.end-index) c.saturating_sub.ensures ∙ writes (λ n. n - c.args.gone) l.end-index c.args.ends.now l.ends 0 (omega arith) l.invariant
