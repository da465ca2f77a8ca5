use Rattle.sd_model.specs.declared.event.Event.TheVariants.{RecoverStep}
use Rattle.sd_model.specs.declared.event.Reply.{Reply}
use Rattle.sd_oracle.specs.declared.verdict.Verdict.{Verdict}
use Rattle.std.proofs.Common.{Bool, sym, subst}
use Rattle.std.specs.Prelude.{IfOk}
use Rattle.sd_oracle.specs.Lists.{meaning}
use Rattle.sd_oracle.specs.Judging.{JudgesTold}
use Rattle.sd_oracle.specs.Outcomes.{Finishes}
use Rattle.sd_oracle.proofs.Answered.{said}
use Rattle.sd_oracle.proofs.Outcomes.{judged-finished}
use Rattle.sd_oracle.proofs.recoveries.answer_recovery.Goals as goal

pub returns-in-Finished-clause-judged : goal.returns-in-Finished-clause-judged
returns-in-Finished-clause-judged c =
    let old = meaning c.args.lists.now in
    let new = meaning c.answer_recovered.new.lists in
    subst (λ (r : Reply). IfOk c.said.result (λ v. JudgesTold v c.args.outcome.now old (RecoverStep c.args.inst) r new)) (sym c.in-Finished.is)
    (said c.answer_recovered.result c.said.result (λ (b : Bool). Finishes b c.args.inst c.items.result.now old new) (λ (v : Verdict). JudgesTold v c.args.outcome.now old (RecoverStep c.args.inst) _ new) c.said.ensures
    (λ b. judged-finished b c.args.outcome.now old c.args.inst c.items.result.now new c.items.ensures) c.answer_recovered.ensures.answered)
