use Rattle.sd_model.specs.declared.event.Event.TheVariants.{Reopen}
use Rattle.sd_model.specs.declared.event.Reply.{Reply}
use Rattle.sd_oracle.specs.declared.verdict.Verdict.{Verdict}
use Rattle.std.proofs.Common.{Bool, sym, subst}
use Rattle.std.specs.Prelude.{IfOk}
use Rattle.sd_oracle.specs.Lists.{meaning}
use Rattle.sd_oracle.specs.Judging.{JudgesTold}
use Rattle.sd_oracle.specs.Outcomes.{Reopens}
use Rattle.sd_oracle.proofs.Answered.{said}
use Rattle.sd_oracle.proofs.Outcomes.{judged-reopened}
use Rattle.sd_oracle.proofs.reopenings.answer_reopening.Goals as goal

pub returns-in-Did-clause-judged : goal.returns-in-Did-clause-judged
returns-in-Did-clause-judged c =
    let old = meaning c.args.lists.now in
    let new = meaning c.answer_reopened.new.lists in
    subst (λ (r : Reply). IfOk c.said.result (λ v. JudgesTold v c.args.outcome.now old Reopen r new)) (sym c.in-Did.is)
    (said c.answer_reopened.result c.said.result (λ (b : Bool). Reopens b c.args.outcome.now old new) (λ (v : Verdict). JudgesTold v c.args.outcome.now old Reopen _ new) c.said.ensures
    (λ b. judged-reopened b c.args.outcome.now old new) c.answer_reopened.ensures.answered)
