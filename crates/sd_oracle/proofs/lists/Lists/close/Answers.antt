use Rattle.std.proofs.Common.{◌∙◌, ap, refl, ℕ, List}
use Rattle.sd_base.specs.declared.ids.TxnId.{TxnId}
use Rattle.sd_base.specs.declared.place.Status.TheVariants.{Closed}
use Rattle.sd_model.specs.declared.act.Inst.{Inst}
use Rattle.sd_model.specs.State.{lost_part, with_status}
use Rattle.sd_oracle.specs.declared.standing.Standing.{Standing}
use Rattle.sd_oracle.specs.Lists.{part_in, inst_in}
use Rattle.sd_oracle.proofs.OneByOne.{states}
use Rattle.sd_oracle.proofs.lists.Lists.close.Goals as goal

pub returns-clause-closed : goal.returns-clause-closed
returns-clause-closed c = states _ _ refl refl refl refl
    (λ t. c.in_ok-parts.ensures t ∙ ap (λ (l : List (TxnId × Standing)). lost_part (part_in l t)) c.deref.ensures.value)
    (λ i. c.in_ok-insts.ensures c.args.self.now.rest i ∙ ap (λ (l : List (ℕ × Inst)). with_status Closed (inst_in c.args.self.now.rest l i)) c.deref-2.ensures.value)
