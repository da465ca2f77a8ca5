use Rattle.std.proofs.Common.{◌∙◌, ap, ℕ, List}
use Rattle.sd_base.specs.declared.ids.TxnId.{TxnId}
use Rattle.sd_base.specs.declared.ids.Rid.{Rid}
use Rattle.sd_model.specs.declared.act.Inst.{Inst}
use Rattle.sd_model.specs.Tables.{Contents, contents}
use Rattle.sd_oracle.specs.declared.standing.Standing.{Standing}
use Rattle.sd_oracle.specs.Lists.{part_in, inst_in}
use Rattle.sd_oracle.proofs.OneByOne.{states}
use Rattle.sd_oracle.proofs.lists.Lists.draft.Goals as goal

pub returns : goal.returns
returns c = states _ _
    (ap {B = Contents} (λ (l : List (Rid × List ℕ)) (r : Rid). contents l r) c.in_ok-copy.ensures.same)
    (c.in_ok-copies.ensures ∙ c.deref.ensures.value)
    (c.in_ok-from_slice.ensures.items ∙ c.deref-2.ensures.value)
    (c.in_ok-from_slice-2.ensures.items ∙ c.deref-3.ensures.value)
    (λ t. c.in_ok-changed_parts.ensures t ∙ ap (λ (l : List (TxnId × Standing)). part_in l t) c.deref-4.ensures.value)
    (λ i. c.in_ok-turned_insts.ensures c.args.self.now.rest i ∙ ap (λ (l : List (ℕ × Inst)). inst_in c.args.self.now.rest l i) c.deref-5.ensures.value)
