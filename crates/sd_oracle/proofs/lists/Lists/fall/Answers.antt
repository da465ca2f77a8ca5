use Rattle.std.proofs.Common.{◌∙◌, ap, refl, List}
use Rattle.sd_base.specs.declared.ids.TxnId.{TxnId}
use Rattle.sd_base.specs.declared.place.Status.{Status}
use Rattle.sd_oracle.specs.declared.wholes.Change.TheVariants.{Fall}
use Rattle.sd_oracle.specs.declared.standing.Standing.{Standing}
use Rattle.sd_oracle.specs.Lists.{part_in, inst_in}
use Rattle.sd_oracle.specs.Wholes.{changed_part}
use Rattle.sd_oracle.proofs.OneByOne.{states}
use Rattle.sd_oracle.proofs.lists.Lists.fall.Goals as goal

pub returns-clause-fell : goal.returns-clause-fell
returns-clause-fell c = states _ _ refl refl refl refl
    (λ t. c.in_ok-parts.ensures t
    ∙ ap (λ (l : List (TxnId × Standing)). changed_part (Fall c.args.inst) t (part_in l t)) c.deref.ensures.value)
    (λ j. ap (λ (s : Status). inst_in s c.in_ok-insts.insts.items j) c.freed-self.ensures ∙ c.in_ok-insts.ensures j)
