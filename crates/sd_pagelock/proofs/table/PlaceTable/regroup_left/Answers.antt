use Rattle.std.proofs.Common.{List, ap, ◌∙◌}
use Rattle.sd_base.specs.declared.set.InstSet.{InstSet}
use Rattle.sd_pagelock.specs.Noted.{is_noted}
use Rattle.sd_pagelock.proofs.table.PlaceTable.regroup_left.Goals as goal

pub invariant_of-self : goal.invariant_of-self
invariant_of-self c = (
  c.self.invariant.0,
  λ p k. ap (λ (x : List InstSet). is_noted x p k) c.regroup_left.ensures ∙ c.self.invariant.1 p k,
)
