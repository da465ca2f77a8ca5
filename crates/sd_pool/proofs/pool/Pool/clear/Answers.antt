use Rattle.sd_pool.proofs.Pooled.{IsPool-cleared}
use Rattle.sd_pool.proofs.pool.Pool.clear.Goals as goal

pub invariant_of-self : goal.invariant_of-self
invariant_of-self c = rw c.clear.ensures (IsPool-cleared _ c.self.invariant)
