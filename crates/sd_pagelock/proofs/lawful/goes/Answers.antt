use Rattle.std.proofs.Common.{◌<◌, arith}
use Rattle.sd_pagelock.specs.Places.{seen}
use Rattle.sd_pagelock.proofs.Rowwise.{evict_uses}
use Rattle.sd_pagelock.proofs.lawful.goes.Goals as goal

pub returns : goal.returns
returns c = (
  λ t. absurd (cc),
  λ w. let range = c.users_are_instances.ensures w.0 (evict_uses w.0 (seen c.args.from.now) w.1.0) in
      let below : w.0 < c.loop-n.n = omega (arith, range.1) in
      absurd (c.loop-n.invariant w.0 range.0 below w.1),
)
