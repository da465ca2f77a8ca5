use Rattle.std.proofs.Common.{ap, ◌∙◌}
use Rattle.sd_pagelock.specs.Asks.{asks_without}
use Rattle.sd_pagelock.proofs.Rooms.{room-left}
use Rattle.sd_pagelock.proofs.directory.Directory.forget.Goals as goal

pub invariant_of-self : goal.invariant_of-self
invariant_of-self g c = (
  c.self.invariant.0,
  room-left _ _ _ _ c.self.invariant.1 (λ q none. c.forget.ensures q ∙ ap (asks_without c.args.i) none),
)
