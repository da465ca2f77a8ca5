use Rattle.std.proofs.Common.{refl}
use Rattle.sd_pagelock.specs.Moves as lawful
use Rattle.sd_pagelock.proofs.lawful.gains.Goals as goal

pub returns-then-is_lock : goal.returns-then-is_lock
returns-then-is_lock c = let h = c.is_lock.ensures.0 c.if-is_lock.true in (λ t. lawful.Gains.lock h.0 h.1 h.2, λ m. refl)
