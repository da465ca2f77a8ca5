use Rattle.std.proofs.Common.{None, refl}
use Rattle.std.proofs.lemmas.List.{get_or-set_other, length-set}
use Rattle.sd_pagelock.proofs.Kept.{kept-images}
use Rattle.sd_pagelock.proofs.Rooms.{room-put}
use Rattle.sd_pagelock.proofs.directory.Directory.arrive.Goals as goal

pub invariant_of-self : goal.invariant_of-self
invariant_of-self g c = (
  kept-images _ _ _ _ (length-set _ _ _) c.self.invariant.0,
  room-put _ _ _ _ _ _ c.self.invariant.1 (λ q ne. refl) (λ q ne. get_or-set_other _ _ q _ None ne) _ c.get-at.ensures.range,
)
