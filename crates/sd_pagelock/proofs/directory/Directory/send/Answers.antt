use Rattle.std.proofs.Common.{◌<◌, length, refl, arith}
use Rattle.std.proofs.lemmas.List.{length-set}
use Rattle.sd_pagelock.proofs.Kept.{kept-images}
use Rattle.sd_pagelock.proofs.Rooms.{room-sent}
use Rattle.sd_pagelock.proofs.directory.Directory.send.Goals as goal

pub invariant_of-self : goal.invariant_of-self
invariant_of-self g c =
    let lt : c.get.result < length c.self.inside.images.items = omega (arith, c.get.ensures.range, c.self.invariant.0.frames) in (
      kept-images _ _ _ _ (length-set _ _ _) c.self.invariant.0,
      room-sent _ _ _ _ _ _ c.self.invariant.1 lt c.self.invariant.1.count (λ q ne. refl),
    )
