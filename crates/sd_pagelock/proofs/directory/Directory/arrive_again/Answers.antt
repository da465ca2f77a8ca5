use Rattle.std.proofs.Common.{◌<◌, None, length, refl, arith}
use Rattle.std.proofs.lemmas.List.{get_or-set_other, length-set}
use Rattle.sd_pagelock.proofs.Kept.{kept-images}
use Rattle.sd_pagelock.proofs.Rooms.{room-there, there}
use Rattle.sd_pagelock.proofs.directory.Directory.arrive_again.Goals as goal

pub invariant_of-self : goal.invariant_of-self
invariant_of-self g c =
    let lt : c.get-at.result < length c.self.inside.rooms.items = omega (arith, c.get-at.ensures.range, c.self.invariant.1.count) in (
      kept-images _ _ _ _ (length-set _ _ _) c.self.invariant.0,
      room-there _ _ _ _ _ c.get-at.result c.self.invariant.1 (λ q ne. refl) (λ q ne. get_or-set_other _ _ q _ None ne)
          (there c.self.inside.rooms.items c.get-at.result c.index.result.now lt c.index.ensures c.if-is_none.ensures),
    )
