use Rattle.std.proofs.Common.{◌<◌, None, length, refl, sym, ◌∙◌, arith}
use Rattle.std.proofs.lemmas.List.{get_or-set_other, get_or_read, length-set}
use Rattle.sd_pagelock.proofs.Kept.{kept-images}
use Rattle.sd_pagelock.proofs.Rooms.{room-at, room-put}
use Rattle.sd_pagelock.proofs.directory.Directory.keep_room.Goals as goal

pub invariant_of-self : goal.invariant_of-self
invariant_of-self g c = (
  kept-images _ _ _ _ (length-set _ _ _) c.self.invariant.0,
  room-put _ _ _ _ _ _ c.self.invariant.1 (λ q ne. refl) (λ q ne. get_or-set_other _ _ q _ None ne) _ c.get-at.ensures.range,
)

pub invariant_of-self-in-Some-2 : goal.invariant_of-self-in-Some-2
invariant_of-self-in-Some-2 g c = (
  kept-images _ _ _ _ (length-set _ _ _) c.self.invariant.0,
  room-put _ _ _ _ _ _ c.self.invariant.1 (λ q ne. refl) (λ q ne. get_or-set_other _ _ q _ None ne) _ c.get-at.ensures.range,
)

pub invariant_of-self-in_default : goal.invariant_of-self-in_default
invariant_of-self-in_default g c =
    let lt : c.get-at.result < length c.self.inside.images.items = omega (arith, c.get-at.ensures.range, c.self.invariant.0.frames) in (
      kept-images _ _ _ _ (length-set _ _ _) c.self.invariant.0,
      room-at _ _ _ _ _ c.get-at.result c.self.invariant.1 (λ q ne. refl) (λ q ne. get_or-set_other _ _ q _ None ne) _ c.self.invariant.1.count (λ q ne. refl)
          (λ none still. c.self.invariant.1.unasked _ c.get-at.ensures.range none
          (sym (get_or_read c.self.inside.images.items c.get-at.result c.index_mut.result.now lt c.index_mut.ensures.value None) ∙ sym c.take.ensures.value ∙ c.in_default.is)),
    )
