-- What a hall owes as it opens, and that nobody may take a checkpoint in it. It serves the goals of `open` in hall.rt.
use Rattle.std.proofs.Common.{◌≡◌, ◌⊎◌, inl, inr, Bool, true, false, cond, refl}
use Rattle.sd_base.specs.declared.ids.Rid.{Rid}
use Rattle.sd_base.specs.declared.place.Status.{Status}
use Rattle.sd_base.specs.declared.place.Status.TheVariants as S
use Rattle.sd_rig.specs.Devices.{DeviceImages}
use Rattle.sd_model.specs.Applies.{TakesChecks}
use Rattle.sd_model.specs.Few.{Few}
use Rattle.sd_model.specs.Reopening.{loser}
use Rattle.sd_model.specs.State.{Part, gone}
use Rattle.sd_chain.specs.Bytes.{stable}
use Rattle.sd_moves.specs.Opening.{has_open, is_down_in, is_loser}
use Rattle.sd_fits.specs.Opened.{opening_state}
use Rattle.sd_hall.specs.Ledger.{entries_of_inst, entries_of_part, entries_owed}
use Rattle.sd_hall.proofs.Owes.{rests-none}

left-part : (stays : Bool) (holds : Rid → Bool) → entries_of_part (cond {A = Part} stays (loser holds) gone) ≡ 0
left-part true holds = refl
left-part false holds = refl

down-or-clean : (down : Bool) → entries_of_inst (cond {A = Status} down S.Down S.Clean) ≡ 0
down-or-clean true = refl
down-or-clean false = refl

-- whom devices leave open is not up, and owes nothing
pub opening-owes : (devices : DeviceImages) → entries_owed (opening_state devices) ≡ 0
opening-owes devices =
    let img = stable devices in
    rests-none (opening_state devices) (λ t. left-part (is_loser img t) (has_open img t)) (λ i. down-or-clean (is_down_in img i))

rests : (down : Bool) → TakesChecks (cond {A = Status} down S.Down S.Clean) → ⊥
rests true (inl e) = absurd (cc)
rests true (inr e) = absurd (cc)
rests false (inl e) = absurd (cc)
rests false (inr e) = absurd (cc)

-- so none of them may take a checkpoint
pub opening-few : (devices : DeviceImages) → Few (opening_state devices)
opening-few devices i takes = absurd (rests (is_down_in (stable devices) i) takes)
