-- What a failure of all leaves of the devices: what they read is all that a further crash may leave.
use Rattle.std.specs.Prelude.{◌≡◌, ◌⊎◌, ℕ, ◌≤◌, Option}
use Rattle.sd_base.specs.Streams.{Rises}
use Rattle.sd_base.specs.declared.trouble.Pick.{Pick}
use Rattle.sd_fits.specs.declared.body.Body.{Body}
use Rattle.sd_hall.specs.Bodies.{IsRigIn}
use Rattle.sd_model.specs.declared.event.Event.{Event}
use Rattle.sd_model.specs.declared.event.Event.TheVariants.{FailAll}
use Rattle.sd_rig.specs.Devices.{LeavesOnly}
use Rattle.sd_world.specs.Serving.{Telling}

-- From these devices to those: what they read then lasts, unless a fault was counted meanwhile.
abbrev pub Lasts : {G : Type 0} → Telling G → G → G → Type 0
Lasts tell rig rig' = Rises (tell.faults rig) (tell.faults rig')
    ⊎ ((d : ℕ) → d ≤ 8 → LeavesOnly (tell.seen rig' d) (tell.leaves rig' d))

-- so it is from the devices of one complex to those of another, behind a failure of all
abbrev pub ClosesIn : {G : Type 0} → Telling G → Event → Option (Body G) → Option (Body G) → Type 0
ClosesIn {G} tell e old new = (pick : Pick) → e ≡ FailAll pick → (rig rig' : G) → IsRigIn rig old → IsRigIn rig' new → Lasts tell rig rig'
