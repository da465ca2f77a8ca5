-- What a closed complex refuses, and devices that were crashed. It serves the goals of closing.rt.
use Rattle.std.proofs.Common.{◌≡◌, refl}
use Rattle.sd_base.specs.declared.trouble.Trouble.{Trouble}
use Rattle.sd_model.specs.declared.event.Event.{Event}
use Rattle.sd_model.specs.declared.event.Event.TheVariants as event
use Rattle.sd_fits.specs.Bodies.{IsShutOut}
use Rattle.sd_recover.specs.Closing.{NeitherClosesNorOpens}

pub shut-out : (e : Event) → NeitherClosesNorOpens e → ((trouble : Trouble) → e ≡ event.Arm trouble → ⊥) → IsShutOut e
shut-out (event.FailAll pick) done arm = done
shut-out (event.Arm trouble) done arm = arm trouble refl
shut-out event.Reopen done arm = done
shut-out e done arm = tt
