-- What a failure of all leaves. It serves the goals of turning.rt.
use Rattle.std.proofs.Common.{subst}
use Rattle.std.specs.Prelude.{Some}
use Rattle.sd_fits.specs.Bodies.{rig_of}
use Rattle.sd_fits.specs.declared.body.Body.{Body}
use Rattle.sd_hall.specs.Bodies.{IsRigIn}
use Rattle.sd_hall.specs.Closed.{Lasts}
use Rattle.sd_world.specs.Serving.{Telling}

pub lasts-in : {G : Type 0} (tell : Telling G) (old new : Body G) → Lasts tell (rig_of old) (rig_of new)
    → (rig rig' : G) → IsRigIn rig (Some old) → IsRigIn rig' (Some new) → Lasts tell rig rig'
lasts-in {G} tell old new h rig rig' is then =
    subst (λ (d : G). Lasts tell rig d) then (subst (λ (d : G). Lasts tell d (rig_of new)) is h)
