-- A complex that is open or closed, and the events that change which. It serves the goals of turning.rt, and of the calls above.
use Rattle.std.proofs.Common.{◌≡◌, ℕ, refl, sym, ◌∙◌, arith}
use Rattle.sd_base.specs.declared.trouble.Pick.{Pick}
use Rattle.sd_model.specs.declared.event.Event.{Event}
use Rattle.sd_model.specs.declared.event.Event.TheVariants as event
use Rattle.sd_world.specs.Serving.{Core, Telling}
use Rattle.sd_fits.specs.Bodies.{fits_body}
use Rattle.sd_fits.specs.declared.body.Body.{Body}
use Rattle.sd_recover.specs.Closing.{HasFrames, NeitherClosesNorOpens}

-- pools have as many frames as the world tells
pub frames-in : {G : Type 0} (tell : Telling G) (body : Body G) (w : Core) (n : ℕ) → fits_body tell.seen tell.leaves body w
    → w.pages.frames ≡ n → HasFrames n body
frames-in tell (Body.Open c) w n f is = f.pages.frames 1 (omega arith) (omega arith) ∙ is
frames-in tell (Body.Closed rig shape) w n f is = sym f.frames_are ∙ is

-- neither the one nor the other
pub neither : (e : Event) → ((pick : Pick) → e ≡ event.FailAll pick → ⊥) → (e ≡ event.Reopen → ⊥) → NeitherClosesNorOpens e
neither (event.FailAll pick) all again = all pick refl
neither event.Reopen all again = again refl
neither e all again = tt

-- nor both
pub not-over : (pick : Pick) → event.FailAll pick ≡ event.Reopen → ⊥
not-over pick is = absurd (cc)
