-- What is asked for of a complex that is to be closed, and of an event on a closed one.
use Rattle.std.specs.Prelude.{◌≡◌, ℕ}
use Rattle.sd_model.specs.declared.event.Event.{Event}
use Rattle.sd_model.specs.declared.event.Event.TheVariants.{FailAll, Reopen}
use Rattle.sd_state.specs.Complexes.{parts}
use Rattle.sd_state.specs.Parts.{pool_at}
use Rattle.sd_fits.specs.declared.body.Body.{Body}

-- pools have so many frames, or will have
abbrev pub HasFrames : {G : Type 0} → ℕ → Body G → Type 0
HasFrames n (Body.Open c) = (pool_at (parts c) 1).frames ≡ n
HasFrames n (Body.Closed rig shape) = shape.frames ≡ n

-- neither a failure of all instances, nor a reopening
abbrev pub NeitherClosesNorOpens : Event → Type 0
NeitherClosesNorOpens (FailAll pick) = ⊥
NeitherClosesNorOpens Reopen = ⊥
NeitherClosesNorOpens e = Unit {0}
