-- Calls in a row are served as one, where all but one spare the core. It serves the goals of `calls` in laws.rt, and whoever calls again
-- after want of memory.
use Rattle.std.proofs.Common.{◌⊎◌, inl, inr, ⊎_elim, ℕ, Option, None, Some, ◌∙◌, subst}
use Rattle.sd_rig.specs.Devices.{DeviceImages}
use Rattle.sd_rig.specs.Spans.{span-then, span-weaker, elapses-then}
use Rattle.sd_model.specs.declared.event.Event.{Event}
use Rattle.sd_model.specs.declared.event.Reply.{Reply}
use Rattle.sd_model.specs.State.{State}
use Rattle.sd_world.specs.Serving.{Core, FaultsAre, KeepsEarlier, Passes, Served, Telling}

module _ {D : Type 0} (tell : Telling D) (stands : DeviceImages → State → Type 0) where
  one_of : (m m' : State) (img : DeviceImages) → stands img m ⊎ stands img m → stands img m ⊎ stands img m'
  one_of m m' img h = ⊎_elim (λ s. inl s) (λ s. inl s) h

  other_of : (m m' : State) (img : DeviceImages) → stands img m' ⊎ stands img m' → stands img m ⊎ stands img m'
  other_of m m' img h = ⊎_elim (λ s. inr s) (λ s. inr s) h

  pub spared-passes : (a b c : D) (m m' : State) → KeepsEarlier tell c → Passes tell stands a b m m → Passes tell stands b c m m' → Passes tell stands a c m m'
  spared-passes a b c m m' earlier f g = record {
    time = elapses-then (tell.moment a) (tell.moment b) (tell.moment c) (tell.since a) (tell.since b) (tell.since c) earlier f.time g.time;
    span = span-then (tell.moment a) (tell.moment b) (tell.moment c) (tell.since b) (tell.since c) (λ img. stands img m ⊎ stands img m') f.time.later g.time
        (span-weaker (tell.moment a) (tell.since b) (λ img. stands img m ⊎ stands img m) (λ img. stands img m ⊎ stands img m') (one_of m m') f.span) g.span;
  }

  pub passes-spared : (a b c : D) (m m' : State) → KeepsEarlier tell c → Passes tell stands a b m m' → Passes tell stands b c m' m' → Passes tell stands a c m m'
  passes-spared a b c m m' earlier f g = record {
    time = elapses-then (tell.moment a) (tell.moment b) (tell.moment c) (tell.since a) (tell.since b) (tell.since c) earlier f.time g.time;
    span = span-then (tell.moment a) (tell.moment b) (tell.moment c) (tell.since b) (tell.since c) (λ img. stands img m ⊎ stands img m') f.time.later g.time
        f.span (span-weaker (tell.moment b) (tell.since c) (λ img. stands img m' ⊎ stands img m') (λ img. stands img m ⊎ stands img m') (other_of m m') g.span);
  }

-- a call that found no memory, and then a call that answers, or finds none either
pub served-again : {C D : Type 0} (tell : Telling D) (stands : DeviceImages → State → Type 0) (rig : C → D) (fits : C → Core → Type 0) (e : Event) (answer : Option Reply) (a b c : C)
    → KeepsEarlier tell (rig c) → Served tell stands rig fits e None a b → Served tell stands rig fits e answer b c → Served tell stands rig fits e answer a c
served-again tell stands rig fits e None a b c earlier f g = (
  λ w h.
      let first = f.0 w h in
      let then = g.0 w first.fits_still in
      record { fits_still = then.fits_still; passes = spared-passes tell stands (rig a) (rig b) (rig c) w.scene.state w.scene.state earlier first.passes then.passes },
  g.1 ∙ f.1,
)
served-again tell stands rig fits e (Some r) a b c earlier f g = (
  λ w h.
      let first = f.0 w h in
      let then = g.0 w first.fits_still in (
        then.0,
        record {
          turns = then.1.turns;
          fits_then = then.1.fits_then;
          passes = spared-passes tell stands (rig a) (rig b) (rig c) w.scene.state then.0.scene.state earlier first.passes then.1.passes;
        },
      ),
  subst (λ (n : ℕ). FaultsAre e r n (tell.faults (rig c))) f.1 g.1,
)
