-- A call that is served, and then uses a page, is served. For `read`.
use Rattle.std.proofs.Common.{◌≡◌, ℕ, ◌-◌, ◌≤◌, List, slice_set, refl, sym, subst}
use Rattle.std.specs.Prelude.{Some}
use Rattle.sd_model.specs.State.{State}
use Rattle.sd_model.specs.declared.event.Event.{Event}
use Rattle.sd_model.specs.declared.event.Reply.{Reply}
use Rattle.sd_pool.specs.Buffers.{Buffers, image_at, used}
use Rattle.sd_world.specs.Serving.{Core, FaultsAre, Passes, Telling}
use Rattle.sd_state.specs.Complexes.{parts}
use Rattle.sd_state.specs.Good.{Good}
use Rattle.sd_state.specs.Locking.{with_place}
use Rattle.sd_state.specs.Parts.{pool_at}
use Rattle.sd_state.specs.Values.{Pending}
use Rattle.sd_state.specs.declared.complex.Complex.{Complex}
use Rattle.sd_fits.specs.Serving.{Serving, fits_by, stands_for}
use Rattle.sd_fits.proofs.Places.{frames-kept, kept-pages, moved-fits}
use Rattle.sd_ops.proofs.Lists.{used-frames}

module _ {G : Type 0} (tell : Telling G) (i p : ℕ) (old new : Complex G) (low : 1 ≤ i) (high : i ≤ 8) (same : new.rig ≡ old.rig)
    (is : parts new ≡ with_place i (used (pool_at (parts old) i) p) (parts old).directory (parts old))
    (good : (pend : Pending) (m : State) → Good (tell.seen old.rig) (tell.leaves old.rig) pend (parts old) m
    → Good (tell.seen new.rig) (tell.leaves new.rig) pend (parts new) m) where
  -- a page is used, and the complex fits the world that it fitted
  used-fits : (w : Core) → fits_by tell.seen tell.leaves old w → fits_by tell.seen tell.leaves new w
  used-fits w f =
      let pool : Buffers = used (pool_at (parts old) i) p in
      let pools : List Buffers = slice_set (parts old).pools (i - 1) pool in
      moved-fits tell old new w f pools (parts old).directory same is (good Pending.Idle w.scene.state f.good) w.pages w.bounds
      (kept-pages pools (parts old).directory (tell.seen old.rig) (tell.leaves old.rig) (parts old) w f
      (frames-kept (parts old) i pool (parts old).directory low high f.good.shape.pools
      (used-frames (pool_at (parts old) i) p (image_at (pool_at (parts old) i) p)))
      (λ q. refl) (λ q. refl))
      f.bounds

  pub used-serves : (e : Event) (r : Reply) (was : Complex G) → Serving tell e (Some r) was old → Serving tell e (Some r) was new
  used-serves e r was served = (
    λ w f. let s = served.0 w f in (
      s.0,
      record {
        turns = s.1.turns;
        fits_then = used-fits s.0 s.1.fits_then;
        passes = subst (λ (d : G). Passes tell stands_for was.rig d w.scene.state s.0.scene.state) (sym same) s.1.passes;
      },
    ),
    subst (λ (d : G). FaultsAre e r (tell.faults was.rig) (tell.faults d)) (sym same) served.1,
  )
