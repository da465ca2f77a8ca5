-- An eviction serves its event: for the goals of `evict`.
use Rattle.std.proofs.Common.{◌≡◌, ℕ, ◌-◌, ◌≤◌, Bool, true, false, [], ◌∷◌, refl, sym, ap, ◌∙◌, subst, slice_set}
use Rattle.std.specs.Prelude.{None, Some}
use Rattle.sd_base.specs.declared.refusal.Refusal.{Refusal}
use Rattle.sd_base.specs.declared.refusal.Refusal.TheVariants as R
use Rattle.sd_rig.specs.Devices.{DeviceImages, Leaves}
use Rattle.sd_model.specs.Causes.{order}
use Rattle.sd_model.specs.State.{State}
use Rattle.sd_model.specs.declared.cause.Cause.{Cause}
use Rattle.sd_model.specs.declared.event.Event.{Event}
use Rattle.sd_model.specs.declared.event.Event.TheVariants.{Evict}
use Rattle.sd_model.specs.declared.event.Reply.TheVariants as reply
use Rattle.sd_pagelock.specs.Directory.{entry_at}
use Rattle.sd_pagelock.specs.Places.{PageEntry, holds, is_lost}
use Rattle.sd_pagelock.specs.Rows.{fallen, may_evict}
use Rattle.sd_pagelock.proofs.Uses.{held-found, lost-is}
use Rattle.sd_pool.specs.Buffers.{without_page}
use Rattle.sd_world.specs.Bounds.{bounds_after}
use Rattle.sd_world.specs.PageCauses.{IsAway, IsOnlyCopy, NoneSays}
use Rattle.sd_world.specs.Pages.{Pages, page_placed}
use Rattle.sd_world.specs.Serving.{Core, Serves, Telling, Turns, refused}
use Rattle.sd_state.specs.Complexes.{parts}
use Rattle.sd_state.specs.Good.{Good}
use Rattle.sd_state.specs.Locking.{IsSet, with_place}
use Rattle.sd_state.specs.Parts.{is_active, pool_at}
use Rattle.sd_state.specs.Values.{Pending}
use Rattle.sd_state.specs.declared.complex.Complex.{Complex}
use Rattle.sd_fits.specs.Serving.{Serving, fits_by, stands_for}
use Rattle.sd_fits.proofs.Places.{frames-kept, moved-fits, placed-pages, repaged, turns-repaged}
use Rattle.sd_fits.proofs.Served.{bounds-stay, none-ended, still-serves}
use Rattle.sd_moves.proofs.Placed.{evicts-held}
use Rattle.sd_transfer.specs.Evicting.{StaysFor}
use Rattle.sd_fits.proofs.Refused.{IsFor, refused-serves, unlike}
use Rattle.sd_transfer.proofs.Barred.{IsPaging, IsUnbarred, away-served, barred-served, unbarred}

-- an eviction is an event of its page
pub of-evict : (i p : ℕ) → IsPaging (Evict i p) i p
of-evict i p = record {
  rest = Cause.Away ∷ Cause.Dirty ∷ [];
  order = refl;
  nobodys = refl;
  serve = λ m active. active;
  serves = λ m active. active;
  page = λ m. tt;
  lose = λ m w lost. lost;
  loses = λ m w lost. lost;
  unused = λ m r. tt;
  quiet = λ n. refl;
}

module _ {G : Type 0} (tell : Telling G) (c : Complex G) (i p : ℕ) (low : 1 ≤ i) (high : i ≤ 8)
    (now : (img : DeviceImages) → tell.since c.rig (tell.moment c.rig) img → Leaves (tell.leaves c.rig) img) where
  abbrev here : PageEntry
  here = entry_at (parts c).directory p

  abbrev event : Event
  event = Evict i p

  -- ---- what the world says of it

  module _ (w : Core) (f : fits_by tell.seen tell.leaves c w) where
    abbrev m : State
    m = w.scene.state

    its : is_active (parts c) i ≡ true → is_lost here ≡ false → IsUnbarred m w.pages event
    its active not_lost = unbarred (of-evict i p) tell c low high w f active not_lost

    there : holds here i ≡ true → IsAway m w.pages event → ⊥
    there is away = unlike away (ap (λ (e : PageEntry). holds e i) (f.pages.entry p) ∙ is)

    spare : may_evict i here ≡ true → IsOnlyCopy w.pages event → ⊥
    spare is only = unlike only (ap (may_evict i) (f.pages.entry p) ∙ is)

    -- ---- a refusal

    abbrev Refuses : Refusal → Type 0
    Refuses n = (w' : Core) × Serves {C = Complex G} tell stands_for (λ k. k.rig) (fits_by tell.seen tell.leaves) event
        (reply.Refused n) c c w w'

    refused-so : (n : Refusal) (cause : Cause) → IsFor m w event n cause → Refuses n
    refused-so n cause is = refused-serves tell c now w f event n cause is

    dirty : is_active (parts c) i ≡ true → is_lost here ≡ false → holds here i ≡ true → may_evict i here ≡ false
        → IsFor m w event R.Dirty Cause.Dirty
    dirty active not_lost has only = record {
      waits = refl;
      whom = tt;
      unused = tt;
      allowed = tt;
      names = refl;
      tells = tt;
      first = (refl, (f.good.not_closed, ((its active not_lost).serves, (tt, (tt, tt)))), tt);
      refuses = refl;
      passes = (tt, (tt, ((its active not_lost).found, (there has, tt))));
      says = λ yes. ap (may_evict i) (f.pages.entry p) ∙ only;
      place = tt;
      left = refl;
    }

  pub evict-refused : (n : Refusal) → StaysFor (parts c) i p n → Serving tell event (refused n) c c
  evict-refused (R.NeedPage place) why = away-served (of-evict i p) tell c low high now refl place why.0 why.1
      (λ w f. (ap (λ (e : PageEntry). holds e i) (f.pages.entry p) ∙ why.2, why.3 ∙ sym (f.pages.entry p)))
  evict-refused R.Dirty why = ((λ w f. refused-so w f R.Dirty Cause.Dirty (dirty w f why.0 why.1 why.2 why.3)), refl)
  evict-refused n why = barred-served (of-evict i p) tell c low high now n why

  -- ---- the copy goes

  module _ (new : Complex G) (same : new.rig ≡ c.rig)
      (is : parts new ≡ with_place i (without_page (pool_at (parts c) i) p) (parts new).directory (parts c))
      (set : IsSet p (fallen i here) None (parts c).directory (parts new).directory)
      (good : (pend : Pending) (m : State) → Good (tell.seen c.rig) (tell.leaves c.rig) pend (parts c) m
      → Good (tell.seen new.rig) (tell.leaves new.rig) pend (parts new) m)
      (active : is_active (parts c) i ≡ true) (may : may_evict i here ≡ true) where
    module _ (w : Core) (f : fits_by tell.seen tell.leaves c w) where
      abbrev pages : Pages
      pages = page_placed p (fallen i (w.pages.entry p)) w.pages

      held : holds here i ≡ true
      held = evicts-held i here may

      not_lost : is_lost here ≡ false
      not_lost = go (is_lost here) refl
        where
          go : (b : Bool) → is_lost here ≡ b → b ≡ false
          go false e = refl
          go true e = absurd (held-found i here held (lost-is here e))

      none : NoneSays (m w f) w.pages event (order event)
      none = (tt, (tt, ((its w f active not_lost).found, (there w f held, (spare w f may, tt)))))

      fits-then : fits_by tell.seen tell.leaves new (repaged w pages event reply.Did)
      fits-then = moved-fits tell c new w f (slice_set (parts c).pools (i - 1) (without_page (pool_at (parts c) i) p))
          (parts new).directory
          same is (good Pending.Idle w.scene.state f.good) pages (bounds_after w.bounds event reply.Did)
          (placed-pages (slice_set (parts c).pools (i - 1) (without_page (pool_at (parts c) i) p)) (parts new).directory
          (tell.seen c.rig) (tell.leaves c.rig) (parts c) w f
          (frames-kept (parts c) i (without_page (pool_at (parts c) i) p) (parts new).directory low high f.good.shape.pools refl)
          p (fallen i (w.pages.entry p)) None
          (subst (λ (e : PageEntry). IsSet p (fallen i e) None (parts c).directory (parts new).directory) (sym (f.pages.entry p)) set)
          (λ there. ap is_lost (f.pages.entry p) ∙ not_lost))
          (bounds-stay (tell.seen c.rig) (parts c) w.bounds event reply.Did tt f.bounds)

      turns : Turns w event reply.Did (repaged w pages event reply.Did)
      turns = turns-repaged w pages event reply.Did
          ((f.good.not_closed, ((its w f active not_lost).serves, (tt, (tt, (tt, tt))))), refl)
          (λ t. sym (none-ended (tell.seen c.rig) (tell.leaves c.rig) (parts c) w f t))
          tt tt (none, refl) tt

      done : (w' : Core) × Serves {C = Complex G} tell stands_for (λ k. k.rig)
          (fits_by tell.seen tell.leaves) event reply.Did c new w w'
      done = (
        repaged w pages event reply.Did,
        still-serves tell event reply.Did c new w (repaged w pages event reply.Did) (sym same) now f turns fits-then,
      )

    pub evicted : Serving tell event (Some reply.Did) c new
    evicted = (done, ap tell.faults same)
