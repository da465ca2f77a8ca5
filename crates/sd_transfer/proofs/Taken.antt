-- A take serves its event: for the goals of taking.rt.
use Rattle.std.proofs.Common.{◌≡◌, ℕ, ◌≤◌, true, false, [], ◌∷◌, refl, sym, ap, ◌∙◌, eqb-true}
use Rattle.std.specs.Prelude.{None, Some}
use Rattle.sd_base.specs.Sets.{has}
use Rattle.sd_base.specs.declared.refusal.Refusal.{Refusal}
use Rattle.sd_base.specs.declared.refusal.Refusal.TheVariants as R
use Rattle.sd_page.specs.Page.{Page}
use Rattle.sd_rig.specs.Devices.{DeviceImages, Leaves}
use Rattle.sd_model.specs.Causes.{order}
use Rattle.sd_model.specs.State.{State}
use Rattle.sd_model.specs.declared.cause.Cause.{Cause}
use Rattle.sd_model.specs.declared.event.Event.{Event}
use Rattle.sd_model.specs.declared.event.Event.TheVariants.{Take}
use Rattle.sd_model.specs.declared.event.Reply.TheVariants as reply
use Rattle.sd_pagelock.specs.Directory.{asks_at, entry_at}
use Rattle.sd_pagelock.specs.Places.{Formed, PageEntry, holds, is_lost, receives}
use Rattle.sd_pagelock.specs.Rows.{taken}
use Rattle.sd_pool.specs.Buffers as buffers
use Rattle.sd_pool.specs.Buffers.{Buffers, IsPool, with_page}
use Rattle.sd_world.specs.PageCauses.{IsAway, NoneSays, PoolIsFull}
use Rattle.sd_world.specs.Pages.{held_count, page_placed}
use Rattle.sd_world.specs.Serving.{Core, Serves, Telling, refused}
use Rattle.sd_state.specs.Complexes.{parts}
use Rattle.sd_state.specs.Good.{Good}
use Rattle.sd_state.specs.Locking.{IsSet, with_place}
use Rattle.sd_state.specs.Parts.{Parts, is_active, pool_at}
use Rattle.sd_state.specs.Values.{Pending}
use Rattle.sd_state.specs.declared.complex.Complex.{Complex}
use Rattle.sd_fits.specs.Serving.{Serving, fits_by, stands_for}
use Rattle.sd_fits.proofs.Frames.{frames-held, frames-left}
use Rattle.sd_transfer.proofs.PassFits.{kept-spared, passed-served}
use Rattle.sd_fits.proofs.Places.{frames-kept, turns-repaged}
use Rattle.sd_fits.proofs.Refused.{IsFor, refused-serves, unlike}
use Rattle.sd_fits.proofs.Served.{none-ended}
use Rattle.sd_moves.specs.Places.{IsAsked, with_directory}
use Rattle.sd_transfer.specs.Paging.{OnlyPages}
use Rattle.sd_transfer.specs.Taking.{IsUntaken, MayTake}
use Rattle.sd_transfer.proofs.Barred.{IsPaging, IsUnbarred, away-served, barred-served, unbarred}
use Rattle.sd_transfer.proofs.Fetched.{not-copied}

-- the receiver of a page has no copy of it
receiver-lacks : (i : ℕ) (e : PageEntry) → Formed e → receives e i ≡ true → holds e i ≡ false
receiver-lacks i PageEntry.Free formed comes = absurd (cc)
receiver-lacks i (PageEntry.Shared set writer) formed comes = absurd (cc)
receiver-lacks i (PageEntry.Excl holder dirty) formed comes = absurd (cc)
receiver-lacks i (PageEntry.Moving to mode rest dirty) formed comes = ap (λ (k : ℕ). has k rest) (sym (eqb-true to i comes)) ∙ formed.1
receiver-lacks i PageEntry.Lost formed comes = absurd (cc)

-- but for pools and directory a complex stays that is given both
pub only-pages : (old new : Parts) (i : ℕ) (pool : Buffers) → new ≡ with_place i pool new.directory old → OnlyPages old new
only-pages old new i pool is = is ∙ ap (λ (k : Parts). record old { pools = k.pools; directory = new.directory }) (sym is)

-- a take is an event of its page
pub of-take : (i p : ℕ) → IsPaging (Take i p) i p
of-take i p = record {
  rest = Cause.Away ∷ Cause.Frame ∷ [];
  order = refl;
  nobodys = refl;
  serve = λ m active. active;
  serves = λ m active. active;
  page = λ m. tt;
  lose = λ m w lost. lost;
  loses = λ m w lost. lost;
  unused = λ m r. tt;
  quiet = λ n. refl;
}

module _ {G : Type 0} (tell : Telling G) (c : Complex G) (i p : ℕ) (low : 1 ≤ i) (high : i ≤ 8)
    (now : (img : DeviceImages) → tell.since c.rig (tell.moment c.rig) img → Leaves (tell.leaves c.rig) img) where
  abbrev here : PageEntry
  here = entry_at (parts c).directory p

  abbrev event : Event
  event = Take i p

  -- ---- what the world says of it

  module _ (w : Core) (f : fits_by tell.seen tell.leaves c w) where
    abbrev m : State
    m = w.scene.state

    its : is_active (parts c) i ≡ true → is_lost here ≡ false → IsUnbarred m w.pages event
    its active not_lost = unbarred (of-take i p) tell c low high w f active not_lost

    comes : receives here i ≡ true → IsAway m w.pages event → ⊥
    comes is away = unlike away (ap (λ (e : PageEntry). receives e i) (f.pages.entry p) ∙ is)

    -- ---- a refusal

    abbrev Refuses : Refusal → Type 0
    Refuses n = (w' : Core) × Serves {C = Complex G} tell stands_for (λ k. k.rig) (fits_by tell.seen tell.leaves) event
        (reply.Refused n) c c w w'

    refused-so : (n : Refusal) (cause : Cause) → IsFor m w event n cause → Refuses n
    refused-so n cause is = refused-serves tell c now w f event n cause is

    full : MayTake (parts c) i p → w.pages.frames ≤ held_count w.pages.entry i 1024 → IsFor m w event R.PoolFull Cause.Frame
    full may all = record {
      waits = refl;
      whom = tt;
      unused = tt;
      allowed = tt;
      names = refl;
      tells = tt;
      first = (refl, (f.good.not_closed, ((its may.active may.found).serves, (tt, (tt, tt)))), tt);
      refuses = refl;
      passes = (tt, (tt, ((its may.active may.found).found, (comes may.receiver, tt))));
      says = λ yes. all;
      place = tt;
      left = refl;
    }

  pub take-refused : (n : Refusal) → IsUntaken (parts c) i p n → Serving tell event (refused n) c c
  take-refused (R.NeedPage place) why = away-served (of-take i p) tell c low high now refl place why.0 why.1
      (λ w f. (ap (λ (e : PageEntry). receives e i) (f.pages.entry p) ∙ why.2, why.3 ∙ sym (f.pages.entry p)))
  take-refused n why = barred-served (of-take i p) tell c low high now n why

  -- ---- the page moves to the instance

  module _ (may : MayTake (parts c) i p) (pool : IsPool (pool_at (parts c) i))
      (past : (q : ℕ) → 1024 ≤ q → entry_at (parts c).directory q ≡ PageEntry.Free) where
    -- its pool has no frame for it
    pub full-served : buffers.LacksFrame (pool_at (parts c) i) p → Serving tell event (Some (reply.Refused R.PoolFull)) c c
    full-served lacks = (
      (λ w f. refused-so w f R.PoolFull Cause.Frame
          (full w f may
          (frames-held (tell.seen c.rig) (tell.leaves c.rig) Pending.Idle (parts c) w.scene.state f.good w.pages f.pages i 1024 low high
          pool past lacks.1))),
      refl,
    )

    module _ (formed : Formed here) (room : buffers.LacksFrame (pool_at (parts c) i) p → ⊥) where
      -- the pool has no copy of the page
      no-copy : (w : Core) (f : fits_by tell.seen tell.leaves c w) → buffers.image_at (pool_at (parts c) i) p ≡ None
      no-copy w f = not-copied _ _ (holds here i) ((f.good.half (λ j. false)).coherent.copies i p)
          (receiver-lacks i here formed may.receiver)

      roomy : (w : Core) (f : fits_by tell.seen tell.leaves c w) → PoolIsFull w.pages event → ⊥
      roomy w f lacks = frames-left (tell.seen c.rig) (tell.leaves c.rig) Pending.Idle
          (parts c) w.scene.state f.good w.pages f.pages
          i 1024 low high pool past (λ all. room (no-copy w f, all)) lacks

      none : (w : Core) (f : fits_by tell.seen tell.leaves c w) → NoneSays (m w f) w.pages event (order event)
      none w f = (tt, (tt, ((its w f may.active may.found).found, (comes w f may.receiver, (roomy w f, tt)))))

      module _ (new : Complex G) (same : new.rig ≡ c.rig)
          (good : (pend : Pending) (m : State) → Good (tell.seen c.rig) (tell.leaves c.rig) pend (parts c) m
          → Good (tell.seen new.rig) (tell.leaves new.rig) pend (parts new) m) where
        pub taken-served : (image : Page)
            → parts new ≡ with_place i (with_page (pool_at (parts c) i) p image) (parts new).directory (parts c)
            → IsSet p (taken here) None (parts c).directory (parts new).directory → (w : Core) → fits_by tell.seen tell.leaves c w
            → Serving tell event (Some reply.Did) c new
        taken-served image is set w f =
            passed-served tell c new p taken same
            (only-pages (parts c) (parts new) i (with_page (pool_at (parts c) i) p image) is)
            (λ j. ap (λ (k : Parts). (pool_at k j).frames) is
            ∙ frames-kept (parts c) i (with_page (pool_at (parts c) i) p image) (parts new).directory low high f.good.shape.pools refl j)
            good set may.found now event reply.Did tt (ap tell.faults same)
            (λ w f. turns-repaged w (page_placed p (taken (w.pages.entry p)) w.pages) event reply.Did
            ((f.good.not_closed, ((its w f may.active may.found).serves, (tt, (tt, (tt, tt))))), refl)
            (λ t. sym (none-ended (tell.seen c.rig) (tell.leaves c.rig) (parts c) w f t))
            tt tt (none w f, refl) tt)

  -- ---- there was no memory

  pub take-spared : (new : Complex G) → new.rig ≡ c.rig → parts new ≡ with_directory (parts new).directory (parts c)
      → ((pend : Pending) (m : State) → Good (tell.seen c.rig) (tell.leaves c.rig) pend (parts c) m
      → Good (tell.seen new.rig) (tell.leaves new.rig) pend (parts new) m)
      → IsAsked p (asks_at (parts c).directory p) (parts c).directory (parts new).directory → Serving tell event None c new
  take-spared new same is good asks = kept-spared tell c new p same is good asks now event
