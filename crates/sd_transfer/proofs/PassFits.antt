-- How a complex goes on fitting where one page has another place, or none has, and no device is called. For the calls that give
-- and take pages.
use Rattle.std.proofs.Common.{◌≡◌, ℕ, false, refl, sym, ap, ◌∙◌, subst, ⊎_elim}
use Rattle.std.specs.Prelude.{None, Some}
use Rattle.std.proofs.lemmas.Bool.{cases_eq}
use Rattle.sd_model.specs.State.{State}
use Rattle.sd_model.specs.declared.event.Event.{Event}
use Rattle.sd_model.specs.declared.event.Reply.{Reply}
use Rattle.sd_pagelock.specs.Directory.{asks_at, entry_at}
use Rattle.sd_pagelock.specs.Places.{PageEntry, is_lost}
use Rattle.sd_rig.specs.Devices as rig
use Rattle.sd_world.specs.Bounds.{TellsNoPlace, bounds_after}
use Rattle.sd_world.specs.Pages.{Pages, page_placed}
use Rattle.sd_world.specs.Serving.{Core, FaultsAre, Passes, Telling, Turns}
use Rattle.sd_state.specs.Complexes.{parts}
use Rattle.sd_state.specs.Good.{Good}
use Rattle.sd_state.specs.Locking.{IsSet}
use Rattle.sd_state.specs.Parts.{pool_at}
use Rattle.sd_state.specs.Values.{Pending}
use Rattle.sd_moves.specs.Places.{IsAsked}
use Rattle.sd_state.specs.declared.complex.Complex.{Complex}
use Rattle.sd_fits.specs.Serving.{Serving, fits_by, stands_for}
use Rattle.sd_fits.proofs.Places.{kept-pages, moved-fits, placed-pages, repaged}
use Rattle.sd_fits.proofs.Served.{bounds-stay, fits-left, still-passes, still-serves}

-- Page p went by this row from where it was, and wasn't lost.
module _ {G : Type 0} (tell : Telling G) (old new : Complex G) (p : ℕ) (row : PageEntry → PageEntry) (same : new.rig ≡ old.rig)
    (only : parts new ≡ record (parts old) { pools = (parts new).pools; directory = (parts new).directory })
    (frames : (j : ℕ) → (pool_at (parts new) j).frames ≡ (pool_at (parts old) j).frames)
    (good : (pend : Pending) (m : State) → Good (tell.seen old.rig) (tell.leaves old.rig) pend (parts old) m
    → Good (tell.seen new.rig) (tell.leaves new.rig) pend (parts new) m)
    (set : IsSet p (row (entry_at (parts old).directory p)) None (parts old).directory (parts new).directory)
    (found : is_lost (entry_at (parts old).directory p) ≡ false) where
  abbrev passed-pages : Core → Pages
  passed-pages w = page_placed p (row (w.pages.entry p)) w.pages

  -- a world whose page went so is fitted then,
  pub passed-fits : (e : Event) (r : Reply) → TellsNoPlace r → (w : Core) → fits_by tell.seen tell.leaves old w
      → fits_by tell.seen tell.leaves new (repaged w (passed-pages w) e r)
  passed-fits e r told w f = moved-fits tell old new w f (parts new).pools (parts new).directory same only
      (good Pending.Idle w.scene.state f.good) (passed-pages w) (bounds_after w.bounds e r)
      (placed-pages (parts new).pools (parts new).directory (tell.seen old.rig) (tell.leaves old.rig) (parts old) w f frames p
      (row (w.pages.entry p)) None
      (subst (λ (x : PageEntry). IsSet p (row x) None (parts old).directory (parts new).directory) (sym (f.pages.entry p)) set)
      (λ there. ap is_lost (f.pages.entry p) ∙ found))
      (bounds-stay (tell.seen old.rig) (parts old) w.bounds e r told f.bounds)

  -- and the event is served that turns it so
  pub passed-served : ((img : rig.DeviceImages) → tell.since old.rig (tell.moment old.rig) img → rig.Leaves (tell.leaves old.rig) img)
      → (e : Event) (r : Reply) → TellsNoPlace r → FaultsAre e r (tell.faults old.rig) (tell.faults new.rig)
      → ((w : Core) → fits_by tell.seen tell.leaves old w → Turns w e r (repaged w (passed-pages w) e r))
      → Serving tell e (Some r) old new
  passed-served now e r told faults turns = (
    (λ w f. (
      repaged w (passed-pages w) e r,
      still-serves tell e r old new w (repaged w (passed-pages w) e r) (sym same) now f (turns w f) (passed-fits e r told w f),
    )),
    faults,
  )

-- Where the directory alone differs, in no place and in no ask, want of memory spares every world that was fitted.
pub kept-spared : {G : Type 0} (tell : Telling G) (old new : Complex G) (p : ℕ) → new.rig ≡ old.rig
    → parts new ≡ record (parts old) { directory = (parts new).directory }
    → ((pend : Pending) (m : State) → Good (tell.seen old.rig) (tell.leaves old.rig) pend (parts old) m
    → Good (tell.seen new.rig) (tell.leaves new.rig) pend (parts new) m)
    → IsAsked p (asks_at (parts old).directory p) (parts old).directory (parts new).directory
    → ((img : rig.DeviceImages) → tell.since old.rig (tell.moment old.rig) img → rig.Leaves (tell.leaves old.rig) img)
    → (e : Event) → Serving tell e None old new
kept-spared {G} tell old new p same is good asked now e = (
  (λ w f. record {
    fits_still = moved-fits tell old new w f (parts old).pools (parts new).directory same is (good Pending.Idle w.scene.state f.good)
        w.pages w.bounds
        (kept-pages (parts old).pools (parts new).directory (tell.seen old.rig) (tell.leaves old.rig) (parts old) w f (λ j. refl)
        asked.in_place.entries
        (λ q. ⊎_elim
        (λ e. subst (λ (k : ℕ). asks_at (parts new).directory k ≡ asks_at (parts old).directory k) (sym e) asked.here)
        (λ ne. asked.others q ne)
        (cases_eq q p)))
        f.bounds;
    passes = subst (λ (d : G). Passes tell stands_for old.rig d w.scene.state w.scene.state) (sym same)
        (still-passes tell old.rig w.scene.state w.scene.state now
        (fits-left (tell.seen old.rig) (tell.leaves old.rig) (parts old) w f));
  }),
  ap tell.faults same,
)
