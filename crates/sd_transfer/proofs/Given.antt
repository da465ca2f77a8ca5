-- A give serves its event: for the goals of giving.rt.
use Rattle.std.proofs.Common.{◌≡◌, ℕ, ◌≤◌, true, false, [], ◌∷◌, refl, sym, ap, ◌∙◌, subst}
use Rattle.std.specs.Prelude.{None, Some, is_some}
use Rattle.sd_base.specs.declared.place.Mode.{Mode}
use Rattle.sd_base.specs.declared.place.Place.{Place}
use Rattle.sd_base.specs.declared.refusal.Refusal.{Refusal}
use Rattle.sd_base.specs.declared.refusal.Refusal.TheVariants as R
use Rattle.sd_rig.specs.Devices.{DeviceImages, Leaves}
use Rattle.sd_model.specs.Causes.{order}
use Rattle.sd_model.specs.State.{State}
use Rattle.sd_model.specs.declared.cause.Cause.{Cause}
use Rattle.sd_model.specs.declared.event.Event.{Event}
use Rattle.sd_model.specs.declared.event.Event.TheVariants.{Give}
use Rattle.sd_model.specs.declared.event.Reply.TheVariants as reply
use Rattle.sd_pagelock.specs.Asks.{oldest}
use Rattle.sd_pagelock.specs.Directory.{asks_at, entry_at}
use Rattle.sd_pagelock.specs.Places.{PageEntry, holds, is_lost, owns, passes, receives, seen}
use Rattle.sd_world.specs.PageCauses.{IsAway, IsUnasked, IsUnderWay, NoneSays}
use Rattle.sd_world.specs.Pages.{given, page_placed}
use Rattle.sd_world.specs.Serving.{Core, Serves, Telling, refused}
use Rattle.sd_state.specs.Complexes.{parts}
use Rattle.sd_state.specs.Good.{Good}
use Rattle.sd_state.specs.Locking.{IsSet}
use Rattle.sd_state.specs.Parts.{Parts, is_active, is_loose, log_at, pool_at}
use Rattle.sd_state.specs.Values.{Pending}
use Rattle.sd_state.specs.declared.complex.Complex.{Complex}
use Rattle.sd_fits.specs.Serving.{Serving, fits_by, stands_for}
use Rattle.sd_transfer.proofs.Barred.{IsPaging, IsUnbarred, barred-served, moving-served, unbarred}
use Rattle.sd_transfer.proofs.PassFits.{passed-served}
use Rattle.sd_fits.proofs.Places.{turns-repaged}
use Rattle.sd_fits.proofs.Refused.{IsFor, refused-serves, unlike}
use Rattle.sd_fits.proofs.Served.{none-ended}
use Rattle.sd_transfer.specs.Giving.{IsForcedFor, IsUngiven, MayGive}
use Rattle.sd_transfer.specs.Paging.{OnlyPages}
use Rattle.sd_transfer.specs.Breaking.{BreaksBy}
use Rattle.sd_transfer.specs.Forcing.{OnlyLogs}

-- a give is an event of its page
pub of-give : (j p : ℕ) → IsPaging (Give j p) j p
of-give j p = record {
  rest = Cause.Moving ∷ Cause.Away ∷ Cause.Asks ∷ Cause.Rig ∷ [];
  order = refl;
  nobodys = refl;
  serve = λ m active. active;
  serves = λ m active. active;
  page = λ m. tt;
  lose = λ m w lost. lost;
  loses = λ m w lost. lost;
  unused = λ m r. tt;
  quiet = λ n. refl;
}

module _ {G : Type 0} (tell : Telling G) (c : Complex G) (j p : ℕ) (low : 1 ≤ j) (high : j ≤ 8)
    (now : (img : DeviceImages) → tell.since c.rig (tell.moment c.rig) img → Leaves (tell.leaves c.rig) img) where
  abbrev here : PageEntry
  here = entry_at (parts c).directory p

  abbrev event : Event
  event = Give j p

  -- ---- what the world says of it

  module _ (w : Core) (f : fits_by tell.seen tell.leaves c w) where
    abbrev m : State
    m = w.scene.state

    its : is_active (parts c) j ≡ true → is_lost here ≡ false → IsUnbarred m w.pages event
    its active not_lost = unbarred (of-give j p) tell c low high w f active not_lost

    rests : passes here ≡ false → IsUnderWay w.pages event → ⊥
    rests is moves = unlike is (sym (ap passes (f.pages.entry p)) ∙ moves)

    there : holds here j ≡ true → IsAway m w.pages event → ⊥
    there is away = unlike away (ap (λ (e : PageEntry). holds e j) (f.pages.entry p) ∙ is)

    asked : (to : ℕ) (mode : Mode) → oldest j (asks_at (parts c).directory p) ≡ Some (to, mode) → IsUnasked w.pages event → ⊥
    asked to mode is none =
        let clash : true ≡ false = ap is_some (sym is ∙ ap (oldest j) (sym (f.pages.asks p)) ∙ none) in absurd (cc)

    -- ---- a refusal

    abbrev Refuses : Refusal → Type 0
    Refuses n = (w' : Core) × Serves {C = Complex G} tell stands_for (λ k. k.rig) (fits_by tell.seen tell.leaves) event
        (reply.Refused n) c c w w'

    refused-so : (n : Refusal) (cause : Cause) → IsFor m w event n cause → Refuses n
    refused-so n cause is = refused-serves tell c now w f event n cause is

    away : (place : Place) → is_active (parts c) j ≡ true → is_lost here ≡ false → passes here ≡ false → holds here j ≡ false
        → seen place ≡ here → IsFor m w event (R.NeedPage place) Cause.Away
    away place active not_lost still lacks is = record {
      waits = refl;
      whom = tt;
      unused = tt;
      allowed = tt;
      names = refl;
      tells = tt;
      first = (refl, (f.good.not_closed, ((its active not_lost).serves, (tt, (tt, tt)))), tt);
      refuses = refl;
      passes = (tt, (tt, ((its active not_lost).found, (rests still, tt))));
      says = λ yes. ap (λ (e : PageEntry). holds e j) (f.pages.entry p) ∙ lacks;
      place = is ∙ sym (f.pages.entry p);
      left = refl;
    }

    unasked : is_active (parts c) j ≡ true → is_lost here ≡ false → passes here ≡ false → holds here j ≡ true
        → oldest j (asks_at (parts c).directory p) ≡ None → IsFor m w event R.NotAsked Cause.Asks
    unasked active not_lost still has none = record {
      waits = refl;
      whom = tt;
      unused = tt;
      allowed = tt;
      names = refl;
      tells = tt;
      first = (refl, (f.good.not_closed, ((its active not_lost).serves, (tt, (tt, (tt, tt))))), tt);
      refuses = refl;
      passes = (tt, (tt, ((its active not_lost).found, (rests still, (there has, tt)))));
      says = λ yes. ap (oldest j) (f.pages.asks p) ∙ none;
      place = tt;
      left = refl;
    }

  pub give-refused : (n : Refusal) → IsUngiven (parts c) j p n → Serving tell event (refused n) c c
  give-refused (R.MovingTo to) why = moving-served (of-give j p) tell c low high now refl
      to why.0 why.1
      (λ w f. (ap passes (f.pages.entry p) ∙ why.2, ap (λ (e : PageEntry). receives e to) (f.pages.entry p) ∙ why.3))
  give-refused (R.NeedPage place) why =
      ((λ w f. refused-so w f (R.NeedPage place) Cause.Away (away w f place why.0 why.1 why.2 why.3 why.4)), refl)
  give-refused R.NotAsked why =
      ((λ w f. refused-so w f R.NotAsked Cause.Asks (unasked w f why.0 why.1 why.2 why.3 why.4)), refl)
  give-refused n why = barred-served (of-give j p) tell c low high now n why

  -- ---- the page may be given

  module _ (to : ℕ) (mode : Mode) (may : MayGive (parts c) j p to mode) where
    -- the giver falls where its log isn't forced,
    pub give-breaks : (w : Core) → fits_by tell.seen tell.leaves c w → BreaksBy j event w
    give-breaks w f = record {
      nobodys = refl;
      falls = refl;
      uncounted = refl;
      first = (refl, (f.good.not_closed, ((its w f may.active may.found).serves, (tt, (tt, (tt, (tt, tt)))))), tt);
      passes = (tt, (tt, ((its w f may.active may.found).found, (rests w f may.still, (there w f may.held, (asked w f to mode may.asked, tt))))));
      did = refl;
      unused = tt;
    }

    none : (w : Core) (f : fits_by tell.seen tell.leaves c w) → NoneSays (m w f) w.pages event (order event)
    none w f =
        (tt, (tt, ((its w f may.active may.found).found, (rests w f may.still, (there w f may.held, (asked w f to mode may.asked, (tt, tt)))))))

    -- and else it is given
    pub given-served : (new : Complex G) → new.rig ≡ c.rig → OnlyPages (parts c) (parts new)
        → ((k : ℕ) → (pool_at (parts new) k).frames ≡ (pool_at (parts c) k).frames)
        → ((pend : Pending) (m : State) → Good (tell.seen c.rig) (tell.leaves c.rig) pend (parts c) m
        → Good (tell.seen new.rig) (tell.leaves new.rig) pend (parts new) m)
        → IsSet p (given j (to, mode) here) None (parts c).directory (parts new).directory
        → Serving tell event (Some (reply.Gave to)) c new
    given-served new same only frames good set =
        passed-served tell c new p (given j (to, mode)) same only frames good set may.found now event (reply.Gave to) tt
        (ap tell.faults same)
        (λ w f. turns-repaged w (page_placed p (given j (to, mode) (w.pages.entry p)) w.pages) event (reply.Gave to)
        ((f.good.not_closed, ((its w f may.active may.found).serves, (tt, (tt, (tt, (tt, (tt, tt))))))), refl)
        (λ t. sym (none-ended (tell.seen c.rig) (tell.leaves c.rig) (parts c) w f t))
        tt tt (none w f, (mode, ap (oldest j) (f.pages.asks p) ∙ may.asked, refl)) tt)

-- ---- what stays

-- A force of the giver's log leaves what may be given,
pub may-still : (old mid : Parts) (j p to : ℕ) (mode : Mode) → OnlyLogs old mid → MayGive old j p to mode → MayGive mid j p to mode
may-still old mid j p to mode is may = subst (λ (k : Parts). MayGive k j p to mode) (sym is)
    (record { active = may.active; found = may.found; still = may.still; held = may.held; asked = may.asked })

-- and who has the page alone;
pub forced-still : (old mid : Parts) (j p : ℕ) → OnlyLogs old mid → IsForcedFor old j p mid → IsForcedFor mid j p mid
forced-still old mid j p is forced own settled = forced
    (sym (ap (λ (k : Parts). owns (entry_at k.directory p) j) is) ∙ own) (sym (ap (λ (k : Parts). is_loose k j) is) ∙ settled)

-- and the page leaves each log.
pub forced-then : (old mid new : Parts) (j p : ℕ) → OnlyPages mid new → IsForcedFor old j p mid → IsForcedFor old j p new
forced-then old mid new j p is forced own settled = ap (λ (k : Parts). (log_at k j).tail) is ∙ forced own settled
