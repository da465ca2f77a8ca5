-- What the world says of an ask: for the goals of asking.rt.
use Rattle.std.proofs.Common.{◌≡◌, ℕ, ◌≤◌, Bool, true, false, cond, [], ◌∷◌, refl, sym, ap, ◌∙◌, inl}
use Rattle.std.specs.Prelude.{◌||◌}
use Rattle.sd_base.specs.declared.place.Mode.{Mode}
use Rattle.sd_base.specs.declared.place.Mode.TheVariants as modes
use Rattle.sd_base.specs.declared.refusal.Refusal.TheVariants as R
use Rattle.sd_model.specs.Applies.{Clear}
use Rattle.sd_model.specs.Causes.{order}
use Rattle.sd_model.specs.State.{State}
use Rattle.sd_model.specs.declared.cause.Cause.{Cause}
use Rattle.sd_model.specs.declared.event.Event.{Event}
use Rattle.sd_model.specs.declared.event.Event.TheVariants.{Ask}
use Rattle.sd_model.specs.declared.event.Reply.TheVariants as reply
use Rattle.sd_pagelock.specs.Directory.{entry_at}
use Rattle.sd_pagelock.specs.Places.{PageEntry, holds_as, is_free, is_lost, passes, rests}
use Rattle.sd_pagelock.specs.Rows.{locked, may_raise, raised}
use Rattle.sd_pagelock.proofs.Uses.{free-is}
use Rattle.sd_world.specs.Answers.{Fails, Gets, Queues}
use Rattle.sd_world.specs.PageCauses.{IsUnderWay, NoneSays, PoolIsFull}
use Rattle.sd_world.specs.Pages.{Pages, had, held_count, is_had, page_placed}
use Rattle.sd_world.specs.Serving.{Core, Telling, Turns}
use Rattle.sd_state.specs.Complexes.{parts}
use Rattle.sd_state.specs.declared.complex.Complex.{Complex}
use Rattle.sd_fits.specs.Serving.{fits_by}
use Rattle.sd_fits.proofs.Places.{repaged, turns-repaged}
use Rattle.sd_fits.proofs.Served.{none-ended}
use Rattle.sd_transfer.specs.Asking.{MayAsk}
use Rattle.sd_fits.proofs.Refused.{IsFor, unlike}
use Rattle.sd_transfer.proofs.Barred.{IsPaging, IsUnbarred, unbarred}

-- ---- places that an instance has so at once

pub none-holds : (mode : Mode) (e : PageEntry) (i : ℕ) → e ≡ PageEntry.Free → holds_as mode e i ≡ false
none-holds modes.Shared e i is = ap (λ (x : PageEntry). holds_as modes.Shared x i) is
none-holds modes.Excl e i is = ap (λ (x : PageEntry). holds_as modes.Excl x i) is

-- a page that it has so is in a pool
pub has-pool : (mode : Mode) (e : PageEntry) (i : ℕ) → holds_as mode e i ≡ true → is_free e ≡ true → ⊥
has-pool mode e i has free = unlike (none-holds mode e i (free-is e free)) has

pub raise-pool : (e : PageEntry) (i : ℕ) → may_raise i e ≡ true → is_free e ≡ true → ⊥
raise-pool e i may free = unlike {b = may_raise i e} (ap (may_raise i) (free-is e free)) may

module _ (i p : ℕ) (mode : Mode) (w : Pages) where
  abbrev e : PageEntry
  e = w.entry p

  abbrev pick : Bool → PageEntry → Pages
  pick b to = cond {A = Pages} b w (page_placed p to w)

  pub gets-held : holds_as mode e i ≡ true → Gets i p mode w w
  gets-held has = (ap (λ (b : Bool). b || (is_free e || may_raise i e)) has, sym (ap (λ (b : Bool). pick b (had i mode e)) has))

  pub gets-free : e ≡ PageEntry.Free → Gets i p mode w (page_placed p (locked i mode) w)
  gets-free free =
      let none : holds_as mode e i ≡ false = none-holds mode e i free in
      let yes : is_free e ≡ true = ap is_free free in (
        ap (λ (b : Bool). b || (is_free e || may_raise i e)) none ∙ ap (λ (b : Bool). b || may_raise i e) yes,
        sym (ap (λ (b : Bool). pick b (cond {A = PageEntry} b e (cond {A = PageEntry} (is_free e) (locked i mode) (raised i e)))) none
            ∙ ap (λ (b : Bool). page_placed p (cond {A = PageEntry} b (locked i mode) (raised i e)) w) yes),
      )

  pub gets-raised : holds_as mode e i ≡ false → is_free e ≡ false → may_raise i e ≡ true
      → Gets i p mode w (page_placed p (raised i e) w)
  gets-raised none pooled may = (
    ap (λ (b : Bool). b || (is_free e || may_raise i e)) none ∙ ap (λ (b : Bool). b || may_raise i e) pooled ∙ may,
    sym (ap (λ (b : Bool). pick b (cond {A = PageEntry} b e (cond {A = PageEntry} (is_free e) (locked i mode) (raised i e)))) none
        ∙ ap (λ (b : Bool). page_placed p (cond {A = PageEntry} b (locked i mode) (raised i e)) w) pooled),
  )

  pub not-had : holds_as mode e i ≡ false → is_free e ≡ false → may_raise i e ≡ false → is_had i mode e ≡ false
  not-had none pooled alone =
      ap (λ (b : Bool). b || (is_free e || may_raise i e)) none ∙ ap (λ (b : Bool). b || may_raise i e) pooled ∙ alone

-- a page of a pool that an instance has so, or may have alone at once, isn't read, and nobody is asked for it
pub had-pool : (mode : Mode) (e : PageEntry) (i : ℕ) → (holds_as mode e i || may_raise i e) ≡ true → is_free e ≡ true → ⊥
had-pool mode e i had free = unlike
    (ap (λ (b : Bool). b || may_raise i e) (none-holds mode e i (free-is e free)) ∙ ap (may_raise i) (free-is e free)) had

pub had-lacks : (mode : Mode) (e : PageEntry) (i : ℕ) → holds_as mode e i ≡ false → may_raise i e ≡ false
    → (holds_as mode e i || may_raise i e) ≡ true → ⊥
had-lacks mode e i lacks alone had = unlike (ap (λ (b : Bool). b || may_raise i e) lacks ∙ alone) had

-- a page that is somewhere, and not on its way
pub stays-there : (x : PageEntry) → is_free x ≡ false → is_lost x ≡ false → passes x ≡ false → rests x ≡ true
stays-there PageEntry.Free pooled there still = absurd (cc)
stays-there (PageEntry.Shared set writer) pooled there still = refl
stays-there (PageEntry.Excl holder dirty) pooled there still = refl
stays-there (PageEntry.Moving to mode rest dirty) pooled there still = absurd (cc)
stays-there PageEntry.Lost pooled there still = absurd (cc)

-- ---- causes

-- an ask is an event of its page
pub of-ask : (i p : ℕ) (mode : Mode) → IsPaging (Ask i p mode) i p
of-ask i p mode = record {
  rest = Cause.Moving ∷ Cause.Frame ∷ Cause.Rig ∷ [];
  order = refl;
  nobodys = refl;
  serve = λ m active. active;
  serves = λ m active. active;
  page = λ m. tt;
  lose = λ m w lost. lost;
  loses = λ m w lost. lost;
  unused = λ m r. tt;
  quiet = λ n. refl;
}

module _ {G : Type 0} (tell : Telling G) (c : Complex G) (i p : ℕ) (mode : Mode) (low : 1 ≤ i) (high : i ≤ 8)
    (w : Core) (f : fits_by tell.seen tell.leaves c w) where
  abbrev m : State
  m = w.scene.state

  abbrev event : Event
  event = Ask i p mode

  abbrev here : PageEntry
  here = entry_at (parts c).directory p

  still : passes here ≡ false → IsUnderWay w.pages event → ⊥
  still is moves = unlike is (sym (ap passes (f.pages.entry p)) ∙ moves)

  -- the page may be asked for
  module _ (may : MayAsk (parts c) i p) where
    its : IsUnbarred m w.pages event
    its = unbarred (of-ask i p mode) tell c low high w f may.active may.found

    pub full : is_free here ≡ true → w.pages.frames ≤ held_count w.pages.entry i 1024 → IsFor m w event R.PoolFull Cause.Frame
    full free all = record {
      waits = refl;
      whom = tt;
      unused = tt;
      allowed = tt;
      names = refl;
      tells = tt;
      first = (refl, (f.good.not_closed, (its.serves, (tt, (tt, tt)))), tt);
      refuses = refl;
      passes = (tt, (tt, (its.found, (still may.still, tt))));
      says = λ yes. (ap is_free (f.pages.entry p) ∙ free, all);
      place = tt;
      left = refl;
    }

    module _ (room : PoolIsFull w.pages event → ⊥) where
      pub failed : IsFor m w event R.Failed Cause.Rig
      failed = record {
        waits = refl;
        whom = tt;
        unused = tt;
        allowed = tt;
        names = refl;
        tells = tt;
        first = (refl, (f.good.not_closed, (its.serves, (tt, (tt, (tt, tt))))), tt);
        refuses = inl refl;
        passes = (tt, (tt, (its.found, (still may.still, (room, tt)))));
        says = λ never. absurd (cc);
        place = tt;
        left = Fails.stays refl refl;
      }

      clear : Clear m event
      clear = (f.good.not_closed, (its.serves, (tt, (tt, (tt, (tt, tt))))))

      none : NoneSays m w.pages event (order event)
      none = (tt, (tt, (its.found, (still may.still, (room, (tt, tt))))))

      -- the instance has the page then
      pub have-turns : (pages : Pages) → Gets i p mode w.pages pages → Turns w event reply.Have (repaged w pages event reply.Have)
      have-turns pages gets = turns-repaged w pages event reply.Have (clear, refl) (λ t. sym
          (none-ended (tell.seen c.rig) (tell.leaves c.rig) (parts c) w f t)) tt tt
          (none, gets) tt

      -- or has asked another for it
      pub asked-turns : (of : ℕ) (pages : Pages) → Queues i p mode of w.pages pages
          → Turns w event (reply.Asked of) (repaged w pages event (reply.Asked of))
      asked-turns of pages queues = turns-repaged w pages event (reply.Asked of) (clear, refl)
          (λ t. sym (none-ended (tell.seen c.rig) (tell.leaves c.rig) (parts c) w f t)) tt tt (none, queues) tt
