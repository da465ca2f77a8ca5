-- A page is shown with the LSN of its newest version, which is within the sums: for the goals of showing.rt.
use Rattle.std.proofs.Common.{◌≡◌, ℕ, ◌≤◌, Bool, true, false, cond, List, [], ◌∷◌, refl, sym, ap, ◌∙◌, subst, eq-eqb}
use Rattle.std.specs.Prelude.{Option, Some, IsSome}
use Rattle.sd_base.specs.Sets.{first, has}
use Rattle.sd_base.specs.declared.place.Place.{Place}
use Rattle.sd_rig.specs.Devices.{DeviceImages, Leaves}
use Rattle.sd_model.specs.declared.event.Event.{Event}
use Rattle.sd_model.specs.declared.event.Event.TheVariants.{Show}
use Rattle.sd_model.specs.declared.event.Reply.{Reply}
use Rattle.sd_model.specs.declared.event.Reply.TheVariants as reply
use Rattle.sd_pagelock.specs.Directory.{entry_at}
use Rattle.sd_pagelock.specs.Places.{PageEntry, is_lost, seen}
use Rattle.sd_world.specs.Pages.{number_shown}
use Rattle.sd_world.specs.Serving.{Core, Telling, Turns}
use Rattle.sd_state.specs.Complexes.{parts}
use Rattle.sd_state.specs.Laws.{newest_of}
use Rattle.sd_state.specs.declared.complex.Complex.{Complex}
use Rattle.sd_fits.specs.Serving.{Serving, fits_by}
use Rattle.sd_fits.proofs.Served.{none-ended, nothing-fits, passed, still-serves, turns-on}
use Rattle.sd_fits.proofs.Sums.{shown-within}

-- ---- the lowest of a set that holds a page

pub first-there : (xs : List ℕ) (o : Option ℕ) → o ≡ first xs → (xs ≡ [] → ⊥) → IsSome o
first-there [] o is some = absurd (some refl)
first-there (x ∷ xs) o is some = subst IsSome (sym is) refl

pub first-has : (xs : List ℕ) (i : ℕ) → first xs ≡ Some i → has i xs ≡ true
first-has [] i is = absurd (cc)
first-has (x ∷ xs) i is = ap (λ (b : Bool). cond b true (has i xs)) (eq-eqb x i cc)

-- ---- what the world says of it

-- the number of a page that isn't lost is shown by its newest version
shown-by : (e : PageEntry) (a b : ℕ) → (is_lost e ≡ false → a ≡ b) → number_shown e a ≡ number_shown e b
shown-by PageEntry.Free a b same = refl
shown-by (PageEntry.Shared set writer) a b same = same refl
shown-by (PageEntry.Excl holder dirty) a b same = same refl
shown-by (PageEntry.Moving to mode rest dirty) a b same = same refl
shown-by PageEntry.Lost a b same = refl

module _ {G : Type 0} (tell : Telling G) (c : Complex G) (p : ℕ)
    (now : (img : DeviceImages) → tell.since c.rig (tell.moment c.rig) img → Leaves (tell.leaves c.rig) img)
    (place : Place) (lsn : ℕ) (is : seen place ≡ entry_at (parts c).directory p)
    (newest_lsn : lsn ≡ number_shown (seen place) (newest_of (tell.seen c.rig) (tell.leaves c.rig) (parts c) p).lsn) where
  abbrev event : Event
  event = Show p

  abbrev answer : Reply
  answer = reply.Shown place lsn

  module _ (w : Core) (f : fits_by tell.seen tell.leaves c w) where
    entry : seen place ≡ w.pages.entry p
    entry = is ∙ sym (f.pages.entry p)

    number : lsn ≡ number_shown (w.pages.entry p) (w.pages.number p)
    number =
        let n : ℕ = (newest_of (tell.seen c.rig) (tell.leaves c.rig) (parts c) p).lsn in
        newest_lsn ∙ ap (λ (e : PageEntry). number_shown e n) entry
        ∙ sym (shown-by (w.pages.entry p) (w.pages.number p) n (f.pages.number p))

    turns : Turns w event answer (passed w w.scene.waits event answer)
    turns = turns-on w w.scene.waits event answer ((f.good.not_closed, tt), refl)
        (λ t. sym (none-ended (tell.seen c.rig) (tell.leaves c.rig) (parts c) w f t))
        tt tt ((tt, tt), (entry, number, refl)) (subst (λ (n : ℕ). n ≤ w.bounds.lsns) (sym number)
        (shown-within (tell.seen c.rig) (tell.leaves c.rig) (parts c) w f p))

  pub shown : Serving tell event (Some answer) c c
  shown = (
    (λ w f. (
      passed w w.scene.waits event answer,
      still-serves tell event answer c c w (passed w w.scene.waits event answer) refl now f (turns w f)
          (nothing-fits (parts c).locks w.scene.waits event answer (tell.seen c.rig) (tell.leaves c.rig) (parts c) w f tt),
    )),
    refl,
  )
