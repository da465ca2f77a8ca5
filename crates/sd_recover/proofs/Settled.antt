-- A step of a recovery that settles a device serves its event: for the goals of settling.rt.
use Rattle.std.proofs.Common.{◌≡◌, inl, ℕ, ◌<◌, ◌≤◌, true, false, refl, sym, ap, subst, arith, Bool, List, length, get_or, slice_set, ◌∙◌}
use Rattle.std.proofs.lemmas.List.{get_or-set_other, get_or-set_same}
use Rattle.std.specs.Prelude.{None, Some}
use Rattle.sd_base.specs.Streams.{Rises}
use Rattle.sd_base.specs.Waits.{with_wait}
use Rattle.sd_base.specs.declared.ids.TxnId.{TxnId}
use Rattle.sd_base.specs.declared.place.Status.TheVariants as S
use Rattle.sd_base.specs.declared.refusal.Refusal.TheVariants as R
use Rattle.sd_rig.specs.Devices.{DeviceImages, Elapses, LeavesOnly, Span}
use Rattle.sd_model.specs.State.{State, fall}
use Rattle.sd_model.specs.declared.cause.Cause.{Cause}
use Rattle.sd_model.specs.declared.event.Event.{Event}
use Rattle.sd_model.specs.declared.event.Event.TheVariants.{RecoverStep}
use Rattle.sd_model.specs.declared.event.Reply.TheVariants as reply
use Rattle.sd_moves.specs.Falling.{IsFallen, with_fallen}
use Rattle.sd_moves.specs.Putting.{with_loose_disk}
use Rattle.sd_moves.specs.Settling.{IsReread, with_reread}
use Rattle.sd_chain.specs.Logs.{Less, Outcomes}
use Rattle.sd_world.specs.Answers.{Fails}
use Rattle.sd_world.specs.Serving.{Core, Passes, Telling}
use Rattle.sd_state.specs.Complexes.{parts}
use Rattle.sd_state.specs.Good.{Good}
use Rattle.sd_state.specs.Images.{Stands}
use Rattle.sd_state.specs.Parts.{Parts, is_loose, status_at}
use Rattle.sd_state.specs.Values.{Pending}
use Rattle.sd_state.specs.declared.complex.Complex.{Complex}
use Rattle.sd_fits.specs.Fits.{Fits}
use Rattle.sd_fits.specs.Serving.{Serving, fits_by, stands_for}
use Rattle.sd_fits.proofs.Falling.{numbers_of}
use Rattle.sd_transfer.proofs.PutFits.{put-fits}
use Rattle.sd_fits.proofs.Recovering.{numbers-step, step-turns, step_core, step_sums}
use Rattle.sd_fits.proofs.Refused.{IsFor, refused-turns}
use Rattle.sd_fits.proofs.Served.{bounds-stay, nothing-fits, passed}
use Rattle.sd_recover.proofs.RereadFits.{less-fits, reread-fits}
use Rattle.sd_recover.specs.Recovering.{HasOnlyRead, SettlesOne}
use Rattle.sd_recover.proofs.Cleared.{lowest-one}
use Rattle.sd_recover.proofs.Rebuilt.{step-breaks}
use Rattle.sd_transfer.specs.Breaking.{BreaksBy}
use Rattle.sd_transfer.proofs.Broken.{broken-serves}

-- its mark alone is another
pub settles-one : (c new : Parts) (dev : ℕ) → dev ≤ 8 → length c.loose ≡ 9 → new.loose ≡ slice_set c.loose dev false → SettlesOne dev c new
settles-one c new dev high nine is = (
  ap (λ (marks : List Bool). get_or marks dev true) is ∙ get_or-set_same c.loose dev false true (omega (arith, nine, high)),
  λ d ne. ap (λ (marks : List Bool). get_or marks d true) is ∙ get_or-set_other c.loose dev d false true ne,
)

-- of what a read that failed leaves the device that was to be settled is stable
pub only-read : (seen seen' : DeviceImages) (leaves' : Outcomes) (c new : Parts) (dev : ℕ) → is_loose c dev ≡ true
    → ((d : ℕ) → d < dev → is_loose c d ≡ false) → ((d : ℕ) → seen' d ≡ seen d) → new ≡ c → LeavesOnly (seen dev) (leaves' dev)
    → HasOnlyRead seen' leaves' c new
only-read seen seen' leaves' c new dev loose below reads same only = record {
  same = same;
  synced = λ d lowest.
      subst (λ (k : ℕ). LeavesOnly (seen' k) (leaves' k)) (lowest-one (is_loose c) dev d loose below lowest.1 lowest.2)
      (subst (λ (bytes : List ℕ). LeavesOnly bytes (leaves' dev)) (sym (reads dev)) only);
}

-- The recoverer of i synced device dev of c, or failed to, and came to `new`.
module _ {G : Type 0} (tell : Telling G) (c new : Complex G) (i by dev : ℕ) (low : 1 ≤ i) (high : i ≤ 8)
    (recovers : status_at (parts c) i ≡ S.Recovering by) (less : Less (tell.leaves c.rig) (tell.leaves new.rig))
    (reads : (d : ℕ) → tell.seen new.rig d ≡ tell.seen c.rig d)
    (there : (d : ℕ) → d ≤ 8 → tell.leaves new.rig d (tell.seen new.rig d))
    (images : (m : State) → Good (tell.seen c.rig) (tell.leaves c.rig) Pending.Idle (parts c) m
    → Span (tell.moment c.rig) (tell.since new.rig) (Stands m Pending.Idle))
    (time : Elapses (tell.moment c.rig) (tell.moment new.rig) (tell.since c.rig) (tell.since new.rig)) where
  abbrev event : Event
  event = RecoverStep i

  abbrev seen' : DeviceImages
  seen' = tell.seen new.rig

  abbrev leaves' : Outcomes
  leaves' = tell.leaves new.rig

  module _ (w : Core) (f : fits_by tell.seen tell.leaves c w) where
    abbrev m : State
    m = w.scene.state

    -- what c was fits with the devices as they are then
    on : Fits seen' leaves' (parts c) w
    on = less-fits (tell.seen c.rig) seen' (tell.leaves c.rig) leaves' (parts c) w f less reads there

    passes-on : (m' : State) → Passes tell stands_for c.rig new.rig m m'
    passes-on m' = record { time = time; span = record { each = λ img s. inl ((images m f.good).each img s) } }

    breaks : BreaksBy by event w
    breaks = step-breaks tell c i by dev low high recovers w f

    -- the step is refused for the device, and nothing changes
    failed-for : IsFor m w event R.Failed Cause.Rig
    failed-for = record {
      waits = ap (λ (t : TxnId). with_wait t None w.scene.waits) breaks.nobodys;
      whom = tt;
      unused = breaks.unused;
      allowed = tt;
      names = refl;
      tells = tt;
      first = breaks.first;
      refuses = inl (sym breaks.uncounted);
      passes = breaks.passes;
      says = λ never. absurd (cc);
      place = tt;
      left = Fails.stays (sym breaks.uncounted) refl;
    }

  -- ---- nothing changed but what a crash may leave

  module _ (same : parts new ≡ parts c) where
    -- there was no memory,
    pub short-served : tell.faults new.rig ≡ tell.faults c.rig → Serving tell event None c new
    short-served quiet = (
      λ w f. record {
        fits_still = subst (λ (k : Parts). Fits seen' leaves' k w) (sym same) (on w f);
        passes = passes-on w f w.scene.state;
      },
      quiet,
    )

    -- or a read failed
    pub reread-failed : Rises (tell.faults c.rig) (tell.faults new.rig) → Serving tell event (Some (reply.Refused R.Failed)) c new
    reread-failed rises = (
      λ w f. (
        passed w w.scene.waits event (reply.Refused R.Failed),
        record {
          turns = refused-turns (tell.seen c.rig) (tell.leaves c.rig) (parts c) w f event R.Failed Cause.Rig (failed-for w f);
          fits_then = subst (λ (k : Parts). Fits seen' leaves' k (passed w w.scene.waits event (reply.Refused R.Failed))) (sym same)
              (nothing-fits (parts c).locks w.scene.waits event (reply.Refused R.Failed) seen' leaves' (parts c) w (on w f) tt);
          passes = passes-on w f w.scene.state;
        },
      ),
      rises,
    )

  -- ---- the sync failed, and the recoverer fell

  pub unsynced-served : 1 ≤ by → by ≤ 8 → parts new ≡ with_fallen by (parts new) (parts c) → IsFallen by (parts c) (parts new)
      → ((m : State) → Good (tell.seen c.rig) (tell.leaves c.rig) Pending.Idle (parts c) m
      → Good seen' leaves' Pending.Idle (parts new) (fall by m))
      → Rises (tell.faults c.rig) (tell.faults new.rig) → Serving tell event (Some (reply.Refused R.Failed)) c new
  unsynced-served by_low by_high is fallen down rises = (
    λ w f.
        let mid : Complex G = record c { rig = new.rig } in
        let then : Fits seen' leaves' (parts c) w = on w f in
        broken-serves tell c mid new by by_low by_high w f then.good
        (record { logs = λ j ne. refl; txns = λ j ne. refl; waits = λ t. refl })
        then.pages then.bounds then.doubts refl is fallen (down w.scene.state f.good) time (images w.scene.state f.good) event (breaks w f),
    rises,
  )

  -- ---- the device is settled

  module _ (good : (m : State) → Good (tell.seen c.rig) (tell.leaves c.rig) Pending.Idle (parts c) m
      → Good seen' leaves' Pending.Idle (parts new) m) (quiet : tell.faults new.rig ≡ tell.faults c.rig) where
    served : (number : (w : Core) → fits_by tell.seen tell.leaves c w → (ℕ → ℕ))
        → ((w : Core) → (f : fits_by tell.seen tell.leaves c w) → Fits seen' leaves' (parts new)
        (step_core i (record w.pages { number = number w f }) w))
        → Serving tell event (Some reply.Step) c new
    served number fits = (
      λ w f. (
        step_core i (record w.pages { number = number w f }) w,
        record {
          turns = step-turns i by (tell.seen c.rig) (tell.leaves c.rig) (parts c) w f low high recovers
              (record w.pages { number = number w f })
              (numbers-step i by (tell.seen c.rig) (tell.leaves c.rig) (parts c) w f low high recovers (number w f));
          fits_then = fits w f;
          passes = passes-on w f w.scene.state;
        },
      ),
      quiet,
    )

    -- the data device,
    pub disk-served : parts new ≡ with_loose_disk false (parts c) → Serving tell event (Some reply.Step) c new
    disk-served is = served (λ w f. w.pages.number) (λ w f.
        let then : Fits seen' leaves' (parts c) w = on w f in
        subst (λ (k : Parts). Fits seen' leaves' k (step_core i w.pages w)) (sym is)
        (put-fits false (parts c).directory seen' seen' leaves' leaves' (parts c) (λ moved keeps q. refl)
        (λ j lo bytes left. (bytes, left, refl)) w then w.pages (step_sums i w)
        (subst (λ (k : Parts). Good seen' leaves' Pending.Idle k w.scene.state) is (good w.scene.state f.good))
        then.pages
        (bounds-stay seen' (parts c) w.bounds event reply.Step tt then.bounds)))

    -- or a log, which is read again
    pub log-served : 1 ≤ dev → dev ≤ 8 → is_loose (parts c) dev ≡ true → LeavesOnly (tell.seen c.rig dev) (leaves' dev)
        → parts new ≡ with_reread dev (parts new) (parts c) → IsReread dev (tell.seen c.rig dev) (parts c) (parts new)
        → Serving tell event (Some reply.Step) c new
    log-served lo hi loose only is read =
        let again : Parts = with_reread dev (parts new) (parts c) in
        served (λ w f. numbers_of seen' leaves' again) (λ w f.
        let then : Fits seen' leaves' (parts c) w = on w f in
        subst (λ (k : Parts). Fits seen' leaves' k (step_core i (record w.pages { number = numbers_of seen' leaves' again }) w)) (sym is)
        (reread-fits dev seen' leaves' (parts c) (parts new) w lo hi then loose
        (subst (λ bytes. LeavesOnly bytes (leaves' dev)) (sym (reads dev)) only) there
        (subst (λ bytes. IsReread dev bytes (parts c) (parts new)) (sym (reads dev)) read)
        (step_sums i w) (bounds-stay seen' (parts c) w.bounds event reply.Step tt then.bounds)))
