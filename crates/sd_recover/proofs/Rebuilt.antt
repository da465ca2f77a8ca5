-- A step of a recovery that rebuilds a lost page serves its event: for the goals of rebuilding.rt.
use Rattle.std.proofs.Common.{◌≡◌, ◌≢◌, ◌⊎◌, inl, inr, ⊎_elim, ℕ, ◌≤◌, false, refl, sym, ap, ◌∙◌, subst, arith}
use Rattle.std.specs.Prelude.{None, Some}
use Rattle.sd_base.specs.Streams.{Rises}
use Rattle.sd_base.specs.declared.place.Status.TheVariants as S
use Rattle.sd_base.specs.declared.refusal.Refusal.{Refusal}
use Rattle.sd_base.specs.declared.refusal.Refusal.TheVariants as R
use Rattle.sd_rig.specs.Devices.{DeviceImages, Elapses, IsUnchanged, Leaves, LeavesSame, Span}
use Rattle.sd_chain.specs.Bytes.{disk_page}
use Rattle.sd_chain.specs.Named.{version_of}
use Rattle.sd_chain.specs.Logs.{Outcomes, tails_of}
use Rattle.sd_model.specs.Applies.{IsNotRecovered}
use Rattle.sd_model.specs.State.{State}
use Rattle.sd_model.specs.declared.event.Event.{Event}
use Rattle.sd_model.specs.declared.event.Event.TheVariants.{RecoverStep}
use Rattle.sd_model.specs.declared.event.Reply.TheVariants as reply
use Rattle.sd_moves.specs.Places.{with_directory}
use Rattle.sd_moves.specs.Putting.{SameVersions, with_loose_disk}
use Rattle.sd_moves.specs.Rebuilding.{MayRebuild}
use Rattle.sd_moves.proofs.PutCalls.{disk-same, read-elapses}
use Rattle.sd_pagelock.specs.Directory.{DirectoryState, entry_at}
use Rattle.sd_pagelock.specs.Places.{PageEntry, is_lost}
use Rattle.sd_pagelock.proofs.Uses.{lost-is}
use Rattle.sd_page.specs.Page.{Page}
use Rattle.sd_world.specs.Answers.{IsLowestLost, Undoes}
use Rattle.sd_world.specs.Bounds.{bounds_after}
use Rattle.sd_world.specs.Pages.{Pages}
use Rattle.sd_world.specs.Serving.{Core, Telling, Turns, refused}
use Rattle.sd_state.specs.Complexes.{parts}
use Rattle.sd_state.specs.Forcing.{KeepMasters}
use Rattle.sd_state.specs.Good.{Good}
use Rattle.sd_state.specs.Images.{Stands, log_by}
use Rattle.sd_state.specs.Locking.{IsSet}
use Rattle.sd_state.specs.Parts.{Parts, is_loose, status_at}
use Rattle.sd_state.specs.Values.{Pending}
use Rattle.sd_state.specs.declared.complex.Complex.{Complex}
use Rattle.sd_state.proofs.Masters.{masters-less}
use Rattle.sd_fits.specs.Fits.{Fits}
use Rattle.sd_fits.specs.Serving.{Serving, fits_by}
use Rattle.sd_fits.proofs.Falling.{numbers_of}
use Rattle.sd_fits.proofs.Places.{read-fits, read-spares, repaged, turns-repaged}
use Rattle.sd_recover.proofs.FreedFits.{freed, freed-fits, frees-lowest}
use Rattle.sd_fits.proofs.Served.{bounds-stay, none-ended}
use Rattle.sd_recover.specs.Rebuilding.{LeavesLost}
use Rattle.sd_recover.specs.Recovering.{HasOnlyRead}
use Rattle.sd_recover.specs.Tasks.{AreSettled}
use Rattle.sd_recover.proofs.Cleared.{opposite}
use Rattle.sd_transfer.specs.Breaking.{BreaksBy}
use Rattle.sd_transfer.proofs.Unput.{unread-served}

-- the lowest lost page is lost, and may be rebuilt
pub may-rebuild : (p : ℕ) (c : Parts) → IsLowestLost (entry_at c.directory) p → ((d : ℕ) → d ≤ 8 → is_loose c d ≡ false)
    → c.due ≡ None → MayRebuild p c
may-rebuild p c lowest settled idle = record {
  lost = lost-is (entry_at c.directory p) lowest.0;
  settled = settled;
  idle = idle;
}

module _ {G : Type 0} (tell : Telling G) (c : Complex G) (i by p : ℕ) (low : 1 ≤ i) (high : i ≤ 8)
    (recovers : status_at (parts c) i ≡ S.Recovering by) where
  abbrev event : Event
  event = RecoverStep i

  -- ---- what the world says of it

  module _ (w : Core) (f : fits_by tell.seen tell.leaves c w) where
    abbrev m : State
    m = w.scene.state

    at : (m.inst i).status ≡ S.Recovering by
    at = sym (f.good.instances i low high).status ∙ recovers

    recovering : IsNotRecovered m event → ⊥
    recovering never = never (by, at)

    -- a device that fails takes the recoverer down
    pub step-breaks : BreaksBy by event w
    step-breaks = record {
      nobodys = refl;
      falls = at;
      uncounted = refl;
      first = (refl, (f.good.not_closed, (recovering, (tt, tt))), tt);
      passes = (tt, (tt, (tt, tt)));
      did = Undoes.none refl;
      unused = tt;
    }

    abbrev pages : Pages
    pages = freed p (numbers_of (tell.seen c.rig) (tell.leaves c.rig) (parts c)) w.pages

    lowest-there : IsLowestLost (entry_at (parts c).directory) p → IsLowestLost w.pages.entry p
    lowest-there lowest = (
      ap is_lost (f.pages.entry p) ∙ lowest.0,
      λ q below. ap is_lost (f.pages.entry q) ∙ lowest.1 q below,
    )

    step-turns : IsLowestLost (entry_at (parts c).directory) p → Turns w event reply.Step (repaged w pages event reply.Step)
    step-turns lowest = turns-repaged w pages event reply.Step
        ((f.good.not_closed, (recovering, (tt, (tt, tt)))), refl)
        (λ t. sym (none-ended (tell.seen c.rig) (tell.leaves c.rig) (parts c) w f t))
        tt tt (
          (tt, (tt, (tt, (tt, tt)))),
          frees-lowest m i p (numbers_of (tell.seen c.rig) (tell.leaves c.rig) (parts c)) w.pages
              (lowest-there lowest),
        )
        tt

  -- ---- the page is free

  module _ (new : Complex G) (lowest : IsLowestLost (entry_at (parts c).directory) p) (settled : is_loose (parts c) 0 ≡ false)
      (good : (pend : Pending) (m : State) → Good (tell.seen c.rig) (tell.leaves c.rig) pend (parts c) m
      → Good (tell.seen new.rig) (tell.leaves new.rig) pend (parts new) m)
      (images : (pend : Pending) (m : State) → Good (tell.seen c.rig) (tell.leaves c.rig) pend (parts c) m
      → Span (tell.moment c.rig) (tell.since new.rig) (Stands m pend))
      (time : Elapses (tell.moment c.rig) (tell.moment new.rig) (tell.since c.rig) (tell.since new.rig))
      (versions : SameVersions (tell.seen c.rig) (tell.seen new.rig) (parts c))
      (others_leave : (d : ℕ) → d ≢ 0 → LeavesSame (tell.leaves c.rig d) (tell.leaves new.rig d))
      (is : parts new ≡ with_directory (parts new).directory (parts c))
      (set : IsSet p PageEntry.Free None (parts c).directory (parts new).directory)
      (quiet : tell.faults new.rig ≡ tell.faults c.rig) where
    abbrev places : DirectoryState Page
    places = (parts new).directory

    abbrev freed_parts : Parts
    freed_parts = record (with_loose_disk false (parts c)) { directory = places }

    kept : KeepMasters (tell.leaves c.rig) (tell.leaves new.rig)
    kept = masters-less (tell.leaves c.rig) (tell.leaves new.rig)
        (λ j lo bytes left. (others_leave j (λ e. omega (arith, lo, e)) bytes).0 left)

    parts-then : parts new ≡ freed_parts
    parts-then = is ∙ ap (with_directory places) (sym (disk-same (parts c) false settled))

    fits-then : (w : Core) (f : fits_by tell.seen tell.leaves c w) → fits_by tell.seen tell.leaves new
        (repaged w (pages w f) event reply.Step)
    fits-then w f = subst
        (λ (k : Parts). Fits (tell.seen new.rig) (tell.leaves new.rig) k (repaged w (pages w f) event reply.Step))
        (sym parts-then)
        (freed-fits p places (tell.seen c.rig) (tell.leaves c.rig) (parts c) set (tell.seen new.rig) (tell.leaves new.rig)
        versions kept w f (bounds_after w.bounds event reply.Step)
        (subst (λ (k : Parts). Good (tell.seen new.rig) (tell.leaves new.rig) Pending.Idle k w.scene.state) parts-then
        (good Pending.Idle w.scene.state f.good))
        (bounds-stay (tell.seen c.rig) (parts c) w.bounds event reply.Step tt f.bounds))

    pub rebuild-served : Serving tell event (Some reply.Step) c new
    rebuild-served = (
      λ w f. (
        repaged w (pages w f) event reply.Step,
        record {
          turns = step-turns w f lowest;
          fits_then = fits-then w f;
          passes = record {
            time = time;
            span = record { each = λ img s. inl ((images Pending.Idle w.scene.state f.good).each img s) };
          };
        },
      ),
      quiet,
    )

  -- ---- its newest version was read

  module _ (read : Complex G) (same : parts read ≡ parts c)
      (u : IsUnchanged (tell.seen c.rig) (tell.seen read.rig) (tell.leaves c.rig) (tell.leaves read.rig) (tell.moment c.rig)
      (tell.moment read.rig) (tell.since c.rig) (tell.since read.rig))
      (now : (img : DeviceImages) → tell.since c.rig (tell.moment c.rig) img → Leaves (tell.leaves c.rig) img)
      (good : (pend : Pending) (m : State) → Good (tell.seen c.rig) (tell.leaves c.rig) pend (parts c) m
      → Good (tell.seen read.rig) (tell.leaves read.rig) pend (parts read) m) where
    pub fits-read : (w : Core) → fits_by tell.seen tell.leaves c w → fits_by tell.seen tell.leaves read w
    fits-read w f = subst (λ (k : Parts). Fits (tell.seen read.rig) (tell.leaves read.rig) k w) (sym same)
        (read-fits tell c.rig read.rig u now (parts c) w f
        (subst (λ (k : Parts). Good (tell.seen read.rig) (tell.leaves read.rig) Pending.Idle k w.scene.state) same
        (good Pending.Idle w.scene.state f.good)))

    pub read-spared : tell.faults read.rig ≡ tell.faults c.rig → Serving tell event None c read
    read-spared quiet = ((λ w f. read-spares tell c read w u now f (fits-read w f)), quiet)

    same-versions : SameVersions (tell.seen c.rig) (tell.seen read.rig) (parts c)
    same-versions moved keeps q =
        ap (λ bytes. version_of (tails_of (log_by (parts c) moved)) (disk_page bytes) keeps q) (u.reads 0)

    -- there was no memory, or the device failed
    pub read-refused : is_loose (parts c) 0 ≡ false
        → ((pend : Pending) (m : State) → Good (tell.seen c.rig) (tell.leaves c.rig) pend (parts c) m
        → Span (tell.moment c.rig) (tell.since read.rig) (Stands m pend))
        → (n : Refusal) → ((n ≡ R.Memory) × (tell.faults read.rig ≡ tell.faults c.rig))
        ⊎ ((n ≡ R.Failed) × Rises (tell.faults c.rig) (tell.faults read.rig))
        → Serving tell event (refused n) c read
    read-refused settled images n why = ⊎_elim
        (λ w. subst (λ (r : Refusal). Serving tell event (refused r) c read) (sym w.0) (read-spared w.1))
        (λ w. subst (λ (r : Refusal). Serving tell event (refused r) c read) (sym w.0)
        (unread-served tell c read by event (λ w f. step-breaks w f) good images
        (read-elapses (tell.seen c.rig) (tell.seen read.rig) (tell.leaves c.rig) (tell.leaves read.rig) (tell.moment c.rig)
        (tell.moment read.rig) (tell.since c.rig) (tell.since read.rig) u)
        same-versions (λ d ne. u.outcomes d) w.1 (same ∙ sym (disk-same (parts c) false settled))))
        why

-- where each device is settled, a step that changed nothing has only read
pub settled-read : (seen : DeviceImages) (leaves : Outcomes) (old new : Parts) → AreSettled old → new ≡ old → HasOnlyRead seen leaves old new
settled-read seen leaves old new settled same = record {
  same = same;
  synced = λ dev lowest. absurd (opposite (is_loose old dev) lowest.1 (settled dev lowest.0));
}

-- what such a refusal leaves
pub read-left : (seen : DeviceImages) (leaves : Outcomes) (n : Refusal) (by : ℕ) (old new : Parts) (A B : Type 0) → AreSettled old
    → new ≡ old → ((n ≡ R.Memory) × A) ⊎ ((n ≡ R.Failed) × B) → LeavesLost seen leaves 0 n by old new
read-left seen leaves n by old new A B settled same why = ⊎_elim
    (λ w. subst (λ (r : Refusal). LeavesLost seen leaves 0 r by old new) (sym w.0) same)
    (λ w. subst (λ (r : Refusal). LeavesLost seen leaves 0 r by old new) (sym w.0) (inr (settled-read seen leaves old new settled same)))
    why
