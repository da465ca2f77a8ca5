-- A step of a recovery that leaves the serial table, and one whose recoverer falls: for the tasks of a recovery.
use Rattle.std.proofs.Common.{◌≡◌, ◌⊎◌, inl, inr, ⊎_elim, ℕ, ◌≤◌, true, false, append-nil, List, ◌++◌, map, length, refl, sym, ap, ap₂, ◌∙◌, subst, arith}
use Rattle.std.specs.Prelude.{None, Some}
use Rattle.std.proofs.lemmas.Bool.{cases_eq}
use Rattle.std.proofs.lemmas.List.{get_or-set_same}
use Rattle.sd_base.specs.Streams.{Rises}
use Rattle.sd_base.specs.declared.place.Status.TheVariants as S
use Rattle.sd_base.specs.declared.refusal.Refusal.TheVariants as R
use Rattle.sd_log.specs.Logs.{LogState, forced}
use Rattle.sd_logrec.specs.View.{Rec, flat}
use Rattle.sd_logrec.specs.declared.record.Record.{Record}
use Rattle.sd_rig.specs.Devices.{DeviceImages, Elapses, Span}
use Rattle.sd_chain.specs.Checks.{owed}
use Rattle.sd_chain.specs.Records.{IsOpen, home}
use Rattle.sd_model.specs.State.{State, fall}
use Rattle.sd_model.specs.declared.event.Event.{Event}
use Rattle.sd_model.specs.declared.event.Event.TheVariants.{RecoverStep}
use Rattle.sd_model.specs.declared.event.Reply.{Reply}
use Rattle.sd_model.specs.declared.event.Reply.TheVariants as reply
use Rattle.sd_moves.specs.Falling.{IsFallen, with_fallen}
use Rattle.sd_chain.specs.Logs.{Outcomes, all_at, base_at}
use Rattle.sd_chain.proofs.Kept.{forced-base, forced-tail}
use Rattle.sd_world.specs.Answers.{Undoes}
use Rattle.sd_world.specs.Bounds.{Bounds}
use Rattle.sd_world.specs.Pages.{Pages}
use Rattle.sd_world.specs.Serving.{Core, Passes, Serves, Telling, Turns}
use Rattle.sd_state.specs.Complexes.{parts}
use Rattle.sd_state.specs.Forcing.{KeepMasters, with_failed, with_forced}
use Rattle.sd_state.specs.Good.{Good}
use Rattle.sd_state.specs.Images.{Stands}
use Rattle.sd_state.specs.Parts.{Parts, is_loose, log_at, no_log, owed_at, status_at}
use Rattle.sd_state.specs.Values.{Pending}
use Rattle.sd_state.specs.declared.complex.Complex.{Complex}
use Rattle.sd_state.proofs.Items.{item-kept, item-set}
use Rattle.sd_fits.specs.Fits.{Fits, FitsBounds, FitsDoubts, FitsPages}
use Rattle.sd_fits.specs.Serving.{Serving, fits_by, stands_for}
use Rattle.sd_fits.proofs.Forcing.{failed-bounds, failed-doubts, failed-pages, forced-bounds, forced-doubts, forced-pages}
use Rattle.sd_fits.proofs.Recovering.{IsAside, aside-fits, broken, broken-fits, broken-turns, step_sums}

-- ---- logs that are forced

-- all records of a forced log are those of the log
pub forced-whole : (l : LogState) → all_at (forced l) ≡ all_at l
forced-whole l = ap₂ (λ (b : List Rec) (t : List Record). b ++ map flat t) (forced-base l) (forced-tail l) ∙ append-nil (all_at l)

module _ (i j owes : ℕ) (c : Parts) (eight : length c.logs ≡ 8) (low : 1 ≤ j) (high : j ≤ 8) where
  abbrev there : Parts
  there = with_forced j (forced (log_at c j)) owes c

  pub log-forced : log_at there j ≡ forced (log_at c j)
  log-forced = item-set no_log c.logs j (forced (log_at c j)) low high eight

  pub all-same : (k : ℕ) → all_at (log_at there k) ≡ all_at (log_at c k)
  all-same k = ⊎_elim
      (λ e. subst (λ (n : ℕ). all_at (log_at there n) ≡ all_at (log_at c n)) (sym e) (ap all_at log-forced ∙ forced-whole (log_at c j)))
      (λ ne. ap all_at (item-kept no_log c.logs j (forced (log_at c j)) low k ne))
      (cases_eq k j)

  -- the force of a log changes nothing else
  pub forced-aside : IsAside i c there
  forced-aside = record {
    opens = λ t ne opens. subst (IsOpen t) (sym (all-same (home t))) opens;
    spans = λ t ne. refl;
    waits = λ t. refl;
  }

-- what a log owes that is forced is what all of its records owe
pub forced-owes : (j : ℕ) (seen : DeviceImages) (leaves : Outcomes) (c new : Parts) (m : State) → 1 ≤ j → j ≤ 8 → Good seen leaves Pending.Idle new m
    → log_at new j ≡ forced (log_at c j) → is_loose new j ≡ false → owed_at new j ≡ owed (all_at (log_at c j))
forced-owes j seen leaves c new m low high good is settled =
    good.owed j low high settled ∙ ap (λ (l : LogState). owed (base_at l)) is ∙ ap owed (forced-base (log_at c j))

-- ---- steps

-- who had only the former state to stand for stands for it still
module _ {G : Type 0} (tell : Telling G) (i by : ℕ) (old : Complex G) (low : 1 ≤ i) (high : i ≤ 8)
    (recovers : status_at (parts old) i ≡ S.Recovering by) where
  abbrev event : Event
  event = RecoverStep i

  abbrev GoodOld : State → Type 0
  GoodOld m = Good (tell.seen old.rig) (tell.leaves old.rig) Pending.Idle (parts old) m

  -- a call that spared all, and one after it that called no device, serve the event together
  pub then-serves : (mid new : Complex G) (r : Reply) → Serving tell event None old mid → new.rig ≡ mid.rig
      → ((w : Core) → fits_by tell.seen tell.leaves old w → fits_by tell.seen tell.leaves mid w
      → (w' : Core) × Turns w event r w' × Fits (tell.seen mid.rig) (tell.leaves mid.rig) (parts new) w')
      → (w : Core) → fits_by tell.seen tell.leaves old w
      → (w' : Core) × Serves {C = Complex G} tell stands_for (λ k. k.rig) (fits_by tell.seen tell.leaves) event r old new w w'
  then-serves mid new r spared same turns w f =
      let s = spared.0 w f in
      let t = turns w f s.fits_still in (
        t.0,
        record {
          turns = t.1;
          fits_then = subst (λ (d : G). Fits (tell.seen d) (tell.leaves d) (parts new) t.0) (sym same) t.2;
          passes = subst (λ (d : G). Passes tell stands_for old.rig d w.scene.state t.0.scene.state) (sym same) (record {
            time = s.passes.time;
            span = record { each = λ img since. inl (⊎_elim (λ x. x) (λ x. x) (s.passes.span.each img since)) };
          });
        },
      )

  module _ (mid : Complex G)
      (good : (m : State) → GoodOld m → Good (tell.seen mid.rig) (tell.leaves mid.rig) Pending.Idle (parts mid) m)
      (time : Elapses (tell.moment old.rig) (tell.moment mid.rig) (tell.since old.rig) (tell.since mid.rig))
      (span : (m : State) → GoodOld m → Span (tell.moment old.rig) (tell.since mid.rig) (Stands m Pending.Idle)) where
    pub passes-to : (new : Complex G) (m m' : State) → new.rig ≡ mid.rig → GoodOld m → Passes tell stands_for old.rig new.rig m m'
    passes-to new m m' same g = subst (λ (d : G). Passes tell stands_for old.rig d m m') (sym same) (record {
      time = time;
      span = record { each = λ img since. inl ((span m g).each img since) };
    })

    -- the force of a log spares all
    module _ (j : ℕ) (j_low : 1 ≤ j) (j_high : j ≤ 8) (settled : is_loose (parts old) j ≡ false)
        (disk : tell.seen mid.rig 0 ≡ tell.seen old.rig 0) (kept : KeepMasters (tell.leaves old.rig) (tell.leaves mid.rig))
        (is : parts mid ≡ with_forced j (forced (log_at (parts old) j)) (owed_at (parts mid) j) (parts old)) where
      fits-forced : (w : Core) → fits_by tell.seen tell.leaves old w → fits_by tell.seen tell.leaves mid w
      fits-forced w f =
          let m : State = w.scene.state in
          let owes : ℕ = owed_at (parts mid) j in
          let then : Parts = with_forced j (forced (log_at (parts old) j)) owes (parts old) in
          let there : log_at (parts mid) j ≡ forced (log_at (parts old) j) =
          ap (λ (k : Parts). log_at k j) is ∙ log-forced i j owes (parts old) f.good.shape.logs j_low j_high in
          let owed : owes ≡ owed (all_at (log_at (parts old) j)) = forced-owes j (tell.seen mid.rig) (tell.leaves mid.rig) (parts old) (parts mid) m
          j_low j_high (good m f.good) there (ap (λ (k : Parts). is_loose k j) is ∙ settled) in
          subst (λ (k : Parts). Fits (tell.seen mid.rig) (tell.leaves mid.rig) k w) (sym is)
          (aside-fits i by (tell.seen old.rig) (tell.leaves old.rig) (parts old) w f low high recovers (tell.seen mid.rig) (tell.leaves mid.rig)
          then w.pages w.bounds (forced-aside i j owes (parts old) f.good.shape.logs j_low j_high) f.idle
          (subst (λ (k : Parts). Good (tell.seen mid.rig) (tell.leaves mid.rig) Pending.Idle k m) is (good m f.good))
          (forced-pages j owes (tell.seen old.rig) (tell.seen mid.rig) (tell.leaves old.rig) (tell.leaves mid.rig) Pending.Idle (parts old) m
          f.good j_low j_high settled disk owed w.pages f.pages)
          (forced-bounds j owes (tell.seen old.rig) (tell.seen mid.rig) (tell.leaves old.rig) (tell.leaves mid.rig) Pending.Idle (parts old) m
          f.good j_low j_high settled disk owed kept w.bounds f.bounds)
          (forced-doubts j owes (tell.seen old.rig) (tell.seen mid.rig) (tell.leaves old.rig) (tell.leaves mid.rig) Pending.Idle (parts old) m
          f.good j_low j_high settled disk owed m f.doubts))

      pub force-spares : tell.faults mid.rig ≡ tell.faults old.rig → Serving tell event None old mid
      force-spares quiet = (
        λ w f. record { fits_still = fits-forced w f; passes = passes-to mid w.scene.state w.scene.state refl f.good },
        quiet,
      )

    -- ---- the recoverer falls

    module _ (by_low : 1 ≤ by) (by_high : by ≤ 8) (new : Complex G) (same : new.rig ≡ mid.rig)
        (is : parts new ≡ with_fallen by (parts new) (parts mid)) (fallen : IsFallen by (parts mid) (parts new))
        (down : (m : State) → Good (tell.seen mid.rig) (tell.leaves mid.rig) Pending.Idle (parts mid) m
        → Good (tell.seen new.rig) (tell.leaves new.rig) Pending.Idle (parts new) (fall by m))
        (w : Core) (f : fits_by tell.seen tell.leaves old w) (between : Pages) (aside : IsAside i (parts old) (parts mid)) where
      abbrev then : Core
      then = broken i by (tell.seen old.rig) (tell.leaves old.rig) (parts old) w f low high recovers (tell.seen mid.rig) (tell.leaves mid.rig)
          (parts mid) (parts new) between by_low by_high aside (good w.scene.state f.good) is fallen

      pub breaks : Undoes w.scene.state i w.pages between
          → FitsPages (tell.seen mid.rig) (tell.leaves mid.rig) (parts mid) between
          → FitsBounds (tell.seen mid.rig) (tell.leaves mid.rig) (parts mid) (step_sums i w) → FitsDoubts (tell.seen mid.rig) (parts mid) w.scene.state
          → (w' : Core) × Serves {C = Complex G} tell stands_for (λ k. k.rig) (fits_by tell.seen tell.leaves) event (reply.Refused R.Failed)
          old new w w'
      breaks did pages bounds doubts = (
        then,
        record {
          turns = broken-turns i by (tell.seen old.rig) (tell.leaves old.rig) (parts old) w f low high recovers (tell.seen mid.rig)
              (tell.leaves mid.rig) (parts mid) (parts new) between by_low by_high aside (good w.scene.state f.good) is fallen did;
          fits_then = subst (λ (d : G). Fits (tell.seen d) (tell.leaves d) (parts new) then) (sym same)
              (broken-fits i by (tell.seen old.rig) (tell.leaves old.rig) (parts old) w f low high recovers (tell.seen mid.rig)
              (tell.leaves mid.rig) (parts mid) (parts new) between by_low by_high aside (good w.scene.state f.good) is fallen pages bounds doubts
              (subst (λ (d : G). Good (tell.seen d) (tell.leaves d) Pending.Idle (parts new) (fall by w.scene.state)) same
              (down w.scene.state (good w.scene.state f.good))));
          passes = passes-to new w.scene.state (fall by w.scene.state) same f.good;
        },
      )

-- ---- a force that failed

module _ (a j : ℕ) (seen seen' : DeviceImages) (leaves leaves' : Outcomes) (s mid : Parts) (m : State) (g : Good seen leaves Pending.Idle s m)
    (low : 1 ≤ j) (high : j ≤ 8) (settled : is_loose s j ≡ false) (disk : seen' 0 ≡ seen 0) (kept : KeepMasters leaves leaves')
    (is : mid ≡ with_failed a j s) where
  -- pages, sums and whoever is in doubt fit on
  pub failed-all : (pages : Pages) (sums : Bounds) → FitsPages seen leaves s pages → FitsBounds seen leaves s sums → FitsDoubts seen s m
      → FitsPages seen' leaves' mid pages × FitsBounds seen' leaves' mid sums × FitsDoubts seen' mid m
  failed-all pages sums p b d = (
    subst (λ (k : Parts). FitsPages seen' leaves' k pages) (sym is)
        (failed-pages a j seen seen' leaves leaves' Pending.Idle s m g low high settled disk pages p),
    subst (λ (k : Parts). FitsBounds seen' leaves' k sums) (sym is)
        (failed-bounds a j seen seen' leaves leaves' Pending.Idle s m g low high settled disk kept sums b),
    subst (λ (k : Parts). FitsDoubts seen' k m) (sym is)
        (failed-doubts a j seen seen' leaves leaves' Pending.Idle s m g low high settled disk m d),
  )

  -- who acted is to fall by that log
  pub failed-due : (mid.due ≡ None) ⊎ ((k : ℕ) × (mid.due ≡ Some (a, k)) × (is_loose mid k ≡ true))
  failed-due = inr (
    j,
    ap (λ (k : Parts). k.due) is,
    ap (λ (k : Parts). is_loose k j) is ∙ get_or-set_same s.loose j true true (let nine = g.shape.loose in omega (arith, nine, high)),
  )

  -- a failed force changes nothing of logs, tables and locks
  pub failed-aside : (i : ℕ) (c : Parts) → IsAside i c s → IsAside i c mid
  failed-aside i c aside = subst (IsAside i c) (sym is) (record { opens = aside.opens; spans = aside.spans; waits = aside.waits })

pub same-aside : (i : ℕ) (c : Parts) → IsAside i c c
same-aside i c = record { opens = λ t ne opens. opens; spans = λ t ne. refl; waits = λ t. refl }

-- the devices' faults rose before the fall, which calls none
pub rises : {G : Type 0} (tell : Telling G) (old mid new : G) → new ≡ mid → Rises (tell.faults old) (tell.faults mid)
    → Rises (tell.faults old) (tell.faults new)
rises tell old mid new same up = subst (λ d. Rises (tell.faults old) (tell.faults d)) (sym same) up

-- one change after another
pub aside-then : (i : ℕ) (c s mid : Parts) → IsAside i c s → IsAside i s mid → IsAside i c mid
aside-then i c s mid a b = record {
  opens = λ t ne opens. b.opens t ne (a.opens t ne opens);
  spans = λ t ne. b.spans t ne ∙ a.spans t ne;
  waits = λ t. b.waits t ∙ a.waits t;
}
