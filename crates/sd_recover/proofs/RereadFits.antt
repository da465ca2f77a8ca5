-- A log that isn't settled is read again: how a complex goes on fitting. For the step of a recovery that settles a device.
use Rattle.std.proofs.Common.{◌≡◌, ◌≢◌, ⊎_elim, ℕ, ◌≤◌, true, List, refl, sym, ◌∙◌, subst, arith}
use Rattle.std.specs.Prelude.{None, IsSome}
use Rattle.std.proofs.lemmas.Bool.{cases_eq}
use mathlib.Core.Path.{fun_ext}
use Rattle.sd_base.specs.declared.ids.TxnId.{TxnId}
use Rattle.sd_base.specs.declared.place.Status.{Status}
use Rattle.sd_base.specs.declared.place.Status.TheVariants as S
use Rattle.sd_log.specs.Logs.{LogState}
use Rattle.sd_logrec.specs.View.{Rec}
use Rattle.sd_model.specs.Acts.{live}
use Rattle.sd_model.specs.Listed.{IsAtWork}
use Rattle.sd_model.specs.Lives.{SuitsStatus}
use Rattle.sd_model.specs.State.{State}
use Rattle.sd_model.specs.declared.act.Life.{Life}
use Rattle.sd_page.specs.Page.{Page}
use Rattle.sd_rig.specs.Devices as rig
use Rattle.sd_rig.specs.Devices.{LeavesOnly}
use Rattle.sd_txn.specs.Transactions.{Transactions, span_at}
use Rattle.sd_chain.specs.Bytes.{disk_page}
use Rattle.sd_chain.specs.Images.{Keeps, kept_at}
use Rattle.sd_chain.specs.Records.{IsOpen, home}
use Rattle.sd_chain.specs.Named.{version_of}
use Rattle.sd_chain.specs.Logs.{Less, Outcomes, all_at, tails_of}
use Rattle.sd_world.specs.Bounds.{Bounds}
use Rattle.sd_world.specs.Pages.{Pages, renumbered}
use Rattle.sd_world.specs.Serving.{Core}
use Rattle.sd_state.specs.Good.{Good}
use Rattle.sd_state.specs.Images.{log_by}
use Rattle.sd_state.specs.Parts.{Parts, count_at, is_loose, no_txns, status_at, txns_at}
use Rattle.sd_state.specs.Values.{Pending, is_committed}
use Rattle.sd_state.proofs.Items.{item-kept, item-set}
use Rattle.sd_state.proofs.LockReads.{less-good}
use Rattle.sd_moves.specs.Settling.{IsReread, with_reread}
use Rattle.sd_moves.proofs.SettledBounds.{kept-again, reach-again, reread-great, reread-owes}
use Rattle.sd_moves.proofs.SettledGood.{by-else, by-here, half-kept, log-else, was_at}
use Rattle.sd_moves.proofs.SettledTold.{not-up}
use Rattle.sd_moves.proofs.SettledWhole.{reread-good}
use Rattle.sd_fits.specs.Fits.{AreAtLeast, AreWithin, Fits, FitsBounds, FitsDoubts, FitsPages, HaveSlots, ReachesAtMost, capacities}
use Rattle.sd_fits.proofs.Falling.{numbers_of}
use Rattle.sd_fits.proofs.Forcing.{versions-same}

-- nobody is at work on an instance that isn't up
nobody-works : (life : Life) (s : Status) → s ≢ S.Up → SuitsStatus life s → IsAtWork life → ⊥
nobody-works life s down stands works = by life stands works
  where
    never : (s : Status) → s ≢ S.Up → SuitsStatus Life.Running s → ⊥
    never S.Up ne h = ne refl
    never S.Down ne h = h
    never (S.Recovering by) ne h = h
    never S.Clean ne h = h
    never S.Restarting ne h = h
    never S.Closed ne h = h

    by : (life : Life) → SuitsStatus life s → IsAtWork life → ⊥
    by Life.Gone stands works = works
    by Life.Running stands works = never s down stands
    by Life.Retained stands works = works
    by (Life.Rolling to) stands works = never s down stands
    by (Life.Doubt cut) stands works = works

module _ (i : ℕ) (seen : rig.DeviceImages) (leaves : Outcomes) (c found : Parts) (m : State) (low : 1 ≤ i) (high : i ≤ 8)
    (g : Good seen leaves Pending.Idle c m) (was_loose : is_loose c i ≡ true) (idle : c.due ≡ None)
    (only : LeavesOnly (seen i) (leaves i)) (reads : (d : ℕ) → d ≤ 8 → leaves d (seen d)) (read : IsReread i (seen i) c found) where
  abbrev new : Parts
  new = with_reread i found c

  abbrev was : Keeps → Keeps
  was moved = was_at i (seen i) c moved

  abbrev kept : Keeps → Keeps → Keeps
  kept moved keeps = kept_at i (half-kept i seen leaves c found m low high g was_loose idle only reads read moved) keeps

  same-version : (moved keeps : Keeps) (p : ℕ) → version_of (tails_of (log_by new moved)) (disk_page (seen 0)) keeps p
      ≡ version_of (tails_of (log_by c (was moved))) (disk_page (seen 0)) (kept moved keeps) p
  same-version moved keeps p = versions-same (tails_of (log_by c (was moved))) (tails_of (log_by new moved)) (disk_page (seen 0))
      (disk_page (seen 0)) (kept moved keeps) keeps p
      (kept-again i seen leaves c found m low high g was_loose idle only reads read moved keeps) (λ q. refl)

  -- pages are where they were, and have their numbers anew
  pub reread-pages : (before : Outcomes) (w : Pages) → FitsPages seen before c w
      → FitsPages seen leaves new (renumbered (numbers_of seen leaves new) w)
  reread-pages before w f = record { frames = f.frames; entry = f.entry; asks = f.asks; number = λ p there. refl; begun = f.begun }

  -- no sum grows
  pub reread-bounds : (b : Bounds) → FitsBounds seen leaves c b → FitsBounds seen leaves new b
  reread-bounds b f = record {
    slots = λ moved keeps p. subst (λ (x : Page). AreWithin (capacities x) (b.slots p)) (sym (same-version moved keeps p))
        (f.slots (was moved) (kept moved keeps) p);
    least = λ moved keeps p. subst (λ (x : Page). AreAtLeast (capacities x) (b.least p)) (sym (same-version moved keeps p))
        (f.least (was moved) (kept moved keeps) p);
    reach = λ moved j lo hi. ⊎_elim
        (λ e. subst (λ (k : ℕ). ReachesAtMost (b.reach k) (log_by new moved k)) (sym e)
        (subst (ReachesAtMost (b.reach i)) (sym (by-here i seen leaves c found m low high g was_loose idle only reads read moved))
        (reach-again i seen leaves c found m low high g was_loose idle only reads read moved (b.reach i)
        (f.reach (was moved) i low high))))
        (λ ne. subst (ReachesAtMost (b.reach j))
        (sym (by-else i seen leaves c found m low high g was_loose idle only reads read moved j ne)) (f.reach (was moved) j lo hi))
        (cases_eq j i);
    lsns =
        let great = reread-great i seen leaves c found m low high g was_loose idle only reads read in
        let owes = reread-owes i seen leaves c found m low high g was_loose idle only reads read in
        let old = f.lsns in omega (arith, great, owes, old);
    masters = λ j lo hi. ⊎_elim
        (λ e. subst (λ (k : ℕ). count_at new k ≤ b.masters k) (sym e)
        (subst (λ (n : ℕ). n ≤ b.masters i)
        (sym (item-set 0 c.masters i (count_at found i) low high g.shape.masters ∙ read.count))
        (f.left_masters i low high (seen i) (reads i high))))
        (λ ne. subst (λ (n : ℕ). n ≤ b.masters j) (sym (item-kept 0 c.masters i (count_at found i) low j ne)) (f.masters j lo hi))
        (cases_eq j i);
    left_masters = f.left_masters;
  }

  -- and those in doubt have their slots
  pub reread-doubts : FitsDoubts seen c m → FitsDoubts seen new m
  reread-doubts d moved keeps t doubt commits = subst (λ (v : ℕ → Page). HaveSlots v (live (m.part t).acts))
      (sym (fun_ext (same-version moved keeps)))
      (d (was moved) (kept moved keeps) t doubt (subst (λ (logs : ℕ → List Rec). is_committed logs t ≡ true)
      (fun_ext (kept-again i seen leaves c found m low high g was_loose idle only reads read moved keeps)) commits))

  at-work : (t : TxnId) → home t ≡ i → IsAtWork (m.part t).life → ⊥
  at-work t is works = nobody-works (m.part t).life (status_at c i)
      (not-up i seen leaves c found m low high g was_loose idle only reads read)
      (subst (λ (k : ℕ). SuitsStatus (m.part t).life (status_at c k)) is (subst (SuitsStatus (m.part t).life) (sym status) (g.placed.stands t)))
      works
    where
      status : status_at c (home t) ≡ (m.inst (home t)).status
      status = subst (λ (k : ℕ). status_at c k ≡ (m.inst k).status) (sym is) (g.instances i low high).status

-- A complex that fits fits the same world then, with pages numbered anew.
pub reread-fits : (i : ℕ) (seen : rig.DeviceImages) (leaves : Outcomes) (c found : Parts) (w : Core) → 1 ≤ i → i ≤ 8
    → Fits seen leaves c w → is_loose c i ≡ true → LeavesOnly (seen i) (leaves i) → ((d : ℕ) → d ≤ 8 → leaves d (seen d))
    → IsReread i (seen i) c found → (sums : Bounds) → FitsBounds seen leaves c sums
    → Fits seen leaves (with_reread i found c) (record {
      scene = w.scene;
      pages = renumbered (numbers_of seen leaves (with_reread i found c)) w.pages;
      bounds = sums;
    })
reread-fits i seen leaves c found w low high f was_loose only reads read sums b = record {
  good = reread-good i seen leaves c found w.scene.state low high f.good was_loose f.idle only reads read;
  idle = f.idle;
  rolling = λ t e. ⊎_elim
      (λ here. absurd (working t here (subst IsAtWork (sym e) tt)))
      (λ ne. subst (λ (l : LogState). IsOpen t (all_at l))
      (sym (log-else i seen leaves c found w.scene.state low high f.good was_loose f.idle only reads read (home t) ne)) (f.rolling t e))
      (cases_eq (home t) i);
  waits = f.waits;
  waiting = f.waiting;
  put = λ t works some. ⊎_elim
      (λ here. absurd (working t here works))
      (λ ne. f.put t works (subst (λ (x : Transactions). IsSome (span_at x t))
      (item-kept no_txns c.txns i (txns_at found i) low (home t) ne) some))
      (cases_eq (home t) i);
  pages = reread-pages i seen leaves c found w.scene.state low high f.good was_loose f.idle only reads read leaves w.pages f.pages;
  bounds = reread-bounds i seen leaves c found w.scene.state low high f.good was_loose f.idle only reads read sums b;
  doubts = reread-doubts i seen leaves c found w.scene.state low high f.good was_loose f.idle only reads read f.doubts;
}
  where
    working : (t : TxnId) → home t ≡ i → IsAtWork (w.scene.state.part t).life → ⊥
    working = at-work i seen leaves c found w.scene.state low high f.good was_loose f.idle only reads read

-- Less may be left, and all else is as it was: the complex fits on.
pub less-fits : (seen seen' : rig.DeviceImages) (leaves leaves' : Outcomes) (c : Parts) (w : Core) → Fits seen leaves c w
    → Less leaves leaves' → ((d : ℕ) → seen' d ≡ seen d) → ((d : ℕ) → d ≤ 8 → leaves' d (seen' d)) → Fits seen' leaves' c w
less-fits seen seen' leaves leaves' c w f less same reads = subst (λ (s : rig.DeviceImages). Fits s leaves' c w) (sym (fun_ext same)) (record {
  good = less-good seen leaves leaves' Pending.Idle c w.scene.state f.good less (λ d le. subst (leaves' d) (same d) (reads d le));
  idle = f.idle;
  rolling = f.rolling;
  waits = f.waits;
  waiting = f.waiting;
  put = f.put;
  pages = record {
    frames = f.pages.frames;
    entry = f.pages.entry;
    asks = f.pages.asks;
    number = f.pages.number;
    begun = f.pages.begun;
  };
  bounds = record {
    slots = f.bounds.slots;
    least = f.bounds.least;
    reach = f.bounds.reach;
    lsns = f.bounds.lsns;
    masters = f.bounds.masters;
    left_masters = λ j lo hi bytes left. f.bounds.left_masters j lo hi bytes (less j bytes left);
  };
  doubts = f.doubts;
})
