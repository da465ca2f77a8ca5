-- A record on which nobody has an exclusive claim has its committed value in the newest version of its page. For the list of
-- a page.
use Rattle.std.proofs.Common.{◌≡◌, ℕ, true, false, List, map, filter, sym, ap, ◌∙◌, subst, append-nil}
use Rattle.sd_base.specs.declared.ids.Rid.{Rid}
use Rattle.sd_base.specs.declared.ids.TxnId.{TxnId}
use Rattle.sd_logrec.specs.View.{Rec}
use Rattle.sd_model.specs.Acts.{after, live, seen_over}
use Rattle.sd_model.specs.Claims.{Owns}
use Rattle.sd_model.specs.State.{State, now}
use Rattle.sd_model.specs.Tables.{Contents}
use Rattle.sd_model.proofs.Claims.{seen-apart}
use Rattle.sd_model.proofs.Swap.{after-append}
use Rattle.sd_rig.specs.Devices.{DeviceImages}
use Rattle.sd_chain.specs.Images.{Keeps, all_kept}
use Rattle.sd_chain.specs.Pages.{value}
use Rattle.sd_chain.specs.Records.{home, stack}
use Rattle.sd_chain.proofs.OneUpdater.{value-committed}
use Rattle.sd_chain.specs.Logs.{Outcomes, all_at, kept_logs, tails_of}
use Rattle.sd_state.specs.Good.{Good, Half, base_of, dir_of}
use Rattle.sd_state.specs.Images.{leaves_by, log_by}
use Rattle.sd_state.specs.Laws.{newest_of}
use Rattle.sd_state.specs.Parts.{Parts, log_at}
use Rattle.sd_state.specs.Values.{Pending, as_done, decided, is_committed, is_doubt, values}
use Rattle.sd_state.proofs.ChangedLists.{each-front}
use Rattle.sd_fits.proofs.Values.{after-doubts, doubt-commits, none-owned}

module _ (seen_by : DeviceImages) (leaves : Outcomes) (c : Parts) (m : State) (r : Rid) (g : Good seen_by leaves Pending.Idle c m)
    (unclaimed : (u : TxnId) → Owns ((m.part u).claims r) → ⊥) where
  abbrev still : Keeps
  still j = false

  h : Half seen_by (leaves_by c still leaves) (log_by c still) Pending.Idle c m
  h = g.half still

  abbrev kept : ℕ → List Rec
  kept = kept_logs (tails_of (log_by c still)) all_kept

  -- those in doubt put nothing there
  doubts-still : (u : TxnId) → is_doubt (m.part u).life ≡ true → (base : Contents) → seen_over base (live (m.part u).acts) r ≡ base r
  doubts-still u doubt base = seen-apart (m.part u).claims base (live (m.part u).acts) r
      (g.kept.covered u (doubt-commits (m.part u).life doubt)).owned (unclaimed u)

  pub unclaimed-there : value (newest_of seen_by leaves c r.page).slots r.slot ≡ now m r
  unclaimed-there =
      value-committed (base_of seen_by (leaves_by c still leaves) (log_by c still) c) (dir_of c) h.coherent r.page r.slot
      (λ keeps. values m Pending.Idle (kept_logs (tails_of (log_by c still)) keeps)) h.gives
      (λ u opens. none-owned (m.part u).claims r (stack u (all_at (log_at c (home u))))
      (λ e. unclaimed u (subst Owns (sym e) tt)) (h.held u (each-front _ _ _ opens)))
      ∙ ap (λ (f : Contents). f r) (after-append m.start m.done (decided m Pending.Idle kept))
      ∙ ap (λ (us : List TxnId). after (now m) (map (as_done m) (filter (is_committed kept) us)) r)
      (append-nil (filter (λ u. is_doubt (m.part u).life) m.cuts))
      ∙ after-doubts m (is_committed kept) r (λ u doubt is. doubts-still u doubt) m.cuts (now m)
