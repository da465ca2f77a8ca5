-- The forced records of a lost page, merged, are its chain: redone on what device 0 has they give its newest version. For the goals
-- of `newest_image` and `redo_all`.
use Rattle.std.proofs.Common.{◌≡◌, inr, ℕ, zero, suc, false, List, [], ◌∷◌, ◌++◌, get_or, refl, sym, ap, ◌∙◌, subst, append-nil}
use Rattle.std.specs.Prelude.{filter}
use mathlib.Core.Path.{fun_ext}
use Rattle.sd_logrec.specs.View.{Rec}
use Rattle.sd_log.specs.Logs.{LogState, flats, forced_in, placed_groups, scanned, without_tail}
use Rattle.sd_page.specs.Page.{Page}
use Rattle.sd_model.specs.State.{State}
use Rattle.sd_rig.specs.Devices as rig
use Rattle.sd_chain.specs.Bytes.{disk_page}
use Rattle.sd_chain.specs.Cuts.{cut}
use Rattle.sd_chain.specs.Storage.{Storage, all_of, chain, newest, sorted}
use Rattle.sd_chain.specs.Images.{Keeps, all_kept, with_disk}
use Rattle.sd_chain.specs.Pages.{FitAll, replay}
use Rattle.sd_chain.specs.Records.{of_page}
use Rattle.sd_chain.specs.World.{Base}
use Rattle.sd_chain.proofs.Versions
use Rattle.sd_chain.specs.Logs.{Outcomes, base_at, may_of, tails_of}
use Rattle.sd_state.specs.Good.{Good, Half, base_of}
use Rattle.sd_state.specs.Images.{leaves_by, log_by}
use Rattle.sd_state.specs.Laws.{newest_of}
use Rattle.sd_state.specs.Parts.{Parts, among, log_at, no_log}
use Rattle.sd_state.specs.Values.{Pending}
use Rattle.sd_redo.proofs.Flats.{flats-groups}
use Rattle.sd_moves.specs.Rebuilding.{MayRebuild, forced_chain}
use Rattle.sd_moves.proofs.PutMay.{lost-may}

-- ---- the forced records of a log

forced-base : (log : LogState) → flats (scanned (without_tail log)) ≡ base_at log
forced-base log = ap flats (append-nil (placed_groups log.groups)) ∙ flats-groups log.groups

in-order : (logs : List LogState) (j : ℕ) → forced_in logs (suc j) ≡ base_at (get_or logs j no_log)
in-order [] zero = refl
in-order [] (suc j) = refl
in-order (x ∷ xs) zero = forced-base x
in-order (x ∷ xs) (suc j) = in-order xs j

forced-at : (logs : List LogState) (j : ℕ) → forced_in logs j ≡ base_at (among no_log logs j) ++ []
forced-at logs zero = refl
forced-at logs (suc j) = in-order logs j ∙ sym (append-nil (base_at (get_or logs j no_log)))

-- ---- the chain of a page without tails

abbrev none_kept : Keeps
none_kept j = false

abbrev without : Parts → (ℕ → Page) → Storage
without c disk = cut none_kept (with_disk (tails_of (log_at c)) disk)

chain-forced : (p : ℕ) (c : Parts) (disk : ℕ → Page) → forced_chain p c.logs ≡ chain (without c disk) p
unfolding chain
chain-forced p c disk = ap (λ (f : ℕ → List Rec). sorted (filter (of_page p) (all_of f 9))) (fun_ext (forced-at c.logs))

newest-replayed : (img : Storage) (p : ℕ) → newest img p ≡ replay (img.disk p).lsn (img.disk p) (chain img p)
unfolding newest
newest-replayed img p = refl

module _ (p : ℕ) (seen : rig.DeviceImages) (leaves : Outcomes) (pend : Pending) (c : Parts) (m : State) (g : Good seen leaves pend c m)
    (can : MayRebuild p c) where
  abbrev wide : Outcomes
  wide = leaves_by c none_kept leaves

  abbrev disk : ℕ → Page
  disk = disk_page (seen 0)

  half : Half seen wide (log_by c none_kept) pend c m
  half = g.half none_kept

  -- it fits what device 0 has,
  pub merged-fits : FitAll (disk p).lsn (disk p) (forced_chain p c.logs)
  merged-fits = subst (FitAll (disk p).lsn (disk p)) (sym (chain-forced p c disk))
      ((half.coherent.safe.sound disk half.coherent.reads none_kept).pages p)

  abbrev base : Base (may_of wide)
  base = base_of seen wide (log_by c none_kept) c

  -- and redone on it gives the newest version
  pub merged-newest : replay (disk p).lsn (disk p) (forced_chain p c.logs) ≡ newest_of seen leaves c p
  merged-newest = ap (replay (disk p).lsn (disk p)) (chain-forced p c disk) ∙ sym (newest-replayed (without c disk) p)
      ∙ Versions.version-agree base.tails (may_of wide) base.version half.coherent.safe disk half.coherent.reads none_kept all_kept
      p (λ j. inr ((lost-may p (newest_of seen leaves c p) seen leaves pend c m g can refl).none none_kept j))
