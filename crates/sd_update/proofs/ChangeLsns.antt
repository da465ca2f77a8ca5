-- No page that a pool has, and none that a crash may leave, has an LSN above the greatest. For `change` and its law.
use Rattle.std.proofs.Common.{◌≡◌, ⊎_elim, ℕ, zero, suc, ◌≤◌, List, [], ◌++◌, sym, ap₂, subst, arith, false}
use Rattle.std.specs.Prelude.{Some}
use Rattle.std.proofs.lemmas.Bool.{cases_lt}
use Rattle.sd_logrec.specs.View.{Rec}
use Rattle.sd_page.specs.Page.{Page}
use Rattle.sd_pool.specs.Buffers as buffers
use Rattle.sd_rig.specs.Devices as rig
use Rattle.sd_model.specs.State.{State}
use Rattle.sd_chain.specs.Bytes.{disk_page}
use Rattle.sd_chain.specs.Cuts.{cut}
use Rattle.sd_chain.specs.Images.{Keeps, all_kept, with_disk}
use Rattle.sd_chain.specs.Records.{Each}
use Rattle.sd_chain.proofs.Changes as changes
use Rattle.sd_chain.specs.Logs.{Logs, Outcomes, all_at, base_at, may_of, tail_at, tails_of}
use Rattle.sd_chain.proofs.Lsns.{newest-low}
use Rattle.sd_state.specs.Good.{Good, Half, base_of, dir_of}
use Rattle.sd_state.specs.Images.{leaves_by, log_by}
use Rattle.sd_state.specs.Parts.{Parts, log_at, pool_at}
use Rattle.sd_state.specs.Values.{Pending}
use Rattle.sd_state.proofs.ChangedLists.{each-by, each-front, reached}

module _ (seen : rig.DeviceImages) (leaves : Outcomes) (pend : Pending) (c : Parts) (m : State) (g : Good seen leaves pend c m)
    (moved : Keeps) (great : ℕ) (disk : c.disk_lsn ≤ great)
    (logs : (j : ℕ) → 1 ≤ j → j ≤ 8 → Each (λ x. x.lsn ≤ great) (all_at (log_at c j))) where
  abbrev left : Outcomes
  left = leaves_by c moved leaves

  abbrev there : Logs
  there = log_by c moved

  abbrev h : Half seen left there pend c m
  h = g.half moved

  -- of what a crash may leave
  pub known-low : (p : ℕ) (z : Page) → may_of left p z → z.lsn ≤ great
  known-low p z may = ⊎_elim (λ le. omega (arith, le, disk))
      (λ r. reached z.lsn great (base_at (log_at c r.0)) r.3
      (each-front (λ q. q.lsn ≤ great) (base_at (log_at c r.0)) (tail_at (log_at c r.0)) (logs r.0 r.1 r.2)))
      (g.disk_lsns (λ j. false) p z (may.0, may.1.0, may.2))

  none : (j : ℕ) → base_at (there j) ++ tail_at (there j) ≡ [] → Each (λ q. q.lsn ≤ great) (all_at (there j))
  none j e = subst (Each (λ (q : Rec). q.lsn ≤ great)) (sym e) tt

  each : (j : ℕ) → Each (λ q. q.lsn ≤ great) (all_at (there j))
  each zero = none zero (ap₂ (λ (b t : List Rec). b ++ t) h.coherent.eight.0 h.coherent.eight.1)
  each (suc j) = ⊎_elim
      (λ lt. each-by (λ q. q.lsn ≤ great) c moved (suc j) (logs (suc j) (omega arith) (omega (arith, lt))))
      (λ ge. none (suc j) (h.coherent.safe.eight (suc j) ge))
      (cases_lt (suc j) 9)

  -- what a pool has is the newest version, whose LSN is the disk's or a record's
  pub image-low : (i p : ℕ) (image : Page) → buffers.image_at (pool_at c i) p ≡ Some image → image.lsn ≤ great
  image-low i p image copy = subst (λ (z : Page). z.lsn ≤ great)
      (sym (changes.held-now i p image (base_of seen left there c) (dir_of c) h.coherent copy))
      (newest-low (λ n. n ≤ great) (cut all_kept (with_disk (tails_of there) (disk_page (seen 0)))) p
      (known-low p (disk_page (seen 0) p) (h.coherent.reads p)) each)
