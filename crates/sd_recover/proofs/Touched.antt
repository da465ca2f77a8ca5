-- What a fall leaves of what no world has: for the goals of `fail` and `join`, and of the tasks of a recovery.
use Rattle.std.proofs.Common.{◌≡◌, ◌≢◌, ◌⊎◌, inl, inr, ⊎_elim, ℕ, ◌-◌, ◌≤◌, Bool, true, false, cond, ◌&&◌, ◌||◌, not, List, length, get_or, slice_set, refl, sym, ap, ap₂, ◌∙◌, subst, arith, eq-eqb, ne_eqb}
use Rattle.std.specs.Prelude.{None, Option, Some, is_none}
use Rattle.std.proofs.lemmas.Bool.{cases_eq}
use Rattle.std.proofs.lemmas.List.{get_or-set_other, get_or-set_same}
use Rattle.sd_base.specs.Standing.{is_up}
use Rattle.sd_base.specs.declared.place.Status.{Status}
use Rattle.sd_base.specs.declared.place.Status.TheVariants as S
use Rattle.sd_log.specs.Logs.{LogState, has_tail}
use Rattle.sd_moves.specs.Falling.{IsFallen, emptied_pool, falls_at, falls_with, owed_dropped, unsettles_at, with_fallen}
use Rattle.sd_pagelock.specs.Directory.{rec_lsn_at}
use Rattle.sd_state.specs.Forcing.{with_failed}
use Rattle.sd_state.specs.Fresh.{empty_pool}
use Rattle.sd_state.specs.Parts.{Begun, Parts, is_loose, log_at, no_pool, no_txns, owed_at, pool_at, status_at, txns_at}
use Rattle.sd_state.proofs.Items.{item-kept}
use Rattle.sd_fits.specs.Untouched.{FallTouches, none_of, only}
use Rattle.sd_fits.proofs.Falling.{pool-emptied}

-- ---- a device of which a call failed

pub failed-marks : (a i : ℕ) (s mid : Parts) → mid ≡ with_failed a i s → (d : ℕ) → d ≢ i → is_loose mid d ≡ is_loose s d
failed-marks a i s mid is d ne = ap (λ (k : Parts). is_loose k d) is ∙ get_or-set_other s.loose i d true true ne

pub failed-kept : (a i : ℕ) (s mid : Parts) → mid ≡ with_failed a i s → i ≤ 8 → length s.loose ≡ 9 → (d : ℕ) → is_loose s d ≡ true
    → is_loose mid d ≡ true
failed-kept a i s mid is high nine d on = ⊎_elim
    (λ e. ap (λ (k : Parts). is_loose k d) is
    ∙ subst (λ (n : ℕ). get_or (slice_set s.loose i true) n true ≡ true) (sym e) (get_or-set_same s.loose i true true (omega (arith, nine, high))))
    (λ ne. failed-marks a i s mid is d ne ∙ on)
    (cases_eq d i)

-- another one
pub only-other : (a d : ℕ) → only a d ≡ false → d ≢ a
only-other a d off e = let clash = sym (eq-eqb a d (sym e)) ∙ off in absurd (cc)

-- ---- a fall

either-way : (a b : Bool) (n m : ℕ) → is_none (cond {A = Option ℕ} a None (cond {A = Option ℕ} b (Some n) None))
    ≡ is_none (cond {A = Option ℕ} a None (cond {A = Option ℕ} b (Some m) None))
either-way true b n m = refl
either-way false true n m = refl
either-way false false n m = refl

stays-true : (b : Bool) → cond b true true ≡ true
stays-true true = refl
stays-true false = refl

-- Instance j falls; before it calls of these devices failed, and these pages' RecLSNs changed.
module _ (j : ℕ) (failed which : ℕ → Bool) (old mid new : Parts) (low : 1 ≤ j)
    (statuses : (k : ℕ) → status_at mid k ≡ status_at old k)
    (marks : (d : ℕ) → failed d ≡ false → is_loose mid d ≡ is_loose old d)
    (kept : (d : ℕ) → is_loose old d ≡ true → is_loose mid d ≡ true)
    (logs : (d : ℕ) → failed d ≡ false → log_at mid d ≡ log_at old d)
    (tables : (k : ℕ) → k ≢ j → txns_at mid k ≡ txns_at old k)
    (checks : mid.checks ≡ old.checks) (masters : mid.masters ≡ old.masters) (others : mid.others ≡ old.others)
    (disk_lsn : mid.disk_lsn ≡ old.disk_lsn)
    (frames : (pool_at mid j).frames ≡ (pool_at old j).frames) (pools : (k : ℕ) → k ≢ j → pool_at mid k ≡ pool_at old k)
    (recs : (p : ℕ) → which p ≡ false → rec_lsn_at mid.directory p ≡ rec_lsn_at old.directory p)
    (is : new ≡ with_fallen j new mid) (fallen : IsFallen j mid new) where
  -- the log of j itself
  none-same : failed j ≡ false → is_none (owed_dropped j mid) ≡ is_none (owed_dropped j old)
  none-same off =
      ap (λ (b : Bool). is_none (cond {A = Option ℕ} b None (cond {A = Option ℕ} (is_up (status_at mid j) || not (has_tail (log_at mid j)))
      (Some (owed_at mid j)) None))) (marks j off)
      ∙ ap (λ (b : Bool). is_none (cond {A = Option ℕ} (is_loose old j) None (cond {A = Option ℕ} b (Some (owed_at mid j)) None)))
      (ap₂ (λ (s : Status) (l : LogState). is_up s || not (has_tail l)) (statuses j) (logs j off))
      ∙ either-way (is_loose old j) (is_up (status_at old j) || not (has_tail (log_at old j))) (owed_at mid j) (owed_at old j)

  abbrev by_log : Parts → ℕ → Bool → Bool
  by_log c d b = cond b (is_none (owed_dropped j c)) (falls_at j c d && has_tail (log_at c d))

  unsettles-same : (d : ℕ) → failed d ≡ false → unsettles_at j mid d ≡ unsettles_at j old d
  unsettles-same d off = ⊎_elim
      (λ e. ap (by_log mid d) (eq-eqb j d e) ∙ none-same (ap failed e ∙ off) ∙ sym (ap (by_log old d) (eq-eqb j d e)))
      (λ ne. ap (by_log mid d) (ne_eqb j d ne)
      ∙ ap₂ (λ (s : Status) (l : LogState). falls_with j d s && has_tail l) (statuses d) (logs d off)
      ∙ sym (ap (by_log old d) (ne_eqb j d ne)))
      (cases_eq j d)

  loose-by : (d : ℕ) → is_loose new d ≡ true → (is_loose old d ≡ true) ⊎ ((failed d ≡ true) ⊎ (unsettles_at j old d ≡ true))
  loose-by d on = by (failed d) (unsettles_at j mid d) refl refl
    where
      by : (b u : Bool) → failed d ≡ b → unsettles_at j mid d ≡ u
          → (is_loose old d ≡ true) ⊎ ((failed d ≡ true) ⊎ (unsettles_at j old d ≡ true))
      by true u f e = inr (inl f)
      by false true f e = inr (inr (sym (unsettles-same d f) ∙ e))
      by false false f e = inl (sym (marks d f) ∙ sym (ap (λ (b : Bool). cond b true (is_loose mid d)) e) ∙ sym (fallen.loose d) ∙ on)

  pub fall-touches : FallTouches j failed which old new
  fall-touches = record {
    status = λ k. fallen.status k ∙ ap (λ (s : Status). cond {A = Status} (falls_with j k s) S.Down s) (statuses k);
    loose = loose-by;
    stays = λ d on. fallen.loose d ∙ ap (λ (b : Bool). cond (unsettles_at j mid d) true b) (kept d on) ∙ stays-true (unsettles_at j mid d);
    tables = λ k ne. ap (λ (c : Parts). txns_at c k) is ∙ item-kept no_txns mid.txns j (txns_at new j) low k ne ∙ tables k ne;
    checks = ap (λ (c : Parts). c.checks) is ∙ ap (λ (l : List (Option Begun)). slice_set {A = Option Begun} l (j - 1) None) checks;
    masters = ap (λ (c : Parts). c.masters) is ∙ masters;
    others = ap (λ (c : Parts). c.others) is ∙ others;
    disk_lsn = ap (λ (c : Parts). c.disk_lsn) is ∙ disk_lsn;
    pool = ap (λ (c : Parts). pool_at c j) is ∙ pool-emptied j mid new ∙ ap empty_pool frames;
    pools = λ k ne. ap (λ (c : Parts). pool_at c k) is ∙ item-kept no_pool mid.pools j (emptied_pool (pool_at mid j)) low k ne ∙ pools k ne;
    recs = λ p off. fallen.rec_lsns p ∙ recs p off;
  }

-- nothing was before it
pub fall-alone : (j : ℕ) (failed : ℕ → Bool) (old new : Parts) → 1 ≤ j → new ≡ with_fallen j new old → IsFallen j old new
    → FallTouches j failed none_of old new
fall-alone j failed old new low is fallen = fall-touches j failed none_of old old new low (λ k. refl) (λ d off. refl) (λ d on. on)
    (λ d off. refl) (λ k ne. refl) refl refl refl refl refl (λ k ne. refl) (λ p off. refl) is fallen
