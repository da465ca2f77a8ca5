-- What events of pages leave of what no world has: for the goals of the calls.
use Rattle.std.proofs.Common.{◌≡◌, ◌≢◌, ◌⊎◌, inl, inr, ⊎_elim, ℕ, ◌+◌, ◌-◌, ◌≤◌, Bool, true, false, cond, [], refl, sym, ap, ◌∙◌, subst, arith, slice_set, eq-eqb, ne_eqb}
use Rattle.std.specs.Prelude.{Option, None, Some, Result, Ok, Err, IfErr, OnErr, OnOk, is_none, is_some, length, not, ◌&&◌, ◌||◌}
use Rattle.std.proofs.lemmas.Bool.{cases_eq}
use Rattle.std.proofs.lemmas.List.{get_or-set_other, get_or-set_same}
use Rattle.sd_base.specs.Standing.{is_up}
use Rattle.sd_base.specs.declared.place.Status.{Status}
use Rattle.sd_base.specs.declared.place.Status.TheVariants as S
use Rattle.sd_base.specs.declared.refusal.Refusal.{Refusal}
use Rattle.sd_base.specs.declared.refusal.Refusal.TheVariants as R
use Rattle.sd_fits.proofs.Refused.{unlike}
use Rattle.sd_fits.specs.Untouched.{FallTouches, IsUntouched, none_of, only}
use Rattle.sd_fits.proofs.Falling.{pool-emptied}
use Rattle.sd_log.specs.Logs.{LogState, are_there, has_tail}
use Rattle.sd_moves.specs.Falling.{IsFallen, emptied_pool, falls_at, owed_dropped, unsettles_at, with_fallen}
use Rattle.sd_moves.specs.Putting.{with_loose_disk, with_written}
use Rattle.sd_page.specs.Page.{Page}
use Rattle.sd_pagelock.specs.Directory.{DirectoryState, entry_at, kept_rec, rec_lsn_at}
use Rattle.sd_pagelock.specs.Places.{PageEntry, changed, is_lost}
use Rattle.sd_pagelock.specs.Rows.{may_write, written}
use Rattle.sd_pagelock.proofs.Uses.{clean-written}
use Rattle.sd_pool.specs.Buffers.{Buffers}
use Rattle.sd_state.specs.Forcing.{with_failed}
use Rattle.sd_state.specs.Locking.{IsSet, with_place}
use Rattle.sd_state.specs.Parts.{Begun, Parts, is_loose, log_at, no_pool, no_txns, owed_at, pool_at, status_at, txns_at}
use Rattle.sd_state.proofs.Items.{item-kept}
use Rattle.sd_transfer.specs.Forcing.{OnlyLogs, OthersKeepLogs}
use Rattle.sd_transfer.specs.Touching.{Touches}
use Rattle.sd_transfer.specs.Writing.{IsPut, IsUnput, WriteTouches}

-- ---- nothing happened, and one thing behind another

pub same-untouched : (whose which : ℕ → Bool) (old new : Parts) → new ≡ old → IsUntouched whose which old new
same-untouched whose which old new is = record {
  loose = ap (λ (k : Parts). k.loose) is;
  checks = ap (λ (k : Parts). k.checks) is;
  masters = ap (λ (k : Parts). k.masters) is;
  others = ap (λ (k : Parts). k.others) is;
  disk_lsn = ap (λ (k : Parts). k.disk_lsn) is;
  pools = λ j none. ap (λ (k : Parts). pool_at k j) is;
  recs = λ p none. ap (λ (k : Parts). rec_lsn_at k.directory p) is;
}

pub untouched-then : (whose which : ℕ → Bool) (a b c : Parts) → IsUntouched whose which a b → IsUntouched whose which b c
    → IsUntouched whose which a c
untouched-then whose which a b c first second = record {
  loose = second.loose ∙ first.loose;
  checks = second.checks ∙ first.checks;
  masters = second.masters ∙ first.masters;
  others = second.others ∙ first.others;
  disk_lsn = second.disk_lsn ∙ first.disk_lsn;
  pools = λ j none. second.pools j none ∙ first.pools j none;
  recs = λ p none. second.recs p none ∙ first.recs p none;
}

-- no pool more is touched
pub untouched-but : (whose whose' which : ℕ → Bool) (old new : Parts) → ((j : ℕ) → whose' j ≡ false → whose j ≡ false)
    → IsUntouched whose which old new → IsUntouched whose' which old new
untouched-but whose whose' which old new less u = record {
  loose = u.loose;
  checks = u.checks;
  masters = u.masters;
  others = u.others;
  disk_lsn = u.disk_lsn;
  pools = λ j none. u.pools j (less j none);
  recs = u.recs;
}

-- a force touches none of it
pub logs-untouched : (whose which : ℕ → Bool) (old new : Parts) → OnlyLogs old new → IsUntouched whose which old new
logs-untouched whose which old new is = record {
  loose = ap (λ (k : Parts). k.loose) is;
  checks = ap (λ (k : Parts). k.checks) is;
  masters = ap (λ (k : Parts). k.masters) is;
  others = ap (λ (k : Parts). k.others) is;
  disk_lsn = ap (λ (k : Parts). k.disk_lsn) is;
  pools = λ j none. ap (λ (k : Parts). pool_at k j) is;
  recs = λ p none. ap (λ (k : Parts). rec_lsn_at k.directory p) is;
}

-- and what is so behind it is so of what was before
pub untouched-behind : (whose which : ℕ → Bool) (old mid new : Parts) → OnlyLogs old mid → IsUntouched whose which mid new
    → IsUntouched whose which old new
untouched-behind whose which old mid new logs u =
    untouched-then whose which old mid new (logs-untouched whose which old mid logs) u

-- as it is of what was settled before
settled-behind : (whose which : ℕ → Bool) (old mid new : Parts) → OnlyLogs old mid
    → IsUntouched whose which (with_loose_disk false mid) new → IsUntouched whose which (with_loose_disk false old) new
settled-behind whose which old mid new logs u = record {
  loose = u.loose ∙ ap (λ (k : Parts). slice_set k.loose 0 false) logs;
  checks = u.checks ∙ ap (λ (k : Parts). k.checks) logs;
  masters = u.masters ∙ ap (λ (k : Parts). k.masters) logs;
  others = u.others ∙ ap (λ (k : Parts). k.others) logs;
  disk_lsn = u.disk_lsn ∙ ap (λ (k : Parts). k.disk_lsn) logs;
  pools = λ j none. u.pools j none ∙ ap (λ (k : Parts). pool_at k j) logs;
  recs = λ p none. u.recs p none ∙ ap (λ (k : Parts). rec_lsn_at k.directory p) logs;
}

-- ---- pages

kept-same : (b : Bool) (l : Option ℕ) → is_some l ≡ b → kept_rec b b l None ≡ l
kept-same true l is = refl
kept-same false None is = refl
kept-same false (Some x) is = absurd (cc)

-- a page keeps its RecLSN as it moves
pub set-recs : (p : ℕ) (to : PageEntry) (old new : DirectoryState Page) → IsSet p to None old new
    → is_some (rec_lsn_at old p) ≡ changed (entry_at old p) → changed to ≡ changed (entry_at old p) → (q : ℕ)
    → rec_lsn_at new q ≡ rec_lsn_at old q
set-recs p to old new set marks same q = ⊎_elim
    (λ e. subst (λ (k : ℕ). rec_lsn_at new k ≡ rec_lsn_at old k) (sym e)
    (set.rec_lsn ∙ ap (λ (b : Bool). kept_rec (changed (entry_at old p)) b (rec_lsn_at old p) None) same
    ∙ kept-same (changed (entry_at old p)) (rec_lsn_at old p) marks))
    (λ ne. set.other_rec_lsns q ne)
    (cases_eq q p)

-- the page comes into the pool of i, or goes
pub placed-untouched : (whose : ℕ → Bool) (i : ℕ) (pool : Buffers) (old new : Parts) → 1 ≤ i → whose i ≡ true
    → new ≡ with_place i pool new.directory old → ((q : ℕ) → rec_lsn_at new.directory q ≡ rec_lsn_at old.directory q)
    → IsUntouched whose none_of old new
placed-untouched whose i pool old new low its is recs = record {
  loose = ap (λ (k : Parts). k.loose) is;
  checks = ap (λ (k : Parts). k.checks) is;
  masters = ap (λ (k : Parts). k.masters) is;
  others = ap (λ (k : Parts). k.others) is;
  disk_lsn = ap (λ (k : Parts). k.disk_lsn) is;
  pools = λ j none. ap (λ (k : Parts). pool_at k j) is
      ∙ item-kept no_pool old.pools i pool low j (λ e. unlike none (ap whose e ∙ its));
  recs = λ p none. recs p;
}

-- and each pool stays where only the directory changes
pub listed-untouched : (whose : ℕ → Bool) (old new : Parts) → new ≡ record old { directory = new.directory }
    → ((q : ℕ) → rec_lsn_at new.directory q ≡ rec_lsn_at old.directory q) → IsUntouched whose none_of old new
listed-untouched whose old new is recs = record {
  loose = ap (λ (k : Parts). k.loose) is;
  checks = ap (λ (k : Parts). k.checks) is;
  masters = ap (λ (k : Parts). k.masters) is;
  others = ap (λ (k : Parts). k.others) is;
  disk_lsn = ap (λ (k : Parts). k.disk_lsn) is;
  pools = λ j none. ap (λ (k : Parts). pool_at k j) is;
  recs = λ p none. recs p;
}

-- ---- an instance falls

unsettles-own : (j : ℕ) (c : Parts) → unsettles_at j c j ≡ is_none (owed_dropped j c)
unsettles-own j c = ap (λ (b : Bool). cond b (is_none (owed_dropped j c)) (falls_at j c j && has_tail (log_at c j))) (eq-eqb j j refl)

unsettles-else : (j d : ℕ) (c : Parts) → d ≢ j → unsettles_at j c d ≡ (falls_at j c d && has_tail (log_at c d))
unsettles-else j d c ne = ap (λ (b : Bool). cond b (is_none (owed_dropped j c)) (falls_at j c d && has_tail (log_at c d)))
    (ne_eqb j d (λ e. ne (sym e)))

-- Instance j fell behind `mid`, which had other marks than `old`, and owed something else.
module _ (j : ℕ) (failed : ℕ → Bool) (old mid new : Parts) (low : 1 ≤ j)
    (stays : mid ≡ record old { owed = mid.owed; loose = mid.loose; due = mid.due })
    (marks : (d : ℕ) → is_loose mid d ≡ true → (is_loose old d ≡ true) ⊎ (failed d ≡ true))
    (keeps : (d : ℕ) → is_loose old d ≡ true → is_loose mid d ≡ true)
    (own : is_none (owed_dropped j mid) ≡ true
    → (is_loose old j ≡ true) ⊎ ((failed j ≡ true) ⊎ (is_none (owed_dropped j old) ≡ true)))
    (is : new ≡ with_fallen j new mid) (fallen : IsFallen j mid new) where
  abbrev IsTold : ℕ → Type 0
  IsTold d = (is_loose old d ≡ true) ⊎ ((failed d ≡ true) ⊎ (unsettles_at j old d ≡ true))

  unsettled : (d : ℕ) → unsettles_at j mid d ≡ true → IsTold d
  unsettled d u = ⊎_elim
      (λ e. subst IsTold (sym e) (mine (own (sym (unsettles-own j mid) ∙ subst (λ (k : ℕ). unsettles_at j mid k ≡ true) e u))))
      (λ ne. inr (inr (unsettles-else j d old ne
      ∙ sym (ap (λ (x : Parts). falls_at j x d && has_tail (log_at x d)) stays) ∙ sym (unsettles-else j d mid ne) ∙ u)))
      (cases_eq d j)
    where
      mine : (is_loose old j ≡ true) ⊎ ((failed j ≡ true) ⊎ (is_none (owed_dropped j old) ≡ true)) → IsTold j
      mine (inl was) = inl was
      mine (inr (inl f)) = inr (inl f)
      mine (inr (inr none)) = inr (inr (unsettles-own j old ∙ none))

  marked : (d : ℕ) → is_loose new d ≡ true → IsTold d
  marked d on = go (unsettles_at j mid d) refl
    where
      told : (is_loose old d ≡ true) ⊎ (failed d ≡ true) → IsTold d
      told (inl was) = inl was
      told (inr f) = inr (inl f)

      go : (b : Bool) → unsettles_at j mid d ≡ b → IsTold d
      go true u = unsettled d u
      go false u = told (marks d (sym (ap (λ (b : Bool). cond b true (is_loose mid d)) u) ∙ sym (fallen.loose d) ∙ on))

  still : (d : ℕ) → is_loose old d ≡ true → is_loose new d ≡ true
  still d on = fallen.loose d ∙ go (unsettles_at j mid d)
    where
      go : (b : Bool) → cond b true (is_loose mid d) ≡ true
      go true = refl
      go false = keeps d on

  pub fell-touches : FallTouches j failed none_of old new
  fell-touches = record {
    status = λ k. fallen.status k ∙ ap (λ (x : Parts). cond {A = Status} (falls_at j x k) S.Down (status_at x k)) stays;
    loose = marked;
    stays = still;
    tables = λ k ne. ap (λ (x : Parts). txns_at x k) is ∙ item-kept no_txns mid.txns j (txns_at new j) low k ne
        ∙ ap (λ (x : Parts). txns_at x k) stays;
    checks = ap (λ (x : Parts). x.checks) is ∙ ap (λ (x : Parts). slice_set {A = Option Begun} x.checks (j - 1) None) stays;
    masters = ap (λ (x : Parts). x.masters) is ∙ ap (λ (x : Parts). x.masters) stays;
    others = ap (λ (x : Parts). x.others) is ∙ ap (λ (x : Parts). x.others) stays;
    disk_lsn = ap (λ (x : Parts). x.disk_lsn) is ∙ ap (λ (x : Parts). x.disk_lsn) stays;
    pool = ap (λ (x : Parts). pool_at x j) is ∙ pool-emptied j mid new ∙ ap (λ (x : Parts). emptied_pool (pool_at x j)) stays;
    pools = λ k ne. ap (λ (x : Parts). pool_at x k) is ∙ item-kept no_pool mid.pools j (emptied_pool (pool_at mid j)) low k ne
        ∙ ap (λ (x : Parts). pool_at x k) stays;
    recs = λ p none. fallen.rec_lsns p ∙ ap (λ (x : Parts). rec_lsn_at x.directory p) stays;
  }

-- a mark stays, whether more is marked or not
still-marked : (b c : Bool) → c ≡ true → cond b true c ≡ true
still-marked true c is = refl
still-marked false c is = is

-- The force of its log failed.
module _ (i a : ℕ) (old mid new : Parts) (low : 1 ≤ i) (high : i ≤ 8) (nine : length old.loose ≡ 9) (failed : mid ≡ with_failed a i old) where
  other-mark : (d : ℕ) → d ≢ i → is_loose mid d ≡ is_loose old d
  other-mark d ne = ap (λ (k : Parts). is_loose k d) failed ∙ get_or-set_other old.loose i d true true ne

  own-mark : is_loose mid i ≡ true
  own-mark = ap (λ (k : Parts). is_loose k i) failed ∙ get_or-set_same old.loose i true true (omega (arith, nine, high))

  -- the fall leaves the mark
  pub force-marks : IsFallen i mid new → is_loose new i ≡ true
  force-marks fallen = fallen.loose i ∙ still-marked (unsettles_at i mid i) (is_loose mid i) own-mark

  pub force-touches : new ≡ with_fallen i new mid → IsFallen i mid new → FallTouches i (only i) none_of old new
  force-touches is fallen = fell-touches i (only i) old mid new low
      (failed ∙ ap (λ (k : Parts). record old { owed = k.owed; loose = k.loose; due = k.due }) (sym failed))
      (λ d on. ⊎_elim (λ e. inr (eq-eqb i d (sym e))) (λ ne. inl (sym (other-mark d ne) ∙ on)) (cases_eq d i))
      (λ d on. ⊎_elim (λ e. subst (λ (k : ℕ). is_loose mid k ≡ true) (sym e) own-mark) (λ ne. other-mark d ne ∙ on) (cases_eq d i))
      (λ none. inr (inl (eq-eqb i i refl))) is fallen

-- A write of the data device failed, or the sync before it.
module _ (i : ℕ) (old mid new : Parts) (low : 1 ≤ i) (nine : length old.loose ≡ 9) (put : mid ≡ with_loose_disk true old) where
  else-mark : (d : ℕ) → d ≢ 0 → is_loose mid d ≡ is_loose old d
  else-mark d ne = ap (λ (k : Parts). is_loose k d) put ∙ get_or-set_other old.loose 0 d true true ne

  disk-mark : is_loose mid 0 ≡ true
  disk-mark = ap (λ (k : Parts). is_loose k 0) put ∙ get_or-set_same old.loose 0 true true (omega (arith, nine))

  same-dropped : owed_dropped i mid ≡ owed_dropped i old
  same-dropped = ap (λ (k : Parts). owed_dropped i k) put
      ∙ ap (λ (b : Bool). cond {A = Option ℕ} b None
      (cond {A = Option ℕ} (is_up (status_at old i) || not (has_tail (log_at old i))) (Some (owed_at old i)) None))
      (get_or-set_other old.loose 0 i true true (λ e. omega (arith, low, e)))

  -- the fall leaves the mark
  pub put-marks : IsFallen i mid new → is_loose new 0 ≡ true
  put-marks fallen = fallen.loose 0 ∙ still-marked (unsettles_at i mid 0) (is_loose mid 0) disk-mark

  pub put-touches : new ≡ with_fallen i new mid → IsFallen i mid new → FallTouches i (only 0) none_of old new
  put-touches is fallen = fell-touches i (only 0) old mid new low
      (put ∙ ap (λ (k : Parts). record old { owed = k.owed; loose = k.loose; due = k.due }) (sym put))
      (λ d on. ⊎_elim (λ e. inr (eq-eqb 0 d (sym e))) (λ ne. inl (sym (else-mark d ne) ∙ on)) (cases_eq d 0))
      (λ d on. ⊎_elim (λ e. subst (λ (k : ℕ). is_loose mid k ≡ true) (sym e) disk-mark) (λ ne. else-mark d ne ∙ on) (cases_eq d 0))
      (λ none. inr (inr (ap (λ (o : Option ℕ). is_none o) (sym same-dropped) ∙ none))) is fallen

-- a settled log without a tail counts as settled still
kept-settled : (loose up tail : Bool) (owes : ℕ) → loose ≡ false → tail ≡ false
    → is_none (cond {A = Option ℕ} loose None (cond {A = Option ℕ} (up || not tail) (Some owes) None)) ≡ true → ⊥
kept-settled true up tail owes settled none is = absurd (cc)
kept-settled false true tail owes settled none is = absurd (cc)
kept-settled false false true owes settled none is = absurd (cc)
kept-settled false false false owes settled none is = absurd (cc)

-- What a fall behind a force of its log left is what it left of what was before the force.
module _ (j : ℕ) (failed which : ℕ → Bool) (old mid new : Parts) (logs : OnlyLogs old mid) (others : OthersKeepLogs j old mid)
    (forced : is_loose old j ≡ false → (log_at mid j).tail ≡ []) (t : FallTouches j failed which mid new) where
  abbrev IsMarked : ℕ → Type 0
  IsMarked d = (is_loose old d ≡ true) ⊎ ((failed d ≡ true) ⊎ (unsettles_at j old d ≡ true))

  same-mark : (d : ℕ) → is_loose mid d ≡ is_loose old d
  same-mark d = ap (λ (k : Parts). is_loose k d) logs

  mine : is_none (owed_dropped j mid) ≡ true → is_loose old j ≡ true
  mine none = go (is_loose old j) refl
    where
      go : (b : Bool) → is_loose old j ≡ b → b ≡ true
      go true e = refl
      go false e = absurd (kept-settled (is_loose mid j) (is_up (status_at mid j)) (has_tail (log_at mid j)) (owed_at mid j)
          (same-mark j ∙ e) (ap are_there (forced e)) none)

  unsettled-behind : (d : ℕ) → unsettles_at j mid d ≡ true → IsMarked d
  unsettled-behind d u = ⊎_elim
      (λ e. inl (subst (λ (k : ℕ). is_loose old k ≡ true) (sym e)
      (mine (sym (unsettles-own j mid) ∙ subst (λ (k : ℕ). unsettles_at j mid k ≡ true) e u))))
      (λ ne. inr (inr (unsettles-else j d old ne
      ∙ sym (ap (λ (k : Parts). falls_at j k d && has_tail (log_at mid d)) logs
      ∙ ap (λ (l : LogState). falls_at j old d && has_tail l) (others d ne)) ∙ sym (unsettles-else j d mid ne) ∙ u)))
      (cases_eq d j)

  marked-behind : (d : ℕ) → (is_loose mid d ≡ true) ⊎ ((failed d ≡ true) ⊎ (unsettles_at j mid d ≡ true)) → IsMarked d
  marked-behind d (inl was) = inl (sym (same-mark d) ∙ was)
  marked-behind d (inr (inl f)) = inr (inl f)
  marked-behind d (inr (inr u)) = unsettled-behind d u

  pub fall-behind : FallTouches j failed which old new
  fall-behind = record {
    status = λ k. t.status k ∙ ap (λ (x : Parts). cond {A = Status} (falls_at j x k) S.Down (status_at x k)) logs;
    loose = λ d on. marked-behind d (t.loose d on);
    stays = λ d on. t.stays d (same-mark d ∙ on);
    tables = λ k ne. t.tables k ne ∙ ap (λ (x : Parts). txns_at x k) logs;
    checks = t.checks ∙ ap (λ (x : Parts). slice_set {A = Option Begun} x.checks (j - 1) None) logs;
    masters = t.masters ∙ ap (λ (x : Parts). x.masters) logs;
    others = t.others ∙ ap (λ (x : Parts). x.others) logs;
    disk_lsn = t.disk_lsn ∙ ap (λ (x : Parts). x.disk_lsn) logs;
    pool = t.pool ∙ ap (λ (x : Parts). emptied_pool (pool_at x j)) logs;
    pools = λ k ne. t.pools k ne ∙ ap (λ (x : Parts). pool_at x k) logs;
    recs = λ p none. t.recs p none ∙ ap (λ (x : Parts). rec_lsn_at x.directory p) logs;
  }

-- ---- a page is put

-- its RecLSN goes, and the device is settled,
pub put-so : (p : ℕ) (old new : Parts) → new ≡ with_written new.directory old
    → IsSet p (written (entry_at old.directory p)) None old.directory new.directory → may_write (entry_at old.directory p) ≡ true
    → IsPut p old new
put-so p old new is set dirty = (
  set.rec_lsn ∙ ap (λ (b : Bool). kept_rec (changed (entry_at old.directory p)) b (rec_lsn_at old.directory p) None)
      (clean-written (entry_at old.directory p) (ap (λ (b : Bool). b || is_lost (entry_at old.directory p)) dirty)),
  record {
    loose = ap (λ (k : Parts). k.loose) is;
    checks = ap (λ (k : Parts). k.checks) is;
    masters = ap (λ (k : Parts). k.masters) is;
    others = ap (λ (k : Parts). k.others) is;
    disk_lsn = ap (λ (k : Parts). k.disk_lsn) is;
    pools = λ j none. ap (λ (k : Parts). pool_at k j) is;
    recs = λ q none. set.other_rec_lsns q (λ e. unlike none (eq-eqb p q (sym e)));
  },
)

-- also behind a force;
pub put-behind : (p : ℕ) (old mid new : Parts) → OnlyLogs old mid → IsPut p mid new → IsPut p old new
put-behind p old mid new logs put = (put.0, settled-behind none_of (only p) old mid new logs put.1)

-- and so it is where the device failed
pub unput-behind : (i : ℕ) (old mid new : Parts) → OnlyLogs old mid → OthersKeepLogs i old mid
    → (is_loose old i ≡ false → (log_at mid i).tail ≡ []) → IsUnput i mid new → IsUnput i old new
unput-behind i old mid new logs others forced (inl read) = inl (settled-behind none_of none_of old mid new logs read)
unput-behind i old mid new logs others forced (inr fell) = inr (fall-behind i (only 0) none_of old mid new logs others forced fell)

-- a page that isn't changed has no RecLSN
pub none-marked : (l : Option ℕ) (b : Bool) → is_some l ≡ b → b ≡ false → l ≡ None
none-marked None b is clean = refl
none-marked (Some x) b is clean = absurd (cc)

-- ---- answers

-- a refusal that isn't for a device leaves all
pub refused-touches : {X : Type 0} (i : ℕ) (whose : ℕ → Bool) (r : Result X Refusal) (n : Refusal) (old new : Parts) → r ≡ Err n
    → (n ≡ R.Failed → ⊥) → new ≡ old → Touches i whose r old new
refused-touches i whose (Ok x) n old new is other same = absurd (cc)
refused-touches i whose (Err R.Failed) n old new is other same = absurd (other (cc))
refused-touches i whose (Err m) n old new is other same = same

-- one that is for a device leaves what the fall does
pub failed-touches : {X : Type 0} (i : ℕ) (whose whose' : ℕ → Bool) (r : Result X Refusal) (n : Refusal) (old new : Parts) → r ≡ Err n
    → n ≡ R.Failed → Touches {X = Unit {0}} i whose' (Err n) old new → Touches i whose r old new
failed-touches {X} i whose whose' r n old new is only t =
    subst (λ (k : Result X Refusal). Touches i whose k old new) (sym (is ∙ ap (λ (m : Refusal). Err m) only))
    (subst (λ (m : Refusal). Touches {X = Unit {0}} i whose' (Err m) old new) only t)

-- a call that is refused for a device alone is refused for nothing else,
pub failed-alone : {X : Type 0} (r : Result X Refusal) (P : Type 0) → IfErr r (λ n. n ≡ R.Failed) → IfErr r (λ n. n ≢ R.Failed → P)
failed-alone (Ok x) P is = tt
failed-alone (Err n) P is = λ other. absurd (other is)

-- nor is it where it was refused so
pub failed-so : {X : Type 0} (r : Result X Refusal) (n : Refusal) (P : Type 0) → r ≡ Err n → n ≡ R.Failed
    → IfErr r (λ m. m ≢ R.Failed → P)
failed-so (Ok x) n P is only = tt
failed-so (Err m) n P is only = λ other. absurd (other (cc))

-- what holds holds of a refusal,
pub refused-so : {X : Type 0} (r : Result X Refusal) (P : Type 0) → P → IfErr r (λ n. n ≢ R.Failed → P)
refused-so (Ok x) P holds = tt
refused-so (Err n) P holds = λ other. holds

-- and of what was refused nothing is said that holds once it is done
pub none-done : {X : Type 0} (r : Result X Refusal) (n : Refusal) (P : Type 0) → r ≡ Err n → OnOk r P
none-done (Ok x) n P is = absurd (cc)
none-done (Err m) n P is = tt

-- ---- what a write answers

pub refused-writes : {X : Type 0} (i p : ℕ) (r : Result X Refusal) (n : Refusal) (old : Parts) → r ≡ Err n → (n ≡ R.Failed → ⊥)
    → WriteTouches i p r old old
refused-writes i p (Ok x) n old is other = absurd (cc)
refused-writes i p (Err R.Failed) n old is other = absurd (other (cc))
refused-writes i p (Err m) n old is other = refl

pub failed-writes : {X : Type 0} (i p : ℕ) (r : Result X Refusal) (n : Refusal) (old new : Parts) → r ≡ Err n → n ≡ R.Failed
    → Touches {X = Unit {0}} i none_of (Err n) old new → WriteTouches i p r old new
failed-writes {X} i p r n old new is only t =
    subst (λ (k : Result X Refusal). WriteTouches i p k old new) (sym (is ∙ ap (λ (m : Refusal). Err m) only))
    (inl (subst (λ (m : Refusal). Touches {X = Unit {0}} i none_of (Err m) old new) only t))

pub put-writes : {X : Type 0} (i p : ℕ) (r : Result X Refusal) (old new : Parts) → IfErr r (λ n. n ≡ R.Failed)
    → OnOk r (IsPut p old new) → OnErr r (IsUnput i old new) → WriteTouches i p r old new
put-writes i p (Ok x) old new only put unput = inr put
put-writes {X} i p (Err n) old new only put unput =
    subst (λ (m : Refusal). WriteTouches {X = X} i p (Err m) old new) (sym only) (inr unput)

-- the most calls of a put
pub put-ticks : (b : Bool) (old new : ℕ) → (b ≡ false → new ≤ old + 6) → new ≤ old + 7 → new ≤ old + cond b 7 6
put-ticks true old new six seven = seven
put-ticks false old new six seven = six refl

-- and of a write, behind the force
pub write-ticks : (old mid new forces puts calls : ℕ) → mid ≡ old + forces → new ≤ mid + puts → calls ≡ forces + puts → new ≤ old + calls
write-ticks old mid new forces puts calls first second is = omega (arith, first, second, is)
