-- What a task leaves whose device failed, so that the recoverer fell: for the goals of the tasks of a recovery.
use Rattle.std.proofs.Common.{◌≡◌, ◌≢◌, ◌⊎◌, ⊎_elim, ℕ, ◌≤◌, Bool, true, false, cond, ◌||◌, length, get_or, slice_set, refl, sym, ap, ◌∙◌, subst, arith, eq-eqb}
use Rattle.std.specs.Prelude.{Some}
use Rattle.std.proofs.lemmas.Bool.{cases_eq}
use Rattle.std.proofs.lemmas.List.{get_or-set_other, get_or-set_same}
use Rattle.sd_base.specs.declared.ids.TxnId.{TxnId}
use Rattle.sd_base.specs.declared.place.Status.{Status}
use Rattle.sd_base.specs.declared.place.Status.TheVariants as S
use Rattle.sd_chain.specs.Records.{home}
use Rattle.sd_log.specs.Logs.{forced}
use Rattle.sd_moves.specs.Falling.{IsFallen, is_recovered_by, with_fallen}
use Rattle.sd_moves.specs.Putting.{with_loose_disk}
use Rattle.sd_pagelock.specs.Directory.{rec_lsn_at}
use Rattle.sd_txn.specs.Transactions.{top_at}
use Rattle.sd_txn.specs.declared.state.OpenRec.{OpenRec}
use Rattle.sd_state.specs.Forcing.{with_failed}
use Rattle.sd_state.specs.Parts.{IsShape, Parts, actor, is_loose, log_at, no_log, no_pool, no_txns, pool_at, status_at, txns_at}
use Rattle.sd_state.specs.Recovering.{with_table}
use Rattle.sd_state.proofs.Items.{item-kept, item-set}
use Rattle.sd_update.specs.Sealing.{HasEnd, end_of}
use Rattle.sd_update.specs.UndoingFor.{HasFailedFor, own_forced}
use Rattle.sd_fits.specs.Untouched.{FallTouches, none_of, only}
use Rattle.sd_recover.specs.Doing.{StepFell}
use Rattle.sd_recover.specs.declared.tasks.Task.{Task}
use Rattle.sd_recover.specs.declared.tasks.Task.TheVariants as task
use Rattle.sd_recover.proofs.Doing.{undone-page}
use Rattle.sd_recover.proofs.Touched.{failed-kept, failed-marks, fall-touches, only-other}

-- ---- nothing was done

-- a force failed,
pub rest-touches : (a i by : ℕ) (old mid new : Parts) → 1 ≤ by → i ≤ 8 → length old.loose ≡ 9 → mid ≡ with_failed a i old
    → new ≡ with_fallen by new mid → IsFallen by mid new → FallTouches by (only i) none_of old new
rest-touches a i by old mid new by_low high nine fails is fallen = fall-touches by (only i) none_of old mid new by_low
    (λ k. ap (λ (c : Parts). status_at c k) fails)
    (λ d off. failed-marks a i old mid fails d (only-other i d off))
    (failed-kept a i old mid fails high nine)
    (λ d off. ap (λ (c : Parts). log_at c d) fails)
    (λ k ne. ap (λ (c : Parts). txns_at c k) fails)
    (ap (λ (c : Parts). c.checks) fails) (ap (λ (c : Parts). c.masters) fails) (ap (λ (c : Parts). c.others) fails)
    (ap (λ (c : Parts). c.disk_lsn) fails) (ap (λ (c : Parts). (pool_at c by).frames) fails) (λ k ne. ap (λ (c : Parts). pool_at c k) fails)
    (λ p off. ap (λ (c : Parts). rec_lsn_at c.directory p) fails) is fallen

-- or a page write
pub put-touches : (by : ℕ) (old mid new : Parts) → 1 ≤ by → length old.loose ≡ 9 → mid ≡ with_loose_disk true old
    → new ≡ with_fallen by new mid → IsFallen by mid new → FallTouches by (only 0) none_of old new
put-touches by old mid new by_low nine torn is fallen = fall-touches by (only 0) none_of old mid new by_low
    (λ k. ap (λ (c : Parts). status_at c k) torn)
    (λ d off. ap (λ (c : Parts). is_loose c d) torn ∙ get_or-set_other old.loose 0 d true true (only-other 0 d off))
    (λ d on. ap (λ (c : Parts). is_loose c d) torn ∙ ⊎_elim
    (λ e. subst (λ (n : ℕ). get_or (slice_set old.loose 0 true) n true ≡ true) (sym e) (get_or-set_same old.loose 0 true true (omega (arith, nine))))
    (λ ne. get_or-set_other old.loose 0 d true true ne ∙ on)
    (cases_eq d 0))
    (λ d off. ap (λ (c : Parts). log_at c d) torn)
    (λ k ne. ap (λ (c : Parts). txns_at c k) torn)
    (ap (λ (c : Parts). c.checks) torn) (ap (λ (c : Parts). c.masters) torn) (ap (λ (c : Parts). c.others) torn)
    (ap (λ (c : Parts). c.disk_lsn) torn) (ap (λ (c : Parts). (pool_at c by).frames) torn) (λ k ne. ap (λ (c : Parts). pool_at c k) torn)
    (λ p off. ap (λ (c : Parts). rec_lsn_at c.directory p) torn) is fallen

-- ---- a row of the table of i was changed before

module _ (i by : ℕ) (old mid new : Parts) (low : 1 ≤ i) (high : i ≤ 8) (by_low : 1 ≤ by) (eight : length old.txns ≡ 8)
    (same : (k : ℕ) → k ≢ i → txns_at mid k ≡ txns_at old k) (is : new ≡ with_fallen by new mid) where
  -- the table of i but for that, of another instance than the one that fell, is as it was before the fall
  pub tables-but : (k : ℕ) → k ≢ by → txns_at mid k ≡ txns_at (with_table i (txns_at new i) old) k
  tables-but k ne = ⊎_elim
      (λ e. sym (ap (λ (c : Parts). txns_at c k) is ∙ item-kept no_txns mid.txns by (txns_at new by) by_low k ne)
      ∙ ap (λ (n : ℕ). txns_at new n) e ∙ sym (item-set no_txns old.txns i (txns_at new i) low high eight)
      ∙ sym (ap (λ (n : ℕ). txns_at (with_table i (txns_at new i) old) n) e))
      (λ other. same k other ∙ sym (item-kept no_txns old.txns i (txns_at new i) low k other))
      (cases_eq k i)

-- an End came
pub end-touches : (t : TxnId) (a by : ℕ) (old sealed mid new : Parts) → 1 ≤ home t → home t ≤ 8 → 1 ≤ by → IsShape old
    → HasEnd t (λ x. end_of t x old) old sealed → mid ≡ with_failed a (home t) sealed
    → new ≡ with_fallen by new mid → IsFallen by mid new
    → FallTouches by (only (home t)) none_of (with_table (home t) (txns_at new (home t)) old) new
end-touches t a by old sealed mid new low high by_low shape h fails is fallen =
    fall-touches by (only (home t)) none_of (with_table (home t) (txns_at new (home t)) old) mid new by_low
    (λ k. ap (λ (c : Parts). status_at c k) fails ∙ ap (λ (c : Parts). status_at c k) h.is)
    (λ d off. failed-marks a (home t) sealed mid fails d (only-other (home t) d off) ∙ ap (λ (c : Parts). is_loose c d) h.is)
    (λ d on. failed-kept a (home t) sealed mid fails high (ap (λ (c : Parts). length c.loose) h.is ∙ shape.loose) d
    (ap (λ (c : Parts). is_loose c d) h.is ∙ on))
    (λ d off. ap (λ (c : Parts). log_at c d) fails ∙ ap (λ (c : Parts). log_at c d) h.is
    ∙ item-kept no_log old.logs (home t) _ low d (only-other (home t) d off))
    (tables-but (home t) by old mid new low high by_low shape.txns
    (λ k ne. ap (λ (c : Parts). txns_at c k) fails ∙ ap (λ (c : Parts). txns_at c k) h.is ∙ item-kept no_txns old.txns (home t) h.table low k ne)
    is)
    (ap (λ (c : Parts). c.checks) fails ∙ ap (λ (c : Parts). c.checks) h.is)
    (ap (λ (c : Parts). c.masters) fails ∙ ap (λ (c : Parts). c.masters) h.is)
    (ap (λ (c : Parts). c.others) fails ∙ ap (λ (c : Parts). c.others) h.is)
    (ap (λ (c : Parts). c.disk_lsn) fails ∙ ap (λ (c : Parts). c.disk_lsn) h.is)
    (ap (λ (c : Parts). (pool_at c by).frames) fails ∙ ap (λ (c : Parts). (pool_at c by).frames) h.is)
    (λ k ne. ap (λ (c : Parts). pool_at c k) fails ∙ ap (λ (c : Parts). pool_at c k) h.is)
    (λ p off. ap (λ (c : Parts). rec_lsn_at c.directory p) fails ∙ ap (λ (c : Parts). rec_lsn_at c.directory p) h.is)
    is fallen

-- ---- a record was to be undone

or-off : (a b : Bool) → (a || b) ≡ false → (a ≡ false) × (b ≡ false)
or-off true b e = absurd (cc)
or-off false b e = (refl, e)

module _ (t : TxnId) (by page : ℕ) (old mid new : Parts) (low : 1 ≤ home t) (high : home t ≤ 8) (by_low : 1 ≤ by) (by_high : by ≤ 8)
    (shape : IsShape old) (o : OpenRec) (last : top_at (txns_at old (home t)) t ≡ Some o) (of : page ≡ o.rid.page)
    (is : new ≡ with_fallen by new mid) (fallen : IsFallen by mid new) where
  abbrev failed : ℕ → Bool
  failed d = only by d || only (home t) d

  abbrev was : Parts
  was = with_table (home t) (txns_at new (home t)) old

  -- the force of its own log failed,
  own-touches : mid ≡ with_failed (actor old by) by old → FallTouches by failed (only page) was new
  own-touches fails = fall-touches by failed (only page) was mid new by_low
      (λ k. ap (λ (c : Parts). status_at c k) fails)
      (λ d off. failed-marks (actor old by) by old mid fails d (only-other by d (or-off (only by d) (only (home t) d) off).0))
      (failed-kept (actor old by) by old mid fails by_high shape.loose)
      (λ d off. ap (λ (c : Parts). log_at c d) fails)
      (tables-but (home t) by old mid new low high by_low shape.txns (λ k ne. ap (λ (c : Parts). txns_at c k) fails) is)
      (ap (λ (c : Parts). c.checks) fails) (ap (λ (c : Parts). c.masters) fails) (ap (λ (c : Parts). c.others) fails)
      (ap (λ (c : Parts). c.disk_lsn) fails) (ap (λ (c : Parts). (pool_at c by).frames) fails) (λ k ne. ap (λ (c : Parts). pool_at c k) fails)
      (λ p off. ap (λ (c : Parts). rec_lsn_at c.directory p) fails) is fallen

  -- or that of the loser's, with the CLR
  module _ (h : HasFailedFor by t old mid) where
    abbrev i : ℕ
    i = home t

    undone-logs : (d : ℕ) → failed d ≡ false → log_at mid d ≡ log_at old d
    undone-logs d off =
        let both = or-off (only by d) (only i d) off in
        ap (λ (c : Parts). log_at c d) h.failed ∙ ap (λ (c : Parts). log_at c d) h.undone.rest
        ∙ item-kept no_log (own_forced by h.owes old).logs i (log_at h.between i) low d (only-other i d both.1)
        ∙ item-kept no_log old.logs by (forced (log_at old by)) by_low d (only-other by d both.0)

    undone-recs : (q : ℕ) → only page q ≡ false → rec_lsn_at mid.directory q ≡ rec_lsn_at old.directory q
    undone-recs q off = ap (λ (c : Parts). rec_lsn_at c.directory q) h.failed
        ∙ h.undone.undone.other_rec_lsns q (λ e. only-other page q off
        (e ∙ sym (undone-page t page (txns_at old i) h.undone.x o h.undone.o last of h.undone.row h.undone.last)))

    clr-touches : FallTouches by failed (only page) was new
    clr-touches = fall-touches by failed (only page) was mid new by_low
        (λ k. ap (λ (c : Parts). status_at c k) h.failed ∙ ap (λ (c : Parts). status_at c k) h.undone.rest)
        (λ d off. failed-marks (actor h.between i) i h.between mid h.failed d (only-other i d (or-off (only by d) (only i d) off).1)
        ∙ ap (λ (c : Parts). is_loose c d) h.undone.rest)
        (λ d on. failed-kept (actor h.between i) i h.between mid h.failed high
        (ap (λ (c : Parts). length c.loose) h.undone.rest ∙ shape.loose) d (ap (λ (c : Parts). is_loose c d) h.undone.rest ∙ on))
        undone-logs
        (tables-but i by old mid new low high by_low shape.txns
        (λ k ne. ap (λ (c : Parts). txns_at c k) h.failed ∙ ap (λ (c : Parts). txns_at c k) h.undone.rest
        ∙ item-kept no_txns old.txns i (txns_at h.between i) low k ne) is)
        (ap (λ (c : Parts). c.checks) h.failed ∙ ap (λ (c : Parts). c.checks) h.undone.rest)
        (ap (λ (c : Parts). c.masters) h.failed ∙ ap (λ (c : Parts). c.masters) h.undone.rest)
        (ap (λ (c : Parts). c.others) h.failed ∙ ap (λ (c : Parts). c.others) h.undone.rest)
        (ap (λ (c : Parts). c.disk_lsn) h.failed ∙ ap (λ (c : Parts). c.disk_lsn) h.undone.rest)
        (ap (λ (c : Parts). (pool_at c by).frames) h.failed ∙ h.undone.undone.frames)
        (λ k ne. ap (λ (c : Parts). pool_at c k) h.failed ∙ ap (λ (c : Parts). pool_at c k) h.undone.rest
        ∙ item-kept no_pool old.pools by (pool_at h.between by) by_low k ne)
        undone-recs is fallen

  pub undo-touches : (mid ≡ with_failed (actor old by) by old) ⊎ HasFailedFor by t old mid → FallTouches by failed (only page) was new
  undo-touches left = ⊎_elim (λ own. own-touches own) (λ h. clr-touches h) left

-- ---- so the recoverer is down

touched-down : (j : ℕ) (failed which : ℕ → Bool) (old new : Parts) → FallTouches j failed which old new → status_at new j ≡ S.Down
touched-down j failed which old new h = h.status j
    ∙ ap (λ (b : Bool). cond {A = Status} (cond b true (is_recovered_by j (status_at old j))) S.Down (status_at old j)) (eq-eqb j j refl)

pub step-down : (i by : ℕ) (next : Task) (old new : Parts) → StepFell i by next old new → status_at new by ≡ S.Down
step-down i by (task.Settle dev) old new h = touched-down by (only dev) none_of old new h
step-down i by (task.Rebuild p) old new h = touched-down by (only 0) none_of old new h
step-down i by (task.Decide t) old new h = touched-down by (only i) none_of old new h
step-down i by (task.Undo t p) old new h =
    touched-down by (λ d. only by d || only i d) (only p) (with_table i (txns_at new i) old) new h
step-down i by (task.End t) old new h = touched-down by (only i) none_of (with_table i (txns_at new i) old) new h
step-down i by task.Done old new h = touched-down by (only i) none_of old new h
