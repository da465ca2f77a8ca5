-- What `down` and `cut` of src/crash.rt leave, of plain values: with the tail of a settled log dropped.
use Rattle.std.proofs.Common.{◌≡◌, ◌≢◌, ◌⊎◌, inl, inr, ⊎_elim, ℕ, ◌-◌, ◌≤◌, Bool, true, false, cond, eqb, ◌&&◌, ◌||◌, List, [], ◌∷◌, get_or, length, refl, sym, ap, ◌∙◌, subst, arith, eq-eqb, ne_eqb}
use Rattle.std.specs.Prelude.{Option, None, Some, is_none, not, slice_set}
use Rattle.std.proofs.lemmas.Bool.{cases_eq}
use Rattle.std.proofs.lemmas.List.{get_or-set_other, get_or-set_same}
use Rattle.sd_base.specs.declared.place.Status.{Status}
use Rattle.sd_base.specs.declared.place.Status.TheVariants as S
use Rattle.sd_base.specs.Standing.{is_up}
use Rattle.sd_log.specs.Logs.{are_there, forced_with, has_tail}
use Rattle.sd_logrec.specs.Kept.{master}
use Rattle.sd_logrec.specs.declared.record.Record.{Record}
use Rattle.sd_model.specs.State.{State}
use Rattle.sd_rig.specs.Devices as rig
use Rattle.sd_txn.specs.Transactions.{Transactions}
use Rattle.sd_chain.specs.Logs.{Outcomes, past_at}
use Rattle.sd_state.specs.Good.{Good}
use Rattle.sd_state.specs.Parts.{IsShape, Parts, is_loose, log_at, no_txns, owed_at, status_at, txns_at}
use Rattle.sd_state.specs.Values.{Pending}
use Rattle.sd_state.proofs.Items.{item-kept, item-set}
use Rattle.sd_moves.specs.Falling.{FallLeaves, IsFallen, IsLeft, dropped_by, falls_at, is_recovered_by, logs_by, owed_dropped, owed_unsettled, unsettles, unsettles_at, with_dropped, with_fallen, with_left, with_lost}
use Rattle.sd_moves.proofs.FallDropped.{dropped-good}
use Rattle.sd_moves.proofs.FallEpochs.{epoch-forced}
use Rattle.sd_moves.proofs.FallLeft.{fallen-parts, fallen-table}
use Rattle.sd_moves.proofs.FallStatus.{falls-itself, unsettles-itself}

-- when a tail is dropped
not-there : (rs : List Record) → not (are_there rs) ≡ true → rs ≡ []
not-there [] e = refl
not-there (r ∷ rs) e = absurd (cc)

when-up : (s : Status) (tail : List Record) → (is_up s || not (are_there tail)) ≡ true → (s ≡ S.Up) ⊎ (tail ≡ [])
when-up S.Up tail e = inl refl
when-up S.Down tail e = inr (not-there tail e)
when-up (S.Recovering by) tail e = inr (not-there tail e)
when-up S.Clean tail e = inr (not-there tail e)
when-up S.Restarting tail e = inr (not-there tail e)
when-up S.Closed tail e = inr (not-there tail e)

pub when-dropped : (i owes : ℕ) (c : Parts) → owed_dropped i c ≡ Some owes
    → (is_loose c i ≡ false) × ((status_at c i ≡ S.Up) ⊎ ((log_at c i).tail ≡ [])) × (owes ≡ owed_at c i)
when-dropped i owes c e = by (is_loose c i) e
  where
    drops : Bool
    drops = is_up (status_at c i) || not (has_tail (log_at c i))

    settled : (d : Bool) → drops ≡ d → cond {A = Option ℕ} d (Some (owed_at c i)) None ≡ Some owes
        → ((status_at c i ≡ S.Up) ⊎ ((log_at c i).tail ≡ [])) × (owes ≡ owed_at c i)
    settled true is e = (when-up (status_at c i) (log_at c i).tail is, cc)
    settled false is e = absurd (cc)

    by : (b : Bool) → cond {A = Option ℕ} b None (cond {A = Option ℕ} drops (Some (owed_at c i)) None) ≡ Some owes
        → (b ≡ false) × ((status_at c i ≡ S.Up) ⊎ ((log_at c i).tail ≡ [])) × (owes ≡ owed_at c i)
    by true e = absurd (cc)
    by false e = let w = settled drops refl e in (refl, w.0, w.1)

-- the shape of what is left
pub left-shape : (i : ℕ) (c mid : Parts) → IsShape c → IsLeft i c mid → mid ≡ with_left i mid c → length mid.pools ≡ 8
    → length mid.checks ≡ 8 → IsShape mid
left-shape i c mid shape f left pools checks = let same = left in record {
  logs = ap (λ (p : Parts). length p.logs) same ∙ shape.logs;
  pools = pools;
  txns = ap (λ (p : Parts). length p.txns) same ∙ shape.txns;
  statuses = f.statuses;
  epochs = ap (λ (p : Parts). length p.epochs) same ∙ shape.epochs;
  masters = ap (λ (p : Parts). length p.masters) same ∙ shape.masters;
  checks = checks;
  others = ap (λ (p : Parts). length p.others) same ∙ shape.others;
  owed = f.owed;
  loose = f.loose;
  own_log = subst (λ (p : Parts). (j : ℕ) → 1 ≤ j → j ≤ 8 → (log_at p j).inst ≡ j) (sym same) shape.own_log;
  own_txns = subst (λ (p : Parts). (j : ℕ) → 1 ≤ j → j ≤ 8 → (txns_at p j).inst ≡ j) (sym same) shape.own_txns;
}

-- rows are others, whatever is dropped
rows-dropped : (i n : ℕ) (o : Option ℕ) (table : Transactions) (mid : Parts)
    → record (dropped_by i o mid) { txns = slice_set (dropped_by i o mid).txns n table }
    ≡ dropped_by i o (record mid { txns = slice_set mid.txns n table })
rows-dropped i n None table mid = refl
rows-dropped i n (Some owes) table mid = refl

txns-dropped : (i : ℕ) (o : Option ℕ) (mid : Parts) → (dropped_by i o mid).txns ≡ mid.txns
txns-dropped i None mid = refl
txns-dropped i (Some owes) mid = refl

module _ (i n : ℕ) (table : Transactions) (old x : Parts) (low : 1 ≤ i) (high : i ≤ 8) (shape : IsShape old) (place : n ≡ i - 1)
    (left : FallLeaves i old x) where
  abbrev mid : Parts
  mid = left.mid

  abbrev o : Option ℕ
  o = owed_dropped i old

  abbrev lost : Parts
  lost = with_lost i table mid old

  -- the parts with the rows that are lost
  pub final-is : record x { txns = slice_set x.txns n table } ≡ dropped_by i o lost
  final-is = ap (λ (p : Parts). record p { txns = slice_set p.txns n table }) left.dropped
      ∙ rows-dropped i n o table mid
      ∙ ap (dropped_by i o) (fallen-parts i n table old mid place left.parts)

  -- the table that is lent is the one from before
  pub table-was : (lent : Transactions) → lent ≡ get_or x.txns n lent → txns_at old i ≡ lent
  table-was lent is = fallen-table i n old mid lent low high shape.txns place left.parts
      (is ∙ ap (λ (ts : List Transactions). get_or ts n lent) (ap (λ (p : Parts). p.txns) left.dropped ∙ txns-dropped i o mid))

  table-lost : txns_at lost i ≡ table
  table-lost = item-set no_txns old.txns i table low high shape.txns

  pub table-is : txns_at (dropped_by i o lost) i ≡ table
  table-is = by o
    where
      by : (o : Option ℕ) → txns_at (dropped_by i o lost) i ≡ table
      by None = table-lost
      by (Some owes) = table-lost

  pub final-parts : dropped_by i o lost ≡ with_fallen i (dropped_by i o lost) old
  final-parts = by o refl
    where
      by : (z : Option ℕ) → o ≡ z → dropped_by i z lost ≡ with_fallen i (dropped_by i z lost) old
      by None e = ap (λ (tb : Transactions). record lost { txns = slice_set old.txns (i - 1) tb }) (sym table-lost)
          ∙ ap (λ (q : Option ℕ). record (with_fallen i lost old) { logs = logs_by i q old }) (sym e)
      by (Some owes) e = ap (λ (tb : Transactions). record (with_dropped i owes lost) { txns = slice_set old.txns (i - 1) tb }) (sym table-lost)
          ∙ ap (λ (q : Option ℕ). record (with_fallen i (with_dropped i owes lost) old) { logs = logs_by i q old }) (sym e)

  -- who falls counts once
  as-falls : (b z tail : Bool) → cond b true (cond b true z && tail) ≡ (cond b true z && (b || tail))
  as-falls true z tail = refl
  as-falls false z tail = refl

  counts : o ≡ None → (j : ℕ) → unsettles_at i old j ≡ (falls_at i old j && unsettles i old j)
  counts e j = ap (λ (q : Option ℕ). cond (eqb i j) (is_none q) (falls_at i old j && has_tail (log_at old j))) e
      ∙ as-falls (eqb i j) (is_recovered_by i (status_at old j)) (has_tail (log_at old j))

  counts-else : (j : ℕ) → j ≢ i → unsettles_at i old j ≡ (falls_at i old j && unsettles i old j)
  counts-else j ne = ap (λ (b : Bool). cond b (is_none o) (falls_at i old j && has_tail (log_at old j))) (ne_eqb i j (λ e. ne (sym e)))
      ∙ sym (ap (λ (b : Bool). falls_at i old j && (b || has_tail (log_at old j))) (ne_eqb i j (λ e. ne (sym e))))

  stays-here : (owes : ℕ) → o ≡ Some owes → unsettles_at i old i ≡ false
  stays-here owes e = ap (λ (b : Bool). cond b (is_none o) (falls_at i old i && has_tail (log_at old i))) (eq-eqb i i refl)
      ∙ ap (λ (q : Option ℕ). is_none q) e

  pub final-fallen : IsFallen i old (dropped_by i o lost)
  final-fallen = by o refl
    where
      by : (z : Option ℕ) → o ≡ z → IsFallen i old (dropped_by i z lost)
      by None e = record {
        status = λ j. (left.left.each j).status;
        loose = λ j. (left.left.each j).loose ∙ ap (λ (b : Bool). cond b true (is_loose old j)) (sym (counts e j));
        owed = λ j. (left.left.each j).owed ∙ ap (λ (b : Bool). cond b (owed_unsettled old j) (owed_at old j)) (sym (counts e j));
        entries = left.left.entries;
        rec_lsns = left.left.rec_lsns;
        asks = left.left.asks;
        moving = left.left.moving;
        locks = left.left.locks;
        waits = left.left.waits;
      }
      by (Some owes) e = record {
        status = λ j. (left.left.each j).status;
        loose = λ j. ⊎_elim
            (λ same. subst (λ (k : ℕ). is_loose (with_dropped i owes lost) k ≡ cond (unsettles_at i old k) true (is_loose old k)) (sym same)
            (get_or-set_same mid.loose i false true (let nine = left.left.loose in omega (arith, high, nine))
            ∙ sym (ap (λ (b : Bool). cond b true (is_loose old i)) (stays-here owes e) ∙ (when-dropped i owes old e).0)))
            (λ ne. get_or-set_other mid.loose i j false true ne ∙ (left.left.each j).loose
            ∙ ap (λ (b : Bool). cond b true (is_loose old j)) (sym (counts-else j ne)))
            (cases_eq j i);
        owed = λ j. ⊎_elim
            (λ same. subst (λ (k : ℕ). owed_at (with_dropped i owes lost) k ≡ cond (unsettles_at i old k) (owed_unsettled old k) (owed_at old k))
            (sym same)
            (item-set 0 mid.owed i owes low high left.left.owed ∙ (when-dropped i owes old e).2
            ∙ sym (ap (λ (b : Bool). cond b (owed_unsettled old i) (owed_at old i)) (stays-here owes e))))
            (λ ne. item-kept 0 mid.owed i owes low j ne ∙ (left.left.each j).owed
            ∙ ap (λ (b : Bool). cond b (owed_unsettled old j) (owed_at old j)) (sym (counts-else j ne)))
            (cases_eq j i);
        entries = left.left.entries;
        rec_lsns = left.left.rec_lsns;
        asks = left.left.asks;
        moving = left.left.moving;
        locks = left.left.locks;
        waits = left.left.waits;
      }

  pub final-good : (seen : rig.DeviceImages) (leaves : Outcomes) (pend : Pending) (m m' : State) → Good seen leaves pend old m
      → Good seen leaves Pending.Idle lost m' → Good seen leaves Pending.Idle (dropped_by i o lost) m'
  final-good seen leaves pend m m' was now = by o refl
    where
      by : (z : Option ℕ) → o ≡ z → Good seen leaves Pending.Idle (dropped_by i z lost) m'
      by None e = now
      by (Some owes) e =
          let d = when-dropped i owes old e in
          let at = was.settled i low high d.0 in
          let falls = falls-itself i (status_at old i) in
          dropped-good i owes seen leaves lost m' low high now
          ((left.left.each i).status ∙ ap (λ (b : Bool). cond {A = Status} b S.Down (status_at old i)) falls)
          ((left.left.each i).loose ∙ ap (λ (b : Bool). cond b true (is_loose old i)) (unsettles-itself i old))
          refl at.only at.stands at.one_place at.counted
          (⊎_elim (λ up. epoch-forced seen leaves pend old m i low high was d.0 up)
          (λ none. ap (λ (rs : List Record). (past_at (master (seen i)) (forced_with (log_at old i) rs)).epoch) (sym none) ∙ at.epoch) d.1)
          (d.2 ∙ was.owed i low high d.0)
