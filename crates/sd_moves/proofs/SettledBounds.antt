-- What the sums see of a log that is settled and read again: no more than of the log in memory. For whatever stands on `settle`.
use Rattle.std.proofs.Common.{◌≡◌, ⊎_elim, ℕ, ◌+◌, ◌≤◌, Bool, true, false, cond, ltb, List, [], ◌∷◌, ◌++◌, ◌||◌, max, refl, sym, ap, ◌∙◌, subst, arith, append-nil}
use Rattle.std.specs.Prelude.{None}
use Rattle.std.specs.List.{list_any}
use Rattle.std.proofs.lemmas.Bool.{cases_Bool, cases_eq, cases_lt, lt-ltb, ltb-true}
use Rattle.std.proofs.lemmas.List.{get_or-set_other, get_or-set_same}
use Rattle.sd_logrec.specs.Kept.{Whole, area, reading}
use Rattle.sd_logrec.specs.View.{Rec}
use Rattle.sd_log.specs.Logs.{LogState, StandsOn, forced, last_lsn, scanned}
use Rattle.sd_model.specs.State.{State}
use Rattle.sd_rig.specs.Devices as rig
use Rattle.sd_rig.specs.Devices.{LeavesOnly}
use Rattle.sd_txn.specs.Owing.{owed_of}
use Rattle.sd_txn.specs.Transactions.{Transactions}
use Rattle.sd_chain.specs.Bytes.{records_of}
use Rattle.sd_chain.specs.Checks.{gate_of, owed, reserve}
use Rattle.sd_chain.specs.Images.{Keeps, kept_at}
use Rattle.sd_chain.specs.Records.{Each}
use Rattle.sd_chain.specs.Logs.{Outcomes, all_at, base_at, kept_logs, tail_at, tails_of}
use Rattle.sd_chain.proofs.Kept.{forced-base, forced-idle, forced-start}
use Rattle.sd_chain.proofs.Lsns.{last-at-most}
use Rattle.sd_state.specs.Good.{Good}
use Rattle.sd_state.specs.Images.{log_by}
use Rattle.sd_state.specs.Parts.{Parts, is_loose, log_at, no_txns, owed_at, status_at, txns_at}
use Rattle.sd_state.specs.Sums.{great_of, owed_in_all, owes_most}
use Rattle.sd_state.specs.Tables.{tells_log}
use Rattle.sd_state.specs.Values.{Pending}
use Rattle.sd_state.proofs.Items.{item-kept, item-set}
use Rattle.sd_moves.specs.Settling.{IsReread, with_reread}
use Rattle.sd_moves.proofs.FallBounds.{most-less, sum-less}
use Rattle.sd_moves.proofs.SettledGood.{base-read, could, half-kept, log-else, log-here, settled-tails, was_at}
use Rattle.sd_moves.proofs.SettledHalf.{kept-same}
use Rattle.sd_moves.proofs.SettledTold.{all-read, told-again, within}

-- none is above, so each is at most so great
each-most : (n : ℕ) (xs : List Rec) → list_any (λ x. ltb n x.lsn) xs ≡ false → Each (λ x. x.lsn ≤ n) xs
each-most n [] e = tt
each-most n (x ∷ xs) e = ⊎_elim
    (λ lt. let is = lt-ltb n x.lsn lt in let clash = rw is at e in absurd (cc))
    (λ le. (le, each-most n xs (by (ltb n x.lsn) (list_any (λ y. ltb n y.lsn) xs) e)))
    (cases_lt n x.lsn)
  where
    by : (a b : Bool) → (a || b) ≡ false → b ≡ false
    by true b e = absurd (cc)
    by false b e = e

most-none : (n : ℕ) (xs : List Rec) → Each (λ x. x.lsn ≤ n) xs → list_any (λ x. ltb n x.lsn) xs ≡ true → ⊥
most-none n [] a e = absurd (cc)
most-none n (x ∷ xs) a e = ⊎_elim
    (λ is. let lt = ltb-true n x.lsn is in let le = a.0 in absurd (omega (arith, lt, le)))
    (λ off. most-none n xs a.1 (rw off at e))
    (cases_Bool (ltb n x.lsn))

module _ (i : ℕ) (seen : rig.DeviceImages) (leaves : Outcomes) (c found : Parts) (m : State) (low : 1 ≤ i) (high : i ≤ 8)
    (g : Good seen leaves Pending.Idle c m) (was_loose : is_loose c i ≡ true) (idle : c.due ≡ None)
    (only : LeavesOnly (seen i) (leaves i)) (reads : (d : ℕ) → d ≤ 8 → leaves d (seen d)) (read : IsReread i (seen i) c found) where
  abbrev new : Parts
  new = with_reread i found c

  abbrev log' : LogState
  log' = log_at found i

  -- whatever of its tail was kept, what is kept now was kept then
  pub kept-again : (moved keeps : Keeps) (j : ℕ) → kept_logs (tails_of (log_by new moved)) keeps j
      ≡ kept_logs (tails_of (log_by c (was_at i (seen i) c moved)))
      (kept_at i (half-kept i seen leaves c found m low high g was_loose idle only reads read moved) keeps) j
  kept-again moved keeps = kept-same i (half-kept i seen leaves c found m low high g was_loose idle only reads read moved)
      (log_by c (was_at i (seen i) c moved)) (log_by new moved)
      (settled-tails i seen leaves c found m low high g was_loose idle only reads read moved) keeps

  -- ---- how far it reaches

  -- it is the log that was in memory, with its tail or without
  same-groups : (moved : Keeps) (l : LogState) → l.start ≡ (log_by c (was_at i (seen i) c moved) i).start → StandsOn l (seen i)
      → Whole log'.groups log'.gate ≡ Whole l.groups l.gate
  same-groups moved l start stands = sym read.log.stands ∙ ap (λ (n : ℕ). reading n (area (seen i)))
      (read.log.start ∙ ((g.half (was_at i (seen i) c moved)).soundly.ready i low high (seen i)
      (could i seen leaves c found m low high g was_loose idle only reads read moved)).start ∙ sym start) ∙ stands

  pub reach-again : (moved : Keeps) (n : ℕ)
      → let l = log_by c (was_at i (seen i) c moved) i in
      ((l.gate + reserve (base_at l) ≤ n) × ((forced l).gate + reserve (all_at l) ≤ n))
      → (log'.gate + reserve (base_at log') ≤ n) × ((forced log').gate + reserve (all_at log') ≤ n)
  reach-again moved n r = ⊎_elim
      (λ s. let same = same-groups moved l refl s in both (ap gate_of same) (ap records_of same) r.0)
      (λ s. let same = same-groups moved (forced l) (forced-start l) s in
      both (ap gate_of same) (ap records_of same ∙ forced-base l) r.1)
      ((g.half (was_at i (seen i) c moved)).soundly.ready i low high (seen i)
      (could i seen leaves c found m low high g was_loose idle only reads read moved)).either
    where
      l : LogState
      l = log_by c (was_at i (seen i) c moved) i

      both : {gate : ℕ} {recs : List Rec} → log'.gate ≡ gate → base_at log' ≡ recs → gate + reserve recs ≤ n
          → (log'.gate + reserve (base_at log') ≤ n) × ((forced log').gate + reserve (all_at log') ≤ n)
      both {gate} {recs} e f le =
          let e' = ap reserve f in
          let e'' = ap reserve (all-read i seen leaves c found m low high g was_loose idle only reads read) in
          let gate' = ap (λ (k : LogState). k.gate) (forced-idle log' read.log.tail) in
          (omega (arith, e, e', le), omega (arith, e, e', e'', gate', le))

  -- ---- the greatest LSN

  pub reread-great : great_of new ≤ great_of c
  reread-great = let less = most-less (λ j. last_lsn (scanned (log_at new j))) (λ j. last_lsn (scanned (log_at c j))) 8 last-less in
      omega (arith, less)
    where
      here : last_lsn (scanned log') ≤ last_lsn (scanned (log_at c i))
      here = last-at-most log' (last_lsn (scanned (log_at c i)))
          (subst (Each (λ x. x.lsn ≤ last_lsn (scanned (log_at c i))))
          (sym (all-read i seen leaves c found m low high g was_loose idle only reads read))
          (each-most (last_lsn (scanned (log_at c i))) (base_at log') (⊎_elim
          (λ some. absurd (most-none (last_lsn (scanned (log_at c i))) (all_at (log_at c i)) (g.last i low high)
          (within i seen leaves c found m low high g was_loose idle only reads read
          (λ x. ltb (last_lsn (scanned (log_at c i))) x.lsn) some)))
          (λ none. none)
          (cases_Bool (list_any (λ x. ltb (last_lsn (scanned (log_at c i))) x.lsn) (base_at log'))))))

      last-less : (j : ℕ) → 1 ≤ j → j ≤ 8 → last_lsn (scanned (log_at new j)) ≤ last_lsn (scanned (log_at c j))
      last-less j lo hi = ⊎_elim
          (λ e. subst (λ (k : ℕ). last_lsn (scanned (log_at new k)) ≤ last_lsn (scanned (log_at c k))) (sym e)
          (subst (λ (k : LogState). last_lsn (scanned k) ≤ last_lsn (scanned (log_at c i)))
          (sym (log-here i seen leaves c found m low high g was_loose idle only reads read)) here))
          (λ ne. let e = ap (λ (k : LogState). last_lsn (scanned k))
          (log-else i seen leaves c found m low high g was_loose idle only reads read j ne) in omega (arith, e))
          (cases_eq j i)

  -- ---- what is owed

  owes-less : owed (base_at log') ≤ owed_at c i
  owes-less =
      let moved : Keeps = λ j. false in
      let l : LogState = log_by c (was_at i (seen i) c moved) i in
      let most = g.owed_loose (was_at i (seen i) c moved) i low high was_loose in
      let kept : Bool = half-kept i seen leaves c found m low high g was_loose idle only reads read moved in
      let is = ap owed (base-read i seen leaves c found m low high g was_loose idle only reads read moved) in
      let either = by kept l most.0 most.1 in omega (arith, is, either)
    where
      by : (b : Bool) (l : LogState) → owed (base_at l) ≤ owed_at c i → owed (all_at l) ≤ owed_at c i
          → owed (base_at l ++ cond b (tail_at l) []) ≤ owed_at c i
      by true l base all = all
      by false l base all = subst (λ (xs : List Rec). owed xs ≤ owed_at c i) (sym (append-nil (base_at l))) base

  pub reread-owes : owed_in_all new ≤ owed_in_all c
  reread-owes = sum-less (owes_most new) (owes_most c) 8 each
    where
      owed-is : owed_at new i ≡ owed (base_at log')
      owed-is = item-set 0 c.owed i (owed_at found i) low high g.shape.owed ∙ read.owed

      table-is : owed_of (txns_at new i) ≡ owed (base_at log')
      table-is = (told-again i seen leaves c found m low high g was_loose idle only reads read).owes
          ∙ ap (λ (l : LogState). owed (all_at l)) (log-here i seen leaves c found m low high g was_loose idle only reads read)
          ∙ ap owed (all-read i seen leaves c found m low high g was_loose idle only reads read)

      told : (b : Bool) → cond b (max (owed_at new i) (owed_of (txns_at new i))) (owed_at new i) ≤ owed_at c i
      told true = omega (arith, owed-is, table-is, owes-less)
      told false = omega (arith, owed-is, owes-less)

      here : owes_most new i ≤ owes_most c i
      here = subst (λ (b : Bool). cond b (owed_at new i)
          (cond (tells_log (status_at c i)) (max (owed_at new i) (owed_of (txns_at new i))) (owed_at new i)) ≤ owes_most c i)
          (sym (get_or-set_same c.loose i false true (omega (arith, high, g.shape.loose))))
          (subst (λ (b : Bool). cond (tells_log (status_at c i)) (max (owed_at new i) (owed_of (txns_at new i))) (owed_at new i)
          ≤ cond b (owed_at c i) (cond (tells_log (status_at c i)) (max (owed_at c i) (owed_of (txns_at c i))) (owed_at c i)))
          (sym was_loose) (told (tells_log (status_at c i))))

      each : (j : ℕ) → 1 ≤ j → j ≤ 8 → owes_most new j ≤ owes_most c j
      each j lo hi = ⊎_elim
          (λ e. subst (λ (k : ℕ). owes_most new k ≤ owes_most c k) (sym e) here)
          (λ ne.
          let marks : is_loose new j ≡ is_loose c j = get_or-set_other c.loose i j false true ne in
          let owes : owed_at new j ≡ owed_at c j = item-kept 0 c.owed i (owed_at found i) low j ne in
          let table : txns_at new j ≡ txns_at c j = item-kept no_txns c.txns i (txns_at found i) low j ne in
          let same : owes_most new j ≡ owes_most c j =
          ap (λ (b : Bool). cond b (owed_at new j) (cond (tells_log (status_at c j)) (max (owed_at new j) (owed_of (txns_at new j))) (owed_at new j))) marks
          ∙ ap (λ (n : ℕ). cond (is_loose c j) n (cond (tells_log (status_at c j)) (max n (owed_of (txns_at new j))) n)) owes
          ∙ ap (λ (x : Transactions). cond (is_loose c j) (owed_at c j) (cond (tells_log (status_at c j)) (max (owed_at c j) (owed_of x)) (owed_at c j))) table in
          omega (arith, same))
          (cases_eq j i)
