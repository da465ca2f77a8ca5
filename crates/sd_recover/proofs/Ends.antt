-- A loser gets its End: for the goals of `end_next`.
use Rattle.std.proofs.Common.{◌≡◌, ◌≢◌, inr, ⊎_elim, ℕ, ◌+◌, ◌-◌, ◌≤◌, false, cond, eqb, List, ◌∷◌, [], ◌++◌, length, slice_set, refl, sym, ap, ◌∙◌, subst, arith}
use Rattle.std.specs.Prelude.{Option, None, Some, IsSome, option_map, slice_get}
use Rattle.std.specs.Option.{option_and_then}
use Rattle.std.proofs.lemmas.Bool.{cases_eq}
use Rattle.sd_base.specs.declared.ids.TxnId.{TxnId}
use Rattle.sd_base.specs.declared.place.Status.TheVariants as S
use Rattle.sd_log.specs.Logs.{LogState, with_record}
use Rattle.sd_logrec.specs.Spelling.{spelling}
use Rattle.sd_logrec.specs.View.{flat}
use Rattle.sd_logrec.specs.declared.record.Record.{Record}
use Rattle.sd_model.specs.State.{State}
use Rattle.sd_rig.specs.Devices.{DeviceImages}
use Rattle.sd_reclock.specs.Locks.{waits}
use Rattle.sd_txn.specs.Owing.{owed_of}
use Rattle.sd_txn.specs.Transactions.{Transaction, Transactions, span_at, state_at, top, top_at, txn_at}
use Rattle.sd_txn.specs.declared.state.OpenRec.{OpenRec}
use Rattle.sd_txn.specs.declared.state.TxnState.{TxnState}
use Rattle.sd_chain.specs.Checks.{owed, reserve}
use Rattle.sd_chain.specs.Records.{IsOpen, home}
use Rattle.sd_chain.specs.Logs.{HasRecord, Outcomes, all_at}
use Rattle.sd_chain.proofs.Appends.{appended-log}
use Rattle.sd_chain.proofs.Owing.{end-owes}
use Rattle.sd_chain.proofs.Room.{end-len}
use Rattle.sd_world.specs.Serving.{Core}
use Rattle.sd_state.specs.Good.{Good}
use Rattle.sd_state.specs.Parts.{Parts, among, is_loose, log_at, no_log, no_txns, status_at, txns_at}
use Rattle.sd_update.specs.Sealing.{HasEnd, MayPutEnd, end_of}
use Rattle.sd_state.specs.Tables.{IsLogged, RowIsLogged, tells_log}
use Rattle.sd_state.specs.Values.{Pending}
use Rattle.sd_state.proofs.Items.{item-kept, item-set}
use Rattle.sd_update.proofs.SealedCalls.{has}
use Rattle.sd_fits.specs.Fits.{Fits, FitsBounds, FitsDoubts, FitsPages}
use Rattle.sd_fits.proofs.Recovering.{IsAside, step_sums}
use Rattle.sd_fits.proofs.Sealing.{AreMore, sealed-bounds, sealed-doubts, sealed-pages}

-- ---- its row

row-of : (o : Option Transaction) (state : TxnState) → option_map (λ (x : Transaction). x.state) o ≡ Some state
    → (x : Transaction) × (o ≡ Some x) × (x.state ≡ state)
row-of None state is = absurd (cc)
row-of (Some x) state is = (x, refl, cc)

-- an open record is last in its stack
top-there : (y : OpenRec) (ys : List OpenRec) → slice_get (y ∷ ys) (length ys) ≡ None → ⊥
top-there y [] e = absurd (cc)
top-there y (z ∷ zs) e = top-there z zs e

pub none-top : (xs : List OpenRec) → slice_get xs (length xs - 1) ≡ None → xs ≡ []
none-top [] e = refl
none-top (x ∷ xs) e =
    let k : length (x ∷ xs) - 1 ≡ length xs = omega arith in
    absurd (top-there x xs (sym (ap (λ (n : ℕ). slice_get (x ∷ xs) n) k) ∙ e))

pub may-end : (t : TxnId) (by : ℕ) (c : Parts) → status_at c (home t) ≡ S.Recovering by → is_loose c (home t) ≡ false
    → state_at (txns_at c (home t)) t ≡ Some TxnState.Retained → top_at (txns_at c (home t)) t ≡ None
    → IsSome (span_at (txns_at c (home t)) t) → MayPutEnd t c
may-end t by c recovers settled loser none spoken =
    let r = row-of (txn_at (txns_at c (home t)) t) TxnState.Retained loser in
    record {
      x = r.0;
      row = r.1;
      there = subst (λ (o : Option Transaction). IsSome (option_and_then (λ (x : Transaction). x.span) o)) r.1 spoken;
      empty = none-top r.0.stack (sym (ap (λ (o : Option Transaction). option_and_then top o) r.1) ∙ none);
      stands = inr (by, recovers, settled, r.2);
    }

none-some : (o : Option (ℕ × ℕ)) → o ≡ None → IsSome o → ⊥
none-some None e some = absurd (cc)
none-some (Some x) e some = absurd (cc)

-- ---- the log has its End

module _ (t : TxnId) (by : ℕ) (seen : DeviceImages) (leaves : Outcomes) (c : Parts) (w : Core) (f : Fits seen leaves c w)
    (low : 1 ≤ home t) (high : home t ≤ 8) (recovers : status_at c (home t) ≡ S.Recovering by) (settled : is_loose c (home t) ≡ false)
    (mid : Parts) (reads : leaves 0 (seen 0)) (h : HasEnd t (λ x. end_of t x c) c mid)
    (good : Good seen leaves Pending.Idle mid w.scene.state) where
  abbrev i : ℕ
  i = home t

  abbrev m : State
  m = w.scene.state

  abbrev log : LogState
  log = log_at c i

  abbrev y : Record
  y = end_of t h.x c

  alive : IsOpen t (all_at log)
  alive = ⊎_elim (λ (l : IsLogged h.x t (all_at log)). l.alive)
      (λ s. absurd (none-some h.x.span s.span h.ended.there))
      (subst (λ (o : Option Transaction). RowIsLogged o t (all_at log)) h.ended.row.was
      ((f.good.told i low high (ap tells_log recovers) settled).rows t refl))

  recorded : HasRecord t (all_at log)
  recorded = has t h.x seen leaves Pending.Idle c m f.good reads low high settled (ap tells_log recovers) h.ended.row.was h.ended.there

  takes : reserve (all_at log ++ flat y ∷ []) + length (spelling y) + 5 ≤ reserve (all_at log) + 0
  takes = let less = (end-owes (all_at log) (flat y) refl alive recorded).0 in let len = end-len y refl in omega (arith, less, len)

  log-here : log_at mid i ≡ with_record y h.spare log
  log-here = ap (λ (p : Parts). log_at p i) h.is ∙ item-set no_log c.logs i (with_record y h.spare log) low high f.good.shape.logs

  log-else : (j : ℕ) → j ≢ i → log_at mid j ≡ log_at c j
  log-else j ne = ap (λ (p : Parts). log_at p j) h.is ∙ item-kept no_log c.logs i (with_record y h.spare log) low j ne

  all-here : all_at (log_at mid i) ≡ all_at log ++ flat y ∷ []
  all-here = ap all_at log-here ∙ appended-log log y h.spare

  txns-else : (j : ℕ) → j ≢ i → txns_at mid j ≡ txns_at c j
  txns-else j ne = ap (λ (p : Parts). txns_at p j) h.is ∙ item-kept no_txns c.txns i h.table low j ne

  pub sealed-settled : is_loose mid i ≡ false
  sealed-settled = ap (λ (p : Parts). is_loose p i) h.is ∙ settled

  pub sealed-recovers : status_at mid i ≡ S.Recovering by
  sealed-recovers = ap (λ (p : Parts). status_at p i) h.is ∙ recovers

  owes-here : owed_of (txns_at mid i) ≤ owed_of (txns_at c i)
  owes-here =
      let told = (f.good.told i low high (ap tells_log recovers) settled).owes in
      let told' = (good.told i low high (ap tells_log sealed-recovers) sealed-settled).owes in
      let less = (end-owes (all_at log) (flat y) refl alive recorded).1 in
      let same : owed (all_at (log_at mid i)) ≡ owed (all_at log ++ flat y ∷ []) = ap owed all-here in
      omega (arith, told, told', less, same)

  owes : (j : ℕ) → 1 ≤ j → j ≤ 8 → owed_of (among no_txns (slice_set c.txns (i - 1) h.table) j) ≤ owed_of (txns_at c j)
  owes j lo hi = subst (λ (p : Parts). owed_of (txns_at p j) ≤ owed_of (txns_at c j)) h.is (⊎_elim
      (λ e. subst (λ (k : ℕ). owed_of (txns_at mid k) ≤ owed_of (txns_at c k)) (sym e) owes-here)
      (λ ne. let same = ap owed_of (txns-else j ne) in omega (arith, same))
      (cases_eq j i))

  more : AreMore i 0 w.bounds (step_sums i w)
  more = record {
    slots = λ p. refl;
    least = λ p. refl;
    here = grown (cond (eqb i i) 0 0) (w.bounds.reach i);
    reach = λ j. raised (cond (eqb i j) 0 0) (w.bounds.reach j);
    lsns = omega arith;
    masters = λ j. omega arith;
  }
    where
      grown : (x n : ℕ) → n + 0 ≤ x + n
      grown x n = omega arith

      raised : (x n : ℕ) → n ≤ x + n
      raised x n = omega arith

  pub sealed-pages-fit : FitsPages seen leaves mid w.pages
  sealed-pages-fit = subst (λ (p : Parts). FitsPages seen leaves p w.pages) (sym h.is)
      (sealed-pages i h.spare 0 y (slice_set c.txns (i - 1) h.table) c.epochs seen leaves Pending.Idle c m f.good low high settled
      refl refl takes owes w.pages f.pages)

  pub sealed-bounds-fit : FitsBounds seen leaves mid (step_sums i w)
  sealed-bounds-fit = subst (λ (p : Parts). FitsBounds seen leaves p (step_sums i w)) (sym h.is)
      (sealed-bounds i h.spare 0 y (slice_set c.txns (i - 1) h.table) c.epochs seen leaves Pending.Idle c m f.good low high settled
      refl refl takes owes w.bounds (step_sums i w) more f.bounds)

  pub sealed-doubts-fit : FitsDoubts seen mid m
  sealed-doubts-fit = subst (λ (p : Parts). FitsDoubts seen p m) (sym h.is)
      (sealed-doubts i h.spare 0 y (slice_set c.txns (i - 1) h.table) c.epochs seen leaves Pending.Idle c m f.good low high settled
      refl refl takes owes m (λ u doubt. refl) f.doubts)

  -- of other instances all is as it was
  pub sealed-aside : IsAside i c mid
  sealed-aside = record {
    opens = λ u ne opens. subst (λ (l : LogState). IsOpen u (all_at l)) (sym (log-else (home u) ne)) opens;
    spans = λ u ne. ap (λ (z : Transactions). span_at z u) (txns-else (home u) ne);
    waits = λ u. ap (λ (p : Parts). waits p.locks u) h.is;
  }
