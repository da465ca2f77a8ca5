-- What the calls of an end of a checkpoint find: the forced end is the log's last record, and whoever has a row is open. For the goals
-- of `check_end`.
use Rattle.std.proofs.Common.{◌≡◌, ◌≢◌, inl, inr, ⊎_elim, ℕ, ◌+◌, ◌-◌, ◌<◌, ◌^◌, ◌≤◌, Bool, true, false, ◌||◌, [], ◌∷◌, ◌++◌, refl, sym, ap, ◌∙◌, subst, arith, eq-eqb}
use Rattle.std.specs.Prelude.{Option, None, Some, get_or, option_map}
use Rattle.std.specs.List.{list_any}
use Rattle.std.proofs.Math.ListN.{get_or-map}
use Rattle.std.proofs.lemmas.Bool.{cases_eq}
use Rattle.std.proofs.lemmas.List.{length-set}
use Rattle.std.proofs.lemmas.List.Folds.{list_any-append}
use Rattle.sd_base.specs.declared.ids.TxnId.{TxnId}
use Rattle.sd_log.specs.Logs.{IsStartFor, LogState, forced, last_lsn, scanned, with_record}
use Rattle.sd_logrec.specs.Spelling.{HasSpelling}
use Rattle.sd_logrec.specs.declared.record.Record.{Record}
use Rattle.sd_model.specs.Acts.{live}
use Rattle.sd_model.specs.Lives.{IsFallen, SuitsStatus}
use Rattle.sd_model.specs.State.{State}
use Rattle.sd_model.specs.declared.act.Life.{Life}
use Rattle.sd_rig.specs.Devices as rig
use Rattle.sd_txn.specs.Transactions.{Transaction, txn_at}
use Rattle.sd_txn.specs.declared.state.TxnState.{TxnState}
use Rattle.sd_chain.specs.Checks.{is_end_check}
use Rattle.sd_chain.specs.Fates.{Fate, fate}
use Rattle.sd_chain.specs.Logs.{Outcomes, all_at, base_at, next_lsn, records_at}
use Rattle.sd_chain.specs.Records.{IsOpen, home}
use Rattle.sd_chain.proofs.Kept.{forced-records, forced-tail}
use Rattle.sd_state.specs.Complexes.{begun_of, parts}
use Rattle.sd_state.specs.declared.complex.Checkpoint.{Checkpoint}
use Rattle.sd_state.specs.declared.complex.Complex.{Complex}
use Rattle.sd_state.specs.Good.{IsChecking, TakesCheck}
use Rattle.sd_state.specs.Parts.{Begun, IsShape, Parts, check_at, count_at, is_loose, log_at, low_of, no_log, status_at, txns_at}
use Rattle.sd_state.specs.Tables.{NamesLife, StandsAs, goes_on_as}
use Rattle.sd_state.specs.Values.{Pending}
use Rattle.sd_state.proofs.Items.{item-is, item-set}
use Rattle.sd_state.proofs.Lasts.{last-forced, last-more}
use Rattle.sd_update.specs.Sealing.{MayCheck}
use Rattle.sd_world.specs.Serving.{Core}
use Rattle.sd_fits.specs.Fits.{Fits}
use Rattle.sd_ckpt.specs.Endings.{MayEnd, end_record, with_end, with_forced_end}
use Rattle.sd_ckpt.specs.Masters.{MayPutMaster}
use Rattle.sd_ckpt.proofs.CheckCalls.{begin-spelled}
use Rattle.sd_ckpt.proofs.Reached.{or-right}

-- ---- whoever has a row

stays-there : (s : TxnState) (forced whole : Fate) → StandsAs s Life.Gone forced whole → ⊥
stays-there TxnState.Running forced whole h = absurd (cc)
stays-there (TxnState.Rolling to) forced whole h = absurd (cc)
stays-there TxnState.Retained forced whole (inl h) = absurd (cc)
stays-there TxnState.Retained forced whole (inr h) = h.0
stays-there TxnState.Doubt forced whole h = h
stays-there TxnState.Committed forced whole h = h.0

module _ (i : ℕ) (seen : rig.DeviceImages) (leaves : Outcomes) (c : Parts) (w : Core) (f : Fits seen leaves c w) (low : 1 ≤ i)
    (high : i ≤ 8) (takes : TakesCheck (status_at c i)) where
  abbrev m : State
  m = w.scene.state

  -- is open, while its instance takes checkpoints
  pub rows-open : (t : TxnId) (x : Transaction) → txn_at (txns_at c i) t ≡ Some x → IsOpen t (all_at (log_at c i))
  rows-open t x is = ⊎_elim
      (λ own. subst (λ (j : ℕ). IsOpen t (all_at (log_at c j))) own (by own (m.part t).life refl))
      (λ ne. let clash : Some x ≡ None = sym is ∙ (f.good.instances i low high).own t ne in absurd (cc))
      (cases_eq (home t) i)
    where
      named : home t ≡ i
          → StandsAs x.state (m.part t).life (fate t (base_at (log_at c i))) (fate t (all_at (log_at c i)))
      named own = subst (λ (o : Option Transaction). NamesLife o (m.part t).life (fate t (base_at (log_at c i)))
          (fate t (all_at (log_at c i)))) is ((f.good.instances i low high).names t own)

      goes : home t ≡ i → (life : Life) → (m.part t).life ≡ life
          → goes_on_as life (Pending.Idle ≡ Pending.Commits t → ⊥) (live (m.part t).acts ≢ []) → IsOpen t (all_at (log_at c (home t)))
      goes own life e on = f.good.going t (omega (arith, own, low)) (omega (arith, own, high))
          (subst (λ (l : Life). goes_on_as l (Pending.Idle ≡ Pending.Commits t → ⊥) (live (m.part t).acts ≢ [])) (sym e) on)

      stands : home t ≡ i → IsFallen (m.inst (home t)).status → ⊥
      stands own fell = let here : IsFallen (status_at c i) = subst IsFallen (sym (f.good.instances i low high).status)
          (subst (λ (j : ℕ). IsFallen (m.inst j).status) own fell) in
          ⊎_elim (λ up. subst IsFallen up here) (λ re. subst IsFallen re here) takes

      suits : (life : Life) → (m.part t).life ≡ life → SuitsStatus life (m.inst (home t)).status
      suits life e = subst (λ (l : Life). SuitsStatus l (m.inst (home t)).status) e (f.good.placed.stands t)

      by : home t ≡ i → (life : Life) → (m.part t).life ≡ life → IsOpen t (all_at (log_at c (home t)))
      by own Life.Gone e = absurd (stays-there x.state (fate t (base_at (log_at c i))) (fate t (all_at (log_at c i)))
          (subst (λ (l : Life). StandsAs x.state l (fate t (base_at (log_at c i))) (fate t (all_at (log_at c i)))) e (named own)))
      by own Life.Running e = goes own Life.Running e (λ clash. absurd (cc))
      by own Life.Retained e = absurd (stands own (suits Life.Retained e))
      by own (Life.Rolling None) e = f.rolling t e
      by own (Life.Rolling (Some n)) e = goes own (Life.Rolling (Some n)) e tt
      by own (Life.Doubt cut) e = absurd (stands own (suits (Life.Doubt cut) e))

-- ---- the end that is forced

-- it is there
ended-last : (lsn spare : ℕ) (k : Begun) (l : LogState)
    → list_any (is_end_check lsn) (records_at (forced (with_record (end_record lsn k) spare l))) ≡ true
ended-last lsn spare k l =
    let y : Record = end_record lsn k in
    let own : (is_end_check lsn y || false) ≡ true = ap (λ (b : Bool). b || false) (eq-eqb lsn lsn refl) in
    ap (list_any (is_end_check lsn)) (forced-records (with_record y spare l))
    ∙ list_any-append (is_end_check lsn) (records_at l) (l.tail ++ y ∷ [])
    ∙ or-right (list_any (is_end_check lsn) (records_at l)) (list_any (is_end_check lsn) (l.tail ++ y ∷ []))
    (list_any-append (is_end_check lsn) l.tail (y ∷ [])
    ∙ or-right (list_any (is_end_check lsn) l.tail) (is_end_check lsn y || false) own)

-- The end of checkpoint k came to the log of i, and all of it is forced.
module _ (i spare owes : ℕ) (k : Begun) (c p : Parts) (low : 1 ≤ i) (high : i ≤ 8) (shape : IsShape c)
    (is : p ≡ with_forced_end i k spare owes c) where
  abbrev lsn : ℕ
  lsn = next_lsn (log_at c i) 0

  abbrev more : LogState
  more = with_record (end_record lsn k) spare (log_at c i)

  abbrev mid : Parts
  mid = with_end i k spare c

  pub forced-here : log_at p i ≡ forced more
  forced-here = ap (λ (q : Parts). log_at q i) is
      ∙ item-set no_log mid.logs i (forced (log_at mid i)) low high (length-set c.logs (i - 1) more ∙ shape.logs)
      ∙ ap forced (item-set no_log c.logs i more low high shape.logs)

  -- its master may be put
  pub may-put : (start : ℕ) → is_loose c i ≡ false → TakesCheck (status_at c i) → MayEnd i k c
      → IsStartFor (low_of k) (log_at p i).groups (log_at p i).gate start
      → ((t : TxnId) (x : Transaction) → txn_at (txns_at p i) t ≡ Some x → IsOpen t (all_at (log_at p i)))
      → MayPutMaster i lsn start p
  may-put start settled takes may place alive = record {
    takes = subst (λ (q : Parts). TakesCheck (status_at q i)) (sym is) takes;
    settled = ap (λ (q : Parts). is_loose q i) is ∙ settled;
    bare = ap (λ (l : LogState). l.tail) forced-here ∙ forced-tail more;
    begun = (k, ap (λ (q : Parts). check_at q i) is ∙ may.begun, place);
    check = sym (ap (λ (l : LogState). last_lsn (scanned l)) forced-here ∙ last-forced more
        ∙ last-more (log_at c i) (end_record lsn k) spare);
    ended = ap (λ (l : LogState). list_any (is_end_check lsn) (records_at l)) forced-here ∙ ended-last lsn spare k (log_at c i);
    count = subst (λ (q : Parts). count_at q i + 1 < 2 ^ 64) (sym is) may.count;
    alive = alive;
  }

-- ---- the checkpoint, and the record that ends it

pub check-item : {G : Type 0} (c : Complex G) (i : ℕ) (o : Option Checkpoint) → 1 ≤ i → i ≤ 8 → IsShape (parts c)
    → o ≡ get_or c.checks.items (i - 1) o → check_at (parts c) i ≡ option_map begun_of o
check-item c i o low high shape is = item-is {A = Option Begun} None (parts c).checks i (option_map begun_of o) low high shape.checks
    (ap (option_map begun_of) is ∙ sym (get_or-map (option_map begun_of) c.checks.items (i - 1) o))

module _ (i : ℕ) (seen : rig.DeviceImages) (leaves : Outcomes) (c : Parts) (w : Core) (f : Fits seen leaves c w) (low : 1 ≤ i)
    (high : i ≤ 8) (k : Begun) (may : MayEnd i k c) where
  abbrev check : IsChecking c i k
  check = f.good.checking i k may.begun

  abbrev record_now : Record
  record_now = end_record (next_lsn (log_at c i) 0) k

  pub end-may : MayCheck i record_now c
  end-may = record { stands = check.takes; kind = refl; no_start = refl; lsn = refl }

  pub end-spelled : HasSpelling record_now
  end-spelled =
      let small = begin-spelled i seen leaves c w f low high check.takes may.lsns in
      let begun = check.begun in
      let next = small.1 in
      (small, omega (arith, begun, next), check.spelled.0, check.spelled.1)
