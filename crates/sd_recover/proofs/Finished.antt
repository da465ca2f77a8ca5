-- A recovery ends, and nothing is left to do: for the goals of `finish`.
use Rattle.std.proofs.Common.{◌≡◌, inl, inr, ⊎_elim, ℕ, ◌≤◌, Bool, false, cond, List, [], ◌∷◌, ◌++◌, length, map, append-nil, refl, sym, ap, ◌∙◌, subst, arith}
use Rattle.std.specs.Prelude.{Option, None, Some, if◌then◌else◌, is_some, option_and_then, option_map, sum_by}
use Rattle.std.proofs.lemmas.Bool.{cases_eq}
use Rattle.std.proofs.lemmas.List.Sums.{sum_by-cons}
use Rattle.sd_base.specs.declared.ids.Rid.{Rid}
use Rattle.sd_base.specs.declared.ids.TxnId.{TxnId}
use Rattle.sd_base.specs.declared.place.Status.{Status}
use Rattle.sd_base.specs.declared.place.Status.TheVariants as S
use Rattle.sd_logrec.specs.View.{flat}
use Rattle.sd_logrec.specs.declared.record.Record.{Record}
use Rattle.sd_reclock.specs.Locks.{held}
use Rattle.sd_rig.specs.Devices.{DeviceImages}
use Rattle.sd_txn.specs.Transactions.{Transaction, Transactions, ids, state_at, top, txn_at}
use Rattle.sd_txn.specs.declared.state.OpenRec.{OpenRec}
use Rattle.sd_txn.specs.declared.state.TxnState.{TxnState}
use Rattle.sd_chain.specs.Fates.{fate}
use Rattle.sd_chain.specs.Records.{home}
use Rattle.sd_chain.specs.Undoing.{Apart}
use Rattle.sd_chain.proofs.Fates.{fate-closed}
use Rattle.sd_model.specs.Lives.{SuitsStatus}
use Rattle.sd_model.specs.State.{State}
use Rattle.sd_model.specs.declared.act.Life.{Life}
use Rattle.sd_chain.specs.Logs.{Outcomes, all_at, base_at}
use Rattle.sd_world.specs.Serving.{Core}
use Rattle.sd_state.specs.Parts.{Parts, is_loose, log_at, status_at, txns_at}
use Rattle.sd_state.specs.Recovering.{IsDone, MayEnd}
use Rattle.sd_state.specs.Tables.{IsLogged, NamesLife, RowIsLogged, StandsAs, lock_of, tells_log}
use Rattle.sd_fits.specs.Fits.{Fits}
use Rattle.sd_recover.specs.Work.{tasks_at}
use Rattle.sd_recover.specs.Tasks as next
use Rattle.sd_recover.specs.Tasks.{AreThere, IsRowTask, open_lsn}
use Rattle.sd_recover.specs.declared.tasks.Task.TheVariants as task
use Rattle.sd_recover.proofs.Ends.{none-top}
use Rattle.sd_recover.proofs.Nexts.{none-to-end}
use Rattle.sd_recover.proofs.Reading.{table-sum}
use Rattle.sd_recover.proofs.Rows.{none-open, none-passes}

-- ---- nothing is left to do of a row

lock-none : (o : Option (ℕ × ℕ)) → is_some o ≡ false → o ≡ None
lock-none None e = refl
lock-none (Some x) e = absurd (cc)

-- a loser without an open record has an empty stack
none-there : (o : Option OpenRec) → option_map (λ (r : OpenRec). r.lsn) o ≡ None → o ≡ None
none-there None e = refl
none-there (Some r) e = absurd (cc)

module _ (i by : ℕ) (seen : DeviceImages) (leaves : Outcomes) (c : Parts) (w : Core) (f : Fits seen leaves c w) (low : 1 ≤ i) (high : i ≤ 8)
    (recovers : status_at c i ≡ S.Recovering by) (there : AreThere c) (done : IsRowTask (txns_at c i) task.Done)
    (no_tail : (log_at c i).tail ≡ []) where
  abbrev m : State
  m = w.scene.state

  abbrev table : Transactions
  table = txns_at c i

  settled : is_loose c i ≡ false
  settled = there.0 i high

  all-forced : all_at (log_at c i) ≡ base_at (log_at c i)
  all-forced = ap (λ (tail : List Record). base_at (log_at c i) ++ map flat tail) no_tail ∙ append-nil (base_at (log_at c i))

  stands : (t : TxnId) → home t ≡ i → SuitsStatus (m.part t).life (S.Recovering by)
  stands t own = subst (λ (s : Status). SuitsStatus (m.part t).life s)
      (ap (λ (j : ℕ). (m.inst j).status) own ∙ sym (f.good.instances i low high).status ∙ recovers) (f.good.placed.stands t)

  module _ (t : TxnId) (x : Transaction) (row : txn_at table t ≡ Some x) where
    own : home t ≡ i
    own = ⊎_elim (λ e. e) (λ ne. let clash = sym row ∙ (f.good.instances i low high).own t ne in absurd (cc)) (cases_eq (home t) i)

    named : StandsAs x.state (m.part t).life (fate t (base_at (log_at c i))) (fate t (all_at (log_at c i)))
    named = subst (λ (o : Option Transaction). NamesLife o (m.part t).life (fate t (base_at (log_at c i))) (fate t (all_at (log_at c i)))) row
        ((f.good.instances i low high).names t own)

    logged : RowIsLogged (Some x) t (all_at (log_at c i))
    logged = subst (λ (o : Option Transaction). RowIsLogged o t (all_at (log_at c i))) row
        ((f.good.told i low high (ap tells_log recovers) settled).rows t own)

    no-doubt : next.row_is_doubt (Some x.state) ≡ false
    no-doubt = sym (ap (λ (o : Option Transaction). next.row_is_doubt (option_map (λ (z : Transaction). z.state) o)) row)
        ∙ none-passes (λ u. next.row_is_doubt (state_at table u)) table.unresolved t x done.0 row

    undone : open_lsn table t ≡ None
    undone = none-open table table.unresolved t x done.1 row

    ended : cond {A = Bool} (next.is_loser (Some x.state)) (is_some x.span) false ≡ false
    ended = sym (ap (λ (o : Option Transaction). cond {A = Bool} (next.is_loser (option_map (λ (z : Transaction). z.state) o))
        (is_some (option_and_then (λ (z : Transaction). z.span) o)) false) row)
        ∙ none-to-end table done.2 t

    empty : cond {A = Option ℕ} (next.is_loser (Some x.state)) (option_map (λ (r : OpenRec). r.lsn) (top x)) None ≡ None
    empty = sym (ap (λ (o : Option Transaction). cond {A = Option ℕ} (next.is_loser (option_map (λ (z : Transaction). z.state) o))
        (option_map (λ (r : OpenRec). r.lsn) (option_and_then top o)) None) row) ∙ undone

    is-done : IsDone i t x
    is-done = by-state x.state refl
      where
        by-state : (s : TxnState) → x.state ≡ s → IsDone i t x
        by-state TxnState.Running e =
            absurd (subst (λ (l : Life). SuitsStatus l (S.Recovering by))
            (subst (λ (s : TxnState). StandsAs s (m.part t).life (fate t (base_at (log_at c i))) (fate t (all_at (log_at c i)))) e named)
            (stands t own))
        by-state (TxnState.Rolling to) e =
            absurd (subst (λ (l : Life). SuitsStatus l (S.Recovering by))
            (subst (λ (s : TxnState). StandsAs s (m.part t).life (fate t (base_at (log_at c i))) (fate t (all_at (log_at c i)))) e named)
            (stands t own))
        by-state TxnState.Doubt e = let clash = sym (ap (λ (s : TxnState). next.row_is_doubt (Some s)) e) ∙ no-doubt in absurd (cc)
        by-state TxnState.Retained e = record {
          own = own;
          state = inr e;
          emptied = none-top x.stack (none-there (top x) (sym (ap (λ (s : TxnState). cond {A = Option ℕ} (next.is_loser (Some s))
              (option_map (λ (r : OpenRec). r.lsn) (top x)) None) e) ∙ empty));
          span = lock-none x.span (sym (ap (λ (s : TxnState). cond {A = Bool} (next.is_loser (Some s)) (is_some x.span) false) e) ∙ ended);
        }
        by-state TxnState.Committed e =
            let stands_as = subst (λ (s : TxnState). StandsAs s (m.part t).life (fate t (base_at (log_at c i))) (fate t (all_at (log_at c i)))) e named in
            ⊎_elim
            (λ (l : IsLogged x t (all_at (log_at c i))). absurd (fate-closed t (all_at (log_at c i)) (inl (ap (fate t) all-forced ∙ stands_as.1)) l.alive))
            (λ s. record { own = own; state = inl e; emptied = s.emptied; span = s.span })
            logged

  unheld : (t : TxnId) → home t ≡ i → txn_at table t ≡ None → (r : Rid) → held c.locks t r ≡ None
  unheld t own none r =
      let life = subst (λ (o : Option Transaction). NamesLife o (m.part t).life (fate t (base_at (log_at c i))) (fate t (all_at (log_at c i)))) none
      ((f.good.instances i low high).names t own) in
      f.good.locks t r ∙ ap lock_of (f.good.gone t life r)

  pub may-finish : MayEnd i c
  may-finish = record {
    by = by;
    recovering = recovers;
    settled = settled;
    no_tail = no_tail;
    rows = is-done;
    unheld = unheld;
  }

-- ---- so no task is left in its rows

abbrev one_where : Bool → ℕ
one_where b = if b then 1 else 0

abbrev one_doubt : TxnState → ℕ
one_doubt s = cond (next.row_is_doubt (Some s)) 1 0

none-of-row : (i : ℕ) (t : TxnId) (x : Transaction) → IsDone i t x → next.tasks_of x ≡ 0
none-of-row i t x done =
    let doubt : one_doubt x.state ≡ 0 = ⊎_elim (λ e. ap one_doubt e) (λ e. ap one_doubt e) done.state in
    let stack = ap (λ (s : List OpenRec). length s) done.emptied in
    let span = ap (λ (o : Option (ℕ × ℕ)). one_where (is_some o)) done.span in
    omega (arith, doubt, stack, span)

none-at : (i : ℕ) (t : TxnId) (o : Option Transaction) → ((x : Transaction) → o ≡ Some x → IsDone i t x) → tasks_at o ≡ 0
none-at i t None done = refl
none-at i t (Some x) done = none-of-row i t x (done x refl)

none-in : (f : TxnId → ℕ) → ((t : TxnId) → f t ≡ 0) → (ts : List TxnId) → sum_by f ts ≡ 0
none-in f none [] = refl
none-in f none (t ∷ ts) =
    let here = none t in let rest = none-in f none ts in let all = sum_by-cons f t ts in omega (arith, here, rest, all)

pub none-left : (i : ℕ) (c : Parts) → MayEnd i c → Apart (ids (txns_at c i)) → next.tasks_in (txns_at c i) ≡ 0
none-left i c may apart =
    table-sum (λ t o. tasks_at o) (txns_at c i) apart
    ∙ none-in (λ t. tasks_at (txn_at (txns_at c i) t)) (λ t. none-at i t (txn_at (txns_at c i) t) (may.rows t)) (ids (txns_at c i))
