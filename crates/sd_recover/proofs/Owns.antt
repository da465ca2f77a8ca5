-- What a task in the rows of a recovered instance is about: for the goals of `row_task`, and of the tasks of a recovery.
use Rattle.std.proofs.Common.{◌≡◌, ⊎_elim, ℕ, ◌≤◌, Bool, true, false, cond, refl, sym, ap, ◌∙◌}
use Rattle.std.specs.Prelude.{IsSome, None, Option, Some, is_some, option_and_then, option_map}
use Rattle.std.proofs.lemmas.Bool.{cases_eq}
use Rattle.sd_base.specs.declared.ids.TxnId.{TxnId}
use Rattle.sd_rig.specs.Devices.{DeviceImages}
use Rattle.sd_txn.specs.Transactions.{Transaction, Transactions, ids, span_at, state_at, top, top_at, txn_at}
use Rattle.sd_txn.specs.declared.state.OpenRec.{OpenRec}
use Rattle.sd_txn.specs.declared.state.TxnState.{TxnState}
use Rattle.sd_chain.specs.Records.{home}
use Rattle.sd_chain.specs.Logs.{Outcomes}
use Rattle.sd_world.specs.Serving.{Core}
use Rattle.sd_state.specs.Parts.{Parts, txns_at}
use Rattle.sd_update.proofs.Deciding.{has-row}
use Rattle.sd_fits.specs.Fits.{Fits}
use Rattle.sd_recover.specs.Tasks.{in_doubt, is_loser, last_open, row_is_doubt, to_end}
use Rattle.sd_recover.proofs.Nexts.{first-to-end}
use Rattle.sd_recover.proofs.Rows.{doubt-is, found-passes, last-open, loser-is, none-open, open-is}

none-some : {A : Type 0} (x : A) → None ≡ Some x → ⊥
none-some x e = cc

-- whose row an instance has is of that instance
pub own-row : (i : ℕ) (seen : DeviceImages) (leaves : Outcomes) (c : Parts) (w : Core) → Fits seen leaves c w → 1 ≤ i → i ≤ 8 → (t : TxnId)
    (s : TxnState) → state_at (txns_at c i) t ≡ Some s → home t ≡ i
own-row i seen leaves c w f low high t s is = ⊎_elim (λ e. e)
    (λ ne. absurd (none-some s (sym (ap (option_map (λ (x : Transaction). x.state)) ((f.good.instances i low high).own t ne)) ∙ is)))
    (cases_eq (home t) i)

module _ (table : Transactions) (t : TxnId) where
  pub doubtful : in_doubt table ≡ Some t → state_at table t ≡ Some TxnState.Doubt
  doubtful e = doubt-is (state_at table t) (found-passes (λ u. row_is_doubt (state_at table u)) (ids table) t e)

  pub open-loser : last_open table ≡ Some t → (state_at table t ≡ Some TxnState.Retained) × IsSome (top_at table t)
  open-loser e = open-is table t (last-open table (ids table) t e)

  both : (a b : Bool) → cond {A = Bool} a b false ≡ true → (a ≡ true) × (b ≡ true)
  both true b e = (refl, e)
  both false b e = absurd (cc)

  some-is : (o : Option (ℕ × ℕ)) → is_some o ≡ true → IsSome o
  some-is None e = absurd (cc)
  some-is (Some x) e = refl

  passes : to_end table ≡ Some t → (is_loser (state_at table t) ≡ true) × (is_some (span_at table t) ≡ true)
  passes e = both (is_loser (state_at table t)) (is_some (span_at table t))
      (first-to-end table t e).0

  pub ended-loser : to_end table ≡ Some t → state_at table t ≡ Some TxnState.Retained
  ended-loser e = loser-is (state_at table t) (passes e).0

  pub spoken : to_end table ≡ Some t → IsSome (span_at table t)
  spoken e = some-is (span_at table t) (passes e).1

  none-there : (o : Option OpenRec) → option_map (λ (r : OpenRec). r.lsn) o ≡ None → o ≡ None
  none-there None e = refl
  none-there (Some r) e = absurd (cc)

  -- it has no open record, where no loser has one
  pub bare : last_open table ≡ None → to_end table ≡ Some t → top_at table t ≡ None
  bare none e =
      let r = has-row table t TxnState.Retained (ended-loser e) in
      none-there (top_at table t)
      (sym (ap (λ (b : Bool). cond {A = Option ℕ} b (option_map (λ (q : OpenRec). q.lsn) (top_at table t)) None) (passes e).0)
      ∙ none-open table table.unresolved t r.x none r.row)

-- the last open record of its row
pub its-top : (table : Transactions) (t : TxnId) (x : Transaction) → txn_at table t ≡ Some x → (o : OpenRec) → top_at table t ≡ Some o
    → top x ≡ Some o
its-top table t x row o last = sym (ap (λ (q : Option Transaction). option_and_then top q) row) ∙ last
