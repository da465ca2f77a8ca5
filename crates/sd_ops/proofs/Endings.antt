-- What calls leave that end a transaction, roll it back, or are refused before that; and how many device calls they are. For `commit`,
-- `finish`, `undo` and `rollback_step`.
use Rattle.std.proofs.Common.{◌≡◌, ◌≢◌, ◌⊎◌, inl, inr, ℕ, ◌<◌, ◌≤◌, Bool, true, false, [], refl, sym, ap, ◌∙◌, subst, arith}
use Rattle.std.specs.Prelude.{Option, None, Some, IsSome, Result, Ok, Err, IfOk}
use Rattle.sd_base.specs.declared.ids.TxnId.{TxnId}
use Rattle.sd_base.specs.declared.refusal.Refusal.{Refusal}
use Rattle.sd_base.specs.declared.refusal.Refusal.TheVariants as R
use Rattle.sd_chain.specs.Records.{home}
use Rattle.sd_log.specs.Logs.{LogState, with_record}
use Rattle.sd_logrec.specs.declared.record.Record.{Record}
use Rattle.sd_model.specs.Changes.{goal}
use Rattle.sd_state.specs.Forcing.{with_failed, with_forced}
use Rattle.sd_state.specs.Parts.{IsShape, Parts, is_loose, log_at, no_log, txns_at}
use Rattle.sd_state.specs.Working.{with_working}
use Rattle.sd_state.proofs.Items.{item-set}
use Rattle.sd_txn.specs.Transactions.{Transaction, Transactions, depth_at, state_at}
use Rattle.sd_txn.specs.declared.state.TxnState.{TxnState}
use Rattle.sd_update.specs.Sealing.{HasEnd, with_last}
use Rattle.sd_update.proofs.UndoneForCalls.{some-tail}
use Rattle.sd_fits.specs.Untouched.{FallTouches, IsUntouched, none_of, only}
use Rattle.sd_moves.specs.Falling.{IsFallen, with_fallen}
use Rattle.sd_ops.specs.Halves.{EndsWait, IsOff, refusal_of}
use Rattle.sd_ops.specs.Leaving.{EndLeaves, OnlyLocks, TableLeaves, UndoLeaves}
use Rattle.sd_ops.specs.Rolling.{EndsRecorded, IsAbove, IsOut, LacksAlone}
use Rattle.sd_ops.proofs.Leaving.{fall-touches, forced-untouched, last-untouched, locks-then, touched-locks, untouched-then, working-untouched}
use Rattle.sd_ops.proofs.Logging.{ends-only}

-- ---- refusals

pub off-end : (t : TxnId) (i : ℕ) (c old new : Parts) (n : Refusal) → IsOff t c n → OnlyLocks old new
    → EndLeaves {X = Unit {0}} i (Err n) old new
off-end t i c old new R.Failed off h = elim off [ ]
off-end t i c old new R.CutCommit off h = elim off [ ]
off-end t i c old new n off h = h

pub out-end : (t : TxnId) (i : ℕ) (c old new : Parts) (n : Refusal) → IsOut t c n → OnlyLocks old new
    → EndLeaves {X = Bool} i (Err n) old new
out-end t i c old new R.Failed out h = elim out [ ]
out-end t i c old new R.CutCommit out h = elim out [ ]
out-end t i c old new n out h = h

pub lacks-end : (i p : ℕ) (c old new : Parts) (n : Refusal) → LacksAlone i p c n → OnlyLocks old new
    → EndLeaves {X = Bool} i (Err n) old new
lacks-end i p c old new R.Failed lacks h = elim lacks [ ]
lacks-end i p c old new R.CutCommit lacks h = elim lacks [ ]
lacks-end i p c old new n lacks h = h

-- an end that is told as one is an undo's
pub end-undo : (t : TxnId) (result : Result Bool Refusal) (old new : Parts) → EndLeaves (home t) result old new
    → IfOk result (λ done. done ≡ true) → UndoLeaves t result old new
end-undo t (Ok true) old new h done = h
end-undo t (Ok false) old new h done = absurd (cc)
end-undo t (Err n) old new h done = h

pub ends-so : (result : Result Bool Refusal) → result ≡ Ok false → IfOk result (λ done. done ≡ true) → ⊥
ends-so result is done = let so : false ≡ true = subst (λ (r : Result Bool Refusal). IfOk r (λ b. b ≡ true)) is done in absurd (cc)

-- a call whose wait is ended
pub ended-table : {X : Type 0} (t : TxnId) (result : Result X Refusal) (old mid new : Parts) → TableLeaves result old mid
    → EndsWait t (refusal_of result) mid new → TableLeaves result old new
ended-table t (Ok x) old mid new h ends = touched-locks none_of none_of old mid new h (ends-only t None mid new ends).rest
ended-table t (Err n) old mid new h ends = locks-then old mid new h (ends-only t (Some n) mid new ends).rest

-- ---- device calls

-- once its last record has come
pub ended-tail : (t : TxnId) (made : Transaction → Record) (old new : Parts) → 1 ≤ home t → home t ≤ 8 → IsShape old → HasEnd t made old new
    → (log_at new (home t)).tail ≢ []
ended-tail t made old new low high s h e = some-tail (log_at old (home t)).tail (made h.x)
    (sym (ap (λ (l : LogState). l.tail) (ap (λ (c : Parts). log_at c (home t)) h.is
    ∙ item-set no_log old.logs (home t) (with_record (made h.x) h.spare (log_at old (home t))) low high s.logs)) ∙ e)

-- one that undoes a record doesn't end
pub above-goes_on : (t : TxnId) (to : Option ℕ) (c : Parts) → IsAbove t to c → EndsRecorded t c → ⊥
above-goes_on t to c above ends =
    let e = sym above.rolls ∙ ends.rolls in
    let whole : to ≡ None = cc in
    let some : 0 < depth_at (txns_at c t.inst) t = subst (λ (o : Option ℕ). goal o < depth_at (txns_at c t.inst) t) whole above.above in
    let none = ends.empty in absurd (omega (arith, some, none))

-- nor does one that runs, or is at its mark
pub other-goes_on : (t : TxnId) (state : TxnState) (c : Parts) → state_at (txns_at c t.inst) t ≡ Some state → state ≢ TxnState.Rolling None
    → EndsRecorded t c → ⊥
other-goes_on t state c stands ne ends = let e = sym stands ∙ ends.rolls in let same : state ≡ TxnState.Rolling None = cc in ne same

pub none-some : (o : Option (ℕ × ℕ)) → o ≡ None → IsSome o → ⊥
none-some None none some = absurd (cc)
none-some (Some x) none some = absurd (cc)

pub is-span : (o : Option (ℕ × ℕ)) → (o ≡ None) ⊎ IsSome o
is-span None = inl refl
is-span (Some x) = inr refl

-- ---- the last record of a transaction, and its force

module _ (t : TxnId) (made : Transaction → Record) (old sealed then new : Parts) (h : HasEnd t made old sealed) where
  abbrev i : ℕ
  i = home t

  pub ended-settled : is_loose old i ≡ false → is_loose sealed i ≡ false
  ended-settled was = ap (λ (c : Parts). is_loose c i) h.is ∙ was

  -- the log was forced, and the transaction is over
  pub forced-left : (log : LogState) (owes : ℕ) (table : Transactions) → then ≡ with_forced i log owes sealed
      → new ≡ with_working i table new.locks then → IsUntouched none_of none_of old new
  forced-left log owes table forced is = untouched-then old then new
      (untouched-then old sealed then (last-untouched i h.spare (made h.x) h.table old sealed h.is)
      (forced-untouched i log owes sealed then forced))
      (working-untouched i table new.locks then new is)

  -- the force failed, and the instance has fallen
  pub failed-left : (a : ℕ) → 1 ≤ i → i ≤ 8 → IsShape old → then ≡ with_failed a i sealed → new ≡ with_fallen i new then → IsFallen i then new
      → FallTouches i (only i) none_of old new
  failed-left a low high s failed is fell =
      let cut : then ≡ with_failed a i (with_last i (made h.x) h.spare h.table old) = failed ∙ ap (with_failed a i) h.is in
      fall-touches i a h.spare (made h.x) h.table old new low high s
      (subst (λ (c : Parts). new ≡ with_fallen i new c) cut is) (subst (λ (c : Parts). IsFallen i c new) cut fell)
