-- What a call of a transaction leaves of a complex that no world has, by its answer.
use Rattle.std.specs.Prelude.{◌≡◌, ℕ, Bool, true, false, Some, Result, Ok, Err}
use Rattle.sd_base.specs.declared.ids.TxnId.{TxnId}
use Rattle.sd_base.specs.declared.refusal.Refusal.{Refusal}
use Rattle.sd_base.specs.declared.refusal.Refusal.TheVariants as R
use Rattle.sd_pool.specs.Buffers.{used}
use Rattle.sd_chain.specs.Records.{home}
use Rattle.sd_state.specs.Parts.{Parts, pool_at, txns_at}
use Rattle.sd_state.specs.Working.{with_locks}
use Rattle.sd_txn.specs.Transactions.{top_at}
use Rattle.sd_txn.specs.declared.state.OpenRec.{OpenRec}
use Rattle.sd_fits.specs.Untouched.{FallTouches, HasChanged, IsUntouched, none_of, only}

-- All but the locks of records and the waits for them is as it was.
pub record OnlyLocks (old new : Parts) : Type 0 where
  pub rest : new ≡ with_locks new.locks old
  pub untouched : IsUntouched none_of none_of old new

-- Instance i used page p last, and nothing besides is touched.
pub record HasUsed (i p : ℕ) (old new : Parts) : Type 0 where
  pub pool : pool_at new i ≡ used (pool_at old i) p
  pub rest : IsUntouched (only i) none_of old new

-- a change of page p at instance i
abbrev pub ChangeLeaves : {X : Type 0} → ℕ → ℕ → Result X Refusal → Parts → Parts → Type 0
ChangeLeaves i p (Ok x) old new = HasChanged i p old new
ChangeLeaves i p (Err n) old new = OnlyLocks old new

-- a call that reads page p at instance i
abbrev pub UseLeaves : {X : Type 0} → ℕ → ℕ → Result X Refusal → Parts → Parts → Type 0
UseLeaves i p (Ok x) old new = HasUsed i p old new
UseLeaves i p (Err n) old new = OnlyLocks old new

-- a call that changes a table of transactions alone
abbrev pub TableLeaves : {X : Type 0} → Result X Refusal → Parts → Parts → Type 0
TableLeaves (Ok x) old new = IsUntouched none_of none_of old new
TableLeaves (Err n) old new = OnlyLocks old new

-- the end of a transaction of instance i, which fell where its log was not forced
abbrev pub EndLeaves : {X : Type 0} → ℕ → Result X Refusal → Parts → Parts → Type 0
EndLeaves i (Ok x) old new = IsUntouched none_of none_of old new
EndLeaves i (Err R.Failed) old new = FallTouches i (only i) none_of old new
EndLeaves i (Err R.CutCommit) old new = FallTouches i (only i) none_of old new
EndLeaves i (Err n) old new = OnlyLocks old new

-- an undo of a transaction: of its last open record, or the end of its rollback
abbrev pub UndoLeaves : TxnId → Result Bool Refusal → Parts → Parts → Type 0
UndoLeaves t (Ok false) old new =
    (o : OpenRec) × (top_at (txns_at old (home t)) t ≡ Some o) × HasChanged (home t) o.rid.page old new
UndoLeaves t (Ok true) old new = IsUntouched none_of none_of old new
UndoLeaves t (Err n) old new = EndLeaves {X = Bool} (home t) (Err n) old new
