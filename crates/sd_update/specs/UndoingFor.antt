-- The undo of a loser's last open record by the instance that recovers the loser's.
use Rattle.sd_state.specs.Forcing.{with_failed, with_forced, with_settled}
use Rattle.std.specs.Prelude.{◌≡◌, ℕ, ◌≤◌, true, false, [], None, Some}
use Rattle.sd_base.specs.declared.ids.TxnId.{TxnId}
use Rattle.sd_base.specs.declared.place.Status.TheVariants as S
use Rattle.sd_log.specs.Logs.{LogState, forced}
use Rattle.sd_model.specs.State.{State}
use Rattle.sd_page.specs.Page.{Page}
use Rattle.sd_pagelock.specs.Directory.{DirectoryState, entry_at}
use Rattle.sd_pagelock.specs.Places.{owns}
use Rattle.sd_pool.specs.Buffers.{Buffers}
use Rattle.sd_rig.specs.Devices as rig
use Rattle.sd_txn.specs.Transactions.{Transaction, Transactions, top, txn_at}
use Rattle.sd_txn.specs.declared.state.OpenRec.{OpenRec}
use Rattle.sd_txn.specs.declared.state.TxnState.{TxnState}
use Rattle.sd_chain.specs.Checks.{owed}
use Rattle.sd_chain.specs.Records.{home}
use Rattle.sd_chain.specs.Logs.{Outcomes, all_at}
use Rattle.sd_state.specs.Good.{Good}
use Rattle.sd_state.specs.Parts.{Parts, is_loose, log_at, status_at, txns_at, actor, owed_at}
use Rattle.sd_update.specs.Undoing.{HasTop, IsUndone, with_undone_by, HasUndone}
use Rattle.sd_state.specs.Values.{Pending}

-- Instance a, whose own log has no tail, recovers that of the transaction, which is a loser, and has the page of its last open
-- record alone.
pub record MayUndoFor (a : ℕ) (t : TxnId) (x : Transaction) (o : OpenRec) (image : Page) (c : Parts) : Type 0 where
  pub low : 1 ≤ a
  pub high : a ≤ 8
  pub idle : c.due ≡ None
  pub recovers : status_at c (home t) ≡ S.Recovering a
  pub loser : x.state ≡ TxnState.Retained
  pub top : HasTop a t x o image c
  pub own_forced : (log_at c a).tail ≡ []

-- The undo keeps the invariant for the same state of the serial table. From then on the instance is to fall by that log, until
-- it is forced.
abbrev pub UndoForIsGood : Outcomes → Type 0
UndoForIsGood leaves = (seen : rig.DeviceImages) (c : Parts) (m : State) (a : ℕ) (t : TxnId) (x : Transaction) (o : OpenRec) (image : Page)
    (log : LogState) (pool : Buffers) (table : Transactions) (places : DirectoryState Page) → Good seen leaves Pending.Idle c m
    → MayUndoFor a t x o image c → IsUndone a t x o image log pool table places c
    → Good seen leaves Pending.Idle (with_undone_by a (home t) log pool table places (Some (a, home t)) c) m

-- ---- the call

-- Instance a recovers that of the transaction, which is a loser with an open record, and has the page of that alone. Both logs are
-- settled, and no fall is due.
pub record MayUndoLoser (a : ℕ) (t : TxnId) (c : Parts) : Type 0 where
  pub idle : c.due ≡ None
  pub recovers : status_at c (home t) ≡ S.Recovering a
  pub settled : is_loose c (home t) ≡ false
  pub own_settled : is_loose c a ≡ false
  pub x : Transaction
  pub o : OpenRec
  pub row : txn_at (txns_at c (home t)) t ≡ Some x
  pub loser : x.state ≡ TxnState.Retained
  pub last : top x ≡ Some o
  pub held : owns (entry_at c.directory o.rid.page) a ≡ true

-- the log of instance a is forced, and owes so many then
abbrev pub own_forced : ℕ → ℕ → Parts → Parts
own_forced a owes c = with_forced a (forced (log_at c a)) owes c

-- With its own log forced, instance a has undone the last open record of the transaction; then the loser's log was forced, too.
pub record HasUndoneFor (a : ℕ) (t : TxnId) (old new : Parts) : Type 0 where
  pub owes : ℕ
  pub owes_is : owes ≡ owed (all_at (log_at old a))
  pub between : Parts
  pub undone : HasUndone a (Some (a, home t)) t (own_forced a owes old) between
  pub forced : new ≡ with_settled (home t) (forced (log_at between (home t))) (owed_at new (home t)) between

-- Or the loser's log was not forced: instance a is to fall by it.
pub record HasFailedFor (a : ℕ) (t : TxnId) (old new : Parts) : Type 0 where
  pub owes : ℕ
  pub owes_is : owes ≡ owed (all_at (log_at old a))
  pub between : Parts
  pub undone : HasUndone a (Some (a, home t)) t (own_forced a owes old) between
  pub failed : new ≡ with_failed (actor between (home t)) (home t) between
