-- A complex that is ready for a call, and what code sees of one.
use Rattle.std.specs.Prelude.{◌≡◌, ℕ, List, true, None, Some}
use Rattle.sd_base.specs.Values.{size}
use Rattle.sd_base.specs.declared.ids.TxnId.{TxnId}
use Rattle.sd_base.specs.declared.place.Status.TheVariants as S
use Rattle.sd_logrec.specs.Spelling.{IsTxn}
use Rattle.sd_model.specs.State.{State}
use Rattle.sd_page.specs.Page.{Slot}
use Rattle.sd_pagelock.specs.Directory.{entry_at}
use Rattle.sd_pagelock.specs.Places.{owns}
use Rattle.sd_rig.specs.Devices as rig
use Rattle.sd_txn.specs.Transactions.{state_at, top_at}
use Rattle.sd_txn.specs.declared.state.OpenRec.{OpenRec}
use Rattle.sd_txn.specs.declared.state.TxnState.{TxnState}
use Rattle.sd_chain.specs.Pages.{FitsUpdate, value}
use Rattle.sd_chain.specs.Records.{Val, home}
use Rattle.sd_chain.specs.Logs.{Outcomes}
use Rattle.sd_state.specs.Good.{Good}
use Rattle.sd_state.specs.Parts.{Parts, status_at, txns_at}
use Rattle.sd_state.specs.Values.{Pending}

-- The complex is good for a state of the serial table, with nothing under way, and no fall is due.
pub record IsReady (seen : rig.DeviceImages) (leaves : Outcomes) (c : Parts) : Type 0 where
  pub idle : c.due ≡ None
  pub m : State
  pub good : Good seen leaves Pending.Idle c m

-- The transaction runs, on an instance that is up.
pub record Runs (t : TxnId) (c : Parts) : Type 0 where
  pub up : status_at c (home t) ≡ S.Up
  pub numbered : IsTxn t
  pub state : state_at (txns_at c (home t)) t ≡ Some TxnState.Running

-- The transaction rolls back wholly, on an instance that is up.
pub record Rolls (t : TxnId) (c : Parts) : Type 0 where
  pub up : status_at c (home t) ≡ S.Up
  pub numbered : IsTxn t
  pub state : state_at (txns_at c (home t)) t ≡ Some (TxnState.Rolling None)

-- It rolls back wholly, and has a record open, of a page that its instance has alone.
pub record MayTakeBack (t : TxnId) (c : Parts) : Type 0 where
  pub rolls : Rolls t c
  pub o : OpenRec
  pub last : top_at (txns_at c (home t)) t ≡ Some o
  pub held : owns (entry_at c.directory o.rid.page) (home t) ≡ true

-- A value of so many bytes fits the slot, which has this capacity, or a new slot behind the last one.
abbrev pub FitsAt : List Slot → ℕ → ℕ → ℕ → Type 0
FitsAt slots s capacity len = (after : Val) → size after ≡ len → FitsUpdate slots s capacity (value slots s) after
