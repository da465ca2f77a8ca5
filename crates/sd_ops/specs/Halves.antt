-- A call of a transaction before its wait is ended: what it promises, and what its refusals tell.
use Rattle.std.specs.Prelude.{◌≡◌, ◌≢◌, Option, None, Some, Result, Ok, Err}
use Rattle.sd_base.specs.Waits.{Wait, Waits, with_wait}
use Rattle.sd_base.specs.declared.ids.Rid.{Rid}
use Rattle.sd_base.specs.declared.ids.TxnId.{TxnId}
use Rattle.sd_base.specs.declared.place.Status.TheVariants as S
use Rattle.sd_base.specs.declared.refusal.Refusal.{Refusal}
use Rattle.sd_base.specs.declared.refusal.Refusal.TheVariants as R
use Rattle.sd_model.specs.Exact.{IsExact, IsOfFreeSlot}
use Rattle.sd_model.specs.Fields.{txn_of}
use Rattle.sd_model.specs.Scenes.{asked_of}
use Rattle.sd_model.specs.Step.{Step}
use Rattle.sd_model.specs.declared.event.Event.{Event}
use Rattle.sd_model.specs.declared.event.Reply.{Reply}
use Rattle.sd_model.specs.declared.event.Reply.TheVariants as reply
use Rattle.sd_reclock.specs.Locks.{waits}
use Rattle.sd_rig.specs.Devices.{DeviceImages}
use Rattle.sd_chain.specs.Logs.{Outcomes}
use Rattle.sd_txn.specs.Transactions.{IsUnresolved, state_at}
use Rattle.sd_txn.specs.declared.state.TxnState.TheVariants as states
use Rattle.sd_world.specs.Answers.{Moves}
use Rattle.sd_world.specs.Bounds.{Within, bounds_after}
use Rattle.sd_world.specs.Serving.{AsksNear, Core, IsFault}
use Rattle.sd_state.specs.Parts.{Parts, status_at, txns_at}
use Rattle.sd_state.specs.Working.{with_locks}
use Rattle.sd_fits.specs.Fits.{Fits}

-- the waits with that of a call that is blocked
abbrev pub noted : Event → Option Rid → Reply → Waits → Waits
noted e wanted (reply.Refused (R.Blocked by)) waits = with_wait (txn_of e) (asked_of e wanted) waits
noted e wanted r waits = waits

-- The event with its reply is right of the serial table, the pages and the sums; a blocked call waits, and no wait is ended.
pub record HalfTurns (wanted : Option Rid) (old : Core) (e : Event) (r : Reply) (new : Core) : Type 0 where
  pub near : AsksNear old.bounds e wanted
  pub step : Step old.scene.state e r new.scene.state
  pub waits : (t : TxnId) → new.scene.waits t ≡ noted e wanted r old.scene.waits t
  pub exact : IsExact old.scene (txn_of e) (asked_of e wanted) r
  pub unused : IsOfFreeSlot old.scene.state e wanted r
  pub moves : Moves old.scene.state old.pages e r new.scene.state new.pages
  pub within : Within old.scene.state old.bounds e r
  pub sums : new.bounds ≡ bounds_after old.bounds e r

-- From each world that these parts fit, the reply, which tells no fault, turns to one that the new ones fit; want of memory spares all.
abbrev pub HalfServed : DeviceImages → (leaves : Outcomes) → Option Rid → Event → Option Reply → Parts → Parts → Type 0
HalfServed seen leaves wanted e None old new = (w : Core) → Fits seen leaves old w → Fits seen leaves new w
HalfServed seen leaves wanted e (Some r) old new =
    ((w : Core) → Fits seen leaves old w → (w' : Core) × HalfTurns wanted w e r w' × Fits seen leaves new w') × (IsFault r → ⊥)

-- ---- how waits begin and end

-- These wait so now, and nothing else is changed.
pub record IsRewaited (t : TxnId) (wait : Option Wait) (old new : Parts) : Type 0 where
  pub rest : new ≡ with_locks new.locks old
  pub locks : new.locks.locks ≡ old.locks.locks
  pub waits : (u : TxnId) → waits new.locks u ≡ with_wait t wait (waits old.locks) u

-- a blocked call waits for the lock, and nothing else is changed
abbrev pub NotesWait : TxnId → Wait → Refusal → Parts → Parts → Type 0
NotesWait t wait (R.Blocked by) old new = IsRewaited t (Some wait) old new
NotesWait t wait n old new = new ≡ old

-- why a call was refused
abbrev pub refusal_of : {X : Type 0} → Result X Refusal → Option Refusal
refusal_of (Ok x) = None
refusal_of (Err n) = Some n

-- the transaction waits for nothing, unless its call is blocked or wants memory
abbrev pub EndsWait : TxnId → Option Refusal → Parts → Parts → Type 0
EndsWait t (Some (R.Blocked by)) old new = new ≡ old
EndsWait t (Some R.Memory) old new = new ≡ old
EndsWait t n old new = IsRewaited t None old new

-- ---- what code sees

-- the transaction isn't known, its instance isn't up, or it rolls back: the first that is so
abbrev pub IsOff : TxnId → Parts → Refusal → Type 0
IsOff t c R.NoTxn = state_at (txns_at c t.inst) t ≡ None
IsOff t c R.Down = IsUnresolved (txns_at c t.inst) t × (status_at c t.inst ≢ S.Up)
IsOff t c (R.Busy by) =
    (by ≡ t) × IsUnresolved (txns_at c t.inst) t × (status_at c t.inst ≡ S.Up) × (state_at (txns_at c t.inst) t ≢ Some states.Running)
IsOff t c n = ⊥
