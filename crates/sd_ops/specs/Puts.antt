-- A record's lock is given, and its value set: what that makes of a complex.
use Rattle.std.specs.Prelude.{◌≡◌, ℕ, ◌&&◌, cond, Some}
use Rattle.sd_base.specs.Ids.{same_rid, same_txn}
use Rattle.sd_base.specs.declared.ids.Rid.{Rid}
use Rattle.sd_base.specs.declared.ids.TxnId.{TxnId}
use Rattle.sd_base.specs.declared.place.Mode.{Mode}
use Rattle.sd_base.specs.declared.place.Mode.TheVariants as modes
use Rattle.sd_model.specs.State.{State}
use Rattle.sd_model.specs.Tables.{Content}
use Rattle.sd_reclock.specs.Locks.{held, raised}
use Rattle.sd_rig.specs.Devices.{DeviceImages}
use Rattle.sd_chain.specs.Logs.{Outcomes}
use Rattle.sd_update.specs.Changing.{IsMade, change_of, putting}
use Rattle.sd_state.specs.Good.{Good}
use Rattle.sd_state.specs.Parts.{Parts, pool_at}
use Rattle.sd_state.specs.Values.{Pending}
use Rattle.sd_state.specs.Working.{with_locks}

-- The transaction has the lock, or has it raised; nothing else is changed.
pub record IsGranted (t : TxnId) (r : Rid) (mode : Mode) (old new : Parts) : Type 0 where
  pub rest : new ≡ with_locks new.locks old
  pub given : (u : TxnId) (q : Rid) → held new.locks u q
      ≡ cond (same_txn t u && same_rid r q) (Some (raised (held old.locks t r) mode)) (held old.locks u q)
  pub waiting : new.locks.waiting ≡ old.locks.waiting

-- All locks are held as they were, and all else is as it was.
pub record IsLowered (old new : Parts) : Type 0 where
  pub rest : new ≡ with_locks new.locks old
  pub same : (u : TxnId) (q : Rid) → held new.locks u q ≡ held old.locks u q
  pub waiting : new.locks.waiting ≡ old.locks.waiting

-- The transaction has the record's exclusive lock, and set its value.
pub record IsPutThere (seen : DeviceImages) (leaves : Outcomes) (t : TxnId) (r : Rid) (capacity : ℕ) (after : Content) (old new : Parts) : Type 0 where
  pub mid : Parts
  pub granted : IsGranted t r modes.Excl old mid
  pub made : IsMade (change_of t r capacity after mid) mid new
  pub keeps : (m : State) → Good seen leaves Pending.Idle mid m → Good seen leaves Pending.Idle new (putting t r after m)
  pub frames : (pool_at new t.inst).frames ≡ (pool_at old t.inst).frames
