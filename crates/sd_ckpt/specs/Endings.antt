-- A checkpoint that an instance ends: what is left of a complex then.
use Rattle.std.specs.Prelude.{◌≡◌, ◌⊎◌, ℕ, ◌+◌, ◌-◌, ◌*◌, ◌^◌, ◌<◌, None, Some, length}
use Rattle.sd_base.specs.declared.refusal.Refusal.{Refusal}
use Rattle.sd_base.specs.declared.refusal.Refusal.TheVariants as R
use Rattle.sd_log.specs.Logs.{IsStartFor, forced}
use Rattle.sd_logrec.specs.Kept.{master}
use Rattle.sd_logrec.specs.declared.record.Record.{Record}
use Rattle.sd_logrec.specs.declared.record.Record.TheVariants as records
use Rattle.sd_rig.specs.Devices as rig
use Rattle.sd_chain.specs.Images.{Keeps}
use Rattle.sd_chain.specs.Logs.{Outcomes, next_lsn}
use Rattle.sd_moves.specs.Falling.{IsFallen, with_fallen}
use Rattle.sd_state.specs.Forcing.{with_failed, with_forced}
use Rattle.sd_state.specs.Parts.{Begun, Parts, check_at, count_at, epoch_at, log_at, low_of}
use Rattle.sd_update.specs.Sealing.{NoLsnLeft, NoRoomFor, with_more}
use Rattle.sd_ckpt.specs.Laws.{with_either}
use Rattle.sd_ckpt.specs.Masters.{IsMasterPut, next_master, with_master}
use Rattle.sd_ckpt.specs.Readings.{ReadsAlike, storage_by}

-- the record that ends a checkpoint, of this LSN, and the bytes that spell it
abbrev pub end_record : ℕ → Begun → Record
end_record lsn k = records.EndCheck lsn k.begin k.spans k.recs

abbrev pub end_len : Begun → ℕ
end_len k = 21 + 25 * length k.spans + 12 * length k.recs

-- the log of i has that record, with memory for so many bytes more
abbrev pub with_end : ℕ → Begun → ℕ → Parts → Parts
with_end i k spare c = with_more i (end_record (next_lsn (log_at c i) 0) k) spare c

-- and all of it is forced: it owes so many records
abbrev pub with_forced_end : ℕ → Begun → ℕ → ℕ → Parts → Parts
with_forced_end i k spare owes c =
    with_forced i (forced (log_at (with_end i k spare c) i)) owes (with_end i k spare c)

-- ---- why it isn't ended

-- no LSN is left for a further record and for all that is owed, or no further count for the master of i
abbrev pub NoneLeft : ℕ → Parts → Type 0
NoneLeft i c = NoLsnLeft i c ⊎ (count_at c i ≡ 2 ^ 64 - 1)

-- This checkpoint, which i has begun, may end: its end finds room and an LSN, and the master a further count.
pub record MayEnd (i : ℕ) (k : Begun) (c : Parts) : Type 0 where
  pub begun : check_at c i ≡ Some k
  pub room : NoRoomFor i (end_len k) c → ⊥
  pub lsns : NoLsnLeft i c → ⊥
  pub count : count_at c i + 1 < 2 ^ 64

-- the end of the checkpoint that i has begun finds no room
abbrev pub FindsNoRoom : ℕ → Parts → Type 0
FindsNoRoom i c = (k : Begun) × (check_at c i ≡ Some k) × NoRoomFor i (end_len k) c

-- it does, but no LSN or no count
abbrev pub FindsNoneLeft : ℕ → Parts → Type 0
FindsNoneLeft i c = (k : Begun) × (check_at c i ≡ Some k) × (NoRoomFor i (end_len k) c → ⊥) × NoneLeft i c

-- why the checkpoint of i isn't ended, where i takes checkpoints: the first cause that applies
abbrev pub StaysUnended : ℕ → Parts → Refusal → Type 0
StaysUnended i c R.NoCheck = check_at c i ≡ None
StaysUnended i c R.LogFull = FindsNoRoom i c
StaysUnended i c R.LsnEnd = FindsNoneLeft i c
StaysUnended i c R.Memory = (k : Begun) × MayEnd i k c
StaysUnended i c n = ⊥

-- ---- what is left

-- i has ended the checkpoint that it had begun: its log has the end, with the tables of the begin, all of it is forced, and it begins
-- at the greatest place that the checkpoint's low allows. The master that counts says so, whatever a crash leaves. From that place
-- the devices read as from the former one.
pub record HasEnded (i : ℕ) (seen seen' : rig.DeviceImages) (leaves' : Outcomes) (old new : Parts) : Type 0 where
  pub k : Begun
  pub begun : check_at old i ≡ Some k
  pub spare : ℕ
  pub owes : ℕ
  pub start : ℕ
  pub place : IsStartFor (low_of k) (log_at (with_forced_end i k spare owes old) i).groups
      (log_at (with_forced_end i k spare owes old) i).gate start
  pub is : new ≡ with_master i start (master (seen' i)).count (with_forced_end i k spare owes old)
  pub says : IsMasterPut (next_master (epoch_at old i) (next_lsn (log_at old i) 0) start (master (seen i))) (seen' i) (leaves' i)
  pub alike : (moved keeps : Keeps) → ReadsAlike (storage_by seen (with_forced_end i k spare owes old) moved keeps)
      (storage_by seen' new moved keeps)

-- The master of i couldn't be read: the log has the end, and is forced, and the checkpoint is begun as before.
pub record StaysBegun (i : ℕ) (old new : Parts) : Type 0 where
  pub k : Begun
  pub begun : check_at old i ≡ Some k
  pub spare : ℕ
  pub owes : ℕ
  pub is : new ≡ with_forced_end i k spare owes old

-- i, which this was left of, fell.
pub record FellFrom (i : ℕ) (mid new : Parts) : Type 0 where
  pub is : new ≡ with_fallen i new mid
  pub fallen : IsFallen i mid new

-- i fell as the end was forced: its log may have it on its device, or not.
pub record FellForcing (i : ℕ) (old new : Parts) : Type 0 where
  pub k : Begun
  pub begun : check_at old i ≡ Some k
  pub spare : ℕ
  pub fell : FellFrom i (with_failed i i (with_end i k spare old)) new

-- i fell as its master was put: the end is forced, and the log begins where it did or at the place that the master was to name.
pub record FellPutting (i : ℕ) (old new : Parts) : Type 0 where
  pub k : Begun
  pub begun : check_at old i ≡ Some k
  pub spare : ℕ
  pub owes : ℕ
  pub start : ℕ
  pub place : IsStartFor (low_of k) (log_at (with_forced_end i k spare owes old) i).groups
      (log_at (with_forced_end i k spare owes old) i).gate start
  pub fell : FellFrom i (with_either i start (with_forced_end i k spare owes old)) new

-- what a device that failed leaves
abbrev pub EndFails : ℕ → Parts → Parts → Type 0
EndFails i old new = StaysBegun i old new ⊎ (FellForcing i old new ⊎ FellPutting i old new)
