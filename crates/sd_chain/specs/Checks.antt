-- When the bytes of nine devices are sound: seven checks, in the order in which they are made. Each names the place that it
-- finds wrong; devices are numbered from 0, and places of an area begin at byte 130 of a log device.
use Rattle.std.specs.Prelude.{◌≡◌, ◌≢◌, ◌⊎◌, is_some, leb, ℕ, ◌+◌, ◌^◌, ◌<◌, ◌≤◌, ◌==◌, Bool, true, false, IsTrue, not, ◌&&◌, List, [], ◌∷◌, length, map, drop, filter, cond, Some, IfSome, sum_by}
use Rattle.std.specs.List.{flat_map, list_any}
use Rattle.sd_base.specs.declared.ids.TxnId.{TxnId}
use Rattle.sd_base.specs.Ids.{same_txn}
use Rattle.sd_base.specs.Twin.{Same, body_at, chosen_body, chosen_slot, is_open}
use Rattle.sd_logrec.specs.declared.record.Record.{Record}
use Rattle.sd_logrec.specs.declared.record.Record.TheVariants as records
use Rattle.sd_logrec.specs.Kept.{Reading, Records, Master, Whole, BadGroup, NoRecord, kept, master, master_of}
use Rattle.sd_logrec.specs.View.{Rec, flat}
use Rattle.sd_page.specs.Spelling.{WellFormed}
use Rattle.sd_base.specs.Values.{size}
use Rattle.sd_rig.specs.Devices as rig
use Rattle.sd_chain.specs.Records.{ends, stack, Each}
use Rattle.sd_chain.specs.Order.{Tidy, speaks}
use Rattle.sd_chain.specs.Storage.{Sound}
use Rattle.sd_chain.specs.Bytes.{log_of, stable, twin_at}

-- the kept records of a log, each with its place; none of a log that breaks the format
abbrev pub placed_of : Reading → Records
placed_of (Whole groups gate) = flat_map (λ g. g.records) groups
placed_of (BadGroup at) = []
placed_of (NoRecord at) = []

abbrev pub lsn_of : Record → ℕ
lsn_of r = (flat r).lsn

-- 1: the masters

-- an open slot of a master: its body names area 0 and a place in it, and has zeros behind
pub record IsMaster (body : List ℕ) : Type 0 where
  pub area : (master_of (Some body)).log_area ≡ 0
  pub start : (master_of (Some body)).start < 1048576
  pub zeros : drop 25 body ≡ map (λ _. 0) (drop 25 body)

abbrev pub IsSlot : ℕ → List ℕ → Type 0
IsSlot gate bytes = is_open gate bytes ≡ true → IsMaster (body_at 64 gate bytes)

-- the record that ended a checkpoint, of this LSN
abbrev pub is_end_check : ℕ → Record → Bool
is_end_check lsn (records.Start l epoch) = false
is_end_check lsn (records.Update l txn prev page slot capacity before after) = false
is_end_check lsn (records.Clr l txn prev undo_next page slot after) = false
is_end_check lsn (records.Commit l txn prev) = false
is_end_check lsn (records.End l txn prev) = false
is_end_check lsn (records.BeginCheck l) = false
is_end_check lsn (records.EndCheck l begin spans recs) = l == lsn

-- The slots of the master are well formed and their counts differ, and where one counts, the checkpoint that it names is
-- kept. What fails is told at place 0.
pub record MasterIsSound (bytes : List ℕ) : Type 0 where
  pub differ : chosen_slot 0 64 bytes ≢ Same
  pub first : IsSlot 0 bytes
  pub second : IsSlot 65 bytes
  pub ended : IfSome (chosen_body 0 64 bytes)
      (λ _. IsTrue (list_any (λ r. is_end_check (master bytes).check r.1) (placed_of (kept bytes))))

-- 2: the groups

-- what the records so far say: the greatest LSN, and the epoch of the last Start, or the master's
pub record Past : Type 0 where
  pub lsn : ℕ
  pub epoch : ℕ
  -- a Start came
  pub started : Bool

abbrev pub past_of : Master → Past
past_of m = record { lsn = 0; epoch = m.epoch; started = false }

abbrev pub after_record : Past → Record → Past
after_record past (records.Start l epoch) = record { lsn = l; epoch = epoch; started = true }
after_record past (records.Update l txn prev page slot capacity before after) = record past { lsn = l }
after_record past (records.Clr l txn prev undo_next page slot after) = record past { lsn = l }
after_record past (records.Commit l txn prev) = record past { lsn = l }
after_record past (records.End l txn prev) = record past { lsn = l }
after_record past (records.BeginCheck l) = record past { lsn = l }
after_record past (records.EndCheck l begin spans recs) = record past { lsn = l }

-- a transaction of this instance, that began by now
abbrev pub IsOwn : ℕ → Past → TxnId → Type 0
IsOwn inst past txn = (txn.inst ≡ inst) × (txn.epoch ≤ past.epoch)

-- a record that may come next, of what it speaks of
abbrev pub MayCome : ℕ → Past → Record → Type 0
MayCome inst past (records.Start l epoch) = Unit {0}
MayCome inst past (records.Update l txn prev page slot capacity before after) = IsOwn inst past txn
MayCome inst past (records.Clr l txn prev undo_next page slot after) = IsOwn inst past txn
MayCome inst past (records.Commit l txn prev) = IsOwn inst past txn
MayCome inst past (records.End l txn prev) = IsOwn inst past txn
MayCome inst past (records.BeginCheck l) = Unit {0}
MayCome inst past (records.EndCheck l begin spans recs) = Unit {0}

-- a Start at or before this LSN
abbrev pub starts_by : ℕ → Record → Bool
starts_by lsn (records.Start l epoch) = leb l lsn
starts_by lsn (records.Update l txn prev page slot capacity before after) = false
starts_by lsn (records.Clr l txn prev undo_next page slot after) = false
starts_by lsn (records.Commit l txn prev) = false
starts_by lsn (records.End l txn prev) = false
starts_by lsn (records.BeginCheck l) = false
starts_by lsn (records.EndCheck l begin spans recs) = false

-- A Start that the checkpoint knew: its epoch rises, doesn't pass the master's, and is the master's where it is the last one.
pub record IsKnownStart (m : Master) (past : Past) (epoch : ℕ) (rest : List Record) : Type 0 where
  pub rises : past.started ≡ true → past.epoch < epoch
  pub within : epoch ≤ m.epoch
  pub last : list_any (starts_by m.check) rest ≡ false → epoch ≡ m.epoch

-- one behind the checkpoint, or without one, has the next epoch
abbrev pub StartFits : Bool → Master → Past → Record → List Record → Type 0
StartFits chosen m past (records.Start l epoch) rest =
    (chosen ≡ true → l ≤ m.check → IsKnownStart m past epoch rest) × ((chosen ≡ false) ⊎ (m.check < l) → epoch ≡ past.epoch + 1)
StartFits chosen m past (records.Update l txn prev page slot capacity before after) rest = Unit {0}
StartFits chosen m past (records.Clr l txn prev undo_next page slot after) rest = Unit {0}
StartFits chosen m past (records.Commit l txn prev) rest = Unit {0}
StartFits chosen m past (records.End l txn prev) rest = Unit {0}
StartFits chosen m past (records.BeginCheck l) rest = Unit {0}
StartFits chosen m past (records.EndCheck l begin spans recs) rest = Unit {0}

-- each record follows those before it: its LSN is greater
abbrev pub Follow : ℕ → Bool → Master → Past → List Record → Type 0
Follow inst chosen m past [] = Unit {0}
Follow inst chosen m past (r ∷ rest) =
    (past.lsn < lsn_of r) × MayCome inst past r × StartFits chosen m past r rest × Follow inst chosen m (after_record past r) rest

abbrev pub IsWhole : Reading → Type 0
IsWhole (Whole groups gate) = Unit {0}
IsWhole (BadGroup at) = ⊥
IsWhole (NoRecord at) = ⊥

-- the kept records of a log
abbrev pub records_in : List ℕ → List Record
records_in bytes = map (λ r. r.1) (placed_of (kept bytes))

-- The groups keep the format, and their records follow one another. What fails is told at the group's gate, or at the
-- record's place.
pub record GroupsAreSound (inst : ℕ) (bytes : List ℕ) : Type 0 where
  pub whole : IsWhole (kept bytes)
  pub follow : Follow inst (is_some (chosen_body 0 64 bytes)) (master bytes) (past_of (master bytes)) (records_in bytes)

-- 3: each transaction's records are in order; told at the place of the first one that isn't
abbrev pub TxnsAreSound : List ℕ → Type 0
TxnsAreSound bytes = (t : TxnId) → Tidy t (map flat (records_in bytes))

-- 4: the twins of pages; told at the place of a slot

abbrev pub IsPageSlot : ℕ → ℕ → List ℕ → Type 0
IsPageSlot p gate bytes = is_open gate bytes ≡ true → WellFormed (body_at 1024 gate bytes) p

pub record TwinIsSound (p : ℕ) (bytes : List ℕ) : Type 0 where
  pub differ : chosen_slot (twin_at p) 1024 bytes ≢ Same
  pub first : IsPageSlot p (twin_at p) bytes
  pub second : IsPageSlot p (twin_at p + 1025) bytes

-- 5 and 6: the records fit their pages, and what open transactions changed is as they left it (`Sound` of what is kept);
-- told at the record's place, or at that of the lowest record of the whole stack

-- 7: there is room to end what is open; told at the next gate

-- the transactions of these records, each once
abbrev pub txns_of : List Rec → List TxnId
txns_of [] = []
txns_of (x ∷ xs) = cond {A = List TxnId} (speaks x.kind) (x.txn ∷ filter (λ t. not (same_txn x.txn t)) (txns_of xs)) (txns_of xs)

-- those without a Commit or an End
abbrev pub open_in : List Rec → List TxnId
open_in log = filter (λ t. not (list_any (λ x. ends x.kind && same_txn x.txn t) log)) (txns_of log)

-- the bytes that the ends of a transaction and the undos of its open changes take
abbrev pub reserve_for : List Rec → TxnId → ℕ
reserve_for log t = 31 + sum_by (λ x. 47 + size x.before) (stack t log)

abbrev pub reserve : List Rec → ℕ
reserve log = sum_by (reserve_for log) (open_in log)

-- how many records they are
abbrev pub owed : List Rec → ℕ
owed log = sum_by (λ t. 1 + length (stack t log)) (open_in log)

abbrev pub owed_by_all : rig.DeviceImages → ℕ
owed_by_all devices = sum_by (λ j. owed (log_of devices j)) (1 ∷ 2 ∷ 3 ∷ 4 ∷ 5 ∷ 6 ∷ 7 ∷ 8 ∷ [])

-- where the next gate stands
abbrev pub gate_of : Reading → ℕ
gate_of (Whole groups gate) = gate
gate_of (BadGroup at) = at
gate_of (NoRecord at) = at

abbrev pub RoomIsLeft : ℕ → rig.DeviceImages → Type 0
RoomIsLeft j devices = gate_of (kept (devices j)) + reserve (log_of devices j) + 1 ≤ 1048576

-- No LSN is so great that the records owed would pass the end.
pub record LsnsAreLeft (devices : rig.DeviceImages) : Type 0 where
  pub logs : (j : ℕ) → Each (λ x. x.lsn + owed_by_all devices < 2 ^ 62) (log_of devices j)
  pub pages : (p : ℕ) → p < 1024 → ((stable devices).disk p).lsn + owed_by_all devices < 2 ^ 62

-- all of them
pub record DevicesAreSound (devices : rig.DeviceImages) : Type 0 where
  pub masters : (j : ℕ) → 1 ≤ j → j ≤ 8 → MasterIsSound (devices j)
  pub groups : (j : ℕ) → 1 ≤ j → j ≤ 8 → GroupsAreSound j (devices j)
  pub txns : (j : ℕ) → 1 ≤ j → j ≤ 8 → TxnsAreSound (devices j)
  pub twins : (p : ℕ) → p < 1024 → TwinIsSound p (devices 0)
  pub kept : Sound (stable devices)
  pub room : (j : ℕ) → 1 ≤ j → j ≤ 8 → RoomIsLeft j devices
  pub lsns : LsnsAreLeft devices
