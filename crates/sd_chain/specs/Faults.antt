-- Where the bytes of nine devices fail: the first of the seven checks that does, and the least place of it. A place counts bytes
-- from the device's start; the area of a log begins at byte 130 of its device.
use Rattle.std.specs.Prelude.{◌≡◌, ◌≢◌, ◌⊎◌, is_some, ℕ, ◌+◌, ◌<◌, ◌≤◌, Bool, true, false, IsTrue, List, [], ◌∷◌, ◌++◌, map, take, drop, Some, IfSome, slice_get}
use Rattle.std.specs.List.{list_any}
use Rattle.sd_base.specs.declared.ids.TxnId.{TxnId}
use Rattle.sd_base.specs.Ids.{IsBelow}
use Rattle.sd_base.specs.Twin.{Same, chosen_body, chosen_slot}
use Rattle.sd_logrec.specs.declared.record.Record.{Record}
use Rattle.sd_logrec.specs.Fronts.{front}
use Rattle.sd_logrec.specs.Kept.{Reading, Records, Master, Whole, BadGroup, NoRecord, area, kept, master}
use Rattle.sd_logrec.specs.View.{Rec, flat}
use Rattle.sd_logrec.specs.View.Kind.{Clr, End}
use Rattle.sd_page.specs.Page.{Page}
use Rattle.sd_rig.specs.Devices as rig
use Rattle.sd_chain.specs.Records.{IsOpen, ends}
use Rattle.sd_chain.specs.Pages.{FitAll, FitsPage, replay}
use Rattle.sd_chain.specs.Order.{Sofar, UndoesTop, after_all, first_prev, none_yet, of_txn, speaks}
use Rattle.sd_chain.specs.Storage.{Open, StackFits, chain, opens}
use Rattle.sd_chain.specs.Bytes.{stable, twin_at}
use Rattle.sd_chain.specs.Checks.{Follow, GroupsAreSound, IsPageSlot, IsSlot, IsWhole, LsnsAreLeft, MasterIsSound, MayCome, Past, RoomIsLeft, StartFits, TwinIsSound, TxnsAreSound, after_record, gate_of, is_end_check, lsn_of, past_of, placed_of, records_in}

-- 1: the master

-- The slots are well formed and their counts differ.
pub record SlotsAreSound (bytes : List ℕ) : Type 0 where
  pub differ : chosen_slot 0 64 bytes ≢ Same
  pub first : IsSlot 0 bytes
  pub second : IsSlot 65 bytes

-- the checkpoint that the master names is kept
abbrev pub HasCheckpoint : List ℕ → Type 0
HasCheckpoint bytes = IfSome (chosen_body 0 64 bytes) (λ _. IsTrue (list_any (λ r. is_end_check (master bytes).check r.1) (placed_of (kept bytes))))

-- The master passes. Its checkpoint is looked for only in a log that keeps the format; else check 2 tells the place.
pub record MasterPasses (bytes : List ℕ) : Type 0 where
  pub slots : SlotsAreSound bytes
  pub checkpoint : IsWhole (kept bytes) → HasCheckpoint bytes

-- 2: the groups

-- the records in front of what breaks the format
abbrev pub front_of : List ℕ → Records
front_of bytes = front (master bytes).start (area bytes)

-- the record may stand behind what came, with these behind it
abbrev pub Follows : ℕ → Bool → Master → Past → Record → List Record → Type 0
Follows inst chosen m past r rest = (past.lsn < lsn_of r) × MayCome inst past r × StartFits chosen m past r rest

-- the first record that may not stands here
abbrev pub StraysAt : ℕ → Bool → Master → Past → Records → ℕ → Type 0
StraysAt inst chosen m past [] place = ⊥
StraysAt inst chosen m past (r ∷ rest) place =
    ((Follows inst chosen m past r.1 (map (λ x. x.1) rest) → ⊥) × (place ≡ r.0))
    ⊎ (Follows inst chosen m past r.1 (map (λ x. x.1) rest) × StraysAt inst chosen m (after_record past r.1) rest place)

-- a group's gate, or a place where no record starts
abbrev pub BreaksAt : Reading → ℕ → Type 0
BreaksAt (Whole groups gate) place = ⊥
BreaksAt (BadGroup at) place = place ≡ at
BreaksAt (NoRecord at) place = place ≡ at

-- the least place of the area at which the groups fail: a record that may not stand there comes before what breaks the format
abbrev pub GroupsFailAt : ℕ → List ℕ → ℕ → Type 0
GroupsFailAt inst bytes place =
    StraysAt inst (is_some (chosen_body 0 64 bytes)) (master bytes) (past_of (master bytes)) (front_of bytes) place
    ⊎ (Follow inst (is_some (chosen_body 0 64 bytes)) (master bytes) (past_of (master bytes)) (map (λ x. x.1) (front_of bytes)) × BreaksAt (kept bytes) place)

-- 3: each transaction's records

-- it closes its transaction, of which a record stands behind it
abbrev pub GoesOn : List Rec → ℕ → Rec → Type 0
GoesOn log k x = (ends x.kind ≡ true) × (list_any (of_txn x.txn) (drop (k + 1) log) ≡ true)

-- it begins a transaction that stays open, and names a record before it
abbrev pub BeginsLate : List Rec → ℕ → Rec → Type 0
BeginsLate log k x = (list_any (of_txn x.txn) (take k log) ≡ false) × (x.prev ≢ 0) × IsOpen x.txn log

-- it doesn't name the record of its transaction before it
abbrev pub Skips : Sofar → Rec → Type 0
Skips sofar x = (sofar.last ≢ 0) × (x.prev ≢ sofar.last)

-- it ends a transaction that has something open
abbrev pub LeavesOpen : Sofar → Rec → Type 0
LeavesOpen sofar x = (x.kind ≡ End) × (sofar.open_ones ≢ [])

-- it undoes something else than the top, in a transaction whose records are all kept
abbrev pub UndoesOther : List Rec → Sofar → Rec → Type 0
UndoesOther log sofar x = (x.kind ≡ Clr) × (first_prev x.txn log ≡ 0) × (UndoesTop x sofar.open_ones → ⊥)

-- what is wrong with a record, behind this one's
abbrev pub IsWrong : List Rec → ℕ → Sofar → Rec → Type 0
IsWrong log k sofar x = GoesOn log k x ⊎ (BeginsLate log k x ⊎ (Skips sofar x ⊎ (LeavesOpen sofar x ⊎ UndoesOther log sofar x)))

-- The record of this index isn't in its transaction's order.
pub record IsMisplaced (log : List Rec) (k : ℕ) : Type 0 where
  pub here : Rec
  pub there : slice_get log k ≡ Some here
  pub own : speaks here.kind ≡ true
  pub wrong : IsWrong log k (after_all here.txn none_yet (take k log)) here

-- The first record that isn't has this index.
pub record IsFirstMisplaced (log : List Rec) (k : ℕ) : Type 0 where
  pub wrong : IsMisplaced log k
  pub least : (j : ℕ) → j < k → IsMisplaced log j → ⊥

-- The first record that isn't stands at this place of the area.
pub record TxnsFailAt (bytes : List ℕ) (place : ℕ) : Type 0 where
  pub index : ℕ
  pub rec : Record
  pub there : slice_get (placed_of (kept bytes)) index ≡ Some (place, rec)
  pub first : IsFirstMisplaced (map flat (records_in bytes)) index

-- 1 to 3: a log

pub record LogIsSound (inst : ℕ) (bytes : List ℕ) : Type 0 where
  pub master : MasterIsSound bytes
  pub groups : GroupsAreSound inst bytes
  pub txns : TxnsAreSound bytes

-- the first of the three that fails, and its least place
abbrev pub LogFailsAt : ℕ → List ℕ → ℕ → Type 0
LogFailsAt inst bytes at =
    ((MasterPasses bytes → ⊥) × (at ≡ 0))
    ⊎ ((MasterPasses bytes × ((place : ℕ) × GroupsFailAt inst bytes place × (at ≡ 130 + place)))
    ⊎ (MasterIsSound bytes × GroupsAreSound inst bytes × ((place : ℕ) × TxnsFailAt bytes place × (at ≡ 130 + place))))

-- Of the logs the first that isn't sound.
pub record FailsInLog (devices : rig.DeviceImages) (dev at : ℕ) : Type 0 where
  pub some : 1 ≤ dev
  pub few : dev ≤ 8
  pub before : (j : ℕ) → 1 ≤ j → j < dev → LogIsSound j (devices j)
  pub here : LogFailsAt dev (devices dev) at

abbrev pub LogsAreSound : rig.DeviceImages → Type 0
LogsAreSound devices = (j : ℕ) → 1 ≤ j → j ≤ 8 → LogIsSound j (devices j)

-- 4: the twins of pages

-- the first slot is open and isn't well formed, or both are open with one LSN
abbrev pub FirstFails : ℕ → List ℕ → Type 0
FirstFails p bytes = (IsPageSlot p (twin_at p) bytes → ⊥) ⊎ (chosen_slot (twin_at p) 1024 bytes ≡ Same)

-- the least slot of the twin that fails
abbrev pub TwinFailsAt : ℕ → List ℕ → ℕ → Type 0
TwinFailsAt p bytes at =
    (FirstFails p bytes × (at ≡ twin_at p))
    ⊎ ((FirstFails p bytes → ⊥) × (IsPageSlot p (twin_at p + 1025) bytes → ⊥) × (at ≡ twin_at p + 1025))

-- Of the twins the first that isn't sound.
pub record FailsInTwin (devices : rig.DeviceImages) (dev at : ℕ) : Type 0 where
  pub data_device : dev ≡ 0
  pub page : ℕ
  pub few : page < 1024
  pub before : (p : ℕ) → p < page → TwinIsSound p (devices 0)
  pub here : TwinFailsAt page (devices 0) at

abbrev pub TwinsAreSound : rig.DeviceImages → Type 0
TwinsAreSound devices = (p : ℕ) → p < 1024 → TwinIsSound p (devices 0)

-- 5: the chains of pages

abbrev pub disk_of : rig.DeviceImages → ℕ → Page
disk_of devices p = (stable devices).disk p

-- each record of the page above its disk image fits the page that it finds
abbrev pub ChainIsSound : rig.DeviceImages → ℕ → Type 0
ChainIsSound devices p = FitAll (disk_of devices p).lsn (disk_of devices p) (chain (stable devices) p)

-- The first record of the chain, by LSN and device, that doesn't fit the page that it finds stands at this place.
pub record ChainFailsAt (devices : rig.DeviceImages) (p dev at : ℕ) : Type 0 where
  pub index : ℕ
  pub place : ℕ
  pub rec : Record
  pub some : 1 ≤ dev
  pub few : dev ≤ 8
  pub there : slice_get (placed_of (kept (devices dev))) index ≡ Some (place, rec)
  pub at_is : at ≡ 130 + place
  pub before : List Rec
  pub behind : List Rec
  pub parts : chain (stable devices) p ≡ before ++ flat rec ∷ behind
  pub fits : FitAll (disk_of devices p).lsn (disk_of devices p) before
  pub above : (disk_of devices p).lsn < lsn_of rec
  pub misfit : FitsPage (replay (disk_of devices p).lsn (disk_of devices p) before) (flat rec) → ⊥

-- Of the pages the first whose chain isn't sound.
pub record FailsInChain (devices : rig.DeviceImages) (dev at : ℕ) : Type 0 where
  pub page : ℕ
  pub few : page < 1024
  pub before : (p : ℕ) → p < page → ChainIsSound devices p
  pub here : ChainFailsAt devices page dev at

abbrev pub ChainsAreSound : rig.DeviceImages → Type 0
ChainsAreSound devices = (p : ℕ) → p < 1024 → ChainIsSound devices p

-- 6: the stacks of transactions

-- The lowest record of the transaction's stack stands at this place of its own log.
pub record StandsLowest (devices : rig.DeviceImages) (t : TxnId) (at : ℕ) : Type 0 where
  pub index : ℕ
  pub place : ℕ
  pub rec : Record
  pub there : slice_get (placed_of (kept (devices t.inst))) index ≡ Some (place, rec)
  pub at_is : at ≡ 130 + place
  pub above : List Rec
  pub parts : opens (stable devices) t ≡ above ++ flat rec ∷ []

-- Of the open transactions the first whose stack isn't as it was left.
pub record FailsInStack (devices : rig.DeviceImages) (dev at : ℕ) : Type 0 where
  pub txn : TxnId
  pub home : dev ≡ txn.inst
  pub open_ : Open (stable devices) txn
  pub before : (t : TxnId) → IsBelow t txn → Open (stable devices) t → StackFits (stable devices) t
  pub wrong : StackFits (stable devices) txn → ⊥
  pub lowest : StandsLowest devices txn at

abbrev pub StacksAreSound : rig.DeviceImages → Type 0
StacksAreSound devices = (t : TxnId) → Open (stable devices) t → StackFits (stable devices) t

-- 7: room for what ends the open transactions

-- The log has room, and LSNs are left in all.
pub record EndsFit (j : ℕ) (devices : rig.DeviceImages) : Type 0 where
  pub room : RoomIsLeft j devices
  pub lsns : LsnsAreLeft devices

-- Of the logs the first that lacks it, at its next gate.
pub record FailsInRoom (devices : rig.DeviceImages) (dev at : ℕ) : Type 0 where
  pub some : 1 ≤ dev
  pub few : dev ≤ 8
  pub before : (j : ℕ) → 1 ≤ j → j < dev → EndsFit j devices
  pub wrong : EndsFit dev devices → ⊥
  pub at_is : at ≡ 130 + gate_of (kept (devices dev))

-- all

-- the first check that fails, and its least place
abbrev pub FailsFirstAt : rig.DeviceImages → ℕ → ℕ → Type 0
FailsFirstAt devices dev at =
    FailsInLog devices dev at
    ⊎ ((LogsAreSound devices × FailsInTwin devices dev at)
    ⊎ ((LogsAreSound devices × TwinsAreSound devices × FailsInChain devices dev at)
    ⊎ ((LogsAreSound devices × TwinsAreSound devices × ChainsAreSound devices × FailsInStack devices dev at)
    ⊎ (LogsAreSound devices × TwinsAreSound devices × ChainsAreSound devices × StacksAreSound devices × FailsInRoom devices dev at))))
