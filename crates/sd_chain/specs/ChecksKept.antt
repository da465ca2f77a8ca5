-- What each event does to the seven checks in all images that a crash may leave.
--
-- In each law `leaves d bytes` says that a crash may leave these bytes of device d, `leaves'` says so of the time after the
-- event, and `logs`, or `old` and `new`, are the logs in memory. `version` gives each page's newest version by the tails that
-- are kept, as in `Laws.antt`, whose laws keep IsSafe.
use Rattle.std.specs.Prelude.{◌≡◌, ◌≢◌, ℕ, suc, ◌+◌, ◌^◌, ◌<◌, ◌≤◌, Bool, true, false, List, [], ◌∷◌, ◌++◌, length, replicate}
use Rattle.sd_logrec.specs.declared.record.Record.{Record}
use Rattle.sd_logrec.specs.declared.record.Record.TheVariants as records
use Rattle.sd_logrec.specs.Kept.{Master, master}
use Rattle.sd_logrec.specs.Spelling.{spelling}
use Rattle.sd_logrec.specs.View.{Rec, flat}
use Rattle.sd_logrec.specs.View.Kind.{Clr, Plain, Update}
use Rattle.sd_base.specs.declared.ids.TxnId.{TxnId}
use Rattle.sd_base.specs.Values.{size}
use Rattle.sd_page.specs.Page.{Page, PageFits}
use Rattle.sd_page.specs.Spelling as page_spelling
use Rattle.sd_rig.specs.Devices as rig
use Rattle.sd_rig.specs.Devices.{AgreesOutside, LeavesOnly}
use Rattle.sd_rig.specs.Puts.{Puts}
use Rattle.sd_log.specs.Logs.{LogState, StandsOn, forced, needed, with_record, without_tail}
use Rattle.sd_log.specs.Forces.{Forces, StandsEither, forced_at, forced_len}
use Rattle.sd_chain.specs.Bytes.{twin_at}
use Rattle.sd_chain.specs.Checks.{DevicesAreSound, IsOwn, MayCome, Past, lsn_of, owed, reserve}
use Rattle.sd_chain.specs.Images.{Allowed, IsSafe, Keeps, Settled, all_kept, log, or_written}
use Rattle.sd_chain.specs.Order.{speaks}
use Rattle.sd_chain.specs.Records.{IsOpen, ends, stack}
use Rattle.sd_chain.specs.Logs.{HasNone, HasRecord, IsBlank, IsSettled, Less, LessElsewhere, Logs, Outcomes, ReplacesLog, all_at, base_at, is_start, may_of, new_log, next_lsn, owed_with, past_at, tails_of}
use Rattle.sd_chain.specs.Soundly.{IsReady, IsSoundly, LogIsSound, LsnsFit}
use Rattle.sd_chain.specs.Appends.{Appends, IsEnd, IsNewestAt, IsNextEpoch, IsTested, IsUndo}
use Rattle.sd_chain.specs.Starts.{IsLater, IsShorter, IsSoundlyTwice, NamesLater}

-- ---- between calls

-- Each image that may be left passes the seven checks.
abbrev pub LeftIsSound : Outcomes → Type 0
LeftIsSound leaves = (logs : Logs) (version : Keeps → ℕ → Page) (img : rig.DeviceImages) → IsSoundly leaves logs
    → IsSafe (tails_of logs) (may_of leaves) version → base_at (logs 0) ≡ [] → rig.Leaves leaves img → DevicesAreSound img

-- ---- appends

-- Bytes and an LSN are reserved for an undo. Its LSN is above that of its page's image, which is the newest version where the
-- log has its tail.
abbrev pub UndoKeeps : Outcomes → Type 0
UndoKeeps leaves = (i : ℕ) (y : Record) (old new : Logs) (version : Keeps → ℕ → Page) (image : Page) → IsSoundly leaves old
    → Appends i y leaves old new → IsUndo y (old i) → lsn_of y ≡ next_lsn (old i) image.lsn
    → IsSafe (tails_of old) (may_of leaves) version → log (tails_of old) 0 ≡ [] → ((bytes : List ℕ) × leaves 0 bytes)
    → IsNewestAt i version (flat y).page image → IsSoundly leaves new

-- before it: the log has room for it
abbrev pub UndoHasRoom : Type 0
UndoHasRoom = (i : ℕ) (bytes : List ℕ) (l : LogState) (y : Record) → LogIsSound i bytes (forced l) → IsUndo y l
    → needed l (length (spelling y)) 0 ≤ 1048576

-- Both are reserved for the end of a transaction that has a record, too.
abbrev pub EndKeeps : Outcomes → Type 0
EndKeeps leaves = (i : ℕ) (y : Record) (old new : Logs) → IsSoundly leaves old → Appends i y leaves old new → IsEnd y (old i)
    → lsn_of y ≡ next_lsn (old i) 0 → IsSoundly leaves new

-- and there is room for it
abbrev pub EndHasRoom : Type 0
EndHasRoom = (i : ℕ) (bytes : List ℕ) (l : LogState) (y : Record) → LogIsSound i bytes (forced l) → IsEnd y l
    → needed l (length (spelling y)) 0 ≤ 1048576

-- The next LSN of a log that owes a record is one.
abbrev pub NextLsnIsThere : Outcomes → Type 0
NextLsnIsThere leaves = (i : ℕ) (logs : Logs) (t : TxnId) (page_lsn : ℕ) → 1 ≤ i → i ≤ 8
    → LsnsFit (tails_of logs) (may_of leaves) all_kept → HasRecord t (all_at (logs i)) → 1 ≤ owed (all_at (logs i))
    → page_lsn + owed_with (tails_of logs) all_kept < 2 ^ 62 → next_lsn (logs i) page_lsn < 2 ^ 62

-- A record may come that was tested for.
abbrev pub TestedKeeps : Outcomes → Type 0
TestedKeeps leaves = (i : ℕ) (y : Record) (page_lsn : ℕ) (old new : Logs) → IsSoundly leaves old → Appends i y leaves old new
    → IsTested i y page_lsn leaves old new → IsSoundly leaves new

-- A transaction that has a record may have a further one.
abbrev pub OwnMayCome : Outcomes → Type 0
OwnMayCome leaves = (i : ℕ) (y : Record) (logs : Logs) → 1 ≤ i → i ≤ 8 → IsSoundly leaves logs → speaks (flat y).kind ≡ true
    → HasRecord (flat y).txn (all_at (logs i)) → (bytes : List ℕ) → leaves i bytes
    → MayCome i (past_at (master bytes) (forced (logs i))) y

-- Only a Start has to have the next epoch.
abbrev pub OthersHaveNoEpoch : Type 0
OthersHaveNoEpoch = (past : Past) (y : Record) → is_start y ≡ false → IsNextEpoch past y

-- ---- what one more record changes of what a log owes, in bytes and in records

-- one of no transaction: nothing
abbrev pub PlainOwes : Type 0
PlainOwes = (log : List Rec) (y : Rec) → y.kind ≡ Plain
    → (reserve (log ++ y ∷ []) ≡ reserve log) × (owed (log ++ y ∷ []) ≡ owed log)

-- a change: its undo
abbrev pub ChangeOwes : Type 0
ChangeOwes = (log : List Rec) (y : Rec) → y.kind ≡ Update → IsOpen y.txn log → HasRecord y.txn log
    → (reserve (log ++ y ∷ []) ≡ reserve log + 47 + size y.before) × (owed (log ++ y ∷ []) ≡ suc (owed log))

-- the first one of a transaction: the end of that, too
abbrev pub FirstChangeOwes : Type 0
FirstChangeOwes = (log : List Rec) (y : Rec) → y.kind ≡ Update → IsOpen y.txn log → HasNone y.txn log
    → (reserve (log ++ y ∷ []) ≡ reserve log + 78 + size y.before) × (owed (log ++ y ∷ []) ≡ suc (suc (owed log)))

-- an undo: it is owed no more
abbrev pub UndoOwes : Type 0
UndoOwes = (log : List Rec) (y top : Rec) (below : List Rec) → y.kind ≡ Clr → IsOpen y.txn log → stack y.txn log ≡ top ∷ below
    → (reserve (log ++ y ∷ []) + 47 + size top.before ≡ reserve log) × (suc (owed (log ++ y ∷ [])) ≡ owed log)

-- the end of a transaction that has a record: it is owed no more
abbrev pub EndOwes : Type 0
EndOwes = (log : List Rec) (y : Rec) → ends y.kind ≡ true → IsOpen y.txn log → HasRecord y.txn log
    → (reserve (log ++ y ∷ []) + 31 ≤ reserve log) × (suc (owed (log ++ y ∷ [])) ≤ owed log)

-- the end of one that has none: nothing
abbrev pub IdleEndOwes : Type 0
IdleEndOwes = (log : List Rec) (y : Rec) → ends y.kind ≡ true → IsOpen y.txn log → HasNone y.txn log
    → (reserve (log ++ y ∷ []) ≡ reserve log) × (owed (log ++ y ∷ []) ≡ owed log)

-- ---- the epoch that a log is in

-- A transaction with a record is of this instance, and of a begun epoch.
abbrev pub OwnIsBegun : Type 0
OwnIsBegun = (i : ℕ) (bytes : List ℕ) (l : LogState) (t : TxnId) → LogIsSound i bytes (forced l) → HasRecord t (all_at l)
    → IsOwn i (past_at (master bytes) (forced l)) t

-- Only a Start moves the epoch.
abbrev pub OthersKeepEpoch : Type 0
OthersKeepEpoch = (m : Master) (l : LogState) (y : Record) (spare : ℕ) → is_start y ≡ false
    → (past_at m (forced (with_record y spare l))).epoch ≡ (past_at m (forced l)).epoch

-- to its own
abbrev pub StartMovesEpoch : Type 0
StartMovesEpoch = (m : Master) (l : LogState) (lsn epoch spare : ℕ)
    → (past_at m (forced (with_record (records.Start lsn epoch) spare l))).epoch ≡ epoch

-- A later start place keeps it.
abbrev pub LaterKeepsEpoch : Type 0
LaterKeepsEpoch = (was bytes : List ℕ) (gone : List Record) (l l' : LogState) → IsShorter gone l l'
    → IsLater was l l' bytes → (past_at (master bytes) l').epoch ≡ (past_at (master was) l).epoch

-- ---- a force

-- Each image that it may leave passes the seven checks.
abbrev pub ForceLeavesSound : Outcomes → Type 0
ForceLeavesSound leaves = (i : ℕ) (logs : Logs) (seen : rig.DeviceImages) (version : Keeps → ℕ → Page) (img : rig.DeviceImages)
    → 1 ≤ i → i ≤ 8 → (logs i).inst ≡ i → leaves i (seen i) → IsSoundly leaves logs → IsSafe (tails_of logs) (may_of leaves) version
    → base_at (logs 0) ≡ [] → Forces (logs i) seen leaves img → DevicesAreSound img

-- After one that is Ok, the log has its tail in its groups.
abbrev pub ForcedKeeps : Outcomes → Outcomes → Type 0
ForcedKeeps leaves leaves' = (i : ℕ) (old new : Logs) (was bytes : List ℕ) → leaves i was → IsSoundly leaves old
    → LessElsewhere i leaves leaves' → ReplacesLog i (forced (old i)) old new
    → AgreesOutside (forced_at (old i)) (forced_len (old i)) was bytes → StandsOn (forced (old i)) bytes
    → LeavesOnly bytes (leaves' i) → IsSoundly leaves' new

-- what a force leaves of its device
abbrev pub MayForce : LogState → List ℕ → List ℕ → Type 0
MayForce l was bytes = AgreesOutside (forced_at l) (forced_len l) was bytes × StandsEither l bytes

-- After one that failed, the log stays, and may stand with its tail or without it.
abbrev pub FailedForceKeeps : Outcomes → Outcomes → Type 0
FailedForceKeeps leaves leaves' = (i : ℕ) (logs : Logs) (was : List ℕ) → 1 ≤ i → i ≤ 8 → leaves i was → IsSoundly leaves logs
    → LessElsewhere i leaves leaves' → ((bytes : List ℕ) → leaves' i bytes → MayForce (logs i) was bytes)
    → IsSoundly leaves' logs

-- So it is where each image that may be left now is one that the force may leave.
abbrev pub FailedForceLeaves : Outcomes → Outcomes → Type 0
FailedForceLeaves leaves leaves' = (i : ℕ) (l : LogState) (seen seen' : rig.DeviceImages) → l.inst ≡ i → rig.Leaves leaves' seen'
    → ((img : rig.DeviceImages) → rig.Leaves leaves' img → Forces l seen leaves img) → (bytes : List ℕ) → leaves' i bytes
    → MayForce l (seen i) bytes

-- ---- a tail that is dropped, and a log that is settled

-- The log is settled, so its tail is on no device.
abbrev pub DroppedKeeps : Outcomes → Type 0
DroppedKeeps leaves = (i : ℕ) (old new : Logs) → IsSoundly leaves old → IsSettled i leaves old
    → ReplacesLog i (without_tail (old i)) old new → IsSoundly leaves new

-- A device is synced that reads as these bytes, which it might be left as, and its log is read from it again. It has its tail
-- or not.
abbrev pub SettledKeeps : Outcomes → Outcomes → Type 0
SettledKeeps leaves leaves' = (i : ℕ) (old new : Logs) (bytes : List ℕ) → IsSoundly leaves old
    → LessElsewhere i leaves leaves' → leaves i bytes → LeavesOnly bytes (leaves' i) → ReplacesLog i (new i) old new
    → StandsOn (new i) bytes → (new i).start ≡ (old i).start → (new i).tail ≡ []
    → IsSoundly leaves' new × ((kept : Bool) × Settled i kept (tails_of old) (tails_of new))

-- After a sync at most as much may be left.
abbrev pub SyncedKeeps : Outcomes → Outcomes → Type 0
SyncedKeeps leaves leaves' = (logs : Logs) → Less leaves leaves' → IsSoundly leaves logs → IsSoundly leaves' logs

-- ---- a page that is put

-- There are LSNs above its own for all that is owed, whichever tails are kept.
abbrev pub HasLsnsAbove : Page → Logs → Type 0
HasLsnsAbove page logs = (keeps : Keeps) → page.lsn + owed_with (tails_of logs) keeps < 2 ^ 62

-- There are with these tails, above the newest version.
abbrev pub NewestHasLsns : Outcomes → Type 0
NewestHasLsns leaves = (logs : Logs) (version : Keeps → ℕ → Page) (disk : ℕ → Page) (keeps : Keeps) (p : ℕ)
    → IsSafe (tails_of logs) (may_of leaves) version → Allowed (may_of leaves) disk → log (tails_of logs) 0 ≡ []
    → LsnsFit (tails_of logs) (may_of leaves) keeps → (version keeps p).lsn + owed_with (tails_of logs) keeps < 2 ^ 62

-- Each image that a put may leave passes the seven checks.
abbrev pub PutLeavesSound : Outcomes → Type 0
PutLeavesSound leaves = (p : ℕ) (page : Page) (logs : Logs) (seen : rig.DeviceImages) → PageFits page → page.number ≡ p
    → HasLsnsAbove page logs → leaves 0 (seen 0) → IsSoundly leaves logs → (version : Keeps → ℕ → Page)
    → IsSafe (tails_of logs) (or_written (may_of leaves) p page) version → base_at (logs 0) ≡ [] → (img : rig.DeviceImages)
    → Puts 0 (twin_at p) 1024 (page_spelling.page_spelling page) seen leaves img → DevicesAreSound img

-- These bytes of a device are those of an image that a put may leave.
abbrev pub IsPut : ℕ → ℕ → ℕ → List ℕ → rig.DeviceImages → Outcomes → List ℕ → Type 0
IsPut dev at n body seen leaves bytes = (img : rig.DeviceImages) × (img dev ≡ bytes) × Puts dev at n body seen leaves img

-- After a put, Ok or failed, the twin is the old one or the new one.
abbrev pub PutKeeps : Outcomes → Outcomes → Type 0
PutKeeps leaves leaves' = (p : ℕ) (page : Page) (logs : Logs) (seen : rig.DeviceImages) → PageFits page → page.number ≡ p
    → HasLsnsAbove page logs → leaves 0 (seen 0) → IsSoundly leaves logs → LessElsewhere 0 leaves leaves'
    → ((bytes : List ℕ) → leaves' 0 bytes → IsPut 0 (twin_at p) 1024 (page_spelling.page_spelling page) seen leaves bytes)
    → IsSoundly leaves' logs

-- So it is where each image that may be left now is one that the put may leave, of a page or of a master.
abbrev pub PutLeaves : Outcomes → Outcomes → Type 0
PutLeaves leaves leaves' = (dev at n : ℕ) (body : List ℕ) (seen seen' : rig.DeviceImages) → rig.Leaves leaves' seen'
    → ((img : rig.DeviceImages) → rig.Leaves leaves' img → Puts dev at n body seen leaves img)
    → (bytes : List ℕ) → leaves' dev bytes → IsPut dev at n body seen leaves bytes

-- ---- beginnings

-- Blank devices and new logs are sound.
abbrev pub BlankIsSound : Outcomes → Type 0
BlankIsSound leaves = (logs : Logs) → ((d : ℕ) → d ≤ 8 → (bytes : List ℕ) → leaves d bytes → IsBlank bytes)
    → ((j : ℕ) → 1 ≤ j → j ≤ 8 → logs j ≡ new_log j (logs j).spare) → IsSoundly leaves logs

-- Devices of zeros are blank.
abbrev pub ZerosAreBlank : Type 0
ZerosAreBlank = (n : ℕ) → IsBlank (replicate n 0)

-- The log was read from its device.
pub record IsRead (bytes : List ℕ) (l : LogState) : Type 0 where
  pub start : l.start ≡ (master bytes).start
  pub stands : StandsOn l bytes
  pub tail : l.tail ≡ []

-- Sound devices are, that were read and synced.
abbrev pub OpenedIsSound : Outcomes → Type 0
OpenedIsSound leaves = (logs : Logs) (seen : rig.DeviceImages) → DevicesAreSound seen
    → ((d : ℕ) → d ≤ 8 → LeavesOnly (seen d) (leaves d))
    → ((j : ℕ) → 1 ≤ j → j ≤ 8 → IsRead (seen j) (logs j)) → length (seen 0) ≡ rig.device_len 0 → IsSoundly leaves logs

-- ---- a later start place

-- A put of the master is Ok, and the groups before the new place are forgotten.
abbrev pub LaterKeeps : Outcomes → Outcomes → Type 0
LaterKeeps leaves leaves' = (i : ℕ) (gone : List Record) (old new : Logs) (was : List ℕ) → leaves i was
    → IsSoundly leaves old → LessElsewhere i leaves leaves' → ReplacesLog i (new i) old new → IsShorter gone (old i) (new i)
    → ((bytes : List ℕ) → leaves' i bytes → IsLater was (old i) (new i) bytes) → IsSoundly leaves' new

-- Two states of the logs are safe, each with its newest versions.
pub record AreSafe (may : ℕ → Page → Type 0) (one other : Logs) : Type 0 where
  pub version : Keeps → ℕ → Page
  pub version' : Keeps → ℕ → Page
  pub safe : IsSafe (tails_of one) may version
  pub safe' : IsSafe (tails_of other) may version'
  pub none : base_at (one 0) ≡ []
  pub none' : base_at (other 0) ≡ []

-- While the master is put, each image has the one place or the other.
abbrev pub MasterPutLeavesSound : Outcomes → Type 0
MasterPutLeavesSound leaves = (i : ℕ) (gone : List Record) (body : List ℕ) (old new : Logs) (seen img : rig.DeviceImages)
    → leaves i (seen i) → IsSoundly leaves old → ReplacesLog i (new i) old new → IsShorter gone (old i) (new i)
    → NamesLater (seen i) (old i) (new i) body → AreSafe (may_of leaves) old new → Puts i 0 64 body seen leaves img
    → DevicesAreSound img

-- After the put, whatever it answered, there are two start places.
abbrev pub MasterPutKeeps : Outcomes → Outcomes → Type 0
MasterPutKeeps leaves leaves' = (i : ℕ) (gone : List Record) (body : List ℕ) (old new : Logs) (seen : rig.DeviceImages)
    → leaves i (seen i) → IsSoundly leaves old → LessElsewhere i leaves leaves' → ReplacesLog i (new i) old new
    → IsShorter gone (old i) (new i) → NamesLater (seen i) (old i) (new i) body
    → ((bytes : List ℕ) → leaves' i bytes → IsPut i 0 64 body seen leaves bytes)
    → IsSoundlyTwice i (λ bytes. IsReady i bytes (old i))
    (λ bytes. IsLater (seen i) (old i) (new i) bytes) leaves' old new

-- ---- two start places: P and Q say how device i is left with the one and with the other

-- how device i may be left
abbrev pub Leftover : Type 1
Leftover = List ℕ → Type 0

-- Between calls each image that may be left passes the seven checks.
abbrev pub TwiceLeftIsSound : Outcomes → Leftover → Leftover → Type 0
TwiceLeftIsSound leaves P Q = (i : ℕ) (one other : Logs) (img : rig.DeviceImages) → i ≤ 8 → IsSoundlyTwice i P Q leaves one other
    → AreSafe (may_of leaves) one other → rig.Leaves leaves img → DevicesAreSound img

-- So does each one that the force of another log may leave.
abbrev pub TwiceForceLeavesSound : Outcomes → Leftover → Leftover → Type 0
TwiceForceLeavesSound leaves P Q = (i k : ℕ) (one other : Logs) (seen img : rig.DeviceImages) → 1 ≤ i → i ≤ 8
    → IsSoundlyTwice i P Q leaves one other → AreSafe (may_of leaves) one other → 1 ≤ k → k ≤ 8 → k ≢ i → (one k).inst ≡ k
    → other k ≡ one k → leaves k (seen k) → Forces (one k) seen leaves img → DevicesAreSound img

-- And so does each one that the put of a page may leave.
abbrev pub TwicePutLeavesSound : Outcomes → Leftover → Leftover → Type 0
TwicePutLeavesSound leaves P Q = (i p : ℕ) (page : Page) (one other : Logs) (seen img : rig.DeviceImages) → 1 ≤ i → i ≤ 8
    → IsSoundlyTwice i P Q leaves one other → AreSafe (or_written (may_of leaves) p page) one other → PageFits page
    → page.number ≡ p
    → HasLsnsAbove page one → HasLsnsAbove page other → leaves 0 (seen 0)
    → Puts 0 (twin_at p) 1024 (page_spelling.page_spelling page) seen leaves img → DevicesAreSound img
