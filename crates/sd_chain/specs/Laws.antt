-- What each event does to all images that a crash may leave: they stay sound, and recovery gives what it should.
--
-- In each law `may p x` says that a crash may leave x as the disk image of page p, `version` gives each page's newest
-- version, and `value` what recovery gives each record, by the tails that are kept.
use Rattle.std.specs.Prelude.{◌≡◌, ℕ, ◌≤◌, ◌<◌, Bool, false, true, List, [], ◌⊎◌, ◌≢◌, ◌↔◌, IsPermutation, filter}
use Rattle.std.specs.List.Sorted.{IsNonDecreasingBy}
use Rattle.sd_base.specs.declared.ids.TxnId.{TxnId}
use Rattle.sd_logrec.specs.View.{Rec}
use Rattle.sd_page.specs.Page.{Page, PageFits}
use Rattle.sd_rig.specs.Devices as rig
use Rattle.sd_chain.specs.Undoing.{undo_all, stacks_of, EachFound, Member, Apart}
use Rattle.sd_chain.specs.Records.{Val, at, of_page, changes, ends, Each, home, stack, IsOpen}
use Rattle.sd_chain.specs.Pages.{FitAll, replay}
use Rattle.sd_chain.specs.Storage.{Storage, Open, Sound, Recovered, newest, now, opens, sorted}
use Rattle.sd_chain.specs.Order.{Tidy, of_txn, speaks}
use Rattle.sd_chain.specs.Bytes.{PutsTwin, ForcesLog, stable}
use Rattle.sd_chain.specs.Checks.{DevicesAreSound}
use Rattle.sd_chain.specs.Fates.{Fate, fate, fate_in}
use Rattle.sd_chain.specs.Losers.{OwnLogs, losers_in, table_in}
use Rattle.sd_chain.specs.Crashes.{CrashLeaves, StandsFor, DuringForce, DuringPut}
use Rattle.sd_chain.specs.Images.{Tails, Keeps, IsSafe, Gives, Allowed, Grows, Redone, Commits, Settled, Shortened, MayChange, MayUndo, MaySeal, all_kept, kept_at, log, or_written}

-- each law below is over what a crash may leave of each page
abbrev pub May : Type 1
May = ℕ → Page → Type 0

-- what a crash may leave of each page right after an opening: what was read
abbrev pub as_read : Storage → ℕ → Page → Type 0
as_read img p x = x ≡ img.disk p

-- the logs of an image, without tails
abbrev pub without_tails : Storage → Tails
without_tails img = record { base = img.logs; tail = λ j. [] }

-- an image from which a complex may be opened
pub record Opens (img : Storage) : Type 0 where
  pub sound : Sound img
  pub eight : (j : ℕ) → 9 ≤ j → img.logs j ≡ []
  pub numbered : (j : ℕ) → Each (λ x. 0 < x.lsn) (img.logs j)
  pub order : (j : ℕ) (t : TxnId) → Tidy t (img.logs j)

-- that of sound devices is one
abbrev pub SoundOpens : Type 0
SoundOpens = (devices : rig.DeviceImages) → DevicesAreSound devices → Opens (stable devices) × OwnLogs (stable devices)

-- opening
abbrev pub OpeningIsSafe : Type 0
OpeningIsSafe = (img : Storage) → Opens img → IsSafe (without_tails img) (as_read img) (λ keeps. newest img)

abbrev pub OpeningGives : Type 0
OpeningGives = (img : Storage) → Opens img → (value : ℕ → ℕ → Val) → ((p s : ℕ) → Recovered img p s (value p s))
    → Gives (without_tails img) (as_read img) (λ keeps. value)

-- a record is appended to log i, that of its transaction's instance
pub record Appends (i : ℕ) (y : Rec) (old new : Tails) : Type 0 where
  pub grows : Grows i y old new
  pub own : speaks y.kind ≡ true → home y.txn ≡ i

-- a change
abbrev pub ChangeIsSafe : May → Type 0
ChangeIsSafe may = (i : ℕ) (y : Rec) (old new : Tails) (version version' : Keeps → ℕ → Page) → Appends i y old new
    → IsSafe old may version
    → MayChange i old (version all_kept) y → Redone i y version version' → IsSafe new may version'

abbrev pub ChangeGives : May → Type 0
ChangeGives may = (i : ℕ) (y : Rec) (old new : Tails) (version version' : Keeps → ℕ → Page) → Appends i y old new
    → IsSafe old may version
    → MayChange i old (version all_kept) y → Redone i y version version' → (value : Keeps → ℕ → ℕ → Val) → Gives old may value
    → Gives new may value

-- the undo of a change
abbrev pub UndoIsSafe : May → Type 0
UndoIsSafe may = (i : ℕ) (y top : Rec) (below : List Rec) (old new : Tails) (version version' : Keeps → ℕ → Page)
    → Appends i y old new → IsSafe old may version
    → MayUndo i old (version all_kept) y top below → Redone i y version version' → IsSafe new may version'

abbrev pub UndoGives : May → Type 0
UndoGives may = (i : ℕ) (y top : Rec) (below : List Rec) (old new : Tails) (version version' : Keeps → ℕ → Page)
    → Appends i y old new → IsSafe old may version
    → MayUndo i old (version all_kept) y top below → Redone i y version version' → (value : Keeps → ℕ → ℕ → Val)
    → Gives old may value → Gives new may value

-- a record without a page: the start of an epoch, a checkpoint's, the end of a transaction
abbrev pub SealIsSafe : May → Type 0
SealIsSafe may = (i : ℕ) (y : Rec) (old new : Tails) (version : Keeps → ℕ → Page) → Appends i y old new → IsSafe old may version
    → MaySeal old y → IsSafe new may version

-- one that ends no transaction
abbrev pub PlainGives : May → Type 0
PlainGives may = (i : ℕ) (y : Rec) (old new : Tails) (version : Keeps → ℕ → Page) → Appends i y old new → IsSafe old may version
    → changes y.kind ≡ false → ends y.kind ≡ false → (value : Keeps → ℕ → ℕ → Val) → Gives old may value → Gives new may value

-- the end of a transaction that has nothing open
abbrev pub EndGives : May → Type 0
EndGives may = (i : ℕ) (y : Rec) (old new : Tails) (version : Keeps → ℕ → Page) → Appends i y old new → IsSafe old may version
    → changes y.kind ≡ false → ends y.kind ≡ true → stack y.txn (log old (home y.txn)) ≡ [] → (value : Keeps → ℕ → ℕ → Val)
    → Gives old may value → Gives new may value

-- a commit: where its tail is kept, what the transaction changed has its last value
abbrev pub CommitGives : May → Type 0
CommitGives may = (i : ℕ) (y : Rec) (old new : Tails) (version : Keeps → ℕ → Page) → Appends i y old new → IsSafe old may version
    → changes y.kind ≡ false → ends y.kind ≡ true → IsOpen y.txn (log old (home y.txn))
    → (value value' : Keeps → ℕ → ℕ → Val) → Commits i y old value value' → Gives old may value → Gives new may value'

-- a tail is forced, or dropped
abbrev pub SettlingIsSafe : May → Type 0
SettlingIsSafe may = (i : ℕ) (kept : Bool) (old new : Tails) → Settled i kept old new → (version : Keeps → ℕ → Page)
    → IsSafe old may version → IsSafe new may (λ keeps. version (kept_at i kept keeps))

abbrev pub SettlingGives : May → Type 0
SettlingGives may = (i : ℕ) (kept : Bool) (old new : Tails) → Settled i kept old new → (value : Keeps → ℕ → ℕ → Val)
    → Gives old may value → Gives new may (λ keeps. value (kept_at i kept keeps))

-- a page, all of whose records are forced, is written: its twin may be the old one or the newest version
pub record MayWrite (p : ℕ) (tails : Tails) (may : ℕ → Page → Type 0) : Type 0 where
  pub forced : (j : ℕ) → Each (λ x. of_page p x ≡ false) (tails.tail j)
  pub read : (disk : ℕ → Page) × Allowed may disk

abbrev pub WriteIsSafe : May → Type 0
WriteIsSafe may = (p : ℕ) (tails : Tails) (version : Keeps → ℕ → Page) → IsSafe tails may version → MayWrite p tails may
    → IsSafe tails (or_written may p (version all_kept p)) version

abbrev pub WriteGives : May → Type 0
WriteGives may = (p : ℕ) (tails : Tails) (version : Keeps → ℕ → Page) → IsSafe tails may version → MayWrite p tails may
    → (value : Keeps → ℕ → ℕ → Val) → Gives tails may value → Gives tails (or_written may p (version all_kept p)) value

-- a master names a later start place
abbrev pub ShorteningIsSafe : May → Type 0
ShorteningIsSafe may = (i : ℕ) (gone : List Rec) (old new : Tails) → Shortened i gone old new may → (version : Keeps → ℕ → Page)
    → IsSafe old may version → IsSafe new may version

abbrev pub ShorteningGives : May → Type 0
ShorteningGives may = (i : ℕ) (gone : List Rec) (old new : Tails) → Shortened i gone old new may → (value : Keeps → ℕ → ℕ → Val)
    → Gives old may value → Gives new may value

-- in a sound image recovery gives each record one value
abbrev pub RecoveredIsOne : Type 0
RecoveredIsOne = (img : Storage) → Sound img → (p s : ℕ) (v w : Val) → Recovered img p s v → Recovered img p s w → v ≡ w

-- records of a page that a sort brought into the order of their LSNs fit it exactly where the chain does, and replay to
-- the same
abbrev pub MergedFit : Type 0
MergedFit = (floor : ℕ) (page : Page) (xs merged : List Rec) → IsPermutation xs merged → IsNonDecreasingBy (λ x. x.lsn) merged
    → FitAll floor page merged ↔ FitAll floor page (sorted xs)

abbrev pub MergedReplay : Type 0
MergedReplay = (floor : ℕ) (page : Page) (xs merged : List Rec) → IsPermutation xs merged → IsNonDecreasingBy (λ x. x.lsn) merged
    → FitAll floor page merged
    → replay floor page merged ≡ replay floor page (sorted xs)

-- these are the open transactions of an image, each once; those with nothing open may be left out
pub record AreOpen (img : Storage) (ts : List TxnId) : Type 0 where
  pub each : Each (Open img) ts
  pub once : Apart ts
  pub all : (t : TxnId) → Open img t → (opens img t ≡ []) ⊎ Member t ts

-- undoing all that is open in the newest values gives what recovery gives
abbrev pub UndoingRecovers : Type 0
UndoingRecovers = (img : Storage) → Sound img → (ts : List TxnId) → AreOpen img ts → (p s : ℕ)
    → Recovered img p s (undo_all (now img) (stacks_of img ts) p s)

-- and finds each record as it left its place
abbrev pub UndoingFinds : Type 0
UndoingFinds = (img : Storage) → Sound img → (ts : List TxnId) → AreOpen img ts → EachFound (now img) (stacks_of img ts)

-- what may be left of each page, may be left by the wider one, too
abbrev pub Narrows : May → May → Type 0
Narrows wide may = (p : ℕ) (x : Page) → may p x → wide p x

-- so what holds of all that the wider one may leave holds of what this one may leave
abbrev pub NarrowedIsSafe : May → May → Type 0
NarrowedIsSafe wide may = Narrows wide may → (tails : Tails) (version : Keeps → ℕ → Page) → IsSafe tails wide version
    → IsSafe tails may version

abbrev pub NarrowedGives : May → May → Type 0
NarrowedGives wide may = Narrows wide may → (tails : Tails) (value : Keeps → ℕ → ℕ → Val) → Gives tails wide value
    → Gives tails may value

-- and what this one leaves the wider one may leave
abbrev pub NarrowedLeaves : May → May → Type 0
NarrowedLeaves wide may = Narrows wide may → (tails : Tails) (img : Storage) → CrashLeaves tails may img → CrashLeaves tails wide img

-- the listed ones are the open transactions
abbrev pub LosersAreOpen : Type 0
LosersAreOpen = (img : Storage) → OwnLogs img → AreOpen img (losers_in img)

-- they are those whose fate is open
abbrev pub LosersHaveFateOpen : Type 0
LosersHaveFateOpen = (img : Storage) → OwnLogs img → (t : TxnId) → Member t (losers_in img) ↔ (fate_in img t ≡ Fate.Open)

-- and undoing all that they have open gives what recovery gives
abbrev pub OpeningRecovers : Type 0
OpeningRecovers = (img : Storage) → OwnLogs img → Sound img → (p s : ℕ) → Recovered img p s (table_in img p s)

-- no two transactions hold one record
abbrev pub OneHolder : (TxnId → ℕ → ℕ → Type 0) → Type 0
OneHolder holds = (t u : TxnId) (p s : ℕ) → holds t p s → holds u p s → t ≡ u

-- each transaction that forced records don't close holds what it has open
abbrev pub HoldsOpen : (TxnId → ℕ → ℕ → Type 0) → Tails → Type 0
HoldsOpen holds tails = (t : TxnId) → IsOpen t (tails.base (home t))
    → Each (λ x. holds t x.page x.slot) (stack t (log tails (home t)))

-- then nobody else has open what t holds
abbrev pub LocksKeepApart : (TxnId → ℕ → ℕ → Type 0) → Type 0
LocksKeepApart holds = OneHolder holds → (tails : Tails) → HoldsOpen holds tails → (t : TxnId) (p s : ℕ) → holds t p s
    → (u : TxnId) → u ≢ t → IsOpen u (tails.base (home u)) → filter (at p s) (stack u (log tails (home u))) ≡ []

-- what a crash leaves of safe logs and pages stands for the table that belongs to it
abbrev pub LeftStands : May → Type 0
LeftStands may = (tails : Tails) (version : Keeps → ℕ → Page) (value : Keeps → ℕ → ℕ → Val) (img : Storage)
    → IsSafe tails may version → Gives tails may value → CrashLeaves tails may img → StandsFor tails value img

-- and so does what it leaves while a log is forced
abbrev pub ForceLeaves : May → Type 0
ForceLeaves may = (i : ℕ) (tails : Tails) (img : Storage) → DuringForce i tails may img → CrashLeaves tails may img

-- or while a page is written, whose new image may be left too
abbrev pub PutLeaves : May → Type 0
PutLeaves may = (p : ℕ) (page : Page) (tails : Tails) (img : Storage) → DuringPut p page tails may img
    → CrashLeaves tails (or_written may p page) img

-- the same of devices, whose other bytes are as they might be left before: a twin that is put, and a log that is forced
abbrev pub TwinIsPut : May → Type 0
TwinIsPut may = (p : ℕ) (page : Page) (tails : Tails) (before after : rig.DeviceImages) → PageFits page → CrashLeaves tails may (stable before)
    → PutsTwin p page before after
    → DuringPut p page tails may (stable after)

abbrev pub LogIsForced : May → Type 0
LogIsForced may = (i : ℕ) (tails : Tails) (before after : rig.DeviceImages) → i ≢ 0 → CrashLeaves tails may (stable before)
    → ForcesLog i tails before after
    → DuringForce i tails may (stable after)

-- A log that is read from a later place has all records of each transaction that is open in it, or was.
abbrev pub ShorteningKeepsRecords : (ℕ → Page → Type 0) → Type 0
ShorteningKeepsRecords may = (i : ℕ) (gone : List Rec) (old new : Tails) → Shortened i gone old new may → (t : TxnId)
    → (fate t (old.base (home t)) ≡ Fate.Open) ⊎ (fate t (new.base (home t)) ≡ Fate.Open)
    → filter (of_txn t) (new.base (home t)) ≡ filter (of_txn t) (old.base (home t))
