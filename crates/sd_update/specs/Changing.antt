-- A change of a record: what the complex is after it, and when it may come.
use Rattle.std.specs.Prelude.{◌≡◌, ◌≢◌, ℕ, ◌+◌, ◌-◌, ◌^◌, ◌<◌, ◌≤◌, true, [], ◌∷◌, length, is_some, max, option_copied, option_map, slice_set, unwrap_or, if◌then◌else◌, None, Some}
use Rattle.std.specs.List.{IsDistinct}
use Rattle.std.specs.Option.{option_map_or}
use Rattle.sd_base.specs.Ids.{same_txn}
use Rattle.sd_base.specs.declared.ids.TxnId.{TxnId}
use Rattle.sd_base.specs.declared.ids.Rid.{Rid}
use Rattle.sd_base.specs.declared.place.Mode.TheVariants as modes
use Rattle.sd_base.specs.declared.place.Status.TheVariants as S
use Rattle.sd_page.specs.Page.{Page, empty_page}
use Rattle.sd_logrec.specs.Spelling.{spelled_length, spelling}
use Rattle.sd_logrec.specs.View.{Rec, flat}
use Rattle.sd_logrec.specs.declared.record.Record.{Record}
use Rattle.sd_logrec.specs.declared.record.Record.TheVariants as records
use Rattle.sd_log.specs.Logs.{LogState, needed, with_record}
use Rattle.sd_model.specs.State.{State, took}
use Rattle.sd_model.specs.Tables.{Content}
use Rattle.sd_model.specs.declared.act.Act.{Act}
use Rattle.sd_model.specs.declared.act.Claim.{Claim}
use Rattle.sd_pagelock.specs.Asks.{open_asks}
use Rattle.sd_pagelock.specs.Directory as directory
use Rattle.sd_pagelock.specs.Directory.{DirectoryState, asks_at, entry_at, kept_rec, rec_lsn_at}
use Rattle.sd_pagelock.specs.Places.{changed, owns}
use Rattle.sd_pagelock.specs.Rows.{dirtied}
use Rattle.sd_pool.specs.Buffers as buffers
use Rattle.sd_pool.specs.Buffers.{Buffers}
use Rattle.sd_reclock.specs.Locks.{held}
use Rattle.sd_rig.specs.Devices as rig
use Rattle.sd_txn.specs.Owing.{bytes_owed, owed_of, records_owed, reserve_of, undo_len}
use Rattle.sd_txn.specs.Transactions.{OthersStay, Replaces, SameOrder, Transaction, Transactions, ids, noted, pushed, started, txn_at}
use Rattle.sd_txn.specs.declared.state.OpenRec.{OpenRec}
use Rattle.sd_txn.specs.declared.state.TxnState.{TxnState}
use Rattle.sd_chain.specs.Pages.{FitsUpdate, redo, value}
use Rattle.sd_chain.specs.Records.{Each, home}
use Rattle.sd_chain.specs.Logs.{Outcomes, all_at, next_lsn}
use Rattle.sd_update.specs.declared.changes.Ready.{Ready}
use Rattle.sd_state.specs.Good.{Good}
use Rattle.sd_state.specs.Parts.{Parts, log_at, owed_at, pool_at, status_at, txns_at}
use Rattle.sd_state.specs.Sums.{great_of, owed_in_all, owed_where}
use Rattle.sd_state.specs.Values.{Pending}

-- a transaction's change of a record, with the LSN of its log record and that of the transaction's record before it
pub record Change : Type 0 where
  pub txn : TxnId
  pub rid : Rid
  pub lsn : ℕ
  pub prev : ℕ
  pub capacity : ℕ
  pub before : Content
  pub after : Content

-- its log record
abbrev pub update : Change → Record
update k = records.Update k.lsn k.txn k.prev k.rid.page k.rid.slot k.capacity k.before k.after

abbrev pub flat_of : Change → Rec
flat_of k = flat (update k)

-- what its undo wants
abbrev pub opened : Change → OpenRec
opened k = record { lsn = k.lsn; prev = k.prev; rid = k.rid; before = k.before }

-- the transaction puts v at r, of which it has an exclusive claim
abbrev pub putting : TxnId → Rid → Content → State → State
putting t r v m = took t r Claim.Excl (Act.Put r v ∷ []) m

-- instance i has this log, this table and this pool, and the directory is this one
abbrev pub with_changed : ℕ → LogState → Transactions → Buffers → DirectoryState Page → Parts → Parts
with_changed i log table pool places c = record c {
  logs = slice_set c.logs (i - 1) log;
  txns = slice_set c.txns (i - 1) table;
  pools = slice_set c.pools (i - 1) pool;
  directory = places;
}

-- log i with the change at its end
abbrev pub changed_log : ℕ → Change → ℕ → Parts → LogState
changed_log i k spare c = with_record (update k) spare (log_at c i)

-- what is known of the transaction then, where it was x
abbrev pub changed_row : Change → Transaction → Transaction
changed_row k x = noted k.lsn (pushed (opened k) x)

-- The table, where x was known of the transaction, the pool, which had this image and used its page last, and the directory have the change.
pub record IsChanged (i : ℕ) (k : Change) (x : Transaction) (image : Page) (table : Transactions) (pool : Buffers)
    (places : DirectoryState Page) (c : Parts) : Type 0 where
  pub row : Replaces (txns_at c i) table k.txn x (changed_row k x)
  pub bytes : reserve_of table + bytes_owed x ≡ reserve_of (txns_at c i) + bytes_owed (changed_row k x)
  pub records : owed_of table + records_owed x ≡ owed_of (txns_at c i) + records_owed (changed_row k x)
  pub rewrites : pool ≡ buffers.rewritten (pool_at c i) k.rid.page (redo image (flat_of k))
  pub page : buffers.image_at pool k.rid.page ≡ Some (redo image (flat_of k))
  pub other_pages : (q : ℕ) → q ≢ k.rid.page → buffers.image_at pool q ≡ buffers.image_at (pool_at c i) q
  pub frames : pool.frames ≡ (pool_at c i).frames
  pub entry : entry_at places k.rid.page ≡ dirtied i
  pub rec_lsn : rec_lsn_at places k.rid.page
      ≡ kept_rec (changed (entry_at c.directory k.rid.page)) true (rec_lsn_at c.directory k.rid.page) (Some k.lsn)
  pub asks : asks_at places k.rid.page ≡ open_asks (dirtied i) (asks_at c.directory k.rid.page)
  pub other_entries : (q : ℕ) → q ≢ k.rid.page → entry_at places q ≡ entry_at c.directory q
  pub other_rec_lsns : (q : ℕ) → q ≢ k.rid.page → rec_lsn_at places q ≡ rec_lsn_at c.directory q
  pub other_asks : (q : ℕ) → q ≢ k.rid.page → asks_at places q ≡ asks_at c.directory q
  pub moving : (q : ℕ) → directory.moving_image_at places q ≡ directory.moving_image_at c.directory q

-- Who works: the transaction, of which x is known, runs on instance i, which is up and not to fall, and has the record's
-- exclusive lock alone; and instance i has the page alone, with this image of it, which the change fits.
pub record MayWrite (i : ℕ) (k : Change) (x : Transaction) (image : Page) (c : Parts) : Type 0 where
  pub low : 1 ≤ i
  pub high : i ≤ 8
  pub idle : c.due ≡ None
  pub up : status_at c i ≡ S.Up
  pub home : home k.txn ≡ i
  pub state : x.state ≡ TxnState.Running
  pub lock : held c.locks k.txn k.rid ≡ Some modes.Excl
  pub alone : (u : TxnId) → k.txn ≢ u → held c.locks u k.rid ≡ None
  pub owns : owns (entry_at c.directory k.rid.page) i ≡ true
  pub copy : buffers.image_at (pool_at c i) k.rid.page ≡ Some image
  pub fits : FitsUpdate image.slots k.rid.slot k.capacity k.before k.after

-- What the record follows: its LSN is the next one, above that of the page, and `prev` is that of the transaction's last record.
pub record MayAppend (i : ℕ) (k : Change) (x : Transaction) (image : Page) (c : Parts) : Type 0 where
  pub lsn : k.lsn ≡ next_lsn (log_at c i) image.lsn
  pub prev : k.prev ≡ option_map_or (λ (span : ℕ × ℕ). span.1) x.span 0

-- There are bytes and LSNs for it: the log has room, with what the table owes then, and `great` is at or above each LSN, and
-- leaves LSNs for the record and for all that the logs owe then.
pub record HasRoom (i : ℕ) (k : Change) (spare great : ℕ) (table : Transactions) (new c : Parts) : Type 0 where
  pub memory : reserve_of table ≤ spare
  pub room : needed (log_at c i) (length (spelling (update k))) (reserve_of table) ≤ 1048576
  pub disk : c.disk_lsn ≤ great
  pub logs : (j : ℕ) → 1 ≤ j → j ≤ 8 → Each (λ x. x.lsn ≤ great) (all_at (log_at c j))
  pub fits : great + 1 + owed_in_all new < 2 ^ 62

-- A change keeps the invariant: the transaction has put the value there.
abbrev pub ChangeKeepsGood : Outcomes → Type 0
ChangeKeepsGood leaves = (i : ℕ) (k : Change) (x : Transaction) (image : Page) (spare great : ℕ) (table : Transactions)
    (pool : Buffers) (places : DirectoryState Page) (seen : rig.DeviceImages) (c : Parts) (m : State) → Good seen leaves Pending.Idle c m
    → MayWrite i k x image c → MayAppend i k x image c → IsChanged i k x image table pool places c
    → HasRoom i k spare great table (with_changed i (changed_log i k spare c) table pool places c) c
    → Good seen leaves Pending.Idle (with_changed i (changed_log i k spare c) table pool places c) (putting k.txn k.rid k.after m)

-- ---- the call

-- the image that the transaction's instance has of a page
abbrev pub image_for : TxnId → ℕ → Parts → Page
image_for t p c = unwrap_or (buffers.image_at (pool_at c (home t)) p) (empty_page p)

-- what its instance's table knows of the transaction
abbrev pub row_for : TxnId → Parts → Transaction
row_for t c = unwrap_or (txn_at (txns_at c (home t)) t) (started TxnState.Running)

-- what a change of the record to this value is, by the log, the table and the page's image of the transaction's instance
abbrev pub change_of : TxnId → Rid → ℕ → Content → Parts → Change
change_of t r capacity after c = record {
  txn = t;
  rid = r;
  lsn = next_lsn (log_at c (home t)) (image_for t r.page c).lsn;
  prev = option_map_or (λ (span : ℕ × ℕ). span.1) (row_for t c).span 0;
  capacity = capacity;
  before = value (image_for t r.page c).slots r.slot;
  after = after;
}

-- the new value fits the record's slot, or a new slot behind the last one
abbrev pub FitsThere : TxnId → Rid → ℕ → Content → Parts → Type 0
FitsThere t r capacity after c =
    FitsUpdate (image_for t r.page c).slots r.slot capacity (value (image_for t r.page c).slots r.slot) after

-- the bytes that are to be reserved behind it: for what is owed, for its undo, and for the End where it is the transaction's first
abbrev pub reserve_then : Change → Parts → ℕ
reserve_then k c = reserve_of (txns_at c (home k.txn)) + undo_len (opened k) + (if is_some (row_for k.txn c).span then 0 else 31)

-- and the records that the table of its instance owes then
abbrev pub owed_then : TxnId → Parts → ℕ
owed_then t c = owed_of (txns_at c (home t)) + 1 + (if is_some (row_for t c).span then 0 else 1)

-- its log has no room for it with what is to be reserved behind it
abbrev pub LacksRoom : Change → Parts → Type 0
LacksRoom k c = 1048576 < needed (log_at c (home k.txn)) (spelled_length (update k)) (reserve_then k c)

-- no LSNs are left for a change of the transaction and for all that the logs owe then
abbrev pub LacksLsns : TxnId → Parts → Type 0
LacksLsns t c = 2 ^ 62 ≤ great_of c + 1 + owed_where (home t) (max (owed_at c (home t)) (owed_then t c)) c

-- the change whose undo wants this, and that sets this value, a new slot having this capacity
abbrev pub change_in : TxnId → OpenRec → ℕ → Content → Change
change_in t top capacity after = record {
  txn = t;
  rid = top.rid;
  lsn = top.lsn;
  prev = top.prev;
  capacity = capacity;
  before = top.before;
  after = after;
}

-- the record of a change that is ready
abbrev pub record_for : TxnId → Ready → Record
record_for t ready = update (change_in t ready.top ready.capacity (option_copied ready.after))

-- The table has a further open record of the transaction, and is else as it was.
pub record IsRowPut (t : TxnId) (top : OpenRec) (old new : Transactions) : Type 0 where
  pub row : txn_at new t ≡ option_map (λ x. noted top.lsn (pushed top x)) (txn_at old t)
  pub others : OthersStay old new t
  pub order : SameOrder old new
  -- what every table keeps
  pub once : IsDistinct same_txn (ids old)

-- Log, table, pool and directory have the change, which found all as it was; nothing else is changed.
pub record IsPut (k : Change) (reserve : ℕ) (old new : Parts) : Type 0 where
  pub spare : ℕ
  pub table : Transactions
  pub pool : Buffers
  pub places : DirectoryState Page
  pub memory : reserve ≤ spare
  pub changed : IsChanged (home k.txn) k (row_for k.txn old) (image_for k.txn k.rid.page old) table pool places old
  pub is : new ≡ with_changed (home k.txn) (changed_log (home k.txn) k spare old) table pool places old

-- And it was one that the law asks for.
pub record IsMade (k : Change) (old new : Parts) : Type 0 where
  pub may : MayWrite (home k.txn) k (row_for k.txn old) (image_for k.txn k.rid.page old) old
  pub appends : MayAppend (home k.txn) k (row_for k.txn old) (image_for k.txn k.rid.page old) old
  pub put : IsPut k (reserve_then k old) old new
