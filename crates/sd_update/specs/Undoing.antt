-- The undo of a transaction's last open record.
use Rattle.std.specs.Prelude.{◌≡◌, ◌≢◌, ℕ, ◌+◌, ◌-◌, ◌^◌, ◌<◌, ◌≤◌, true, false, Option, None, Some, length, slice_set}
use Rattle.std.specs.List.{IsDistinct}
use Rattle.std.specs.Option.{option_map_or}
use Rattle.sd_base.specs.Ids.{same_txn}
use Rattle.sd_base.specs.declared.ids.TxnId.{TxnId}
use Rattle.sd_base.specs.declared.place.Status.TheVariants as S
use Rattle.sd_logrec.specs.Spelling.{HasSpelling, spelling}
use Rattle.sd_logrec.specs.View.{flat}
use Rattle.sd_logrec.specs.declared.record.Record.{Record}
use Rattle.sd_logrec.specs.declared.record.Record.TheVariants as records
use Rattle.sd_log.specs.Logs.{AreSpelled, LogState, needed, scanned, with_record}
use Rattle.sd_model.specs.Acts.{live}
use Rattle.sd_model.specs.Changes.{goal, undid}
use Rattle.sd_model.specs.State.{State}
use Rattle.sd_model.specs.declared.act.Life.{Life}
use Rattle.sd_page.specs.Page.{Page}
use Rattle.sd_pagelock.specs.Asks.{open_asks}
use Rattle.sd_pagelock.specs.Directory as directory
use Rattle.sd_pagelock.specs.Directory.{DirectoryState, asks_at, entry_at, kept_rec, rec_lsn_at}
use Rattle.sd_pagelock.specs.Places.{changed, owns}
use Rattle.sd_pagelock.specs.Rows.{dirtied}
use Rattle.sd_pool.specs.Buffers as buffers
use Rattle.sd_pool.specs.Buffers.{Buffers}
use Rattle.sd_rig.specs.Devices as rig
use Rattle.sd_txn.specs.Marked.{AreMarks}
use Rattle.sd_txn.specs.Transactions.{Replaces, Transaction, Transactions, depth, ids, noted, popped, top, txn_at}
use Rattle.sd_txn.specs.declared.state.OpenRec.{OpenRec}
use Rattle.sd_chain.specs.Pages.{FitsUndo, redo}
use Rattle.sd_chain.specs.Records.{home}
use Rattle.sd_chain.specs.Logs.{Outcomes, next_lsn}
use Rattle.sd_state.specs.Good.{Good}
use Rattle.sd_state.specs.Parts.{IsShape, Parts, is_loose, log_at, pool_at, status_at, txns_at}
use Rattle.sd_state.specs.Tables.{tells_log}
use Rattle.sd_state.specs.Values.{Pending}

-- the LSN of the next record of the log of t's instance, for a page with this image
abbrev pub lsn_for : TxnId → Page → Parts → ℕ
lsn_for t image c = next_lsn (log_at c (home t)) image.lsn

-- the record that takes back the last open record of a transaction
abbrev pub clr_of : TxnId → Transaction → OpenRec → ℕ → Record
clr_of t x o lsn = records.Clr lsn t (option_map_or (λ span. span.1) x.span 0) o.prev o.rid.page o.rid.slot o.before

abbrev pub clr_at : TxnId → Transaction → OpenRec → Page → Parts → Record
clr_at t x o image c = clr_of t x o (lsn_for t image c)

-- log i and its table, the pool of instance a, the directory and the fall that is due are these
abbrev pub with_undone_by : ℕ → ℕ → LogState → Buffers → Transactions → DirectoryState Page → Option (ℕ × ℕ) → Parts → Parts
with_undone_by a i log pool table places due c = record c {
  logs = slice_set c.logs (i - 1) log;
  pools = slice_set c.pools (a - 1) pool;
  txns = slice_set c.txns (i - 1) table;
  directory = places;
  due = due;
}

-- log i, its pool, its table and the directory are these
abbrev pub with_undone : ℕ → LogState → Buffers → Transactions → DirectoryState Page → Parts → Parts
with_undone i log pool table places c = with_undone_by i i log pool table places c.due c

-- The log of the transaction's instance is settled, its table tells of it and has the row with this last open record, and
-- instance a has the page of that alone.
pub record HasTop (a : ℕ) (t : TxnId) (x : Transaction) (o : OpenRec) (image : Page) (c : Parts) : Type 0 where
  pub low : 1 ≤ home t
  pub high : home t ≤ 8
  pub settled : is_loose c (home t) ≡ false
  pub tells : tells_log (status_at c (home t)) ≡ true
  pub row : txn_at (txns_at c (home t)) t ≡ Some x
  pub last : top x ≡ Some o
  pub held : owns (entry_at c.directory o.rid.page) a ≡ true
  pub copy : buffers.image_at (pool_at c a) o.rid.page ≡ Some image
  -- what every table keeps
  pub once : IsDistinct same_txn (ids (txns_at c (home t)))

-- The transaction rolls back and is above its target; its instance is up, and has the page of its last open record alone.
pub record MayUndo (t : TxnId) (x : Transaction) (o : OpenRec) (image : Page) (c : Parts) (m : State) : Type 0 where
  pub low : 1 ≤ home t
  pub high : home t ≤ 8
  pub idle : c.due ≡ None
  pub to : Option ℕ
  pub rolls : (m.part t).life ≡ Life.Rolling to
  pub above : goal to < length (live (m.part t).acts)
  pub up : status_at c (home t) ≡ S.Up
  pub row : txn_at (txns_at c (home t)) t ≡ Some x
  pub last : top x ≡ Some o
  pub held : owns (entry_at c.directory o.rid.page) (home t) ≡ true
  pub copy : buffers.image_at (pool_at c (home t)) o.rid.page ≡ Some image
  -- what every table keeps
  pub once : IsDistinct same_txn (ids (txns_at c (home t)))
  pub marks : AreMarks x.marks (depth x)

-- The log has the record, with what it leaves to spare; the row is without the last open record; the pool of instance a has the page
-- with the value before, and used it last; and the page is changed.
pub record IsUndone (a : ℕ) (t : TxnId) (x : Transaction) (o : OpenRec) (image : Page) (log : LogState) (pool : Buffers)
    (table : Transactions)
    (places : DirectoryState Page) (c : Parts) : Type 0 where
  pub spare : ℕ
  pub grown : log ≡ with_record (clr_at t x o image c) spare (log_at c (home t))
  pub spent : (log_at c (home t)).spare ≤ spare + length (spelling (clr_at t x o image c))
  pub row : Replaces (txns_at c (home t)) table t x (noted (lsn_for t image c) (popped x))
  pub rewrites : pool ≡ buffers.rewritten (pool_at c a) o.rid.page (redo image (flat (clr_at t x o image c)))
  pub page : buffers.image_at pool o.rid.page ≡ Some (redo image (flat (clr_at t x o image c)))
  pub other_pages : (q : ℕ) → q ≢ o.rid.page → buffers.image_at pool q ≡ buffers.image_at (pool_at c a) q
  pub frames : pool.frames ≡ (pool_at c a).frames
  pub entry : entry_at places o.rid.page ≡ dirtied a
  pub rec_lsn : rec_lsn_at places o.rid.page
      ≡ kept_rec (changed (entry_at c.directory o.rid.page)) true (rec_lsn_at c.directory o.rid.page) (Some (lsn_for t image c))
  pub asks : asks_at places o.rid.page ≡ open_asks (dirtied a) (asks_at c.directory o.rid.page)
  pub images : (q : ℕ) → directory.moving_image_at places q ≡ directory.moving_image_at c.directory q
  pub other_entries : (q : ℕ) → q ≢ o.rid.page → entry_at places q ≡ entry_at c.directory q
  pub other_rec_lsns : (q : ℕ) → q ≢ o.rid.page → rec_lsn_at places q ≡ rec_lsn_at c.directory q
  pub other_asks : (q : ℕ) → q ≢ o.rid.page → asks_at places q ≡ asks_at c.directory q

-- An undo keeps the invariant, and the serial table has one put less that is live.
abbrev pub UndoIsGood : Outcomes → Type 0
UndoIsGood leaves = (seen : rig.DeviceImages) (c : Parts) (m : State) (t : TxnId) (x : Transaction) (o : OpenRec) (image : Page)
    (log : LogState) (pool : Buffers) (table : Transactions) (places : DirectoryState Page) → Good seen leaves Pending.Idle c m
    → MayUndo t x o image c m → IsUndone (home t) t x o image log pool table places c
    → Good seen leaves Pending.Idle (with_undone (home t) log pool table places c) (undid t m)

-- What an undo finds in its log, but for memory, and in its page.
pub record FindsPlace (y : Record) (image : Page) (lsn : ℕ) (log : LogState) : Type 0 where
  pub room : needed log (length (spelling y)) 0 ≤ 1048576
  pub low : 1 ≤ lsn
  pub high : lsn < 2 ^ 62
  pub slot : FitsUndo image.slots (flat y).slot (flat y).after

-- What an undo finds: in its log room for its record, the bytes of memory that it takes, and an LSN; and in its page the slot,
-- with room for the value before.
pub record FindsRoom (y : Record) (image : Page) (lsn : ℕ) (log : LogState) : Type 0 where
  pub room : needed log (length (spelling y)) 0 ≤ 1048576
  pub spare : length (spelling y) ≤ log.spare
  pub low : 1 ≤ lsn
  pub high : lsn < 2 ^ 62
  pub slot : FitsUndo image.slots (flat y).slot (flat y).after

-- So it is neither refused nor out of memory.
abbrev pub UndoFindsRoom : Outcomes → Type 0
UndoFindsRoom leaves = (seen : rig.DeviceImages) (c : Parts) (m : State) (t : TxnId) (x : Transaction) (o : OpenRec) (image : Page)
    → Good seen leaves Pending.Idle c m → MayUndo t x o image c m
    → FindsRoom (clr_at t x o image c) image (lsn_for t image c) (log_at c (home t))

-- a transaction's row, and the last of its open records
pub record FindsTop (t : TxnId) (c : Parts) : Type 0 where
  pub x : Transaction
  pub o : OpenRec
  pub row : txn_at (txns_at c (home t)) t ≡ Some x
  pub last : top x ≡ Some o

-- One that rolls back and is above its target has an open record, while its instance is up.
abbrev pub UndoFindsTop : Outcomes → Type 0
UndoFindsTop leaves = (seen : rig.DeviceImages) (c : Parts) (m : State) (t : TxnId) (to : Option ℕ) → Good seen leaves Pending.Idle c m
    → 1 ≤ home t → home t ≤ 8 → c.due ≡ None → status_at c (home t) ≡ S.Up → (m.part t).life ≡ Life.Rolling to
    → goal to < length (live (m.part t).acts) → FindsTop t c

-- An instance that has a page alone has it in its pool.
abbrev pub UndoFindsCopy : Outcomes → Type 0
UndoFindsCopy leaves = (seen : rig.DeviceImages) (c : Parts) (m : State) (i p : ℕ) → Good seen leaves Pending.Idle c m
    → owns (entry_at c.directory p) i ≡ true → (image : Page) × (buffers.image_at (pool_at c i) p ≡ Some image)

-- The record is one of the grammar, where each record of its log is.
abbrev pub UndoIsSpelled : Outcomes → Type 0
UndoIsSpelled leaves = (seen : rig.DeviceImages) (c : Parts) (m : State) (t : TxnId) (x : Transaction) (o : OpenRec) (image : Page)
    → Good seen leaves Pending.Idle c m → MayUndo t x o image c m → AreSpelled (scanned (log_at c (home t)))
    → HasSpelling (clr_at t x o image c)

-- ---- the call

-- The transaction rolls back to this goal, and has puts that are live above it.
pub record RollsTo (t : TxnId) (to : Option ℕ) (m : State) : Type 0 where
  pub rolls : (m.part t).life ≡ Life.Rolling to
  pub above : goal to < length (live (m.part t).acts)

-- An undo finds the transaction's row, its last open record, and the page of that in the pool of instance a, which has it alone; and
-- what it takes of the log, but for memory, and of the page is there.
pub record CanUndo (a : ℕ) (t : TxnId) (x : Transaction) (o : OpenRec) (image : Page) (c : Parts) : Type 0 where
  pub shape : IsShape c
  pub low : 1 ≤ home t
  pub high : home t ≤ 8
  pub by_low : 1 ≤ a
  pub by_high : a ≤ 8
  pub row : txn_at (txns_at c (home t)) t ≡ Some x
  pub last : top x ≡ Some o
  pub held : owns (entry_at c.directory o.rid.page) a ≡ true
  pub copy : buffers.image_at (pool_at c a) o.rid.page ≡ Some image
  pub finds : FindsPlace (clr_at t x o image c) image (lsn_for t image c) (log_at c (home t))
  pub spelled : HasSpelling (clr_at t x o image c)

-- Instance a has undone the last open record of the transaction: of the log and the table, of a's pool and of the directory all is
-- told, this fall is due, and all other parts are as before.
pub record HasUndone (a : ℕ) (due : Option (ℕ × ℕ)) (t : TxnId) (old new : Parts) : Type 0 where
  pub x : Transaction
  pub o : OpenRec
  pub image : Page
  pub row : txn_at (txns_at old (home t)) t ≡ Some x
  pub last : top x ≡ Some o
  pub copy : buffers.image_at (pool_at old a) o.rid.page ≡ Some image
  pub undone : IsUndone a t x o image (log_at new (home t)) (pool_at new a) (txns_at new (home t)) new.directory old
  pub rest : new ≡ with_undone_by a (home t) (log_at new (home t)) (pool_at new a) (txns_at new (home t)) new.directory due old
