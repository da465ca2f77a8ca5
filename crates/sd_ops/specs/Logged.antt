-- The log record that a change of a transaction puts, and why there is none.
use Rattle.std.specs.Prelude.{◌≡◌, ◌≢◌, ◌⊎◌, ℕ, List, [], ◌∷◌, ◌++◌, length, Some, Result, Ok, Err}
use Rattle.sd_base.specs.declared.ids.Rid.{Rid}
use Rattle.sd_base.specs.declared.ids.TxnId.{TxnId}
use Rattle.sd_base.specs.declared.refusal.Refusal.{Refusal}
use Rattle.sd_base.specs.declared.refusal.Refusal.TheVariants as R
use Rattle.sd_chain.specs.Logs.{all_at}
use Rattle.sd_chain.specs.Pages.{redo}
use Rattle.sd_chain.specs.Records.{home}
use Rattle.sd_fits.specs.Untouched.{HasChanged}
use Rattle.sd_logrec.specs.View.{flat}
use Rattle.sd_model.specs.Tables.{Content}
use Rattle.sd_page.specs.Page.{Page}
use Rattle.sd_pool.specs.Buffers.{image_at}
use Rattle.sd_state.specs.Parts.{Parts, log_at, pool_at, txns_at}
use Rattle.sd_txn.specs.Transactions.{Transaction, top, txn_at}
use Rattle.sd_txn.specs.declared.state.OpenRec.{OpenRec}
use Rattle.sd_update.specs.Changing.{Change, LacksLsns, LacksRoom, change_of, flat_of, image_for}
use Rattle.sd_update.specs.Undoing.{clr_at}
use Rattle.sd_ops.specs.declared.edits.Edit.{Edit}
use Rattle.sd_ops.specs.Edits.{IsLongEdit, IsSpoiled, Sets}
use Rattle.sd_ops.specs.Leaving.{OnlyLocks}
use Rattle.sd_ops.specs.Vacancies.{IsFullFor, IsLongFor, IsVacant, NoneUsable}

-- ---- a change

-- The change's record came to the log of its instance, and no other record to any log; the page has its LSN. That is by `change_of` the
-- next one above those of the log and of the page.
pub record IsLogged (k : Change) (old new : Parts) : Type 0 where
  pub log : all_at (log_at new (home k.txn)) ≡ all_at (log_at old (home k.txn)) ++ flat_of k ∷ []
  pub others : (j : ℕ) → j ≢ home k.txn → log_at new j ≡ log_at old j
  pub page : (image_for k.txn k.rid.page new).lsn ≡ k.lsn

-- Its log has room for it, and LSNs are left.
pub record HasPlace (k : Change) (c : Parts) : Type 0 where
  pub room : LacksRoom k c → ⊥
  pub lsns : LacksLsns k.txn c → ⊥

-- which of the two it lacks: LSNs are looked for where there is room; memory has no cause, and there is no other refusal
abbrev pub LacksFor : Change → Parts → Refusal → Type 0
LacksFor k c R.LogFull = LacksRoom k c
LacksFor k c R.LsnEnd = (LacksRoom k c → ⊥) × LacksLsns k.txn c
LacksFor k c R.Memory = Unit {0}
LacksFor k c n = ⊥

-- a change, by its answer
abbrev pub PutLeaves : TxnId → Rid → ℕ → Content → Result (Unit {0}) Refusal → Parts → Parts → Type 0
PutLeaves t r capacity after (Ok x) old new = HasPlace (change_of t r capacity after old) old
    × IsLogged (change_of t r capacity after old) old new × HasChanged (home t) r.page old new
PutLeaves t r capacity after (Err n) old new = LacksFor (change_of t r capacity after old) old n × OnlyLocks old new

-- ---- an edit

-- The edit is made: by this change, which is logged.
pub record IsEdited (t : TxnId) (r : Rid) (edit : Edit) (old new : Parts) : Type 0 where
  pub capacity : ℕ
  pub after : Content
  pub sets : Sets (image_for t r.page old) r.slot edit capacity after
  pub place : HasPlace (change_of t r capacity after old) old
  pub logged : IsLogged (change_of t r capacity after old) old new

-- It would be made by this change, which is refused so.
pub record LacksForEdit (t : TxnId) (r : Rid) (edit : Edit) (c : Parts) (n : Refusal) : Type 0 where
  pub capacity : ℕ
  pub after : Content
  pub sets : Sets (image_for t r.page c) r.slot edit capacity after
  pub lacks : LacksFor (change_of t r capacity after c) c n

-- why it is refused for the log's room, for LSNs, or for its length: over 256 bytes, or over what the record's slot takes
abbrev pub EditRefused : TxnId → Rid → Edit → Parts → Refusal → Type 0
EditRefused t r edit c R.LogFull = LacksForEdit t r edit c R.LogFull
EditRefused t r edit c R.LsnEnd = LacksForEdit t r edit c R.LsnEnd
EditRefused t r edit c R.TooLong = IsLongEdit edit ⊎ IsSpoiled (image_for t r.page c) r.slot edit R.TooLong
EditRefused t r edit c n = Unit {0}

-- an edit, by its answer
abbrev pub EditLeaves : TxnId → Rid → Edit → Result (Unit {0}) Refusal → Parts → Parts → Type 0
EditLeaves t r edit (Ok x) old new = IsEdited t r edit old new × HasChanged (home t) r.page old new
EditLeaves t r edit (Err n) old new = EditRefused t r edit old n × OnlyLocks old new

-- ---- a new record

-- The value is put there, in a slot that takes it: by this change, which is logged.
pub record IsFilled (t : TxnId) (p : ℕ) (v : List ℕ) (asked : ℕ) (old new : Parts) (r : Rid) : Type 0 where
  pub page : r.page ≡ p
  pub own : ℕ
  pub vacant : IsVacant (image_for t p old) t p asked old r.slot own
  pub place : HasPlace (change_of t r own (Some v) old) old
  pub logged : IsLogged (change_of t r own (Some v) old) old new

-- It would be put there, by this change, which is refused so.
pub record LacksForFill (t : TxnId) (p : ℕ) (v : List ℕ) (asked : ℕ) (c : Parts) (n : Refusal) : Type 0 where
  pub slot : ℕ
  pub own : ℕ
  pub vacant : IsVacant (image_for t p c) t p asked c slot own
  pub lacks : LacksFor (change_of t (record { page = p; slot = slot }) own (Some v) c) c n

-- why it is refused: the log's room, LSNs, its length, the page's room; and another's lock counts only where no dead slot is usable
abbrev pub FillRefused : TxnId → ℕ → List ℕ → ℕ → Parts → Refusal → Type 0
FillRefused t p v asked c R.LogFull = LacksForFill t p v asked c R.LogFull
FillRefused t p v asked c R.LsnEnd = LacksForFill t p v asked c R.LsnEnd
FillRefused t p v asked c R.TooLong = IsLongFor v asked
FillRefused t p v asked c R.PageFull = IsFullFor (image_for t p c) t p asked c
FillRefused t p v asked c (R.Blocked by) = NoneUsable (image_for t p c) t p asked c (length (image_for t p c).slots)
FillRefused t p v asked c (R.Deadlock cycle) = NoneUsable (image_for t p c) t p asked c (length (image_for t p c).slots)
FillRefused t p v asked c n = Unit {0}

-- a new record, by the answer
abbrev pub FillLeaves : TxnId → ℕ → List ℕ → ℕ → Result Rid Refusal → Parts → Parts → Type 0
FillLeaves t p v asked (Ok r) old new = IsFilled t p v asked old new r × HasChanged (home t) p old new
FillLeaves t p v asked (Err n) old new = FillRefused t p v asked old n × OnlyLocks old new

-- ---- an undo

-- The compensation record of the transaction's last open record came to its log, and no other record to any log; the page has the value
-- before, and the record's LSN, which is the next one above those of the log and of the page.
pub record HasCompensated (t : TxnId) (old new : Parts) : Type 0 where
  pub x : Transaction
  pub o : OpenRec
  pub image : Page
  pub row : txn_at (txns_at old (home t)) t ≡ Some x
  pub last : top x ≡ Some o
  pub copy : image_at (pool_at old (home t)) o.rid.page ≡ Some image
  pub log : all_at (log_at new (home t)) ≡ all_at (log_at old (home t)) ++ flat (clr_at t x o image old) ∷ []
  pub others : (j : ℕ) → j ≢ home t → log_at new j ≡ log_at old j
  pub page : image_at (pool_at new (home t)) o.rid.page ≡ Some (redo image (flat (clr_at t x o image old)))
