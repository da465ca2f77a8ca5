-- The transactions of one instance as a value: how each stands, its marks, its open records, and what calls make of it.
use Rattle.std.specs.Prelude.{◌≡◌, ◌≢◌, ℕ, ◌+◌, ◌-◌, ◌==◌, if◌then◌else◌, List, [], ◌∷◌, ◌++◌, length, take, filter, leb, Option, None, Some, IsSome, option_and_then, option_map, slice_get}
use Rattle.std.specs.Map.{keys_of, lookup, remove_entry}
use Rattle.std.specs.Option.{option_map_or}
use Rattle.std.specs.Str.{bytes_eq}
use Rattle.sd_base.specs.Ids.{same_txn}
use Rattle.sd_base.specs.declared.ids.TxnId.{TxnId}
use Rattle.sd_txn.specs.declared.state.OpenRec.{OpenRec}
use Rattle.sd_txn.specs.declared.state.TxnState.{TxnState}

-- a transaction: how it stands; its marks in the order of their saves, each a name and how many records were open then;
-- its open records, the oldest first; the LSNs of its first and last record
pub record Transaction : Type 0 where
  pub state : TxnState
  pub marks : List (List ℕ × ℕ)
  pub stack : List OpenRec
  pub span : Option (ℕ × ℕ)

-- the unresolved transactions of an instance in order of begin, and how many began in the epoch of the last begin
pub record Transactions : Type 0 where
  pub inst : ℕ
  pub epoch : ℕ
  pub begins : ℕ
  pub unresolved : List (TxnId × Transaction)

abbrev pub txn_at : Transactions → TxnId → Option Transaction
txn_at table t = lookup (same_txn t) table.unresolved

abbrev pub IsUnresolved : Transactions → TxnId → Type 0
IsUnresolved table t = IsSome (txn_at table t)

-- the transactions in order of begin
abbrev pub ids : Transactions → List TxnId
ids table = keys_of table.unresolved

-- a transaction of which no record is known
abbrev pub started : TxnState → Transaction
started state = record { state = state; marks = []; stack = []; span = None }

-- how many records are open
abbrev pub depth : Transaction → ℕ
depth x = length x.stack

-- the open record that is undone next
abbrev pub top : Transaction → Option OpenRec
top x = slice_get x.stack (length x.stack - 1)

-- the number of open records at a mark
abbrev pub mark_of : List ℕ → Transaction → Option ℕ
mark_of name x = lookup (bytes_eq name) x.marks

-- it stands elsewhere
abbrev pub with_state : TxnState → Transaction → Transaction
with_state state x = record x { state = state }

-- a record of it was written at this LSN
abbrev pub noted : ℕ → Transaction → Transaction
noted lsn x = record x { span = Some (option_map_or (λ span. span.0) x.span lsn, lsn) }

-- the marks with one more at their end, in place of an older one of its name
abbrev pub with_mark : List ℕ → ℕ → List (List ℕ × ℕ) → List (List ℕ × ℕ)
with_mark name n marks = remove_entry (bytes_eq name) marks ++ (name, n) ∷ []

-- it marks this place
abbrev pub saved : List ℕ → Transaction → Transaction
saved name x = record x { marks = with_mark name (length x.stack) x.marks }

-- one record more is open
abbrev pub pushed : OpenRec → Transaction → Transaction
pushed o x = record x { stack = x.stack ++ o ∷ [] }

-- the last open record is undone, and each mark above what is left goes
abbrev pub popped : Transaction → Transaction
popped x = let left = length x.stack - 1 in record x { stack = take left x.stack; marks = filter (λ mark. leb mark.1 left) x.marks }

-- its end is in the log: nothing of it is open and no record of it is known; a mark stays where nothing was open
abbrev pub shut : Transaction → Transaction
shut x = record x { stack = []; span = None; marks = filter (λ mark. leb mark.1 0) x.marks }

-- what is known of t
abbrev pub state_at : Transactions → TxnId → Option TxnState
state_at table t = option_map (λ x. x.state) (txn_at table t)

abbrev pub span_at : Transactions → TxnId → Option (ℕ × ℕ)
span_at table t = option_and_then (λ x. x.span) (txn_at table t)

abbrev pub mark_at : Transactions → TxnId → List ℕ → Option ℕ
mark_at table t name = option_and_then (mark_of name) (txn_at table t)

abbrev pub top_at : Transactions → TxnId → Option OpenRec
top_at table t = option_and_then top (txn_at table t)

abbrev pub depth_at : Transactions → TxnId → ℕ
depth_at table t = option_map_or depth (txn_at table t) 0

-- the table without t; the others keep their order
abbrev pub without : Transactions → TxnId → Transactions
without table t = record { inst = table.inst; epoch = table.epoch; begins = table.begins; unresolved = remove_entry (same_txn t) table.unresolved }

-- the other transactions are as before
abbrev pub OthersStay : Transactions → Transactions → TxnId → Type 0
OthersStay old new t = (u : TxnId) → u ≢ t → txn_at new u ≡ txn_at old u

-- the same transactions in the same order, and the same counts of begins
pub record SameOrder (old new : Transactions) : Type 0 where
  pub same_ids : ids new ≡ ids old
  pub same_inst : new.inst ≡ old.inst
  pub same_epoch : new.epoch ≡ old.epoch
  pub same_begins : new.begins ≡ old.begins

-- what is known of t was x and is y; nothing else changes
pub record Replaces (old new : Transactions) (t : TxnId) (x y : Transaction) : Type 0 where
  pub was : txn_at old t ≡ Some x
  pub now : txn_at new t ≡ Some y
  pub others : OthersStay old new t
  pub order : SameOrder old new

-- the number of begins in an epoch: a new epoch begins at 0
abbrev pub begins_in : Transactions → ℕ → ℕ
begins_in table epoch = if table.epoch == epoch then table.begins else 0

-- the transaction that begins next in an epoch
abbrev pub next_txn : Transactions → ℕ → TxnId
next_txn table epoch = record { inst = table.inst; epoch = epoch; seq = begins_in table epoch + 1 }
