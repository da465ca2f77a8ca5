-- A log record with the same fields whatever its kind, for the laws on chains of records.
use Rattle.std.specs.Prelude.{ℕ, Bool, true, false, List, Option, None, Some}
use Rattle.sd_base.specs.Ids.{same_txn}
use Rattle.sd_base.specs.declared.ids.TxnId.{TxnId}
use Rattle.sd_logrec.specs.declared.record.Record.{Record}
use Rattle.sd_logrec.specs.declared.record.Record.TheVariants as records

-- what a record says of its transaction; a plain one says nothing
pub data Kind : Type 0 where
  Update : Kind
  Clr : Kind
  Commit : Kind
  End : Kind
  Plain : Kind

-- a field that a kind doesn't have is 0, or has no value
pub record Rec : Type 0 where
  pub kind : Kind
  pub lsn : ℕ
  pub txn : TxnId
  pub prev : ℕ
  pub next : ℕ
  pub page : ℕ
  pub slot : ℕ
  pub cap : ℕ
  pub before : Option (List ℕ)
  pub after : Option (List ℕ)

-- the transaction of a record that speaks of none
abbrev pub no_txn : TxnId
no_txn = record { inst = 0; epoch = 0; seq = 0 }

-- a record that says nothing of a transaction
abbrev pub plain : ℕ → Rec
plain lsn = record { kind = Plain; lsn = lsn; txn = no_txn; prev = 0; next = 0; page = 0; slot = 0; cap = 0; before = None; after = None }

-- a record that ends its transaction
abbrev pub ending : Kind → ℕ → TxnId → ℕ → Rec
ending kind lsn txn prev = record { kind = kind; lsn = lsn; txn = txn; prev = prev; next = 0; page = 0; slot = 0; cap = 0; before = None; after = None }

-- the flat view of a record
abbrev pub flat : Record → Rec
flat (records.Start lsn epoch) = plain lsn
flat (records.Update lsn txn prev page slot capacity before after) = record { kind = Update; lsn = lsn; txn = txn; prev = prev; next = 0; page = page; slot = slot; cap = capacity; before = before; after = after }
flat (records.Clr lsn txn prev undo_next page slot after) = record { kind = Clr; lsn = lsn; txn = txn; prev = prev; next = undo_next; page = page; slot = slot; cap = 0; before = None; after = after }
flat (records.Commit lsn txn prev) = ending Commit lsn txn prev
flat (records.End lsn txn prev) = ending End lsn txn prev
flat (records.BeginCheck lsn) = plain lsn
flat (records.EndCheck lsn begin spans recs) = plain lsn

-- the record is a Commit of t
abbrev pub is_commit_of : TxnId → Record → Bool
is_commit_of t (records.Start lsn epoch) = false
is_commit_of t (records.Update lsn txn prev page slot capacity before after) = false
is_commit_of t (records.Clr lsn txn prev undo_next page slot after) = false
is_commit_of t (records.Commit lsn txn prev) = same_txn txn t
is_commit_of t (records.End lsn txn prev) = false
is_commit_of t (records.BeginCheck lsn) = false
is_commit_of t (records.EndCheck lsn begin spans recs) = false

-- the number of the page that the record changes, where it changes one
abbrev pub page_of : Record → Option ℕ
page_of (records.Start lsn epoch) = None
page_of (records.Update lsn txn prev page slot capacity before after) = Some page
page_of (records.Clr lsn txn prev undo_next page slot after) = Some page
page_of (records.Commit lsn txn prev) = None
page_of (records.End lsn txn prev) = None
page_of (records.BeginCheck lsn) = None
page_of (records.EndCheck lsn begin spans recs) = None

-- the record ends what an earlier one of its transaction began: a CLR, a Commit or an End
abbrev pub is_closing : Record → Bool
is_closing (records.Start lsn epoch) = false
is_closing (records.Update lsn txn prev page slot capacity before after) = false
is_closing (records.Clr lsn txn prev undo_next page slot after) = true
is_closing (records.Commit lsn txn prev) = true
is_closing (records.End lsn txn prev) = true
is_closing (records.BeginCheck lsn) = false
is_closing (records.EndCheck lsn begin spans recs) = false
