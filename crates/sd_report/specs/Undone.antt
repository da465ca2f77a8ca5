-- The changes of a transaction that aren't undone, by the entries of the book, and the page of the newest one.
use Rattle.std.specs.Prelude.{ℕ, ◌-◌, List, [], ◌∷◌, ◌++◌, Option, None, Some, length, take, slice_get, if◌then◌else◌}
use Rattle.sd_base.specs.Ids.{same_txn}
use Rattle.sd_base.specs.declared.ids.TxnId.{TxnId}
use Rattle.sd_model.specs.declared.event.Event.{Event}
use Rattle.sd_model.specs.declared.event.Event.TheVariants as event
use Rattle.sd_model.specs.declared.event.Reply.{Reply}
use Rattle.sd_model.specs.declared.event.Reply.TheVariants as reply
use Rattle.sd_model.specs.declared.event.Entry.{Entry}

-- the change that was done: of which transaction, and on which page
abbrev pub put_by : Event → Reply → Option (TxnId × ℕ)
put_by (event.Write txn rid value) reply.Did = Some (txn, rid.page)
put_by (event.Add txn rid by) reply.Did = Some (txn, rid.page)
put_by (event.Delete txn rid) reply.Did = Some (txn, rid.page)
put_by (event.Insert txn page value capacity) (reply.At rid) = Some (txn, rid.page)
put_by e r = None

-- the transaction of which a change was undone
abbrev pub undone_by : Event → Reply → Option TxnId
undone_by (event.Undo txn) reply.Step = Some txn
undone_by e r = None

-- the pages of the changes of t that aren't undone, the newest last: with a change more, or less the newest
abbrev pub with_put : TxnId → Option (TxnId × ℕ) → List ℕ → List ℕ
with_put t None pages = pages
with_put t (Some put) pages = if same_txn t put.0 then pages ++ put.1 ∷ [] else pages

abbrev pub less_undone : TxnId → Option TxnId → List ℕ → List ℕ
less_undone t None pages = pages
less_undone t (Some txn) pages = if same_txn t txn then take (length pages - 1) pages else pages

abbrev pub behind_entry : TxnId → Event → Reply → List ℕ → List ℕ
behind_entry t e r pages = less_undone t (undone_by e r) (with_put t (put_by e r) pages)

-- those behind these entries
abbrev pub open_pages : TxnId → List ℕ → List Entry → List ℕ
open_pages t pages [] = pages
open_pages t pages (entry ∷ entries) = open_pages t (behind_entry t entry.event entry.reply pages) entries

-- the last of pages, where there is one
abbrev pub newest : List ℕ → Option ℕ
newest pages = slice_get pages (length pages - 1)

-- the page of the newest change of t that isn't undone behind these entries
abbrev pub last_page : TxnId → List Entry → Option ℕ
last_page t entries = newest (open_pages t [] entries)
