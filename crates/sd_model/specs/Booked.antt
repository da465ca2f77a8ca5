-- How a book keeps its entries: a help in 8 bytes, a short entry of a transaction in 40 more, each other whole.
use Rattle.std.specs.Prelude.{◌≡◌, ◌-◌, ◌+◌, ◌≤◌, ◌++◌, Bool, true, false, List, [], ◌∷◌, Option, Some, None, length, option_map, slice_get}
use Rattle.sd_base.specs.declared.refusal.Refusal.TheVariants as refusal
use Rattle.sd_model.specs.declared.event.Entry.{Entry}
use Rattle.sd_model.specs.declared.event.Reply.{Reply}
use Rattle.sd_model.specs.declared.event.Reply.TheVariants as reply
use Rattle.sd_model.specs.History.{History}
use Rattle.sd_model.specs.declared.packed.Noted.{Noted}
use Rattle.sd_model.specs.declared.packed.Noted.TheVariants.{Help, Line, Whole}
use Rattle.sd_model.specs.declared.line.LineEntry.{LineEntry}
use Rattle.sd_model.specs.Shorts.{entry_of, help_entry, line_entry}
use Rattle.sd_model.specs.declared.book.Newest.{Newest}
use Rattle.sd_model.specs.declared.book.Newest.TheVariants as newest
use Rattle.sd_model.specs.declared.told.Told.{Told}
use Rattle.sd_model.specs.declared.told.Seen.{Seen}
use Rattle.sd_model.specs.declared.told.Seen.TheVariants as seen
use Rattle.sd_model.specs.Replies.{wants_page}

-- all entries, the oldest first: each by how it is noted, and behind them those that still stand whole
abbrev pub unpacked : List Noted → List LineEntry → List Entry → List Entry
unpacked [] lines whole = whole
unpacked (Help session page inst deed answer named ∷ noted) lines whole =
    entry_of session page inst deed answer named ∷ unpacked noted lines whole
unpacked (Line ∷ noted) [] whole = []
unpacked (Line ∷ noted) (l ∷ lines) whole = line_entry l ∷ unpacked noted lines whole
unpacked (Whole ∷ noted) lines [] = []
unpacked (Whole ∷ noted) lines (e ∷ whole) = e ∷ unpacked noted lines whole

-- each entry is noted, and those that stand elsewhere are all that are noted so
abbrev pub NotesAll : List Noted → List LineEntry → List Entry → Type 0
NotesAll [] lines whole = (lines ≡ []) × (whole ≡ [])
NotesAll (Help session page inst deed answer named ∷ noted) lines whole = NotesAll noted lines whole
NotesAll (Line ∷ noted) [] whole = ⊥
NotesAll (Line ∷ noted) (l ∷ lines) whole = NotesAll noted lines whole
NotesAll (Whole ∷ noted) lines [] = ⊥
NotesAll (Whole ∷ noted) lines (e ∷ whole) = NotesAll noted lines whole

-- the last of a list of entries
abbrev pub last_of : List Entry → Option Entry
last_of entries = slice_get entries (length entries - 1)

-- the reply of the last of a list of entries
abbrev pub reply_of_last : List Entry → Option Reply
reply_of_last entries = option_map (λ (e : Entry). e.reply) (last_of entries)

-- The newest entry, by where its reply stands: it is the last that stands whole, or its reply stands apart, and wants no page.
abbrev pub IsNewest : Newest → Option Entry → List Entry → Reply → Type 0
IsNewest newest.None last whole apart = last ≡ None
IsNewest newest.Behind last whole apart = last ≡ last_of whole
IsNewest newest.Apart last whole apart = (e : Entry) × (last ≡ Some e) × (e.reply ≡ apart) × (wants_page e.reply ≡ false)

-- a book notes all its entries, and has the newest reply whole
abbrev pub IsBook : List Noted → List LineEntry → List Entry → Newest → Reply → Type 0
IsBook noted lines whole at apart =
    NotesAll noted lines whole × IsNewest at (last_of (unpacked noted lines whole)) whole apart

-- this entry more, and nothing else
abbrev pub IsNoted : History → History → Entry → Type 0
IsNoted before after e =
    (after.entries ≡ before.entries ++ e ∷ []) × (after.opening ≡ before.opening) × (before.spare ≤ after.spare + 1)

-- the entries that are left to read
abbrev pub entries_in : Told → List Entry
entries_in told = unpacked told.noted.now told.lines.now told.whole.now

-- an entry as it is kept
abbrev pub seen_entry : Seen → Entry
seen_entry (seen.Help h) = help_entry h.now
seen_entry (seen.Short l) = line_entry l.now
seen_entry (seen.Whole e) = e.now

-- the first of these entries is this one, and those behind it are these; or there is none
abbrev pub IsParted : List Entry → Option (Seen × Told) → Type 0
IsParted entries None = entries ≡ []
IsParted entries (Some found) = entries ≡ seen_entry found.0 ∷ entries_in found.1
