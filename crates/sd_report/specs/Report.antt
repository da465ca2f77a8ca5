-- The text of the report: line after line of the script, what was replied to it.
use Rattle.std.specs.Prelude.{◌≡◌, ℕ, ◌-◌, ◌<◌, ◌≤◌, ◌⊎◌, Bool, false, max, List, [], ◌∷◌, ◌++◌, Option, None, Some, length, codes, filter, eqb, ltb, cond, slice_get}
use Rattle.std.specs.List.{flat_map, list_any}
use Rattle.std.specs.Fmt.{decimal}
use Rattle.std.specs.Map.{update_all}
use Rattle.sd_base.specs.Ids.{same_txn}
use Rattle.sd_base.specs.declared.ids.TxnId.{TxnId}
use Rattle.sd_base.specs.declared.ids.Rid.{Rid}
use Rattle.sd_base.specs.declared.refusal.LineError.{LineError}
use Rattle.sd_base.specs.declared.refusal.Refusal.TheVariants as refusal
use Rattle.sd_model.specs.declared.event.Event.{Event}
use Rattle.sd_model.specs.declared.event.Event.TheVariants as event
use Rattle.sd_model.specs.declared.event.Reply.{Reply}
use Rattle.sd_model.specs.declared.event.Reply.TheVariants as reply
use Rattle.sd_model.specs.declared.event.Entry.{Entry}
use Rattle.sd_script.specs.declared.line.Form.{Form}
use Rattle.sd_script.specs.declared.line.Form.TheVariants as form
use Rattle.sd_script.specs.declared.line.Line.{Line}
use Rattle.sd_script.specs.Forms.{form_words, pick_word, rid_word}
use Rattle.sd_report.specs.Words.{line_of, NamesOf, no_names}
use Rattle.sd_report.specs.Refusals.{refusal_text, cause_word, page_text, tells_txn}
use Rattle.sd_report.specs.Undone.{last_page}
use Rattle.sd_report.specs.Replies.{no_reply, pulled_text, last_text, words_of, last_behind_words, last_behind_all}

-- the entries of a line are those that carry its number; those of line 0 are of no line
abbrev pub entries_of : ℕ → List Entry → List Entry
entries_of number entries = filter (λ entry. eqb entry.line number) entries

-- the last of these entries
abbrev pub last_entry : List Entry → Option Entry
last_entry entries = slice_get entries (length entries - 1)

-- A line of a transaction: its name, and the last of its replies. Where it has none, its transaction has ended.
abbrev pub txn_line : NamesOf → List ℕ → Form → List Entry → List ℕ
txn_line names name of entries =
    line_of (name ∷ last_text (pulled_text names) (words_of of) (codes "ended") (last_entry entries) ∷ [])

-- a line of an instance or a page: its number, and the last of its replies
abbrev pub page_line : NamesOf → ℕ → Form → List Entry → List ℕ
page_line names number of entries =
    line_of (decimal number ∷ last_text (refusal_text names) (words_of of) no_reply (last_entry entries) ∷ [])

-- a line that is echoed: its own words, and behind them why it wasn't done
abbrev pub echo_line : NamesOf → List ℕ → List Entry → List ℕ
echo_line names words entries = line_of ((words ++ last_behind_words names (last_entry entries)) ∷ [])

-- a line by which an instance is recovered, for which pages are pulled: its first two words, and the last of its replies
abbrev pub recover_line : NamesOf → ℕ → Form → List Entry → List ℕ
recover_line names inst of entries =
    line_of ((codes "recover " ++ decimal inst) ∷ last_text (pulled_text names) (words_of of) no_reply (last_entry entries) ∷ [])

-- a line by which an instance joins: its words, and the last of its replies
abbrev pub join_line : NamesOf → ℕ → Form → List Entry → List ℕ
join_line names inst of entries =
    line_of ((codes "join " ++ decimal inst) ∷ last_text (refusal_text names) (words_of of) no_reply (last_entry entries) ∷ [])

-- the rows of a reply to a list
abbrev pub rows_in : Reply → List (Rid × List ℕ)
rows_in (reply.Rows rows) = rows
rows_in r = []

-- the rows of a table line, one page after another
abbrev pub table_rows : List Entry → List (Rid × List ℕ)
table_rows entries = flat_map (λ entry. rows_in entry.reply) entries

abbrev pub row_line : Rid × List ℕ → List ℕ
row_line row = line_of (rid_word row.0 ∷ row.1 ∷ [])

-- each row, and their number
abbrev pub table_text : List (Rid × List ℕ) → List ℕ
table_text rows = flat_map row_line rows ++ line_of (codes "table" ∷ decimal (length rows) ∷ [])

-- a table line tells the refusal alone, where its last list is refused, else the rows of all its pages
abbrev pub listed : NamesOf → List Entry → Event → Reply → List ℕ
listed names entries e (reply.Refused n) = line_of (pulled_text names e n ∷ [])
listed names entries e r = table_text (table_rows entries)

abbrev pub table_lines : NamesOf → List Entry → Option Entry → List ℕ
table_lines names entries None = line_of (no_reply ∷ [])
table_lines names entries (Some entry) = listed names entries entry.event entry.reply

-- a line of all instances: its own words, and behind them why one of them didn't recover or join
abbrev pub all_line : NamesOf → List ℕ → List Entry → List ℕ
all_line names words entries = line_of ((words ++ last_behind_all names (last_entry entries)) ∷ [])

-- what is reported of a line with these entries
abbrev pub reported : NamesOf → Form → List Entry → List ℕ
reported names (form.Complex insts pages frames) entries = line_of (form_words (form.Complex insts pages frames))
reported names (form.Begin inst name) entries = txn_line names name (form.Begin inst name) entries
reported names (form.Read name ordinal rid) entries = txn_line names name (form.Read name ordinal rid) entries
reported names (form.Write name ordinal rid value) entries = txn_line names name (form.Write name ordinal rid value) entries
reported names (form.Add name ordinal rid by) entries = txn_line names name (form.Add name ordinal rid by) entries
reported names (form.Insert name ordinal page value capacity) entries =
    txn_line names name (form.Insert name ordinal page value capacity) entries
reported names (form.Delete name ordinal rid) entries = txn_line names name (form.Delete name ordinal rid) entries
reported names (form.Save name ordinal mark) entries = txn_line names name (form.Save name ordinal mark) entries
reported names (form.Back name ordinal mark) entries = txn_line names name (form.Back name ordinal mark) entries
reported names (form.Rollback name ordinal) entries = txn_line names name (form.Rollback name ordinal) entries
reported names (form.Commit name ordinal) entries = txn_line names name (form.Commit name ordinal) entries
reported names (form.Ask inst page mode) entries = page_line names inst (form.Ask inst page mode) entries
reported names (form.Give inst page) entries = page_line names inst (form.Give inst page) entries
reported names (form.Take inst page) entries = page_line names inst (form.Take inst page) entries
reported names (form.Evict inst page) entries = page_line names inst (form.Evict inst page) entries
reported names (form.Flush inst page) entries = page_line names inst (form.Flush inst page) entries
reported names (form.Force inst) entries = page_line names inst (form.Force inst) entries
reported names (form.CheckBegin inst) entries = page_line names inst (form.CheckBegin inst) entries
reported names (form.CheckEnd inst) entries = page_line names inst (form.CheckEnd inst) entries
reported names (form.Fail inst) entries = echo_line names (codes "fail " ++ decimal inst) entries
reported names (form.Fuse calls) entries = echo_line names (codes "fuse " ++ decimal calls) entries
reported names (form.Fault call) entries = echo_line names (codes "fault " ++ decimal call) entries
reported names (form.FailAll pick) entries = echo_line names (codes "fail all " ++ pick_word pick) entries
reported names (form.Recover inst by most) entries = recover_line names inst (form.Recover inst by most) entries
reported names (form.Join inst) entries = join_line names inst (form.Join inst) entries
reported names form.Reopen entries = echo_line names (codes "reopen") entries
reported names form.RecoverAll entries = all_line names (codes "recover all") entries
reported names form.JoinAll entries = all_line names (codes "join all") entries
reported names (form.Where page) entries = page_line names page (form.Where page) entries
reported names form.Table entries = table_lines names entries (last_entry entries)

-- what the lines give one after another, each by its own entries
abbrev pub gathered : {X : Type 0} → (Form → List Entry → List X) → List Line → List Entry → List X
gathered f lines entries = flat_map (λ line. f line.form (entries_of line.number entries)) lines

-- the name that a begin line gives the transaction that began
abbrev pub given_by : List ℕ → Reply → List (TxnId × List ℕ)
given_by name (reply.Began txn) = (txn, name) ∷ []
given_by name r = []

abbrev pub given_at : List ℕ → Option Entry → List (TxnId × List ℕ)
given_at name None = []
given_at name (Some entry) = given_by name entry.reply

-- the same by the last entry of a line, and by all of them
abbrev pub given_last : Form → Option Entry → List (TxnId × List ℕ)
given_last (form.Begin inst name) last = given_at name last
given_last f last = []

abbrev pub given : Form → List Entry → List (TxnId × List ℕ)
given f entries = given_last f (last_entry entries)

-- the names that the begin lines of a script gave their transactions
abbrev pub names_of : List Line → List Entry → NamesOf
names_of lines entries = update_all same_txn no_names (gathered given lines entries)

-- the entries up to those of this line
abbrev pub upto : ℕ → List Entry → List Entry
upto number [] = []
upto number (entry ∷ entries) = cond {A = List Entry} (ltb number entry.line) [] (entry ∷ upto number entries)

-- the name in a line that rolls a transaction back, to a mark or wholly
abbrev pub rolled_name : Form → Option (List ℕ)
rolled_name (form.Back name ordinal mark) = Some name
rolled_name (form.Rollback name ordinal) = Some name
rolled_name f = None

-- the transaction of an undo that was refused, since its page is lost, and the line of the entry
abbrev pub lost_at : ℕ → Event → Reply → Option (TxnId × ℕ)
lost_at line (event.Undo txn) (reply.Refused refusal.Lost) = Some (txn, line)
lost_at line e r = None

abbrev pub lost_undo : Option Entry → Option (TxnId × ℕ)
lost_undo None = None
lost_undo (Some entry) = lost_at entry.line entry.event entry.reply

-- A rollback whose next undo needs a page that is lost tells which page, that of the newest change of its transaction that isn't undone;
-- of all else what is reported is told by the line's own entries. all: the entries of the book
abbrev pub reported_by : NamesOf → List Entry → Form → List Entry → Option (List ℕ) → Option (TxnId × ℕ) → List ℕ
reported_by names all f entries (Some name) (Some lost) =
    line_of (name ∷ (codes "lost" ++ page_text (last_page lost.0 (upto lost.1 all))) ∷ [])
reported_by names all f entries name lost = reported names f entries

abbrev pub reported_in : NamesOf → List Entry → Form → List Entry → List ℕ
reported_in names all f entries = reported_by names all f entries (rolled_name f) (lost_undo (last_entry entries))

-- the report of a script by the entries of its book
abbrev pub report : List Line → List Entry → List ℕ
report lines entries = gathered (reported_in (names_of lines entries) entries) lines entries

-- what is reported of a text that is no script: its first bad line, and what is wrong with it
abbrev pub bad_text : ℕ → LineError → List ℕ
bad_text line cause = line_of (codes "bad line" ∷ decimal line ∷ cause_word cause ∷ [])

-- what is reported of devices that aren't sound: where they fail first
abbrev pub damaged_text : ℕ → ℕ → List ℕ
damaged_text dev at = line_of (codes "damaged" ∷ decimal dev ∷ decimal at ∷ [])

-- whether a reply is a refusal that tells a transaction
abbrev pub reply_tells_txn : Reply → Bool
reply_tells_txn (reply.Refused n) = tells_txn n
reply_tells_txn r = false

-- whether an entry's reply is
abbrev pub tell_txns : List Entry → Bool
tell_txns entries = list_any (λ entry. reply_tells_txn entry.reply) entries

-- The lines of the entries don't fall, and none is below this one. Entries of line 0 may stand between them.
abbrev pub AreFrom : ℕ → List Entry → Type 0
AreFrom low [] = Unit {0}
AreFrom low (entry ∷ entries) = ((entry.line ≡ 0) ⊎ (low ≤ entry.line)) × AreFrom (max low entry.line) entries

-- the numbers of the lines rise, each above this one
abbrev pub AreAbove : ℕ → List Line → Type 0
AreAbove low [] = Unit {0}
AreAbove low (line ∷ lines) = (low < line.number) × AreAbove line.number lines

-- the entries behind those of this line, from the first of a later line on
abbrev pub behind : ℕ → List Entry → List Entry
behind number [] = []
behind number (entry ∷ entries) = cond {A = List Entry} (ltb number entry.line) (entry ∷ entries) (behind number entries)
