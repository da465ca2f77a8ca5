-- What stands behind the name, the instance or the page of a line: the words of its reply.
use Rattle.std.specs.Prelude.{ℕ, List, [], ◌∷◌, ◌++◌, Option, None, Some, codes}
use Rattle.std.specs.Fmt.{decimal}
use Rattle.sd_base.specs.declared.ids.Rid.{Rid}
use Rattle.sd_base.specs.declared.refusal.Refusal.{Refusal}
use Rattle.sd_base.specs.declared.refusal.Refusal.TheVariants as refusal
use Rattle.sd_model.specs.declared.event.Event.{Event}
use Rattle.sd_model.specs.declared.event.Reply.{Reply}
use Rattle.sd_model.specs.declared.event.Reply.TheVariants as reply
use Rattle.sd_model.specs.declared.event.Entry.{Entry}
use Rattle.sd_script.specs.declared.line.Form.{Form}
use Rattle.sd_script.specs.declared.line.Form.TheVariants as form
use Rattle.sd_script.specs.Forms.{rid_word}
use Rattle.sd_report.specs.Words.{txn_text, NamesOf}
use Rattle.sd_report.specs.Places.{place_text}
use Rattle.sd_report.specs.Refusals.{refusal_text}

-- of a reply that the line's event never has
abbrev pub no_reply : List ℕ
no_reply = codes "no reply"

-- a begin tells the transaction that began
abbrev pub began : Reply → List ℕ
began (reply.Began txn) = codes "begin " ++ txn_text txn
began r = no_reply

-- a read tells the record's value, or that it is absent
abbrev pub value_text : Option (List ℕ) → List ℕ
value_text None = codes " absent"
value_text (Some value) = codes " = " ++ value

abbrev pub found : Rid → Reply → List ℕ
found rid (reply.Value value) = codes "read " ++ rid_word rid ++ value_text value
found rid r = no_reply

-- an insert tells where the new record is
abbrev pub placed : Reply → List ℕ
placed (reply.At rid) = codes "insert " ++ rid_word rid
placed r = no_reply

-- what was done on a record, on a page, on a mark, or on none of these
abbrev pub done : List ℕ → Reply → List ℕ
done words reply.Did = words
done words r = no_reply

-- what was rolled back, once nothing is left to undo
abbrev pub rolled_back : List ℕ → Reply → List ℕ
rolled_back words reply.Finished = words
rolled_back words r = no_reply

-- an ask tells that the instance has the page, or who was asked for it
abbrev pub asked : ℕ → Reply → List ℕ
asked page reply.Have = codes "have " ++ decimal page
asked page (reply.Asked of) = codes "asked " ++ decimal page ++ codes " of " ++ decimal of
asked page r = no_reply

-- a give tells to whom the page moves
abbrev pub gave : ℕ → Reply → List ℕ
gave page (reply.Gave to) = codes "gave " ++ decimal page ++ codes " to " ++ decimal to
gave page r = no_reply

-- where a page is
abbrev pub shown : Reply → List ℕ
shown (reply.Shown place lsn) = place_text place lsn
shown r = no_reply

-- a line by which one instance recovers another tells by which, and whether its steps were done before the recovery was
abbrev pub recovered : ℕ → Reply → List ℕ
recovered by reply.Finished = codes "by " ++ decimal by
recovered by reply.Step = codes "by " ++ decimal by ++ codes " part"
recovered by r = no_reply

-- an instance that joins tells its epoch
abbrev pub joined : Reply → List ℕ
joined (reply.Joined epoch) = codes "epoch " ++ decimal epoch
joined r = no_reply

-- the words of a reply that is no refusal, form by form; the first line, one that is echoed and a table have no such words
abbrev pub words_of : Form → Reply → List ℕ
words_of (form.Complex insts pages frames) r = no_reply
words_of (form.Begin inst name) r = began r
words_of (form.Read name ordinal rid) r = found rid r
words_of (form.Write name ordinal rid value) r = done (codes "write " ++ rid_word rid) r
words_of (form.Add name ordinal rid by) r = done (codes "add " ++ rid_word rid) r
words_of (form.Insert name ordinal page value capacity) r = placed r
words_of (form.Delete name ordinal rid) r = done (codes "delete " ++ rid_word rid) r
words_of (form.Save name ordinal mark) r = done (codes "save " ++ mark) r
words_of (form.Back name ordinal mark) r = rolled_back (codes "back " ++ mark) r
words_of (form.Rollback name ordinal) r = rolled_back (codes "rollback") r
words_of (form.Commit name ordinal) r = done (codes "commit") r
words_of (form.Ask inst page mode) r = asked page r
words_of (form.Give inst page) r = gave page r
words_of (form.Take inst page) r = done (codes "took " ++ decimal page) r
words_of (form.Evict inst page) r = done (codes "evicted " ++ decimal page) r
words_of (form.Flush inst page) r = done (codes "flushed " ++ decimal page) r
words_of (form.Force inst) r = done (codes "forced") r
words_of (form.CheckBegin inst) r = done (codes "check begin") r
words_of (form.CheckEnd inst) r = done (codes "check end") r
words_of (form.Fail inst) r = no_reply
words_of (form.Fuse calls) r = no_reply
words_of (form.Fault call) r = no_reply
words_of (form.FailAll pick) r = no_reply
words_of (form.Recover inst by most) r = recovered by r
words_of (form.Join inst) r = joined r
words_of form.Reopen r = no_reply
words_of form.RecoverAll r = no_reply
words_of form.JoinAll r = no_reply
words_of (form.Where page) r = shown r
words_of form.Table r = no_reply

-- A page that a line of a transaction, a recovery or a table needs is pulled. Where the line needs it still behind the
-- pull, that is told as a fault.
abbrev pub pulled_text : NamesOf → Event → Refusal → List ℕ
pulled_text names e (refusal.NeedPage place) = codes "fault"
pulled_text names e n = refusal_text names e n

-- the words of a reply, by those of a refusal and those of another
abbrev pub reply_text : (Event → Refusal → List ℕ) → (Reply → List ℕ) → Event → Reply → List ℕ
reply_text refused words e (reply.Refused n) = refused e n
reply_text refused words e r = words r

-- the same of the last reply to a line, where it has one
abbrev pub last_text : (Event → Refusal → List ℕ) → (Reply → List ℕ) → List ℕ → Option Entry → List ℕ
last_text refused words none None = none
last_text refused words none (Some entry) = reply_text refused words entry.event entry.reply

-- what stands behind the own words of a line, by its last reply: nothing where it is done
abbrev pub behind_words : NamesOf → Event → Reply → List ℕ
behind_words names e reply.Did = []
behind_words names e (reply.Refused n) = 32 ∷ refusal_text names e n
behind_words names e r = 32 ∷ no_reply

abbrev pub last_behind_words : NamesOf → Option Entry → List ℕ
last_behind_words names None = 32 ∷ no_reply
last_behind_words names (Some entry) = behind_words names entry.event entry.reply

-- What stands behind the own words of a line of all instances, by its last reply: nothing where the last of them has
-- recovered or joined.
abbrev pub behind_all : NamesOf → Event → Reply → List ℕ
behind_all names e reply.Finished = []
behind_all names e (reply.Joined epoch) = []
behind_all names e (reply.Refused n) = 32 ∷ pulled_text names e n
behind_all names e r = 32 ∷ no_reply

-- where no instance was to recover or to join, the line had no event
abbrev pub last_behind_all : NamesOf → Option Entry → List ℕ
last_behind_all names None = []
last_behind_all names (Some entry) = behind_all names entry.event entry.reply
