-- An entry in few bytes, and how it reads.
use Rattle.std.specs.Prelude.{ℕ, Option, Some, None, take}
use Rattle.sd_base.specs.declared.place.Mode.TheVariants as mode
use Rattle.sd_base.specs.declared.refusal.Refusal.TheVariants as refusal
use Rattle.sd_model.specs.declared.event.Event.{Event}
use Rattle.sd_model.specs.declared.event.Event.TheVariants as event
use Rattle.sd_model.specs.declared.event.Reply.{Reply}
use Rattle.sd_model.specs.declared.event.Reply.TheVariants as reply
use Rattle.sd_model.specs.declared.event.Entry.{Entry}
use Rattle.sd_model.specs.declared.packed.Deed.{Deed}
use Rattle.sd_model.specs.declared.packed.Deed.TheVariants as deed
use Rattle.sd_model.specs.declared.packed.Answer.{Answer}
use Rattle.sd_model.specs.declared.packed.Answer.TheVariants as answer
use Rattle.sd_model.specs.declared.packed.Noted.{Noted}
use Rattle.sd_model.specs.declared.packed.Noted.TheVariants as noted
use Rattle.sd_model.specs.declared.line.LineEntry.{LineEntry}
use Rattle.sd_model.specs.declared.line.LineEntry.TheVariants as line

-- the event of an instance that does this with a page
abbrev pub event_of : Deed → ℕ → ℕ → Event
event_of deed.AskShared inst page = event.Ask inst page mode.Shared
event_of deed.AskExcl inst page = event.Ask inst page mode.Excl
event_of deed.Give inst page = event.Give inst page
event_of deed.Take inst page = event.Take inst page
event_of deed.Evict inst page = event.Evict inst page
event_of deed.Flush inst page = event.Flush inst page

-- the reply, and the instance that it names, where it names one
abbrev pub reply_of : Answer → ℕ → Reply
reply_of answer.Did named = reply.Did
reply_of answer.Have named = reply.Have
reply_of answer.Asked named = reply.Asked named
reply_of answer.Gave named = reply.Gave named
reply_of answer.MovingTo named = reply.Refused (refusal.MovingTo named)
reply_of answer.PoolFull named = reply.Refused refusal.PoolFull

-- the entry that is kept in few bytes: session, page, instance, what it did, how that was answered, and the instance that is named
abbrev pub entry_of : ℕ → ℕ → ℕ → Deed → Answer → ℕ → Entry
entry_of session page inst deed answer named = record {
  session = session;
  line = 0;
  event = event_of deed inst page;
  reply = reply_of answer named;
}

abbrev pub made : ℕ → ℕ → Event → Reply → Entry
made session line e r = record { session = session; line = line; event = e; reply = r }

-- the entry of a help; made up for what is kept elsewhere: that case doesn't come, since a book shows only helps so
abbrev pub help_entry : Noted → Entry
help_entry noted.Whole = made 0 0 event.Reopen reply.Did
help_entry noted.Line = made 0 0 event.Reopen reply.Did
help_entry (noted.Help session page inst deed answer named) = entry_of session page inst deed answer named

-- the same; none where it is kept elsewhere
abbrev pub noted_entry : Noted → Option Entry
noted_entry noted.Whole = None
noted_entry noted.Line = None
noted_entry (noted.Help session page inst deed answer named) = Some (entry_of session page inst deed answer named)

-- the entry of a transaction
abbrev pub line_entry : LineEntry → Entry
line_entry (line.Begin session at l txn) = made session l (event.Begin at) (reply.Began txn)
line_entry (line.Read session l txn rid count value) = made session l (event.Read txn rid) (reply.Value (Some (take count value)))
line_entry (line.Miss session l txn rid) = made session l (event.Read txn rid) (reply.Value None)
line_entry (line.Write session l txn rid count value) = made session l (event.Write txn rid (take count value)) reply.Did
line_entry (line.Add session l txn rid by) = made session l (event.Add txn rid by) reply.Did
line_entry (line.Insert session capacity l txn rid count value) =
    made session l (event.Insert txn rid.page (take count value) capacity) (reply.At rid)
line_entry (line.Delete session l txn rid) = made session l (event.Delete txn rid) reply.Did
line_entry (line.Commit session l txn) = made session l (event.Commit txn) reply.Did
