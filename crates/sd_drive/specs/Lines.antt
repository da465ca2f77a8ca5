-- What a line of a script asks of the hall.
use Rattle.std.specs.Prelude.{ℕ, Bool, true, false, List, Option, None, Some, length, option_map, unwrap_or}
use Rattle.std.specs.Map.{update}
use Rattle.std.specs.Str.{bytes_eq}
use Rattle.sd_base.specs.declared.ids.TxnId.{TxnId}
use Rattle.sd_base.specs.declared.trouble.Trouble.{Trouble}
use Rattle.sd_model.specs.declared.event.Event.{Event}
use Rattle.sd_model.specs.declared.event.Event.TheVariants as event
use Rattle.sd_model.specs.declared.event.Reply.{Reply}
use Rattle.sd_model.specs.declared.event.Reply.TheVariants.{Began}
use Rattle.sd_script.specs.declared.line.Form.{Form}
use Rattle.sd_script.specs.declared.line.Form.TheVariants as form

-- the transaction of each name that was begun
abbrev pub Names : Type 0
Names = List ℕ → Option TxnId

-- the capacity of an insert: where none is told, the value's length
abbrev pub capacity_of : List ℕ → Option ℕ → ℕ
capacity_of value capacity = unwrap_or capacity (length value)

-- The event of a line that has one, or the first of one that rolls back; a line of a name without a transaction has none.
abbrev pub event_of : Names → Form → Option Event
event_of names (form.Complex insts pages frames) = None
event_of names (form.Begin inst name) = Some (event.Begin inst)
event_of names (form.Read name ordinal rid) = option_map (λ t. event.Read t rid) (names name)
event_of names (form.Write name ordinal rid value) = option_map (λ t. event.Write t rid value) (names name)
event_of names (form.Add name ordinal rid by) = option_map (λ t. event.Add t rid by) (names name)
event_of names (form.Insert name ordinal page value capacity) =
    option_map (λ t. event.Insert t page value (capacity_of value capacity)) (names name)
event_of names (form.Delete name ordinal rid) = option_map (λ t. event.Delete t rid) (names name)
event_of names (form.Save name ordinal mark) = option_map (λ t. event.Save t mark) (names name)
event_of names (form.Back name ordinal mark) = option_map (λ t. event.Back t (Some mark)) (names name)
event_of names (form.Rollback name ordinal) = option_map (λ t. event.Back t None) (names name)
event_of names (form.Commit name ordinal) = option_map (λ t. event.Commit t) (names name)
event_of names (form.Ask inst page mode) = Some (event.Ask inst page mode)
event_of names (form.Give inst page) = Some (event.Give inst page)
event_of names (form.Take inst page) = Some (event.Take inst page)
event_of names (form.Evict inst page) = Some (event.Evict inst page)
event_of names (form.Flush inst page) = Some (event.Flush inst page)
event_of names (form.Force inst) = Some (event.Force inst)
event_of names (form.CheckBegin inst) = Some (event.CheckBegin inst)
event_of names (form.CheckEnd inst) = Some (event.CheckEnd inst)
event_of names (form.Fail inst) = Some (event.Fail inst)
event_of names (form.Fuse calls) = Some (event.Arm (Trouble.Fuse calls))
event_of names (form.Fault call) = Some (event.Arm (Trouble.Fault call))
event_of names (form.FailAll pick) = Some (event.FailAll pick)
event_of names form.Reopen = Some event.Reopen
event_of names (form.Recover inst by most) = None
event_of names (form.Join inst) = Some (event.Join inst)
event_of names form.RecoverAll = None
event_of names form.JoinAll = None
event_of names (form.Where page) = Some (event.Show page)
event_of names form.Table = None

-- the undo by which a line that rolls back goes on
abbrev pub undo_of : Names → Form → Option Event
undo_of names (form.Back name ordinal mark) = option_map (λ t. event.Undo t) (names name)
undo_of names (form.Rollback name ordinal) = option_map (λ t. event.Undo t) (names name)
undo_of names line = None

-- the line rolls back, to a mark or wholly
abbrev pub rolls_back : Form → Bool
rolls_back (form.Back name ordinal mark) = true
rolls_back (form.Rollback name ordinal) = true
rolls_back line = false

-- how a line goes on: it has one event, or the undos of a rollback behind it; it lists all pages; it recovers the instances that are
-- down, each by itself; it recovers the first of these two by the second, in at most so many steps where it names a number; it joins
-- those that aren't up
pub data Way : Type 0 where
  Single : Way
  Listing : Way
  Recovering : Way
  One : ℕ → ℕ → Option ℕ → Way
  Joining : Way

abbrev pub way_of : Form → Way
way_of form.Table = Way.Listing
way_of form.RecoverAll = Way.Recovering
way_of (form.Recover inst by most) = Way.One inst by most
way_of form.JoinAll = Way.Joining
way_of line = Way.Single

-- the names after a line's reply
abbrev pub named_by : Form → Reply → Names → Names
named_by (form.Begin inst name) (Began t) names = update bytes_eq names name (Some t)
named_by line r names = names
