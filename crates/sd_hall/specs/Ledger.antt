-- What the hall owes: the entries for which no memory may be wanting, as the state of the serial table is.
use Rattle.std.specs.Prelude.{ℕ, ◌+◌, length}
use Rattle.std.specs.List.{sum_by}
use Rattle.sd_base.specs.declared.place.Status.{Status}
use Rattle.sd_base.specs.declared.place.Status.TheVariants as S
use Rattle.sd_model.specs.declared.act.Life.{Life}
use Rattle.sd_model.specs.declared.act.Life.TheVariants.{Gone, Running, Retained, Rolling, Doubt}
use Rattle.sd_model.specs.declared.event.Event.{Event}
use Rattle.sd_model.specs.declared.event.Event.TheVariants.{Add, Back, Begin, Delete, Insert, Join, Write}
use Rattle.sd_model.specs.declared.event.Reply.{Reply}
use Rattle.sd_model.specs.declared.event.Reply.TheVariants.{At, Began, Did, Joined}
use Rattle.sd_model.specs.Acts.{live}
use Rattle.sd_model.specs.State.{Part, State}
use Rattle.sd_state.specs.Sums.{sum_to}

-- of a transaction with so many live puts: an undo of each; where it runs, its commit; where it rolls back, the end of that, and
-- a commit behind it
abbrev pub entries_of : Life → ℕ → ℕ
entries_of Gone puts = 0
entries_of Running puts = puts + 1
entries_of Retained puts = 0
entries_of (Rolling to) puts = puts + 2
entries_of (Doubt cut) puts = 0

abbrev pub entries_of_part : Part → ℕ
entries_of_part p = entries_of p.life (length (live p.acts))

-- of an instance that is up: its failure
abbrev pub entries_of_inst : Status → ℕ
entries_of_inst S.Up = 1
entries_of_inst S.Down = 0
entries_of_inst (S.Recovering by) = 0
entries_of_inst S.Clean = 0
entries_of_inst S.Restarting = 0
entries_of_inst S.Closed = 0

abbrev pub entries_owed : State → ℕ
entries_owed m = sum_by (λ t. entries_of_part (m.part t)) m.begun + sum_to (λ i. entries_of_inst (m.inst i).status) 8

-- how many entries more are owed after the reply, at most: for a begin its commit, for a change its undo, for the begin of a rollback
-- its end, for a join the failure
abbrev pub owed_more : Event → Reply → ℕ
owed_more (Begin i) (Began t) = 1
owed_more (Write t r v) Did = 1
owed_more (Add t r by) Did = 1
owed_more (Insert t p v n) (At r) = 1
owed_more (Delete t r) Did = 1
owed_more (Back t mark) Did = 1
owed_more (Join i) (Joined epoch) = 1
owed_more e r = 0
