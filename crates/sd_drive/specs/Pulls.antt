-- How a page comes to the instance whose event needs it: the helping events, which carry line 0.
use Rattle.std.specs.Prelude.{◌≡◌, ℕ, Bool, true, false, Option, None, Some, cond, ◌&&◌}
use Rattle.sd_base.specs.declared.place.Mode.{Mode}
use Rattle.sd_base.specs.declared.place.Mode.TheVariants as modes
use Rattle.sd_base.specs.declared.place.Status.{Status}
use Rattle.sd_base.specs.declared.place.Status.TheVariants as S
use Rattle.sd_base.specs.declared.refusal.Refusal.TheVariants as R
use Rattle.sd_model.specs.declared.event.Event.{Event}
use Rattle.sd_model.specs.declared.event.Event.TheVariants as event
use Rattle.sd_model.specs.declared.event.Reply.{Reply}
use Rattle.sd_model.specs.declared.event.Reply.TheVariants as reply
use Rattle.sd_model.specs.State.{State}
use Rattle.sd_pagelock.specs.Places.{changed, holds}
use Rattle.sd_world.specs.Pages.{Pages, is_duty}
use Rattle.sd_world.specs.PageCauses.{IsNeededPage, page_of}

-- for whom a page is pulled, and how it is needed
pub record Puller : Type 0 where
  pub inst : ℕ
  pub mode : Mode

abbrev pub reads_for : ℕ → Option Puller
reads_for i = Some (record { inst = i; mode = modes.Shared })

abbrev pub changes_for : ℕ → Option Puller
changes_for i = Some (record { inst = i; mode = modes.Excl })

-- who recovers it
abbrev pub recovers_for : Status → Option Puller
recovers_for (S.Recovering by) = changes_for by
recovers_for s = None

-- for whom the page of an event is pulled; those of page lines aren't
abbrev pub puller : State → Event → Option Puller
puller m (event.Read t r) = reads_for t.inst
puller m (event.List i p) = reads_for i
puller m (event.Write t r v) = changes_for t.inst
puller m (event.Add t r by) = changes_for t.inst
puller m (event.Insert t p v n) = changes_for t.inst
puller m (event.Delete t r) = changes_for t.inst
puller m (event.Undo t) = changes_for t.inst
puller m (event.RecoverStep i) = recovers_for (m.inst i).status
puller m e = None

-- the page that is pulled; of a recovery one that a loser changed
abbrev pub IsPulled : State → Event → ℕ → Type 0
IsPulled m (event.RecoverStep i) p = IsNeededPage m i p
IsPulled m e p = p ≡ page_of m e

-- Which helping event is due. Idle: none, the page isn't pulled; Asks p: the ask for p; Gives p of: a give by `of`; Takes p to: a take by
-- `to`; Room p at: a copy at `at` makes room, written first where that is its duty; Evicts p at v: the copy of v goes; Ends: none, the
-- page was pulled in vain.
pub data Pull : Type 0 where
  Idle : Pull
  Asks : ℕ → Pull
  Gives : ℕ → ℕ → Pull
  Takes : ℕ → ℕ → Pull
  Room : ℕ → ℕ → Pull
  Evicts : ℕ → ℕ → ℕ → Pull
  Ends : Pull

abbrev pub is_pulling : Pull → Bool
is_pulling Pull.Idle = false
is_pulling (Pull.Asks p) = true
is_pulling (Pull.Gives p of) = true
is_pulling (Pull.Takes p to) = true
is_pulling (Pull.Room p at) = true
is_pulling (Pull.Evicts p at v) = true
is_pulling Pull.Ends = false

abbrev pub is_vain : Pull → Bool
is_vain Pull.Idle = false
is_vain (Pull.Asks p) = false
is_vain (Pull.Gives p of) = false
is_vain (Pull.Takes p to) = false
is_vain (Pull.Room p at) = false
is_vain (Pull.Evicts p at v) = false
is_vain Pull.Ends = true

-- the event that makes room of the copy of v
abbrev pub makes_room : Pages → ℕ → ℕ → Event
makes_room w at v = cond {A = Event} (changed (w.entry v) && is_duty at (w.entry v)) (event.Flush at v) (event.Evict at v)

-- the event is the helping one that is due
abbrev pub IsDue : Pages → Puller → Pull → Event → Type 0
IsDue w for (Pull.Asks p) e = e ≡ event.Ask for.inst p for.mode
IsDue w for (Pull.Gives p of) e = e ≡ event.Give of p
IsDue w for (Pull.Takes p to) e = e ≡ event.Take to p
IsDue w for (Pull.Room p at) e = (v : ℕ) × (holds (w.entry v) at ≡ true) × (e ≡ makes_room w at v)
IsDue w for (Pull.Evicts p at v) e = e ≡ event.Evict at v
IsDue w for Pull.Idle e = ⊥
IsDue w for Pull.Ends e = ⊥

-- how a pull goes on behind the reply to its event
abbrev pub helped : Pull → Event → Reply → Pull
helped (Pull.Asks p) e reply.Have = Pull.Idle
helped (Pull.Asks p) e (reply.Asked of) = Pull.Gives p of
helped (Pull.Asks p) e (reply.Refused (R.MovingTo to)) = Pull.Takes p to
helped (Pull.Asks p) (event.Ask i q mode) (reply.Refused R.PoolFull) = Pull.Room p i
helped (Pull.Gives p of) e (reply.Gave to) = Pull.Asks p
helped (Pull.Takes p to) e reply.Did = Pull.Asks p
helped (Pull.Takes p to) e (reply.Refused R.PoolFull) = Pull.Room p to
helped (Pull.Room p at) (event.Flush i v) reply.Did = Pull.Evicts p at v
helped (Pull.Room p at) (event.Evict i v) reply.Did = Pull.Asks p
helped (Pull.Evicts p at v) e reply.Did = Pull.Asks p
helped pull e r = Pull.Ends
