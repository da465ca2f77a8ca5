-- What is told of a script: which work is under way, how far it is, and which event is due after the replies so far.
use Rattle.std.specs.Prelude.{◌≡◌, ◌⊎◌, ℕ, zero, suc, ◌+◌, ◌-◌, Bool, true, false, List, [], ◌∷◌, map, Option, None, Some, cond, is_some, ltb, not, option_map, unwrap_or, ◌&&◌}
use Rattle.std.specs.Option.{option_or}
use Rattle.sd_base.specs.declared.place.Status.{Status}
use Rattle.sd_base.specs.Standing.{is_down, is_up}
use Rattle.sd_base.specs.declared.refusal.Refusal.TheVariants as R
use Rattle.sd_model.specs.declared.event.Event.{Event}
use Rattle.sd_model.specs.declared.event.Event.TheVariants as event
use Rattle.sd_model.specs.declared.event.Reply.{Reply}
use Rattle.sd_model.specs.declared.event.Reply.TheVariants as reply
use Rattle.sd_model.specs.declared.event.Entry.{Entry}
use Rattle.sd_model.specs.State.{State}
use Rattle.sd_script.specs.declared.line.Form.{Form}
use Rattle.sd_script.specs.declared.line.Line.{Line}
use Rattle.sd_pagelock.specs.Places.{changed, holds}
use Rattle.sd_world.specs.Pages.{Pages, is_duty}
use Rattle.sd_world.specs.Serving.{Core, Turns}
use Rattle.sd_drive.specs.Lines.{Names, Way, event_of, named_by, rolls_back, undo_of, way_of}
use Rattle.sd_drive.specs.Pulls.{Pull, Puller, IsDue, IsPulled, helped, is_pulling, puller}

-- what is done: the opening, told as line 0, and then line after line. In the opening each instance that is down recovers itself,
-- then each instance joins, and then the pool of each one that isn't up is emptied.
pub data Work : Type 0 where
  Opening : Work
  Do : Line → Work

-- where a work stands: its one event, or the first of a rollback; an undo of a rollback; the join of an instance; the list of a
-- page by an instance; the begin of an instance's recovery by another or by itself, and a step of it, with how many steps may still
-- be done where the line says so; a page that is written by an instance that isn't up; the copy of such an instance that goes
pub data Cursor : Type 0 where
  Once : Cursor
  Undoes : Cursor
  Joins : ℕ → Cursor
  Lists : ℕ → ℕ → Cursor
  Recovers : ℕ → ℕ → Option ℕ → Cursor
  Steps : ℕ → Option ℕ → Cursor
  Flushes : ℕ → ℕ → Cursor
  Evicts : ℕ → ℕ → Cursor

-- how many instances and pages there are, and the transaction of each name
pub record Known : Type 0 where
  pub insts : ℕ
  pub pages : ℕ
  pub names : Names

-- left: the works that aren't done, the one under way first; cursor: where that one stands once it has begun; pull: the pull of a
-- page for its event; failed: a device failed in the opening, behind which nothing is due
pub record Progress : Type 0 where
  pub known : Known
  pub left : List Work
  pub cursor : Option Cursor
  pub pull : Pull
  pub failed : Bool

-- the works of lines
abbrev pub works_of : List Line → List Work
works_of lines = map (λ (line : Line). Work.Do line) lines

-- before the first entry
abbrev pub untold : ℕ → ℕ → List Line → Progress
untold insts pages lines = record {
  known = record { insts = insts; pages = pages; names = λ name. None };
  left = Work.Opening ∷ works_of lines;
  cursor = None;
  pull = Pull.Idle;
  failed = false;
}

abbrev pub session_of : Work → ℕ
session_of Work.Opening = 0
session_of (Work.Do line) = line.session

abbrev pub number_of : Work → ℕ
number_of Work.Opening = 0
number_of (Work.Do line) = line.number

-- ---- where works stand

-- the first of n instances from i on that stands so
abbrev pub first_from : (ℕ → Bool) → ℕ → ℕ → Option ℕ
first_from test i zero = None
first_from test i (suc n) = cond {A = Option ℕ} (test i) (Some i) (first_from test (i + 1) n)

-- the lowest instance that is up, by how each stands; instance 1, which refuses, where none is
abbrev pub lister_by : (ℕ → Status) → ℕ → ℕ
lister_by status insts = unwrap_or (first_from (λ i. is_up (status i)) 1 insts) 1

abbrev pub lister : State → ℕ → ℕ
lister m insts = lister_by (λ i. (m.inst i).status) insts

-- the lowest instance from i on that is down
abbrev pub next_down : State → ℕ → Option ℕ
next_down m i = first_from (λ j. is_down (m.inst j).status) i (9 - i)

-- the lowest one from i on, of so many, that isn't up
abbrev pub next_absent : State → ℕ → ℕ → Option ℕ
next_absent m insts i = first_from (λ j. not (is_up (m.inst j).status)) i (insts + 1 - i)

-- the recovery of an instance by itself begins, where there is one
abbrev pub recovers : Option ℕ → Option Cursor
recovers = option_map (λ (i : ℕ). Cursor.Recovers i i None)

-- an instance joins, where there is one
abbrev pub joins : Option ℕ → Option Cursor
joins = option_map (λ (i : ℕ). Cursor.Joins i)

-- where a line begins
abbrev pub begins : Way → State → Known → Form → Option Cursor
begins Way.Single m known line = option_map (λ (e : Event). Cursor.Once) (event_of known.names line)
begins Way.Listing m known line = Some (Cursor.Lists (lister m known.insts) 0)
begins Way.Recovering m known line = recovers (next_down m 1)
begins (Way.One i by most) m known line = Some (Cursor.Recovers i by most)
begins Way.Joining m known line = joins (next_absent m known.insts 1)

-- The opening lets the instances that are down recover themselves; where none is left, instance 1 joins.
abbrev pub opens : Option ℕ → Option Cursor
opens None = Some (Cursor.Joins 1)
opens (Some i) = Some (Cursor.Recovers i i None)

-- the lowest page from p on of which i has a copy
unfoldable pub next_copy : Pages → ℕ → ℕ → Option ℕ
next_copy w i p = first_from (λ q. holds (w.entry q) i) p (1024 - p)

-- a copy that goes: its instance writes it before, where it is changed and that one's to write
abbrev pub lets_go : Pages → ℕ → ℕ → Cursor
lets_go w i p = cond {A = Cursor} (changed (w.entry p) && is_duty i (w.entry p)) (Cursor.Flushes i p) (Cursor.Evicts i p)

-- the next copy that i lets go, from page p on; an instance that is up keeps its own
abbrev pub leaver : Core → ℕ → ℕ → Option Cursor
leaver w i p = cond {A = Option Cursor} (is_up (w.scene.state.inst i).status) None
    (option_map (λ (q : ℕ). lets_go w.pages i q) (next_copy w.pages i p))

-- the next one of the n instances from i on
unfoldable pub leavers : Core → ℕ → ℕ → Option Cursor
leavers w i zero = None
leavers w i (suc n) = option_or (leaver w i 0) (leavers w (i + 1) n)

-- Where pools are emptied: the next copy of i from page p on, or else that of the instances behind i.
abbrev pub empties : Core → ℕ → ℕ → Option Cursor
empties w i p = option_or (leaver w i p) (leavers w (i + 1) (8 - i))

-- where a work begins; one without an event begins nowhere
abbrev pub start_of : State → Known → Work → Option Cursor
start_of m known Work.Opening = opens (next_down m 1)
start_of m known (Work.Do line) = begins (way_of line.form) m known line.form

-- the event of a work that stands there
abbrev pub event_at : Known → Work → Cursor → Option Event
event_at known work (Cursor.Joins i) = Some (event.Join i)
event_at known work (Cursor.Lists i p) = Some (event.List i p)
event_at known work (Cursor.Recovers i by most) = Some (event.RecoverBegin i by)
event_at known work (Cursor.Steps i most) = Some (event.RecoverStep i)
event_at known work (Cursor.Flushes i p) = Some (event.Flush i p)
event_at known work (Cursor.Evicts i p) = Some (event.Evict i p)
event_at known Work.Opening Cursor.Once = None
event_at known (Work.Do line) Cursor.Once = event_of known.names line.form
event_at known Work.Opening Cursor.Undoes = None
event_at known (Work.Do line) Cursor.Undoes = undo_of known.names line.form

-- where a line goes on behind the recovery of i, which came to its end, or was refused: with that of the next one that is down, where
-- it recovers all of them
abbrev pub behind_line : Way → State → ℕ → Bool → Option Cursor
behind_line Way.Recovering m i true = recovers (next_down m (i + 1))
behind_line way m i ended = None

-- where a work does. m: the state behind the recovery
abbrev pub behind : State → Work → ℕ → Bool → Option Cursor
behind m Work.Opening i ended = opens (next_down m (i + 1))
behind m (Work.Do line) i ended = behind_line (way_of line.form) m i ended

-- Of at most so many steps of a recovery one was done: whether another one may follow, and how many at most. None: no line bounds them.
abbrev pub goes_further : Option ℕ → Bool
goes_further None = true
goes_further (Some steps) = ltb 1 steps

abbrev pub one_less : Option ℕ → Option ℕ
one_less = option_map (λ (steps : ℕ). steps - 1)

abbrev pub stepped : ℕ → Option ℕ → Option Cursor
stepped i most = cond {A = Option Cursor} (goes_further most) (Some (Cursor.Steps i (one_less most))) None

-- Where a work goes on behind the reply; nowhere where it is done. In the opening the next instance has its turn behind a refusal, and the
-- next copy; a line ends at the first one. w: the core behind the reply
abbrev pub goes_on : Core → Known → Work → Cursor → Reply → Option Cursor
goes_on w known work (Cursor.Recovers i by most) reply.Did = Some (Cursor.Steps i most)
goes_on w known work (Cursor.Recovers i by most) r = behind w.scene.state work i false
goes_on w known work (Cursor.Steps i most) reply.Step = stepped i most
goes_on w known work (Cursor.Steps i most) reply.Finished = behind w.scene.state work i true
goes_on w known work (Cursor.Steps i most) r = behind w.scene.state work i false
goes_on w known Work.Opening (Cursor.Joins i) r = cond {A = Option Cursor} (ltb i known.insts) (Some (Cursor.Joins (i + 1))) (leavers w 1 8)
goes_on w known Work.Opening (Cursor.Flushes i p) reply.Did = Some (Cursor.Evicts i p)
goes_on w known Work.Opening (Cursor.Flushes i p) r = empties w i (p + 1)
goes_on w known Work.Opening (Cursor.Evicts i p) r = empties w i (p + 1)
goes_on w known (Work.Do line) Cursor.Once reply.Did = cond {A = Option Cursor} (rolls_back line.form) (Some Cursor.Undoes) None
goes_on w known (Work.Do line) Cursor.Undoes reply.Step = Some Cursor.Undoes
goes_on w known (Work.Do line) (Cursor.Lists i p) (reply.Rows rows) =
    cond {A = Option Cursor} (ltb (p + 1) known.pages) (Some (Cursor.Lists i (p + 1))) None
goes_on w known (Work.Do line) (Cursor.Joins i) (reply.Joined epoch) = joins (next_absent w.scene.state known.insts (i + 1))
goes_on w known work c r = None

abbrev pub named_after : Work → Reply → Names → Names
named_after Work.Opening r names = names
named_after (Work.Do line) r names = named_by line.form r names

-- the works from the first one on that has an event
abbrev pub ahead : State → Known → List Work → List Work
ahead m known [] = []
ahead m known (work ∷ works) = cond {A = List Work} (is_some (start_of m known work)) (work ∷ works) (ahead m known works)

-- what is left: where the first work has begun, it and those behind it
abbrev pub left_from : State → Known → Option Cursor → List Work → List Work
left_from m known None works = ahead m known works
left_from m known (Some c) works = works

abbrev pub due_works : State → Progress → List Work
due_works m at = left_from m at.known at.cursor at.left

-- ---- what an entry makes of it

-- the first work is done
abbrev pub done : Progress → Work → List Work → Reply → Progress
done at work rest r = record at {
  known = record at.known { names = named_after work r at.known.names };
  left = rest;
  cursor = None;
  pull = Pull.Idle;
}

-- the first work stands there, with this pull
abbrev pub stays : Progress → Work → List Work → Cursor → Pull → Progress
stays at work rest c pull = record at { left = work ∷ rest; cursor = Some c; pull = pull }

abbrev pub followed : Progress → Work → List Work → Reply → Option Cursor → Progress
followed at work rest r None = done at work rest r
followed at work rest r (Some next) = stays at work rest next Pull.Idle

-- a device failed in the opening
abbrev pub fails : Work → Reply → Bool
fails Work.Opening (reply.Refused R.Failed) = true
fails work r = false

abbrev pub marked : Work → Reply → Progress → Progress
marked Work.Opening r then = record then { failed = fails Work.Opening r }
marked (Work.Do line) r then = then

-- The work's own event came. Where it needs a page that is pulled for it, and hasn't been in vain, the page is asked for. m: the
-- state before it, w': the core behind it
abbrev pub Own : State → Core → Progress → Work → List Work → Cursor → Event → Reply → Progress → Type 0
Own m w' at work rest c e (reply.Refused (R.NeedPage place)) then =
    ((at.pull ≡ Pull.Idle) × (is_some (puller m e) ≡ true) × ((p : ℕ) × IsPulled m e p × (then ≡ stays at work rest c (Pull.Asks p))))
    ⊎ (((at.pull ≡ Pull.Ends) ⊎ (is_some (puller m e) ≡ false))
    × (then ≡ marked work (reply.Refused (R.NeedPage place))
    (followed at work rest (reply.Refused (R.NeedPage place)) (goes_on w' at.known work c (reply.Refused (R.NeedPage place))))))
Own m w' at work rest c e r then = then ≡ marked work r (followed at work rest r (goes_on w' at.known work c r))

-- a helping event came, for whom the page is pulled
abbrev pub Helps : Core → Progress → Work → List Work → Cursor → Option Puller → Entry → Progress → Type 0
Helps w at work rest c None entry then = ⊥
Helps w at work rest c (Some for) entry then =
    (entry.session ≡ 0) × (entry.line ≡ 0) × IsDue w.pages for at.pull entry.event
    × (then ≡ marked work entry.reply (stays at work rest c (helped at.pull entry.event entry.reply)))

-- for whom the page of the event that is due is pulled
abbrev pub puller_of : State → Option Event → Option Puller
puller_of m None = None
puller_of m (Some e) = puller m e

-- the entry is due where the work stands: a helping one in a pull, else its own, under its session and number
abbrev pub TellsAt : Bool → Core → Core → Progress → Work → List Work → Cursor → Entry → Progress → Type 0
TellsAt true w w' at work rest c entry then = Helps w at work rest c (puller_of w.scene.state (event_at at.known work c)) entry then
TellsAt false w w' at work rest c entry then =
    (entry.session ≡ session_of work) × (entry.line ≡ number_of work) × (event_at at.known work c ≡ Some entry.event)
    × Own w.scene.state w' at work rest c entry.event entry.reply then

abbrev pub TellsWork : Core → Core → Progress → Work → List Work → Option Cursor → Entry → Progress → Type 0
TellsWork w w' at work rest None entry then = ⊥
TellsWork w w' at work rest (Some c) entry then = TellsAt (is_pulling at.pull) w w' at work rest c entry then

-- where a work stands, or begins
abbrev pub cursor_in : State → Known → Work → Option Cursor → Option Cursor
cursor_in m known work None = start_of m known work
cursor_in m known work (Some c) = Some c

abbrev pub TellsFirst : Core → Core → Progress → List Work → Entry → Progress → Type 0
TellsFirst w w' at [] entry then = ⊥
TellsFirst w w' at (work ∷ rest) entry then = TellsWork w w' at work rest (cursor_in w.scene.state at.known work at.cursor) entry then

-- Between these cores the entry is the next one that is due, and leads there. None is due once a device failed in the opening.
abbrev pub Tells : Core → Core → Progress → Entry → Progress → Type 0
Tells w w' at entry then = (at.failed ≡ false) × TellsFirst w w' at (due_works w.scene.state at) entry then

-- every work has its reply, and no device failed in the opening
abbrev pub IsTold : State → Progress → Type 0
IsTold m at = (at.failed ≡ false) × (due_works m at ≡ [])

-- ---- worlds: what is told, and the core

pub record World : Type 0 where
  pub told : Progress
  pub core : Core

-- this work is the one under way, or the next one that has an event
abbrev pub IsUnderWay : Work → List Work → World → Type 0
IsUnderWay work rest w = due_works w.core.scene.state w.told ≡ work ∷ rest

-- no opening is among the works
abbrev pub AreLines : List Work → Type 0
AreLines [] = Unit {0}
AreLines (Work.Opening ∷ works) = ⊥
AreLines (Work.Do line ∷ works) = AreLines works

-- the entry turns the core, and is the one that is due
pub record Advances (old : World) (e : Entry) (new : World) : Type 0 where
  pub turns : Turns old.core e.event e.reply new.core
  pub tells : Tells old.core new.core old.told e new.told

-- each entry advances the world to the next one
abbrev pub Drives : World → List Entry → World → Type 0
Drives old [] new = old ≡ new
Drives old (e ∷ es) new = (next : World) × Advances old e next × Drives next es new
