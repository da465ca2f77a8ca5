-- What a driver keeps of its hall: the entries lead to a world that the complex fits.
use Rattle.std.specs.Prelude.{◌≡◌, ◌⊎◌, ℕ, ◌-◌, ◌≤◌, Bool, true, false, List, ◌∷◌, Option, None, Some, length, slice_get}
use Rattle.sd_base.specs.declared.place.Status.TheVariants as S
use Rattle.sd_base.specs.declared.refusal.Refusal.TheVariants as R
use Rattle.sd_model.specs.declared.event.Entry.{Entry}
use Rattle.sd_model.specs.declared.event.Event.{Event}
use Rattle.sd_model.specs.declared.event.Event.TheVariants as event
use Rattle.sd_model.specs.declared.event.Reply.{Reply}
use Rattle.sd_model.specs.declared.event.Reply.TheVariants as reply
use Rattle.sd_pagelock.specs.Places.{holds_as}
use Rattle.sd_world.specs.Serving.{Core, Telling, Turns}
use Rattle.sd_fits.specs.declared.body.Body.{Body}
use Rattle.sd_hall.specs.Keeping.{Keeps}
use Rattle.sd_hall.specs.declared.hall.Hall.{Hall}
use Rattle.sd_drive.specs.declared.pull.Answer.{Answer}
use Rattle.sd_drive.specs.declared.pull.Answer.TheVariants as answers
use Rattle.sd_drive.specs.declared.pull.Course.{Course}
use Rattle.sd_drive.specs.declared.pull.Course.TheVariants as courses
use Rattle.sd_drive.specs.Driving.{AreLines, Cursor, IsUnderWay, Progress, Work, World}
use Rattle.sd_drive.specs.Measure.{GivesUp, IsNearer, copies_of}
use Rattle.sd_drive.specs.Pulls.{IsDue, Pull, Puller, helped, is_pulling}
use Rattle.sd_drive.specs.Standing.{Pulling}
use Rattle.sd_model.specs.Replies.{is_failed}
use Rattle.sd_drive.specs.Running.{Ran, Start}

abbrev pub tells_fault : Option Entry → Bool
tells_fault None = false
tells_fault (Some e) = is_failed e.reply

-- the last entry tells that a device failed
abbrev pub ends_failed : List Entry → Bool
ends_failed entries = tells_fault (slice_get entries (length entries - 1))

-- That a device failed in the opening is told by the last entry; and what the last entry tells so is marked while the opening is
-- under way.
pub record MarksLast (entries : List Entry) (at : Progress) : Type 0 where
  pub told : at.failed ≡ true → ends_failed entries ≡ true
  pub marked : (rest : List Work) (c : Cursor) → at.left ≡ Work.Opening ∷ rest → at.cursor ≡ Some c → ends_failed entries ≡ true → at.failed ≡ true

-- The hall is in this world: its entries lead from the start there, the complex fits it, and the book began with the start's
-- table. Where the run has come to its lines, no opening is left.
pub record IsIn {G : Type 0} (tell : Telling G) (start : Start G) (hall : Hall G) (w : World) : Type 0 where
  pub body : Body G
  pub is : hall.body ≡ Some body
  pub ran : Ran tell start body hall.book.entries w
  pub keeps : Keeps tell start.world.core hall
  pub table : hall.book.opening ≡ start.table
  pub marks : MarksLast hall.book.entries w.told
  pub behind : start.opened ≡ true → AreLines w.told.left

-- the hall is in some world
abbrev pub IsSomewhere : {G : Type 0} → Telling G → Hall G → Type 0
IsSomewhere {G} tell hall = (start : Start G) × (w : World) × IsIn tell start hall w

-- whatever it was driven from, it still is, in some world
abbrev pub StaysIn : {G : Type 0} → Telling G → Hall G → Hall G → Type 0
StaysIn {G} tell old new = (start : Start G) (w : World) → IsIn tell start old w → IsIn tell start new w

-- The page of a work's event is pulled on: from one stage of the pull to another, with this to say of the cores.
abbrev pub PullsOn : {G : Type 0} → Telling G → Hall G → Hall G → Puller → Pull → Pull → (Core → Core → Type 0) → Type 0
PullsOn {G} tell old new for pull next P =
    (start : Start G) (w : World) (at : World) (work : Work) (rest : List Work) (c : Cursor) (e : Event)
    → IsIn tell start old w → Pulling at work rest c e for pull w
    → (w' : World) × IsIn tell start new w' × Pulling at work rest c e for next w' × P w.core w'.core

-- In this world a page is pulled for a work's event so far.
pub record PulledIn {G : Type 0} (tell : Telling G) (hall : Hall G) (for : Puller) (pull : Pull) : Type 0 where
  pub start : Start G
  pub world : World
  pub at : World
  pub work : Work
  pub rest : List Work
  pub cursor : Cursor
  pub own : Event
  pub there : IsIn tell start hall world
  pub pulls : Pulling at work rest cursor own for pull world

-- it is driven on while it pulls a page, as far as memory is there; the work is still under way
abbrev pub PullsSome : {G : Type 0} → Telling G → Hall G → Hall G → Puller → Pull → Type 0
PullsSome {G} tell old new for pull =
    (start : Start G) (w : World) (at : World) (work : Work) (rest : List Work) (c : Cursor) (e : Event)
    → IsIn tell start old w → Pulling at work rest c e for pull w → (w' : World) × IsIn tell start new w' × IsUnderWay work rest w'

-- ---- the answers to helping events

-- between these cores the event came, with this reply
abbrev pub Happens : Event → Reply → Core → Core → Type 0
Happens e r old new = Turns old e r new

-- what the reply to a helping event tells
abbrev pub answer_as : Reply → Answer
answer_as reply.Have = answers.Had
answer_as (reply.Asked of) = answers.Asked of
answer_as (reply.Gave to) = answers.Gave
answer_as reply.Did = answers.Did
answer_as (reply.Refused (R.MovingTo to)) = answers.MovingTo to
answer_as (reply.Refused R.PoolFull) = answers.NoFrame
answer_as r = answers.Refused

-- A helping event came, with this reply: where it was due, the pull went on.
abbrev pub Helped : {G : Type 0} → Telling G → Hall G → Hall G → Event → Reply → Type 0
Helped {G} tell old new e r =
    (start : Start G) (w : World) (at : World) (work : Work) (rest : List Work) (c : Cursor) (own : Event) (for : Puller) (pull : Pull)
    → IsIn tell start old w → Pulling at work rest c own for pull w
    → is_pulling pull ≡ true → IsDue w.core.pages for pull e
    → (w' : World) × IsIn tell start new w' × Pulling at work rest c own for (helped pull e r) w' × Turns w.core e r w'.core

-- ---- what becomes of a pull

-- the complex is open, and i holds as many pages as its pool has frames
abbrev pub IsFull : ℕ → Core → Type 0
IsFull i w = ((w.scene.state.inst 1).status ≡ S.Closed → ⊥) × (w.pages.frames ≤ copies_of w.pages.entry i)

-- where the event was done, the page is asked for again
abbrev pub next_if : Bool → ℕ → Pull
next_if true p = Pull.Asks p
next_if false p = Pull.Ends

-- `of` gave the page to the oldest asker
abbrev pub IsGiven : Bool → ℕ → ℕ → Core → Core → Type 0
IsGiven true of p old new = (to : ℕ) × Happens (event.Give of p) (reply.Gave to) old new
IsGiven false of p old new = Unit {0}

-- i gave up a copy
abbrev pub MakesRoom : Bool → ℕ → Core → Core → Type 0
MakesRoom true i old new = (v : ℕ) × GivesUp i v old.pages new.pages
MakesRoom false i old new = Unit {0}

-- `to` took the page, or has room for it
abbrev pub IsTaken : Bool → ℕ → ℕ → Core → Core → Type 0
IsTaken true to p old new = Happens (event.Take to p) reply.Did old new ⊎ MakesRoom true to old new
IsTaken false to p old new = Unit {0}

-- The pull has ended: the page came, and its instance has it so; or the pull was in vain.
abbrev pub HasEnded : Puller → ℕ → Bool → Pull → Core → Type 0
HasEnded for p true next w = (next ≡ Pull.Idle) × (holds_as for.mode (w.pages.entry p) for.inst ≡ true)
HasEnded for p false next w = next ≡ Pull.Ends

-- a pull ends, and the page came or not
abbrev pub PullsAll : {G : Type 0} → Telling G → Hall G → Hall G → Puller → ℕ → Bool → Type 0
PullsAll {G} tell old new for p came =
    (start : Start G) (w : World) (at : World) (work : Work) (rest : List Work) (c : Cursor) (e : Event)
    → IsIn tell start old w → Pulling at work rest c e for (Pull.Asks p) w
    → (w' : World) × (next : Pull) × IsIn tell start new w' × Pulling at work rest c e for next w' × HasEnded for p came next w'.core

-- where the events that fell due were done, the page is asked for again
abbrev pub again_if : Bool → Course
again_if true = courses.Again
again_if false = courses.InVain

-- A round of a pull: the page came nearer, and is asked for again; or the pull ends.
abbrev pub Rounds : {G : Type 0} → Telling G → Hall G → Hall G → Puller → ℕ → Course → Type 0
Rounds tell old new for p courses.Again =
    PullsOn tell old new for (Pull.Asks p) (Pull.Asks p) (λ a b. IsNearer for.inst for.mode p a.pages b.pages)
Rounds tell old new for p courses.Came = PullsAll tell old new for p true
Rounds tell old new for p courses.InVain = PullsAll tell old new for p false
