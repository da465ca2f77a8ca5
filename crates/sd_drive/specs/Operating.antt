-- An event of a line: it is due, it is done, and its line goes on behind the reply.
use Rattle.std.specs.Prelude.{◌≡◌, ℕ, List, [], ◌∷◌, ◌++◌}
use Rattle.sd_model.specs.declared.event.Entry.{Entry}
use Rattle.sd_model.specs.declared.event.Event.{Event}
use Rattle.sd_model.specs.declared.event.Reply.{Reply}
use Rattle.sd_script.specs.declared.line.Line.{Line}
use Rattle.sd_world.specs.Serving.{Core, Telling, Turns}
use Rattle.sd_hall.specs.declared.hall.Hall.{Hall}
use Rattle.sd_drive.specs.Driven.{IsIn}
use Rattle.sd_drive.specs.Driving.{Cursor, Known, Work, World, followed, goes_on}
use Rattle.sd_drive.specs.Standing.{EventIsDue, NoneActs}
use Rattle.sd_drive.specs.Running.{Start}

-- the event is due in this world, for a line of this session and number
pub record IsDueFor (session number : ℕ) (e : Event) (known : Known) (line : Line) (rest : List Work) (c : Cursor) (w : World) : Type 0 where
  pub stands : EventIsDue known (Work.Do line) rest c e w
  pub session_is : session ≡ line.session
  pub number_is : number ≡ line.number

-- in some world it is
pub record DueIn {G : Type 0} (tell : Telling G) (hall : Hall G) (session number : ℕ) (e : Event) : Type 0 where
  pub start : Start G
  pub world : World
  pub known : Known
  pub line : Line
  pub rest : List Work
  pub cursor : Cursor
  pub there : IsIn tell start hall world
  pub due : IsDueFor session number e known line rest cursor world

-- The event came, or came twice with a pull between. The last reply is told, and the line goes on behind it. No transaction has acted
-- before the last time.
pub record Came {G : Type 0} (tell : Telling G) (new : Hall G) (session number : ℕ) (e : Event) (line : Line) (rest : List Work) (c : Cursor)
    (start : Start G) (w : World) : Type 0 where
  pub reply : Reply
  pub before : List Entry
  pub noted : new.book.entries ≡ before ++ record { session = session; line = number; event = e; reply = reply } ∷ []
  pub mid : Core
  pub core : Core
  pub turns : Turns mid e reply core
  pub acts : NoneActs w.core.scene.state mid.scene.state
  pub there : IsIn tell start new (record {
    told = followed w.told (Work.Do line) rest reply (goes_on core w.told.known (Work.Do line) c reply);
    core = core;
  })

-- wherever it was due, it came
abbrev pub Operates : {G : Type 0} → Telling G → Hall G → Hall G → ℕ → ℕ → Event → Type 0
Operates {G} tell old new session number e =
    (start : Start G) (w : World) (known : Known) (line : Line) (rest : List Work) (c : Cursor)
    → IsIn tell start old w → IsDueFor session number e known line rest c w → Came tell new session number e line rest c start w

-- as much of it came as there was memory for
abbrev pub OperatesSome : {G : Type 0} → Telling G → Hall G → Hall G → ℕ → ℕ → Event → Type 0
OperatesSome {G} tell old new session number e =
    (start : Start G) (w : World) (known : Known) (line : Line) (rest : List Work) (c : Cursor)
    → IsIn tell start old w → IsDueFor session number e known line rest c w → (w' : World) × IsIn tell start new w'
