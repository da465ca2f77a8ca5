-- How far a driver has come in its script.
use Rattle.std.specs.Prelude.{◌≡◌, ◌⊎◌, ℕ, ◌+◌, ◌<◌, ◌≤◌, ◌^◌, Bool, true, false, List, [], Option, None, Some, length, take, drop, get_or, slice_get}
use Rattle.sd_base.specs.declared.ids.TxnId.{TxnId}
use Rattle.sd_model.specs.declared.event.Event.TheVariants as event
use Rattle.sd_script.specs.declared.line.Form.{Form}
use Rattle.sd_script.specs.declared.line.Form.TheVariants as form
use Rattle.sd_script.specs.declared.line.Line.{Line}
use Rattle.sd_script.specs.Forms.{IsForm}
use Rattle.sd_script.specs.Order.{Follows, begun, insts_of, ordinal_of, pages_of}
use Rattle.sd_world.specs.Serving.{Telling}
use Rattle.sd_drive.specs.Bodies.{depth_in}
use Rattle.sd_drive.specs.declared.driver.Driver.{Driver}
use Rattle.sd_drive.specs.Driven.{IsIn}
use Rattle.sd_drive.specs.Driving.{Cursor, Known, World, ahead, next_absent, works_of}
use Rattle.sd_drive.specs.Operating.{IsDueFor}
use Rattle.sd_drive.specs.Lines.{Names}
use Rattle.sd_drive.specs.Pulls.{Pull}
use Rattle.sd_drive.specs.Running.{Start}
use Rattle.sd_drive.specs.Standing.{GoesBack}

-- the name and the ordinal that a line tells of its transaction, where it has one
abbrev pub name_in : Form → List ℕ
name_in (form.Read name o r) = name
name_in (form.Write name o r v) = name
name_in (form.Add name o r by) = name
name_in (form.Insert name o p v n) = name
name_in (form.Delete name o r) = name
name_in (form.Save name o mark) = name
name_in (form.Back name o mark) = name
name_in (form.Rollback name o) = name
name_in (form.Commit name o) = name
name_in f = []

abbrev pub ordinal_in : Form → Option ℕ
ordinal_in (form.Read name o r) = Some o
ordinal_in (form.Write name o r v) = Some o
ordinal_in (form.Add name o r by) = Some o
ordinal_in (form.Insert name o p v n) = Some o
ordinal_in (form.Delete name o r) = Some o
ordinal_in (form.Save name o mark) = Some o
ordinal_in (form.Back name o mark) = Some o
ordinal_in (form.Rollback name o) = Some o
ordinal_in (form.Commit name o) = Some o
ordinal_in f = None

-- the transaction of an ordinal
abbrev pub at_ordinal : List (Option TxnId) → Option ℕ → Option TxnId
at_ordinal txns None = None
at_ordinal txns (Some o) = get_or txns o None

-- the transaction of a name, where these names have these transactions
abbrev pub named : List (List ℕ) → List (Option TxnId) → List ℕ → Option TxnId
named names txns q = at_ordinal txns (ordinal_of names q)

-- the names have the transaction that the line tells by its ordinal
abbrev pub Knows : List (Option TxnId) → Names → Form → Type 0
Knows txns names f = (o : ℕ) → ordinal_in f ≡ Some o → get_or txns o None ≡ names (name_in f)

-- the line has one event at most, and begins no transaction
abbrev pub IsPlain : Form → Type 0
IsPlain (form.Begin inst name) = ⊥
IsPlain form.RecoverAll = ⊥
IsPlain (form.Recover inst by most) = ⊥
IsPlain form.JoinAll = ⊥
IsPlain form.Table = ⊥
IsPlain (form.Back name o mark) = ⊥
IsPlain (form.Rollback name o) = ⊥
IsPlain f = Unit {0}

-- a value's length has two bytes
abbrev pub IsShort : Form → Type 0
IsShort (form.Insert name o p v n) = length v < 2 ^ 16
IsShort f = Unit {0}

-- the line stands there as the grammar of scripts has it
pub record MayStand (lines : List Line) (n : ℕ) (line : Line) : Type 0 where
  pub follows : Follows (take n lines) line.form
  pub form : IsForm line.form
  pub short : IsShort line.form

-- each line does, and they are of so many instances and pages
pub record AreDriven (lines : List Line) (instances count : ℕ) : Type 0 where
  pub each : (n : ℕ) (line : Line) → slice_get lines n ≡ Some line → MayStand lines n line
  pub insts : insts_of lines ≡ instances
  pub insts_some : 1 ≤ instances
  pub insts_most : instances ≤ 8
  pub pages : pages_of lines ≡ count
  pub some : 1 ≤ count
  pub most : count ≤ 1024

-- The driver knows what is told of the first n lines: how many instances and pages there are, and the transaction of each name.
pub record KnowsAll {G : Type 0} (lines : List Line) (n : ℕ) (driver : Driver G) (known : Known) : Type 0 where
  pub insts : known.insts ≡ driver.insts
  pub pages : known.pages ≡ driver.pages
  pub names : (q : List ℕ) → named (begun (take n lines)) driver.txns.items q ≡ known.names q
  pub count : length driver.txns.items ≡ length (begun (take n lines))

-- The first n lines have their replies: the hall is in this world, in which the others are to come, and the driver knows what is
-- told.
pub record Reached {G : Type 0} (tell : Telling G) (start : Start G) (lines : List Line) (n : ℕ) (driver : Driver G) (w : World) : Type 0 where
  pub there : IsIn tell start driver.hall w
  pub rests : w.told.cursor ≡ None
  pub idle : w.told.pull ≡ Pull.Idle
  pub unfailed : w.told.failed ≡ false
  pub left : ahead w.core.scene.state w.told.known w.told.left ≡ ahead w.core.scene.state w.told.known (works_of (drop n lines))
  pub knows : KnowsAll lines n driver w.told.known

-- how many instances and pages there are is as before
abbrev pub IsSame : {G : Type 0} → Driver G → Driver G → Type 0
IsSame old new = (new.insts ≡ old.insts) × (new.pages ≡ old.pages)

-- ---- lines

-- the next line of some script, which was driven up to it
pub record AtLine {G : Type 0} (tell : Telling G) (driver : Driver G) (line : Line) : Type 0 where
  pub start : Start G
  pub world : World
  pub lines : List Line
  pub n : ℕ
  pub next : slice_get lines n ≡ Some line
  pub driven : AreDriven lines driver.insts driver.pages
  pub reached : Reached tell start lines n driver world

-- the line is driven, in whatever script it stands
abbrev pub DrivesLine : {G : Type 0} → Telling G → Driver G → Driver G → Line → Type 0
DrivesLine {G} tell old new line =
    (start : Start G) (w : World) (lines : List Line) (n : ℕ) → slice_get lines n ≡ Some line → AreDriven lines old.insts old.pages
    → Reached tell start lines n old w → (w' : World) × Reached tell start lines (n + 1) new w'

-- as much of it as there was memory for
abbrev pub DrivesSome : {G : Type 0} → Telling G → Driver G → Driver G → Line → Type 0
DrivesSome {G} tell old new line =
    (start : Start G) (w : World) (lines : List Line) (n : ℕ) → slice_get lines n ≡ Some line → AreDriven lines old.insts old.pages
    → Reached tell start lines n old w → (w' : World) × IsIn tell start new.hall w'

-- instance i lists page p next for the table line, in whatever script it stands
abbrev pub ListsNext : {G : Type 0} → Telling G → Driver G → Driver G → Line → ℕ → ℕ → Type 0
ListsNext {G} tell old new line i p =
    (start : Start G) (w : World) (lines : List Line) (n : ℕ) → slice_get lines n ≡ Some line → AreDriven lines old.insts old.pages
    → Reached tell start lines n old w → (w' : World) × IsIn tell start new.hall w'
    × IsDueFor line.session line.number (event.List i p) w.told.known line (works_of (drop (n + 1) lines)) (Cursor.Lists i p) w'

-- the n-th line joins instance j next
pub record WaitsToJoin {G : Type 0} (tell : Telling G) (start : Start G) (lines : List Line) (n : ℕ) (line : Line) (driver : Driver G) (j : ℕ)
    (w : World) : Type 0 where
  pub there : IsIn tell start driver.hall w
  pub due : IsDueFor line.session line.number (event.Join j) w.told.known line (works_of (drop (n + 1) lines)) (Cursor.Joins j) w
  pub knows : KnowsAll lines (n + 1) driver w.told.known

-- Of the instances from i on, the lowest that isn't up joins next; where all are up, the line is done.
abbrev pub JoinsOn : {G : Type 0} → Telling G → Start G → List Line → ℕ → Line → Driver G → ℕ → World → Type 0
JoinsOn tell start lines n line driver i w =
    ((j : ℕ) × (next_absent w.core.scene.state w.told.known.insts i ≡ Some j) × WaitsToJoin tell start lines n line driver j w)
    ⊎ ((next_absent w.core.scene.state w.told.known.insts i ≡ None) × Reached tell start lines (n + 1) driver w)

-- in some script the line joins those from i on
pub record IsJoining {G : Type 0} (tell : Telling G) (driver : Driver G) (line : Line) (i : ℕ) : Type 0 where
  pub start : Start G
  pub world : World
  pub lines : List Line
  pub n : ℕ
  pub next : slice_get lines n ≡ Some line
  pub joins : JoinsOn tell start lines n line driver i world

-- Instance i was looked at, and joined where it wasn't up: the line goes on, or is done.
abbrev pub JoinsNow : {G : Type 0} → Telling G → Driver G → Driver G → Line → ℕ → Bool → Type 0
JoinsNow {G} tell old new line i true =
    (start : Start G) (w : World) (lines : List Line) (n : ℕ) → slice_get lines n ≡ Some line → JoinsOn tell start lines n line old i w
    → (w' : World) × JoinsOn tell start lines n line new (i + 1) w'
JoinsNow {G} tell old new line i false =
    (start : Start G) (w : World) (lines : List Line) (n : ℕ) → slice_get lines n ≡ Some line → JoinsOn tell start lines n line old i w
    → (w' : World) × Reached tell start lines (n + 1) new w'

-- as much of it as there was memory for
abbrev pub JoinsSome : {G : Type 0} → Telling G → Driver G → Driver G → Line → ℕ → Type 0
JoinsSome {G} tell old new line i =
    (start : Start G) (w : World) (lines : List Line) (n : ℕ) → slice_get lines n ≡ Some line → JoinsOn tell start lines n line old i w
    → (w' : World) × IsIn tell start new.hall w'

-- The n-th line rolls this transaction back, and undoes next: in this world its first event was done.
pub record RollsBack {G : Type 0} (tell : Telling G) (start : Start G) (lines : List Line) (n : ℕ) (line : Line) (driver : Driver G) (t : TxnId)
    (w : World) : Type 0 where
  pub there : IsIn tell start driver.hall w
  pub undoes : IsDueFor line.session line.number (event.Undo t) w.told.known line (works_of (drop (n + 1) lines)) Cursor.Undoes w
  pub goes : GoesBack w.core.scene.state t
  pub knows : KnowsAll lines (n + 1) driver w.told.known

-- in some world of some script it does
pub record IsRolledBack {G : Type 0} (tell : Telling G) (driver : Driver G) (line : Line) (t : TxnId) : Type 0 where
  pub start : Start G
  pub world : World
  pub lines : List Line
  pub n : ℕ
  pub rolls : RollsBack tell start lines n line driver t world

-- the rollback is driven to its end, or to a refusal
abbrev pub UndoesAll : {G : Type 0} → Telling G → Driver G → Driver G → Line → TxnId → Type 0
UndoesAll {G} tell old new line t =
    (start : Start G) (w : World) (lines : List Line) (n : ℕ) → RollsBack tell start lines n line old t w
    → (w' : World) × Reached tell start lines (n + 1) new w'

-- how many of the transaction's records are open
abbrev pub open_records : {G : Type 0} → Driver G → TxnId → ℕ
open_records driver t = depth_in driver.hall.body t

-- An undo came. Where more is to be undone the line still rolls back, and fewer records are open; else it is done.
abbrev pub Undoes : {G : Type 0} → Telling G → Driver G → Driver G → Line → TxnId → Bool → Type 0
Undoes {G} tell old new line t true = (open_records new t < open_records old t)
    × ((start : Start G) (w : World) (lines : List Line) (n : ℕ) → RollsBack tell start lines n line old t w
    → (w' : World) × RollsBack tell start lines n line new t w')
Undoes tell old new line t false = UndoesAll tell old new line t

-- as much of it as there was memory for
abbrev pub UndoesSome : {G : Type 0} → Telling G → Driver G → Driver G → Line → TxnId → Type 0
UndoesSome {G} tell old new line t =
    (start : Start G) (w : World) (lines : List Line) (n : ℕ) → RollsBack tell start lines n line old t w
    → (w' : World) × IsIn tell start new.hall w'
