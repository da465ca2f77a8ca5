-- What `top` answers, status by status.
use Rattle.std.specs.Prelude.{◌≡◌, ◌⊎◌, ℕ, ◌<◌, true, List, Option, None, Some, length}
use Rattle.sd_base.specs.Streams.{Appends, Rises}
use Rattle.sd_base.specs.declared.ids.Rid.{Rid}
use Rattle.sd_model.specs.Acts.{Serial}
use Rattle.sd_model.specs.History.{History}
use Rattle.sd_model.specs.declared.event.Entry.{Entry}
use Rattle.sd_chain.specs.Checks.{DevicesAreSound}
use Rattle.sd_chain.specs.Faults.{FailsFirstAt}
use Rattle.sd_script.specs.declared.line.Line.{Line}
use Rattle.sd_script.specs.Reading.{IsScript}
use Rattle.sd_world.specs.Serving.{Telling}
use Rattle.sd_report.specs.Report.{bad_text, damaged_text}
use Rattle.sd_top.specs.declared.words.Request.{Request}
use Rattle.sd_top.specs.Asking.{GivesText, ReadFails, told_by}
use Rattle.sd_top.specs.declared.status.Status.{Status}
use Rattle.sd_top.specs.declared.status.Status.TheVariants as status
use Rattle.sd_top.specs.declared.first_bad.BadLine.{BadLine}
use Rattle.sd_top.specs.FirstBad.{IsFirstBad}
use Rattle.sd_top.specs.Sides.{SourceSide, SinkSide}
use Rattle.sd_top.specs.Output.{AppendsFront}
use Rattle.sd_top.specs.Reporting.{WrittenUnless, device_text}
use Rattle.sd_drive.specs.Driving.{IsTold, IsUnderWay, Work, World, works_of}
use Rattle.sd_top.specs.Opening.{AreRead, LedFrom}

-- What a script that was read may change: the sink, and the devices.
pub record Ends (G : Type 0) : Type 0 where
  pub sink : SinkSide
  pub rig : G

-- The text is a script of these lines. The book begins with the table that the devices stood for, and its entries lead from the
-- world that they told to this one, in which each committed transaction has read what it reads where they run one after another.
-- No entry tells a fault of a device that wasn't there, and none is untold but those of a failure of all. The devices that come back
-- stand for the last world, and at any moment since the call began a crash may have left only what it might have left before the call,
-- or what stands for a world on the way.
pub record Replayed {G : Type 0} (tell : Telling G) (rig rig' : G) (book : Option History) (text : List ℕ) (lines : List Line)
    (history : History) (world : World) : Type 0 where
  pub script : IsScript text lines
  pub book_is : book ≡ Some history
  pub led : LedFrom tell lines rig rig' history.opening history.entries world
  pub serial : Serial world.core.scene.state.start world.core.scene.state.done

-- Each line has its reply, and the sink has got what is told of this book, the report or the summary, and nothing else.
pub record Reported (asked : Request) (sink sink' : SinkSide) (lines : List Line) (history : History) (world : World) : Type 0 where
  pub told : IsTold world.core.scene.state world.told
  pub report : Appends sink.written (told_by asked lines history.entries) sink'.written

-- Each line has its reply. The sink failed, and has got a front of what is told.
pub record CutShort (asked : Request) (sink sink' : SinkSide) (lines : List Line) (history : History) (world : World) : Type 0 where
  pub told : IsTold world.core.scene.state world.told
  pub front : AppendsFront sink.written (told_by asked lines history.entries) sink'.written
  pub failed : Rises sink.faults sink'.faults

-- this is the first bad line of the text, and the sink has got its number and its cause
abbrev pub WritesFirst : List ℕ → Option BadLine → SinkSide → SinkSide → Type 0
WritesFirst text None sink sink' = ⊥
WritesFirst text (Some bad) sink sink' = IsFirstBad text bad × WrittenUnless sink (bad_text bad.line bad.cause) sink'

-- A device failed in the reading of the devices, which read as before.
pub record FailsAtOnce {G : Type 0} (tell : Telling G) (rig rig' : G) : Type 0 where
  pub read : AreRead tell rig rig'
  pub faults : Rises (tell.faults rig) (tell.faults rig')

-- A device failed behind the reading, in a recovery or a join: the entries so far lead to a world in which that is told.
pub record FailsLater {G : Type 0} (tell : Telling G) (lines : List Line) (rig rig' : G) : Type 0 where
  pub table : List (Rid × List ℕ)
  pub entries : List Entry
  pub last : World
  pub led : LedFrom tell lines rig rig' table entries last
  pub failed : last.told.failed ≡ true
  pub faults : Rises (tell.faults rig) (tell.faults rig')

-- The text is a script, and a device failed in the opening, which the sink has got told.
pub record FailedOpening {G : Type 0} (tell : Telling G) (text : List ℕ) (old new : Ends G) : Type 0 where
  pub lines : List Line
  pub script : IsScript text lines
  pub fails : FailsAtOnce tell old.rig new.rig ⊎ FailsLater tell lines old.rig new.rig
  pub written : WrittenUnless old.sink device_text new.sink

-- The text is a script. The devices were read without a fault, and aren't sound; where they fail first the sink has got told.
pub record FoundDamaged {G : Type 0} (tell : Telling G) (text : List ℕ) (old new : Ends G) : Type 0 where
  pub lines : List Line
  pub script : IsScript text lines
  pub dev : ℕ
  pub at : ℕ
  pub unsound : DevicesAreSound (tell.seen old.rig) → ⊥
  pub first : FailsFirstAt (tell.seen old.rig) dev at
  pub read : AreRead tell old.rig new.rig
  pub quiet : tell.faults new.rig ≡ tell.faults old.rig
  pub written : WrittenUnless old.sink (damaged_text dev at) new.sink

-- The text is a script, and the reading of the devices found no memory.
pub record HalfRead {G : Type 0} (tell : Telling G) (text : List ℕ) (rig rig' : G) : Type 0 where
  pub lines : List Line
  pub script : IsScript text lines
  pub read : AreRead tell rig rig'
  pub quiet : tell.faults rig' ≡ tell.faults rig

-- The text is a script, and the opening behind the reading found no memory: its entries so far lead to this world, in which it is still
-- under way.
pub record HalfOpened {G : Type 0} (tell : Telling G) (text : List ℕ) (rig rig' : G) : Type 0 where
  pub lines : List Line
  pub script : IsScript text lines
  pub table : List (Rid × List ℕ)
  pub entries : List Entry
  pub world : World
  pub led : LedFrom tell lines rig rig' table entries world
  pub opening : IsUnderWay Work.Opening (works_of lines) world

-- A book that is there has the replies so far, and the opening is done; none is there before the opening and in it.
abbrev pub IsPartial : {G : Type 0} → Telling G → List ℕ → G → G → Option History → Type 0
IsPartial tell text rig rig' None = (rig' ≡ rig) ⊎ (HalfRead tell text rig rig' ⊎ HalfOpened tell text rig rig')
IsPartial tell text rig rig' (Some history) =
    (lines : List Line) × (world : World) × Replayed tell rig rig' (Some history) text lines history world
    × ((rest : List Work) → IsUnderWay Work.Opening rest world → ⊥)

-- What each status says of a text that was read or generated, of the sink and the devices before and after, of the book, and of the bad
-- line that is handed back.
abbrev pub Answers : {G : Type 0} → Telling G → Request → Status → List ℕ → Ends G → Ends G → Option History → Option BadLine → Type 0
Answers tell asked status.Done text old new book bad = (lines : List Line) × (history : History) × (world : World)
    × Replayed tell old.rig new.rig book text lines history world × Reported asked old.sink new.sink lines history world
Answers tell asked status.BadLine text old new book bad = WritesFirst text bad old.sink new.sink × (book ≡ None) × (new.rig ≡ old.rig)
Answers tell asked status.WriteFault text old new book bad = (lines : List Line) × (history : History) × (world : World)
    × Replayed tell old.rig new.rig book text lines history world × CutShort asked old.sink new.sink lines history world
Answers tell asked status.NoMemory text old new book bad =
    IsPartial tell text old.rig new.rig book × (new.sink.written ≡ old.sink.written)
Answers tell asked status.Damaged text old new book bad = FoundDamaged tell text old new × (book ≡ None)
Answers tell asked status.Device text old new book bad = FailedOpening tell text old new × (book ≡ None)
Answers tell asked status.Usage text old new book bad = ⊥
Answers tell asked status.ReadFault text old new book bad = ⊥

-- the source or the number gave a text, and the status says this of it
abbrev pub AnswersAll : {G : Type 0} → Telling G → Request → Status → SourceSide → SourceSide → Ends G → Ends G → Option History → Option BadLine
    → Type 0
AnswersAll tell asked s source source' old new book bad =
    (text : List ℕ) × GivesText asked source source' text × Answers tell asked s text old new book bad

-- no script was read: nothing is written, there is no book, and the devices are as they were
abbrev pub IsUntouched : {G : Type 0} → Ends G → Ends G → Option History → Type 0
IsUntouched old new book = (book ≡ None) × (new.sink.written ≡ old.sink.written) × (new.rig ≡ old.rig)

-- What each status says of a call whose words ask for this: of the source, the sink and the devices, before and after, of the book, and
-- of the bad line that is handed back.
abbrev pub Outcome : {G : Type 0} → Telling G → Request → Status → SourceSide → SourceSide → Ends G → Ends G → Option History → Option BadLine
    → Type 0
Outcome tell asked status.ReadFault source source' old new book bad =
    ReadFails asked source.faults source'.faults × IsUntouched old new book
Outcome tell asked status.NoMemory source source' old new book bad =
    IsUntouched old new book ⊎ AnswersAll tell asked status.NoMemory source source' old new book bad
Outcome tell asked status.Usage source source' old new book bad = ⊥
Outcome tell asked s source source' old new book bad = AnswersAll tell asked s source source' old new book bad
