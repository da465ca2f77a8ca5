-- What is written to a sink of how a run ends, status by status.
use Rattle.std.specs.Prelude.{◌≡◌, ◌⊎◌, ℕ, List, [], ◌∷◌, codes}
use Rattle.sd_base.specs.Streams.{Appends, Rises}
use Rattle.sd_base.specs.declared.refusal.LineError.{LineError}
use Rattle.sd_base.specs.declared.refusal.Refusal.{Refusal}
use Rattle.sd_base.specs.declared.refusal.Refusal.TheVariants as R
use Rattle.sd_report.specs.Words.{line_of}
use Rattle.sd_report.specs.Report.{bad_text, damaged_text}
use Rattle.sd_top.specs.declared.status.Status.{Status}
use Rattle.sd_top.specs.declared.status.Status.TheVariants as status
use Rattle.sd_top.specs.Sides.{SinkSide}
use Rattle.sd_top.specs.Output.{AppendsFront}

-- the text is written whole, or a front of it, where the sink failed
abbrev pub WrittenUnless : SinkSide → List ℕ → SinkSide → Type 0
WrittenUnless sink text sink' =
    Appends sink.written text sink'.written
    ⊎ (Rises sink.faults sink'.faults × AppendsFront sink.written text sink'.written)

-- what is written where a device failed in the opening
abbrev pub device_text : List ℕ
device_text = line_of (codes "device" ∷ [])

-- what becomes of a report
abbrev pub Delivers : Status → SinkSide → List ℕ → SinkSide → Type 0
Delivers status.Done sink text sink' = Appends sink.written text sink'.written
Delivers status.WriteFault sink text sink' =
    Rises sink.faults sink'.faults × AppendsFront sink.written text sink'.written
Delivers status.NoMemory sink text sink' = sink'.written ≡ sink.written
Delivers s sink text sink' = ⊥

-- a bad line is told
abbrev pub TellsBad : Status → ℕ → LineError → SinkSide → SinkSide → Type 0
TellsBad status.BadLine line cause sink sink' = WrittenUnless sink (bad_text line cause) sink'
TellsBad status.NoMemory line cause sink sink' = sink'.written ≡ sink.written
TellsBad s line cause sink sink' = ⊥

-- that the devices aren't sound is told, where there is memory for it
abbrev pub TellsDamaged : Status → ℕ → ℕ → SinkSide → SinkSide → Type 0
TellsDamaged status.Damaged dev at sink sink' = WrittenUnless sink (damaged_text dev at) sink'
TellsDamaged status.NoMemory dev at sink sink' = sink'.written ≡ sink.written
TellsDamaged s dev at sink sink' = ⊥

-- the opening ended for this: devices that aren't sound are told, and one that failed
abbrev pub TellsUnopened : Refusal → Status → SinkSide → SinkSide → Type 0
TellsUnopened R.Failed s sink sink' = (s ≡ status.Device) × WrittenUnless sink device_text sink'
TellsUnopened (R.Damaged dev at) s sink sink' = TellsDamaged s dev at sink sink'
TellsUnopened n s sink sink' = (s ≡ status.NoMemory) × (sink'.written ≡ sink.written)
