-- Where the run of a script starts: what its first line gives, and what the reading of the devices finds.
use Rattle.std.specs.Prelude.{◌≡◌, ◌⊎◌, ℕ, false, List, [], ◌∷◌}
use Rattle.sd_base.specs.declared.ids.Rid.{Rid}
use Rattle.sd_rig.specs.Devices.{DeviceImages, Leaves, Span}
use Rattle.sd_chain.specs.Checks.{DevicesAreSound}
use Rattle.sd_recovered.specs.Devices.{IsRecovered}
use Rattle.sd_restart.specs.Devices.{Calms}
use Rattle.sd_model.specs.declared.event.Entry.{Entry}
use Rattle.sd_script.specs.declared.line.Form.{Form}
use Rattle.sd_script.specs.declared.line.Form.TheVariants.{Complex}
use Rattle.sd_script.specs.declared.line.Line.{Line}
use Rattle.sd_script.specs.Order.{insts_of, pages_of}
use Rattle.sd_world.specs.Serving.{Telling}
use Rattle.sd_fits.specs.Opened.{opening_core}
use Rattle.sd_drive.specs.Driving.{World}
use Rattle.sd_drive.specs.Rising.{before}
use Rattle.sd_drive.specs.Running.{Led, StandsOnWay, Start}

-- the frames of each pool
abbrev pub frames_in : Form → ℕ
frames_in (Complex insts pages frames) = frames
frames_in _ = 0

abbrev pub frames_of : List Line → ℕ
frames_of [] = 0
frames_of (line ∷ lines) = frames_in line.form

-- the world in which a script begins on devices that read so: that of which they tell, with the lines to come
abbrev pub opening_world : List Line → DeviceImages → World
opening_world lines devices = before (insts_of lines) (pages_of lines) lines (opening_core (frames_of lines) devices)

-- the start of a script's run on devices that read so, which are `now` behind their reading, and stand for this table
abbrev pub opening : {G : Type 0} → List Line → DeviceImages → G → List (Rid × List ℕ) → Start G
opening lines devices now table = record { world = opening_world lines devices; rig = now; table = table; opened = false }

-- The devices were synced and read: they read as before, and a crash leaves nothing that it might not have left before.
abbrev pub AreRead : {G : Type 0} → Telling G → G → G → Type 0
AreRead tell rig now =
    Calms (tell.seen rig) (tell.seen now) (tell.leaves rig) (tell.leaves now) (tell.moment rig) (tell.moment now) (tell.since rig) (tell.since now)

-- The devices were read without a fault. They are sound, and stand for this table.
pub record Opens {G : Type 0} (tell : Telling G) (rig now : G) (table : List (Rid × List ℕ)) : Type 0 where
  pub read : AreRead tell rig now
  pub quiet : tell.faults now ≡ tell.faults rig
  pub sound : DevicesAreSound (tell.seen rig)
  pub recovered : IsRecovered (tell.seen rig) table

-- a crash may have left this image before the reading, or it stands for the state of a world on the way
abbrev pub LeftOnWay : {G : Type 0} → Telling G → G → World → List Entry → World → DeviceImages → Type 0
LeftOnWay tell rig start entries last img = Leaves (tell.leaves rig) img ⊎ StandsOnWay start entries last img

-- The devices were read, and from the world that they tell the entries lead to the last one, for which the devices stand that come
-- back. At any moment since the reading began a crash may have left only what it might have left before, or what stands for the
-- state of a world on the way.
pub record LedFrom {G : Type 0} (tell : Telling G) (lines : List Line) (rig rig' : G) (table : List (Rid × List ℕ)) (entries : List Entry)
    (last : World) : Type 0 where
  pub now : G
  pub opens : Opens tell rig now table
  pub led : Led tell (opening lines (tell.seen rig) now table) rig' entries last
  pub moments : Span (tell.moment rig) (tell.since rig') (LeftOnWay tell rig (opening_world lines (tell.seen rig)) entries last)
