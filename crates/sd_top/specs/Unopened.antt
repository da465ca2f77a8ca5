-- A hall before the opening, its driver behind it, and what the lines leave.
use Rattle.std.specs.Prelude.{◌≡◌, true, List, [], OnOk}
use Rattle.sd_script.specs.declared.line.Line.{Line}
use Rattle.sd_script.specs.Order.{insts_of, pages_of}
use Rattle.sd_world.specs.Serving.{Telling}
use Rattle.sd_fits.specs.Opened.{opening_core}
use Rattle.sd_hall.specs.Bodies.{IsRigIn}
use Rattle.sd_hall.specs.Keeping.{Keeps}
use Rattle.sd_drive.specs.declared.opening.Rise.{Rise}
use Rattle.sd_drive.specs.declared.driver.Driver.{Driver}
use Rattle.sd_drive.specs.Driving.{AreLines, IsTold, World}
use Rattle.sd_drive.specs.Running.{told_as}
use Rattle.sd_drive.specs.Reaching.{Reached}
use Rattle.sd_top.specs.declared.replaying.Ended.{Ended}
use Rattle.sd_top.specs.Opening.{LedFrom, Opens, frames_of, opening}

-- Nothing has happened in its hall, which was opened from the devices `rig` as the first line wants it, and has them as they are now.
pub record IsUnopened {G : Type 0} (tell : Telling G) (lines : List Line) (rig : G) (rise : Rise G) : Type 0 where
  pub now : G
  pub has : IsRigIn now rise.hall.body
  pub opens : Opens tell rig now rise.hall.book.opening
  pub keeps : Keeps tell (opening_core (frames_of lines) (tell.seen rig)) rise.hall
  pub entries : rise.hall.book.entries ≡ []
  pub insts : rise.insts ≡ insts_of lines
  pub pages : rise.pages ≡ pages_of lines

-- The opening is done: it has led to this world, and the lines are to come.
pub record IsOpened {G : Type 0} (tell : Telling G) (lines : List Line) (rig : G) (driver : Driver G) (w : World) : Type 0 where
  pub now : G
  pub opens : Opens tell rig now driver.hall.book.opening
  pub reached : Reached tell (told_as (opening lines (tell.seen rig) now driver.hall.book.opening) true) lines 0 driver w

-- The lines were done, or as much of them as there was memory for: from the world that the devices told the entries lead to a last one,
-- for which the devices stand that come back, and in which no opening is left. Where there was memory for all, each line has its reply.
pub record IsEnded {G : Type 0} (tell : Telling G) (lines : List Line) (rig : G) (ended : Ended G) : Type 0 where
  pub last : World
  pub led : LedFrom tell lines rig ended.rig ended.book.opening ended.book.entries last
  pub told : OnOk ended.done (IsTold last.core.scene.state last.told)
  pub lines_alone : AreLines last.told.left
