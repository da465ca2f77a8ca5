-- What becomes of a page in a pool when pools are emptied, by how its instance stands and where the page is.
use Rattle.std.specs.Prelude.{ℕ, cond, ◌&&◌, ◌||◌, not}
use Rattle.sd_base.specs.declared.place.Status.{Status}
use Rattle.sd_pagelock.specs.Places.{PageEntry, changed, holds}
use Rattle.sd_world.specs.Pages.{is_duty}
use Rattle.sd_drive.specs.declared.emptying.Going.{Going}
use Rattle.sd_drive.specs.declared.emptying.Going.TheVariants as goings
use Rattle.sd_base.specs.Standing.{is_up}

-- it stays at an instance that is up; else what is changed and i's to write is written before it goes
abbrev pub going_as : Status → PageEntry → ℕ → Going
going_as status place i = cond {A = Going} (is_up status || not (holds place i)) goings.Stays
    (cond {A = Going} (changed place && is_duty i place) goings.IsWritten goings.Goes)
