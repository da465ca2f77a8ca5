-- What contracts see of an area that was read.
use Rattle.std.specs.Prelude.{◌≡◌, ◌⊎◌, ℕ, ◌<◌, List}
use Rattle.sd_base.specs.declared.refusal.Refusal.{Refusal}
use Rattle.sd_base.specs.declared.refusal.Refusal.TheVariants as R
use Rattle.sd_logrec.specs.Kept.{BadGroup, NoRecord, Reading}
use Rattle.sd_log.specs.declared.area.Area.{Area}
use Rattle.sd_log.specs.declared.area.Area.TheVariants as areas
use Rattle.sd_log.specs.declared.placed.Placed.{Placed}
use Rattle.sd_log.specs.Logs.{LogState, scanned}

-- the log, where it is one
abbrev pub IfWhole : Area → (LogState → Type 0) → Type 0
IfWhole (areas.Whole log) P = P log
IfWhole (areas.Broken front fault) P = Unit {0}

-- what breaks the format, where something does
abbrev pub IfBroken : Area → (Refusal → Type 0) → Type 0
IfBroken (areas.Whole log) P = Unit {0}
IfBroken (areas.Broken front fault) P = P fault

-- the records that were read
abbrev pub read_of : Area → List Placed
read_of (areas.Whole log) = scanned log
read_of (areas.Broken front fault) = front.items

-- The refusal says what this reading says, of a place in the area.
abbrev pub Breaks : Reading → Refusal → Type 0
Breaks read e =
    ((place : ℕ) × (e ≡ R.BadLog place) × (read ≡ BadGroup place) × (place < 1048576))
    ⊎ ((place : ℕ) × (e ≡ R.BadRecord place) × (read ≡ NoRecord place) × (place < 1048576))

-- it tells this place
abbrev pub IsAt : Refusal → ℕ → Type 0
IsAt e place = (e ≡ R.BadLog place) ⊎ (e ≡ R.BadRecord place)
