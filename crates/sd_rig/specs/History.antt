-- What was done to the devices in memory, from which the images since a moment are told.
use Rattle.std.specs.Prelude.{ℕ, Bool, List, slice_index, ◌==◌, if◌then◌else◌}
use Rattle.sd_base.specs.declared.trouble.Pick.{Pick}
use Rattle.sd_base.specs.declared.trouble.Pick.TheVariants.{Keep, Lose, Tear, Junk}

-- A call that changed the devices; ok tells a write or a sync that didn't fail.
pub data Event : Type 0 where
  Wrote : (dev : ℕ) (at : ℕ) (bytes : List ℕ) (ok : Bool) → Event
  Synced : (dev : ℕ) (ok : Bool) → Event
  Crashed : (pick : Pick) → Event
  Poked : (dev : ℕ) (at : ℕ) (byte : ℕ) → Event

-- ---- an event as the record is given it: numbers, of which the first tells its kind, and bytes

-- the pick of a number
abbrev pub pick_of : ℕ → Pick
pick_of n = if n == 0 then Keep else (if n == 1 then Lose else (if n == 2 then Tear else Junk))

abbrev pub event_of : List ℕ → List ℕ → Event
event_of numbers bytes =
    if slice_index numbers 0 == 0 then Wrote (slice_index numbers 1) (slice_index numbers 2) bytes (slice_index numbers 3 == 1)
    else (if slice_index numbers 0 == 1 then Synced (slice_index numbers 1) (slice_index numbers 2 == 1)
    else (if slice_index numbers 0 == 2 then Crashed (pick_of (slice_index numbers 1))
    else Poked (slice_index numbers 1) (slice_index numbers 2) (slice_index numbers 3)))
