-- Where the bytes of a value, a name or a mark are kept. No public clause cites this module.
use Rattle.std.specs.Prelude.{ℕ, ◌≤◌, List, take}
use Rattle.sd_base.specs.declared.bytes.Held.{Held}
use Rattle.sd_base.specs.declared.bytes.Held.TheVariants.{Few, Many}

-- the bytes
abbrev pub held_bytes : Held → List ℕ
held_bytes (Few count array) = take count array
held_bytes (Many bytes) = bytes.value.items

-- no more stand in place than have a place
abbrev pub IsHeld : Held → Type 0
IsHeld (Few count array) = count ≤ 14
IsHeld (Many bytes) = Unit {0}
