-- The ordinals that are known of names.
use Rattle.std.specs.Prelude.{ℕ, List, Option}
use Rattle.sd_script.specs.declared.names.Names.{Names}
use Rattle.sd_script.specs.Ordinals.{ordinal_at}
use Rattle.sd_script.specs.Packed.{packed_of}

-- the ordinal of a name
abbrev pub known : Names → List ℕ → Option ℕ
known names name = ordinal_at names.rising.items names.others (packed_of name)
