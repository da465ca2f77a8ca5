-- Where a page is, as the report writes it.
use Rattle.std.specs.Prelude.{ℕ, Bool, true, false, List, [], ◌∷◌, ◌++◌, Option, None, Some, codes}
use Rattle.std.specs.List.{flat_map}
use Rattle.std.specs.Fmt.{decimal}
use Rattle.sd_base.specs.Sets.{members}
use Rattle.sd_base.specs.declared.place.Place.{Place}
use Rattle.sd_base.specs.declared.place.Place.TheVariants as place

-- instances, with a comma between each two
abbrev pub insts_text : List ℕ → List ℕ
insts_text [] = []
insts_text (inst ∷ insts) = decimal inst ++ flat_map (λ other. 44 ∷ decimal other) insts

-- the LSN of a page's newest version
abbrev pub lsn_text : ℕ → List ℕ
lsn_text lsn = codes " lsn " ++ decimal lsn

-- whether that is newer than the page's disk image
abbrev pub dirty_text : Bool → List ℕ
dirty_text true = codes " dirty"
dirty_text false = codes " clean"

-- the same of a page that is shared, by the instance whose duty the page write is
abbrev pub writer_text : Option ℕ → List ℕ
writer_text None = codes " clean"
writer_text (Some writer) = codes " dirty by " ++ decimal writer

-- a place, with the LSN of the page's newest version
abbrev pub place_text : Place → ℕ → List ℕ
place_text place.Free lsn = codes "free"
place_text (place.Shared set writer) lsn = codes "shared " ++ insts_text (members set.bits) ++ lsn_text lsn ++ writer_text writer
place_text (place.Excl holder dirty) lsn = codes "excl " ++ decimal holder ++ lsn_text lsn ++ dirty_text dirty
place_text (place.Moving to mode rest dirty) lsn = codes "moving " ++ decimal to ++ lsn_text lsn ++ dirty_text dirty
place_text place.Lost lsn = codes "lost"
