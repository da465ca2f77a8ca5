-- A table: what each record has.
use Rattle.std.specs.Prelude.{ℕ, List, Option}
use Rattle.std.specs.Map.{lookup}
use Rattle.sd_base.specs.declared.ids.Rid.{Rid}
use Rattle.sd_base.specs.Ids.{same_rid}

-- what a record has: bytes, or nothing where it is absent
abbrev pub Content : Type 0
Content = Option (List ℕ)

abbrev pub Contents : Type 0
Contents = Rid → Content

-- what each record has in a list of records
abbrev pub contents : List (Rid × List ℕ) → Contents
contents rows r = lookup (same_rid r) rows
