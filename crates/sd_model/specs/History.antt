-- What a book has: the opening table, the entries since, and the number of entries that it has room for.
use Rattle.std.specs.Prelude.{ℕ, List}
use Rattle.sd_base.specs.declared.ids.Rid.{Rid}
use Rattle.sd_model.specs.declared.event.Entry.{Entry}

pub record History : Type 0 where
  pub opening : List (Rid × List ℕ)
  pub entries : List Entry
  pub spare : ℕ
