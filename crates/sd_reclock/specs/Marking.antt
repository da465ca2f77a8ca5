-- Marks of pages: on the records of a page that has none nobody has a lock.
use Rattle.std.specs.Prelude.{◌≡◌, Bool, false, List, None, slice_index_or}
use Rattle.sd_base.specs.declared.ids.TxnId.{TxnId}
use Rattle.sd_base.specs.declared.ids.Rid.{Rid}
use Rattle.sd_reclock.specs.Locks.{Held, held_in}

abbrev pub AreMarked : Held → List Bool → Type 0
AreMarked locks pages = (r : Rid) (u : TxnId) → slice_index_or pages r.page false ≡ false → held_in locks u r ≡ None
