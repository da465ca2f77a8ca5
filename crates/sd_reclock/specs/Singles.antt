-- A row with a single lock.
use Rattle.std.specs.Prelude.{◌≡◌, ◌<◌, length, slice_index_or, ◌∷◌, [], Some}
use Rattle.std.specs.Map.{lookup}
use Rattle.sd_base.specs.declared.ids.Rid.{Rid}
use Rattle.sd_base.specs.Ids.{same_rid}
use Rattle.sd_reclock.specs.declared.few.Single.{Single}
use Rattle.sd_reclock.specs.Locks.{Held, Modes}

-- the row of the record stands at this place, and has this lock alone
pub record IsSingle (rows : Held) (s : Single) : Type 0 where
  pub inside : s.at < length rows
  pub place : (d : Rid × Modes) → (slice_index_or rows s.at d).0 ≡ s.rid
  pub row : lookup (same_rid s.rid) rows ≡ Some ((s.txn, s.mode) ∷ [])
