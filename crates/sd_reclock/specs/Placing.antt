-- Rows in place, one a record, in front of those that an index serves.
use Rattle.std.specs.Prelude.{◌≡◌, ℕ, ◌<◌, ◌≤◌, length, slice_index_or, Option, None, Some, [], ◌∷◌, IsSome}
use Rattle.std.specs.Map.{lookup}
use Rattle.sd_base.specs.declared.ids.TxnId.{TxnId}
use Rattle.sd_base.specs.declared.ids.Rid.{Rid}
use Rattle.sd_base.specs.Ids.{same_rid}
use Rattle.sd_reclock.specs.Locks.{Held, Modes, held_in, mode_of}

-- this is the place of the record's row, or it has none
abbrev pub IsPlace : Held → Rid → Option ℕ → Type 0
IsPlace rows r None = lookup (same_rid r) rows ≡ None
IsPlace rows r (Some at) = (at < length rows) × ((d : Rid × Modes) → (slice_index_or rows at d).0 ≡ r)

-- no record has two rows
abbrev pub IsOneEach : Held → Type 0
IsOneEach [] = Unit {0}
IsOneEach (row ∷ rows) = (lookup (same_rid row.0) rows ≡ None) × IsOneEach rows

-- nobody has a lock in the second on a record that has a row in the first
abbrev pub IsApartFrom : Held → Held → Type 0
IsApartFrom few many = (r : Rid) → IsSome (lookup (same_rid r) few) → (u : TxnId) → held_in many u r ≡ None

-- no record has a row that had none
abbrev pub AddsNone : Held → Held → Type 0
AddsNone old new = (r : Rid) → lookup (same_rid r) old ≡ None → lookup (same_rid r) new ≡ None

-- t has no lock in the rows from a place on
abbrev pub HasNone : TxnId → ℕ → Held → Type 0
HasNone t at rows = (k : ℕ) (d : Rid × Modes) → at ≤ k → k < length rows → mode_of (slice_index_or rows k d).1 t ≡ None
