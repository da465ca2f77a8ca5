-- The locks on one record where one of them stands in place, apart from the others.
use Rattle.std.specs.Prelude.{◌≡◌, ◌∷◌, Option, None, Some}
use Rattle.sd_base.specs.declared.ids.TxnId.{TxnId}
use Rattle.sd_base.specs.declared.place.Mode.{Mode}
use Rattle.sd_reclock.specs.Locks.{Modes, mode_of}

-- one lock, where there is one, in front of the others
abbrev pub with_first : Option (TxnId × Mode) → Modes → Modes
with_first None others = others
with_first (Some row) others = row ∷ others

-- t's lock in the mode, or none
abbrev pub first_of : TxnId → Option Mode → Option (TxnId × Mode)
first_of t None = None
first_of t (Some mode) = Some (t, mode)

-- the transaction of the first lock has none among the others
abbrev pub IsApart : Option (TxnId × Mode) → Modes → Type 0
IsApart first others = (t : TxnId) (mode : Mode) → first ≡ Some (t, mode) → mode_of others t ≡ None
