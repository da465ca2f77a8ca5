-- What an answer says of two slots: which counts, and its body. The definition of the slot that counts is sd_base's.
use Rattle.std.specs.Prelude.{ℕ, ◌+◌, ◌*◌, List, Option}
use Rattle.sd_base.specs.Twin.{Slot, Neither, First, Second, Same, body_at, body_of}
use Rattle.sd_rig.specs.declared.slots.Chosen.{Chosen}
use Rattle.sd_rig.specs.declared.slots.Chosen.TheVariants as C

-- the slot that an answer names
abbrev pub slot : Chosen → Slot
slot C.Neither = Neither
slot (C.First other) = First other
slot (C.Second other) = Second other
slot C.Same = Same

-- the body that an answer names, in both slots as they are read
abbrev pub named_body : Chosen → ℕ → List ℕ → Option (List ℕ)
named_body c n slots = body_of (slot c) (body_at n 0 slots) (body_at n (n + 1) slots)

-- the length of two slots with bodies of n bytes
abbrev pub slots_len : ℕ → ℕ
slots_len n = 2 * (n + 1)
