use Rattle.std.proofs.Common.{◌≡◌, ◌+◌, ◌≤◌, length, map, take}
use Rattle.std.specs.Prelude.{vec_len, vec_capacity}
use Rattle.sd_logrec.specs.Kept.{spelled}
use Rattle.sd_log.specs.Marks.{entry}
use Rattle.sd_log.specs.Parts.{record_of}
use Rattle.sd_log.specs.SpellingsInside.{AreSlots, at_slots}
use Rattle.sd_log.proofs.spellings.slots_of.Given as goal

abbrev pub invariant-loop-p : goal.invariant-loop-p
invariant-loop-p l =
    AreSlots 0 l.slots.items (map record_of (take l.p-index l.placed))
    × (at_slots l.slots.items (map record_of (take l.p-index l.placed)) ≡ map entry (take l.p-index l.placed))
    × (l.at ≡ length (spelled (map record_of (take l.p-index l.placed))))
    × (vec_len l.slots + length l.placed ≤ vec_capacity l.slots + l.p-index)
