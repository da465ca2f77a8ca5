use Rattle.std.proofs.Common.{◌∙◌, ◌+◌, List, take, refl, sym, ap, subst, arith}
use Rattle.std.specs.Prelude.{map}
use Rattle.sd_log.specs.Parts.{record_of}
use Rattle.sd_log.specs.SpellingsInside.{AreSlots, at_slots}
use Rattle.sd_log.specs.declared.placed.Placed.{Placed}
use Rattle.sd_log.specs.declared.spellings.Slot.{Slot}
use Rattle.sd_log.proofs.Spelling.{entries_next, front_text, slots_next, text_next}
use Rattle.sd_log.proofs.spellings.slots_of.Goals as goal

pub overflow_cast-at : goal.overflow_cast-at
overflow_cast-at c =
    let small = c.requires.small in
    omega (arith, c.loop-p.invariant.2, front_text c.args.placed.now c.loop-p.p-index)

pub overflow_add-at : goal.overflow_add-at
overflow_add-at c =
    let ps = c.args.placed.now in
    let small = c.requires.small in
    let text = text_next ps c.loop-p.p-index c.loop-p.at c.loop-p.slots.items c.p-item.result (record { lsn = 0; place = 0; at = 0 }) c.loop-p-test.true c.p-item.is c.loop-p.invariant.2 in
    omega (arith, text, c.len-at.ensures, front_text ps (c.loop-p.p-index + 1))

pub loop-p-preserved : goal.loop-p-preserved
loop-p-preserved c =
    let ps = c.args.placed.now in
    let i = c.loop-p.p-index in
    let p : Placed = c.p-item.result in
    let s : Slot = record { lsn = c.lsn.result; place = p.place; at = c.loop-p.at } in
    let inv = c.loop-p.invariant in
    let lt = c.loop-p-test.true in
    let are = slots_next ps i c.loop-p.at c.loop-p.slots.items p s lt c.p-item.is inv.0 inv.2 refl c.lsn.ensures in
    let same = entries_next ps i c.loop-p.at c.loop-p.slots.items p s lt c.p-item.is inv.0 inv.1 refl in
    let text = text_next ps i c.loop-p.at c.loop-p.slots.items p s lt c.p-item.is inv.2 in
    let room = inv.3 in (
      subst (λ (ss : List Slot). AreSlots 0 ss (map record_of (take (i + 1) ps))) (sym c.push_reserved.ensures.items) are,
      ap (λ (ss : List Slot). at_slots ss (map record_of (take (i + 1) ps))) c.push_reserved.ensures.items ∙ same,
      ap (λ n. c.loop-p.at + n) c.len-at.ensures ∙ text,
      omega (arith, c.push_reserved.ensures.len, c.push_reserved.ensures.capacity),
    )
