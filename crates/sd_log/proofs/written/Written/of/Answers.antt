use Rattle.std.proofs.Common.{◌≡◌, ◌≤◌, [], List, length, map, sym, ap, ◌∙◌, subst, arith}
use Rattle.std.proofs.lemmas.List.{length-map, take_all}
use Rattle.sd_logrec.specs.declared.record.Record.{Record}
use Rattle.sd_logrec.specs.Kept.{Records, spelled}
use Rattle.sd_log.specs.declared.placed.Placed.{Placed}
use Rattle.sd_log.specs.Logs.{AreSpelled, placed_groups}
use Rattle.sd_log.specs.Marks.{MarksState, entry}
use Rattle.sd_log.specs.Parts.{IsParted, groups_of, items_of, record_of, tail_of}
use Rattle.sd_log.specs.Spellings.{record_in}
use Rattle.sd_log.proofs.WrittenItems.{all_are_forced, all_in_groups, read_items, records_of-entries}
use Rattle.sd_log.proofs.written.Written.of.Goals as goal
use Rattle.sd_log.proofs.written.Written.of.Goals.{After-deref, In_ok-records}

none_left : (c : After-deref) → tail_of c.into_parts-marks.result.0 c.into_parts-marks.result.1.items ≡ []
none_left c = c.into_parts-marks.ensures.tail ∙ c.requires.none

all_placed : (c : After-deref) → c.into_parts-marks.result.1.items ≡ placed_groups c.args.read.groups
all_placed c =
    all_in_groups c.into_parts-marks.result.0 c.into_parts-marks.result.1.items c.into_parts-marks.ensures.parted (none_left c)
    ∙ ap placed_groups c.into_parts-marks.ensures.groups

pub of-requires-clause-spelled : goal.of-requires-clause-spelled
of-requires-clause-spelled c = subst AreSpelled (sym (c.deref.ensures.value ∙ all_placed c)) c.requires.spelled

pub of-requires-clause-text : goal.of-requires-clause-text
of-requires-clause-text c = c.requires.text ∙ sym (ap (λ (ps : List Placed). spelled (map record_of ps)) (c.deref.ensures.value ∙ all_placed c))

pub of-requires-clause-small : goal.of-requires-clause-small
of-requires-clause-small c = omega (arith, ap length c.requires.text, c.requires.within, c.requires.gate)

items_are : (c : In_ok-records) → items_of c.into_parts-marks.result.0.forced c.in_ok-records.records.entries ≡ c.into_parts-marks.result.1.items
items_are c =
    read_items c.into_parts-marks.result.0 c.into_parts-marks.result.1.items c.into_parts-marks.ensures.parted (c.into_parts-marks.ensures.tail ∙ c.requires.none)
    c.in_ok-records.records.entries (c.in_ok-records.ensures ∙ ap (map entry) c.deref.ensures.value)

pub invariant_of-result : goal.invariant_of-result
invariant_of-result c =
    let m : MarksState = c.into_parts-marks.result.0 in
    let ps : List Placed = c.into_parts-marks.result.1.items in
    let h = c.into_parts-marks.ensures.parted in
    let none = c.into_parts-marks.ensures.tail ∙ c.requires.none in
    let es : Records = c.in_ok-records.records.entries in
    let are : es ≡ map entry ps = c.in_ok-records.ensures ∙ ap (map entry) c.deref.ensures.value in
    let all = all_are_forced m ps h none in
    let len : length es ≡ length ps = ap length are ∙ length-map ps entry in
    let text = ap (λ (l : Records). length (spelled (map record_in l))) are ∙ ap (λ (l : List Record). length (spelled l)) (records_of-entries ps)
    ∙ ap (λ (l : List Placed). length (spelled (map record_of l))) (all_in_groups m ps h none ∙ ap placed_groups c.into_parts-marks.ensures.groups) in
    record {
      forced_there = omega arith;
      parted = subst (λ (l : List Placed). IsParted m l) (sym (items_are c)) h;
      gate_small = omega (arith, c.into_parts-marks.ensures.gate, c.requires.gate);
      forced_text = subst (λ (l : Records). length (spelled (map record_in l)) ≤ m.gate) (sym (take_all m.forced es (omega arith)))
          (omega (arith, text, c.into_parts-marks.ensures.gate, c.into_parts-marks.ensures.start, c.requires.within));
      room_there = omega arith;
      marks_room = omega arith;
      next_mark = λ less. absurd (omega arith);
    }

pub returns-clause-groups : goal.returns-clause-groups
returns-clause-groups c =
    let m : MarksState = c.into_parts-marks.result.0 in
    ap (groups_of m) (read_items m c.into_parts-marks.result.1.items c.into_parts-marks.ensures.parted (c.into_parts-marks.ensures.tail ∙ c.requires.none)
    c.in_ok-records.records.entries (c.in_ok-records.ensures ∙ ap (map entry) c.deref.ensures.value))
    ∙ c.into_parts-marks.ensures.groups

pub returns-clause-tail : goal.returns-clause-tail
returns-clause-tail c =
    let m : MarksState = c.into_parts-marks.result.0 in
    ap (tail_of m) (read_items m c.into_parts-marks.result.1.items c.into_parts-marks.ensures.parted (c.into_parts-marks.ensures.tail ∙ c.requires.none)
    c.in_ok-records.records.entries (c.in_ok-records.ensures ∙ ap (map entry) c.deref.ensures.value))
    ∙ c.into_parts-marks.ensures.tail ∙ c.requires.none
