use Rattle.std.proofs.Common.{◌≡◌, ◌+◌, ◌≤◌, ◌∙◌, ◌++◌, List, length, map, take, drop, sym, ap, subst, arith, length-drop}
use Rattle.std.proofs.lemmas.List.{drop-take, length-map, length-take-le}
use Rattle.sd_logrec.specs.Kept.{Group, Records, spelled}
use Rattle.sd_log.specs.Logs.{boundary}
use Rattle.sd_log.specs.declared.placed.Placed.{Placed}
use Rattle.sd_log.specs.Marks.{MarksState}
use Rattle.sd_log.specs.Parts.{IsParted, groups_of, items_of, tail_of}
use Rattle.sd_log.specs.Spellings.{record_in}
use Rattle.sd_log.specs.WrittenStates.{WrittenState}
use Rattle.sd_log.proofs.Forgetting.{Forgets, forgot_groups, forgot_parted, forgot_tail, gone_count, items_forgot}
use Rattle.sd_log.proofs.Tails.{least_bytes}
use Rattle.sd_log.proofs.WrittenItems.{text_parts}
use Rattle.sd_log.proofs.written.Written.forget.Goals as goal
use Rattle.sd_log.proofs.written.Written.forget.Goals.{After-forget}

pub forget-count-requires-clause-few : goal.forget-count-requires-clause-few
forget-count-requires-clause-few c =
    let w = c.self.inside in
    let h = c.self.invariant in
    let front : Records = take w.marks.forced w.records.entries in
    let text = h.forced_text in
    let small = h.gate_small in
    omega (arith, length-take-le w.marks.forced w.records.entries h.forced_there, length-map front record_in, least_bytes (map record_in front))

-- the records as they were
abbrev items : After-forget → List Placed
items c = items_of c.self.inside.marks.forced c.self.inside.records.entries

forgets : (c : After-forget) → Forgets c.args.place c.forget-count.result c.self.inside.marks c.forget-count.new.self
forgets c = record {
  count_is = c.forget-count.ensures.count;
  start_is = c.forget-count.ensures.start;
  gate_is = c.forget-count.ensures.gate;
  marks_is = c.forget-count.ensures.marks;
  forced_is = c.forget-count.ensures.forced;
}

parts : (c : After-forget) → groups_of c.self.inside.marks (items c) ≡ c.requires.boundary.0 ++ c.requires.boundary.1
parts c = ap (λ (s : WrittenState). s.groups) c.self.view_is ∙ c.requires.boundary.2

here : (c : After-forget) → c.args.place ≡ boundary c.requires.boundary.1 c.self.inside.marks.gate
here c = c.requires.boundary.3 ∙ sym (ap (λ (s : WrittenState). boundary c.requires.boundary.1 s.gate) c.self.view_is)

items_are : (c : After-forget) → items_of c.forget-count.new.self.forced c.forget.new.self.entries ≡ drop c.forget-count.result (items c)
items_are c =
    let w = c.self.inside in
    ap (items_of c.forget-count.new.self.forced) c.forget.ensures.entries
    ∙ items_forgot w.marks.forced c.forget-count.result c.forget-count.new.self.forced w.records.entries c.forget-count.ensures.forced c.self.invariant.forced_there

pub invariant_of-self : goal.invariant_of-self
invariant_of-self c =
    let w = c.self.inside in
    let h = c.self.invariant in
    let n : MarksState = c.forget-count.new.self in
    let count = c.forget-count.result in
    let es : Records = w.records.entries in
    let forced = c.forget-count.ensures.forced in
    let there = h.forced_there in
    let small = h.gate_small in
    let text = h.forced_text in
    let len = ap length c.forget.ensures.entries in
    let sum : count + n.forced ≡ w.marks.forced = omega arith in
    let left : take n.forced c.forget.new.self.entries ≡ drop count (take w.marks.forced es) =
    ap (take n.forced) c.forget.ensures.entries ∙ sym (drop-take count n.forced es) ∙ ap (λ k. drop count (take k es)) sum in
    let room_there = h.room_there in
    let marks_room = h.marks_room in
    let room = c.forget.ensures.room in
    let marks = c.forget-count.ensures.room in
    record {
      forced_there = omega (arith, len, length-drop count es);
      parted = subst (λ (l : List Placed). IsParted n l) (sym (items_are c))
          (forgot_parted w.marks n (items c) c.args.place count c.requires.boundary.0 c.requires.boundary.1 h.parted (forgets c) (parts c) (here c));
      gate_small = omega (arith, c.forget-count.ensures.gate);
      forced_text = omega (arith, c.forget-count.ensures.gate, text_parts count (take w.marks.forced es), ap (λ (l : Records). length (spelled (map record_in l))) left);
      room_there = omega arith;
      marks_room = omega arith;
      next_mark = λ more. let next = h.next_mark (omega (arith, len, length-drop count es)) in omega arith;
    }

pub returns : goal.returns
returns c =
    let w = c.self.inside in
    let h = c.self.invariant in
    let n : MarksState = c.forget-count.new.self in
    let before : List Group = c.requires.boundary.0 in
    let behind : List Group = c.requires.boundary.1 in
    let groups : groups_of n (items_of n.forced c.forget.new.self.entries) ≡ behind =
    ap (groups_of n) (items_are c) ∙ forgot_groups w.marks n (items c) c.args.place c.forget-count.result before behind h.parted (forgets c) (parts c) (here c) in
    record {
      before = before;
      parts = c.requires.boundary.2 ∙ ap (λ (gs : List Group). before ++ gs) (sym groups);
      place_is = c.requires.boundary.3 ∙ ap (λ (gs : List Group). boundary gs c.args.self.now.gate) (sym groups);
      count_is = gone_count w.marks n (items c) c.args.place c.forget-count.result before behind h.parted (forgets c) (parts c) (here c);
      start = c.forget-count.ensures.start;
      gate = c.forget-count.ensures.gate ∙ ap (λ (s : WrittenState). s.gate) c.self.view_is;
      tail = ap (tail_of n) (items_are c) ∙ forgot_tail w.marks n (items c) c.args.place c.forget-count.result before behind h.parted (forgets c) (parts c) (here c)
          ∙ ap (λ (s : WrittenState). s.tail) c.self.view_is ∙ c.requires.bare;
      text = subst (λ (s : WrittenState). s.text ≤ c.forget.new.self.text) c.self.view_is c.forget.ensures.text;
      room = subst (λ (s : WrittenState). s.room ≤ w.room) c.self.view_is (omega arith);
    }
