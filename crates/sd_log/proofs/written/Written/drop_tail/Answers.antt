use Rattle.std.proofs.Common.{◌≡◌, ◌≤◌, List, length, map, take, sym, ap, ◌∙◌, subst, arith}
use Rattle.std.proofs.lemmas.List.{length-take-le, take_all}
use Rattle.sd_logrec.specs.declared.record.Record.{Record}
use Rattle.sd_logrec.specs.Kept.{Group, Records, spelled}
use Rattle.sd_log.specs.declared.placed.Placed.{Placed}
use Rattle.sd_log.specs.Parts.{IsParted, groups_of, items_of, tail_of}
use Rattle.sd_log.specs.Spellings.{record_in}
use Rattle.sd_log.specs.WrittenStates.{WrittenState, dropped}
use Rattle.sd_log.proofs.Items.{items_front}
use Rattle.sd_log.proofs.Journaling.{dropped_groups, dropped_parted, dropped_tail}
use Rattle.sd_log.proofs.written.Written.drop_tail.Goals as goal
use Rattle.sd_log.proofs.written.Written.drop_tail.Goals.{After-truncate}

entries_are : (c : After-truncate) → c.truncate.new.self.entries ≡ take c.self.inside.marks.forced c.self.inside.records.entries
entries_are c = c.truncate.ensures.entries ∙ ap (λ n. take n c.self.inside.records.entries) c.forced.ensures

items_are : (c : After-truncate) → items_of c.self.inside.marks.forced c.truncate.new.self.entries ≡ take c.self.inside.marks.forced (items_of c.self.inside.marks.forced c.self.inside.records.entries)
items_are c = ap (items_of c.self.inside.marks.forced) (entries_are c) ∙ items_front c.self.inside.marks.forced c.self.inside.records.entries c.self.invariant.forced_there

pub invariant_of-self : goal.invariant_of-self
invariant_of-self c =
    let w = c.self.inside in
    let h = c.self.invariant in
    let n = w.marks.forced in
    let es = w.records.entries in
    let len = length-take-le n es h.forced_there in
    let there = h.room_there in
    let room = c.truncate.ensures.room in
    record {
      forced_there = omega (arith, ap length (entries_are c), len);
      parted = subst (λ (l : List Placed). IsParted w.marks l) (sym (items_are c)) (dropped_parted w.marks (items_of n es) h.parted);
      gate_small = h.gate_small;
      forced_text = subst (λ (l : Records). length (spelled (map record_in l)) ≤ w.marks.gate)
          (sym (ap (take n) (entries_are c) ∙ take_all n (take n es) (omega (arith, len)))) h.forced_text;
      room_there = omega arith;
      marks_room = h.marks_room;
      next_mark = λ more. absurd (omega (arith, ap length (entries_are c), len));
    }

pub returns-clause-rest : goal.returns-clause-rest
returns-clause-rest c =
    let w = c.self.inside in
    let h = c.self.invariant in
    let n = w.marks.forced in
    let items : List Placed = items_of n w.records.entries in
    let state : List Group → List Record → WrittenState = λ gs ts. record { start = w.marks.start; gate = w.marks.gate; groups = gs; tail = ts; text = c.truncate.new.self.text; room = w.room } in
    ap (λ (l : List Placed). state (groups_of w.marks l) (tail_of w.marks l)) (items_are c)
    ∙ ap (λ (gs : List Group). state gs (tail_of w.marks (take n items))) (dropped_groups w.marks items h.parted)
    ∙ ap (state (groups_of w.marks items)) (dropped_tail w.marks items h.parted)
    ∙ ap (dropped c.truncate.new.self.text w.room) c.self.view_is
