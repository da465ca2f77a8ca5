use Rattle.std.proofs.Common.{◌≡◌, ℕ, ◌+◌, ◌-◌, ◌<◌, ◌++◌, ◌∷◌, [], ap, ◌∙◌, sym, subst, arith, List, drop, take, length, length-drop}
use Rattle.std.specs.Prelude.{map}
use Rattle.std.proofs.lemmas.List.{take_all}
use Rattle.sd_logrec.specs.declared.record.Record.{Record}
use Rattle.sd_logrec.specs.Kept.{Group, placed_from}
use Rattle.sd_log.specs.declared.marks.Mark.{Mark}
use Rattle.sd_log.specs.declared.placed.Placed.{Placed}
use Rattle.sd_log.specs.JournalStates.{JournalState, settled}
use Rattle.sd_log.specs.Parts.{IsParted, groups_of, tail_of}
use Rattle.sd_log.specs.Marks.{MarksState, as_forced, greatest_lsn}
use Rattle.sd_log.proofs.Journaling.{Closes, all_forced, closed_groups, closed_parted, closed_tail, forced_all, more_placed}
use Rattle.sd_log.proofs.journal.Journal.close_group.Goals as goal

some_more : (c : goal.After-close) → c.self.inside.marks.forced < length c.self.inside.placed.items
some_more c = more_placed c.self.inside.marks c.self.inside.placed.items (λ none. c.requires.tail (sym (ap (λ (s : JournalState). s.tail) c.self.view_is) ∙ none))

count_is : (c : goal.After-close) → c.len.result - c.forced-from.result ≡ length c.self.inside.placed.items - c.self.inside.marks.forced
count_is c = omega (arith, c.len.ensures, c.forced-from.ensures, c.self.inside.placed.ok.0)

greatest_is : (c : goal.After-close) → c.greatest_lsn-greatest.result ≡ greatest_lsn (drop c.self.inside.marks.forced c.self.inside.placed.items)
greatest_is c =
    let from = c.forced-from.result in
    let rest = take_all (length c.deref.result.now - from) (drop from c.deref.result.now) (omega (arith, length-drop from c.deref.result.now)) in
    c.greatest_lsn-greatest.ensures ∙ ap greatest_lsn (rest ∙ ap (drop from) c.deref.ensures.value)
    ∙ ap (λ n. greatest_lsn (drop n c.self.inside.placed.items)) c.forced-from.ensures

items_are : (c : goal.After-close) → c.mark_forced.new.placed.items ≡ all_forced c.self.inside.marks c.self.inside.placed.items
items_are c = c.mark_forced.ensures.items ∙ ap (λ n. take n c.self.inside.placed.items ++ map as_forced (drop n c.self.inside.placed.items)) c.forced-from.ensures

closes : (c : goal.After-close) → Closes c.self.inside.marks c.close.new.self c.self.inside.placed.items c.args.len
closes c =
    let m : MarksState = c.self.inside.marks in
    let marks : ℕ → ℕ → List Mark = λ count greatest. m.marks ++ record { end = m.gate + 5 + c.args.len; count = count; high = greatest } ∷ [] in
    record {
      start_is = c.close.ensures.start;
      gate_is = c.close.ensures.gate;
      marks_is = c.close.ensures.marks ∙ ap (λ n. marks n c.greatest_lsn-greatest.result) (count_is c)
          ∙ ap (marks (length c.self.inside.placed.items - m.forced)) (greatest_is c);
      forced_is = c.close.ensures.forced ∙ ap (λ n. m.forced + n) (count_is c);
    }

pub invariant_of-self : goal.invariant_of-self
invariant_of-self c =
    let j = c.self.inside in
    let h = c.self.invariant in
    let some = some_more c in
    let next = h.next_mark (omega (arith, j.placed.ok.0)) in
    let room = c.close.ensures.room in
    let there = h.room_there in
    let len = c.mark_forced.ensures.len in
    let capacity = c.mark_forced.ensures.capacity in
    let all = forced_all j.marks c.close.new.self j.placed.items c.args.len h.parted (closes c) in
    record {
      parted = subst (λ (ps : List Placed). IsParted c.close.new.self ps) (sym (items_are c))
          (closed_parted j.marks c.close.new.self j.placed.items c.args.len h.parted (closes c) some);
      room_there = omega arith;
      marks_room = omega arith;
      next_mark = λ less. absurd (omega (arith, j.placed.ok.0));
    }

pub returns : goal.returns
returns c =
    let j = c.self.inside in
    let h = c.self.invariant in
    let m : MarksState = j.marks in
    let n : MarksState = c.close.new.self in
    let ps : List Placed = j.placed.items in
    let state : ℕ → ℕ → List Group → List Record → JournalState = λ start gate gs ts. record { start = start; gate = gate; groups = gs; tail = ts; room = j.room } in
    ap (λ (l : List Placed). state n.start n.gate (groups_of n l) (tail_of n l)) (items_are c)
    ∙ ap (λ start. state start n.gate (groups_of n (all_forced m ps)) (tail_of n (all_forced m ps))) (closes c).start_is
    ∙ ap (λ gate. state m.start gate (groups_of n (all_forced m ps)) (tail_of n (all_forced m ps))) (closes c).gate_is
    ∙ ap (λ (gs : List Group). state m.start (m.gate + 5 + c.args.len) gs (tail_of n (all_forced m ps))) (closed_groups m n ps c.args.len h.parted (closes c))
    ∙ ap (state m.start (m.gate + 5 + c.args.len) (groups_of m ps ++ record { at = m.gate; records = placed_from (m.gate + 5) (tail_of m ps) } ∷ [])) (closed_tail m n ps c.args.len h.parted (closes c))
    ∙ ap (settled c.args.len) c.self.view_is
