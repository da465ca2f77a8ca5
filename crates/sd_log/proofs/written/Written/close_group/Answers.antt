use Rattle.std.proofs.Common.{◌≡◌, ℕ, ◌+◌, ◌-◌, ◌<◌, ◌≤◌, ◌++◌, ◌∷◌, [], false, List, length, map, drop, sym, ap, ◌∙◌, subst, arith}
use Rattle.std.proofs.lemmas.List.{take_all}
use Rattle.sd_logrec.specs.declared.record.Record.{Record}
use Rattle.sd_logrec.specs.Kept.{Group, Records, placed_from, spelled}
use Rattle.sd_log.specs.declared.marks.Mark.{Mark}
use Rattle.sd_log.specs.declared.placed.Placed.{Placed}
use Rattle.sd_log.specs.Marks.{MarksState, greatest_lsn}
use Rattle.sd_log.specs.Parts.{IsParted, groups_of, items_of, tail_of}
use Rattle.sd_log.specs.Spellings.{record_in}
use Rattle.sd_log.specs.WrittenStates.{WrittenState, closed, greatest_in}
use Rattle.sd_log.proofs.Items.{drop-items, greatest-items, items_forced, length-items}
use Rattle.sd_log.proofs.Journaling.{Closes, all_forced, closed_groups, closed_parted, closed_tail, forced_all, more_placed}
use Rattle.sd_log.proofs.WrittenItems.{tail_is, text_parts}
use Rattle.sd_log.proofs.written.Written.close_group.Goals as goal
use Rattle.sd_log.proofs.written.Written.close_group.Goals.{After-close}

abbrev items : (c : After-close) → List Placed
items c = items_of c.self.inside.marks.forced c.self.inside.records.entries

items_len : (c : After-close) → length (items c) ≡ length c.self.inside.records.entries
items_len c = length-items c.self.inside.marks.forced c.self.inside.records.entries

some_more : (c : After-close) → c.self.inside.marks.forced < length (items c)
some_more c = more_placed c.self.inside.marks (items c) (λ none. c.requires.tail (sym (ap (λ (s : WrittenState). s.tail) c.self.view_is) ∙ none))

count_is : (c : After-close) → c.len.result - c.forced-from.result ≡ length (items c) - c.self.inside.marks.forced
count_is c = omega (arith, c.len.ensures, c.forced-from.ensures, items_len c)

greatest_is : (c : After-close) → c.greatest_from-greatest.result ≡ greatest_lsn (drop c.self.inside.marks.forced (items c))
greatest_is c =
    let w = c.self.inside in
    c.greatest_from-greatest.ensures ∙ ap (λ n. greatest_in (drop n w.records.entries)) c.forced-from.ensures
    ∙ sym (greatest-items false (drop w.marks.forced w.records.entries))
    ∙ sym (ap greatest_lsn (drop-items w.marks.forced w.records.entries c.self.invariant.forced_there))

closes : (c : After-close) → Closes c.self.inside.marks c.close.new.self (items c) c.args.len
closes c =
    let m : MarksState = c.self.inside.marks in
    let marks : ℕ → ℕ → List Mark = λ count greatest. m.marks ++ record { end = m.gate + 5 + c.args.len; count = count; high = greatest } ∷ [] in
    record {
      start_is = c.close.ensures.start;
      gate_is = c.close.ensures.gate;
      marks_is = c.close.ensures.marks ∙ ap (λ n. marks n c.greatest_from-greatest.result) (count_is c)
          ∙ ap (marks (length (items c) - m.forced)) (greatest_is c);
      forced_is = c.close.ensures.forced ∙ ap (λ n. m.forced + n) (count_is c);
    }

all_are : (c : After-close) → c.close.new.self.forced ≡ length c.self.inside.records.entries
all_are c = forced_all c.self.inside.marks c.close.new.self (items c) c.args.len c.self.invariant.parted (closes c) ∙ items_len c

items_are : (c : After-close) → items_of c.close.new.self.forced c.self.inside.records.entries ≡ all_forced c.self.inside.marks (items c)
items_are c =
    ap (λ n. items_of n c.self.inside.records.entries) (all_are c) ∙ sym (items_forced c.self.inside.marks c.self.inside.records.entries c.self.invariant.forced_there)

pub invariant_of-self : goal.invariant_of-self
invariant_of-self c =
    let w = c.self.inside in
    let h = c.self.invariant in
    let es = w.records.entries in
    let some = some_more c in
    let next = h.next_mark (omega (arith, items_len c)) in
    let room = c.close.ensures.room in
    let forced = h.forced_text in
    let text = ap (λ (s : WrittenState). length (spelled s.tail)) c.self.view_is in
    let here = ap (λ (s : WrittenState). s.gate) c.self.view_is in
    let tail = ap (λ (l : List Record). length (spelled l)) (tail_is w h) in
    record {
      forced_there = omega (arith, all_are c);
      parted = subst (λ (l : List Placed). IsParted c.close.new.self l) (sym (items_are c))
          (closed_parted w.marks c.close.new.self (items c) c.args.len h.parted (closes c) some);
      gate_small = omega (arith, c.close.ensures.gate, here, c.requires.fits);
      forced_text = subst (λ (l : Records). length (spelled (map record_in l)) ≤ c.close.new.self.gate)
          (sym (take_all c.close.new.self.forced es (omega (arith, all_are c))))
          (omega (arith, c.close.ensures.start, c.close.ensures.gate, text_parts w.marks.forced es, c.requires.len, text, tail));
      room_there = h.room_there;
      marks_room = omega arith;
      next_mark = λ less. absurd (omega (arith, all_are c));
    }

pub returns : goal.returns
returns c =
    let w = c.self.inside in
    let h = c.self.invariant in
    let m : MarksState = w.marks in
    let n : MarksState = c.close.new.self in
    let state : ℕ → ℕ → List Group → List Record → WrittenState = λ start gate gs ts. record { start = start; gate = gate; groups = gs; tail = ts; text = w.records.text; room = w.room } in
    ap (λ (l : List Placed). state n.start n.gate (groups_of n l) (tail_of n l)) (items_are c)
    ∙ ap (λ start. state start n.gate (groups_of n (all_forced m (items c))) (tail_of n (all_forced m (items c)))) (closes c).start_is
    ∙ ap (λ gate. state m.start gate (groups_of n (all_forced m (items c))) (tail_of n (all_forced m (items c)))) (closes c).gate_is
    ∙ ap (λ (gs : List Group). state m.start (m.gate + 5 + c.args.len) gs (tail_of n (all_forced m (items c)))) (closed_groups m n (items c) c.args.len h.parted (closes c))
    ∙ ap (state m.start (m.gate + 5 + c.args.len) (groups_of m (items c) ++ record { at = m.gate; records = placed_from (m.gate + 5) (tail_of m (items c)) } ∷ [])) (closed_tail m n (items c) c.args.len h.parted (closes c))
    ∙ ap (closed c.args.len) c.self.view_is
