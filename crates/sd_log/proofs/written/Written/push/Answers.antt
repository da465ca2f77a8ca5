use Rattle.std.proofs.Common.{◌+◌, ◌-◌, ◌≤◌, ◌++◌, ◌∷◌, [], List, false, length, map, take, sym, ap, ◌∙◌, subst, arith, length-append}
use Rattle.std.proofs.lemmas.List.{take-append-le}
use Rattle.sd_logrec.specs.declared.record.Record.{Record}
use Rattle.sd_logrec.specs.Kept.{Group, Records, spelled}
use Rattle.sd_log.specs.declared.placed.Placed.{Placed}
use Rattle.sd_log.specs.Parts.{IsParted, groups_of, items_of, tail_of}
use Rattle.sd_log.specs.Spellings.{record_in}
use Rattle.sd_log.specs.WrittenStates.{WrittenState, put}
use Rattle.sd_log.proofs.Items.{items-more}
use Rattle.sd_log.proofs.Journaling.{pushed_groups, pushed_parted, pushed_tail}
use Rattle.sd_log.proofs.WrittenItems.{text_small}
use Rattle.sd_log.proofs.written.Written.push.Goals as goal

pub push-requires-clause-small : goal.push-requires-clause-small
push-requires-clause-small c =
    let place = c.requires.place ∙ sym (ap (λ (s : WrittenState). s.gate + 5 + length (spelled s.tail)) c.self.view_is) in
    text_small c.self.inside c.self.invariant (omega (arith, place, c.requires.fits_area))

pub invariant_of-self : goal.invariant_of-self
invariant_of-self c =
    let w = c.self.inside in
    let h = c.self.invariant in
    let n = w.marks.forced in
    let es = w.records.entries in
    let r = c.args.rec.now in
    let more = c.push.ensures.entries in
    let within = h.forced_there in
    let there = h.room_there in
    let marks = h.marks_room in
    let room = c.push.ensures.room in
    let some = ap (λ (s : WrittenState). s.room) c.self.view_is in
    record {
      forced_there = omega (arith, ap length more, length-append es ((c.args.place, r) ∷ []));
      parted = subst (λ (l : Records). IsParted w.marks (items_of n l)) (sym more)
          (subst (λ (l : List Placed). IsParted w.marks l) (sym (items-more n es (c.args.place, r) within))
          (pushed_parted w.marks (items_of n es) r c.args.place h.parted
          (c.requires.place ∙ sym (ap (λ (s : WrittenState). s.gate + 5 + length (spelled s.tail)) c.self.view_is))));
      gate_small = h.gate_small;
      forced_text = subst (λ (l : Records). length (spelled (map record_in l)) ≤ w.marks.gate)
          (sym (ap (take n) more ∙ take-append-le n es ((c.args.place, r) ∷ []) within)) h.forced_text;
      room_there = omega (arith, some, c.requires.room);
      marks_room = omega (arith, some, c.requires.room);
      next_mark = λ _. omega (arith, some, c.requires.room);
    }

pub returns-clause-record : goal.returns-clause-record
returns-clause-record c =
    let w = c.self.inside in
    let h = c.self.invariant in
    let n = w.marks.forced in
    let es = w.records.entries in
    let r = c.args.rec.now in
    let text = c.push.new.self.text in
    let items : List Placed = items_of n es in
    let state : List Group → List Record → WrittenState = λ gs ts. record { start = w.marks.start; gate = w.marks.gate; groups = gs; tail = ts; text = text; room = w.room - 1 } in
    let grown = ap (items_of n) c.push.ensures.entries ∙ items-more n es (c.args.place, r) h.forced_there in
    ap (λ (l : List Placed). state (groups_of w.marks l) (tail_of w.marks l)) grown
    ∙ ap (λ (gs : List Group). state gs (tail_of w.marks (items ++ record { place = c.args.place; rec = r; forced = false } ∷ []))) (pushed_groups w.marks items r c.args.place h.parted)
    ∙ ap (state (groups_of w.marks items)) (pushed_tail w.marks items r c.args.place h.parted)
    ∙ ap (put r text) c.self.view_is
