use Rattle.std.proofs.Common.{◌≡◌, ◌+◌, ◌-◌, ◌++◌, [], ◌∷◌, false, length, ap, ◌∙◌, sym, subst, arith, List}
use Rattle.sd_logrec.specs.declared.record.Record.{Record}
use Rattle.sd_logrec.specs.Kept.{Group, spelled}
use Rattle.sd_log.specs.declared.placed.Placed.{Placed}
use Rattle.sd_log.specs.JournalStates.{JournalState}
use Rattle.sd_log.specs.Parts.{IsParted, groups_of, tail_of}
use Rattle.sd_log.proofs.Journaling.{pushed_groups, pushed_parted, pushed_tail}
use Rattle.sd_log.proofs.journal.Journal.push.Goals as goal

pub invariant_of-self : goal.invariant_of-self
invariant_of-self c =
    let j = c.self.inside in
    let h = c.self.invariant in
    let room : j.room ≡ c.args.self.now.room = ap (λ (s : JournalState). s.room) c.self.view_is in
    let here = c.requires.place ∙ sym (ap (λ (s : JournalState). s.gate + 5 + length (spelled s.tail)) c.self.view_is) in
    let len = c.push_reserved.ensures.len in
    let capacity = c.push_reserved.ensures.capacity in
    let there = h.room_there in
    let marks = h.marks_room in
    record {
      parted = subst (λ (ps : List Placed). IsParted j.marks ps) (sym c.push_reserved.ensures.items)
          (pushed_parted j.marks j.placed.items c.args.rec c.args.place h.parted here);
      room_there = omega (arith, room, c.requires.room);
      marks_room = omega (arith, room, c.requires.room);
      next_mark = λ some. omega (arith, room, c.requires.room);
    }

pub returns : goal.returns
returns c =
    let j = c.self.inside in
    let h = c.self.invariant in
    let state : List Group → List Record → JournalState = λ gs ts. record { start = j.marks.start; gate = j.marks.gate; groups = gs; tail = ts; room = j.room - 1 } in
    ap (λ (ps : List Placed). state (groups_of j.marks ps) (tail_of j.marks ps)) c.push_reserved.ensures.items
    ∙ ap (λ (gs : List Group). state gs (tail_of j.marks (j.placed.items ++ record { place = c.args.place; rec = c.args.rec; forced = false } ∷ []))) (pushed_groups j.marks j.placed.items c.args.rec c.args.place h.parted)
    ∙ ap (state (groups_of j.marks j.placed.items)) (pushed_tail j.marks j.placed.items c.args.rec c.args.place h.parted)
    ∙ ap (λ (s : JournalState). record { start = s.start; gate = s.gate; groups = s.groups; tail = s.tail ++ c.args.rec ∷ []; room = s.room - 1 }) c.self.view_is
