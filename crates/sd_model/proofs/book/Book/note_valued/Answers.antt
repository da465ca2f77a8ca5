use Rattle.std.proofs.Common.{◌++◌, ◌∷◌, ◌-◌, [], ap, arith, vec_len, ◌∙◌}
use Rattle.std.specs.Mem.{manually_drop_value}
use Rattle.std.specs.Vec.{vec_capacity}
use Rattle.sd_model.specs.declared.event.Entry.{Entry}
use Rattle.sd_model.specs.History.{History}
use Rattle.sd_model.proofs.Booked.{short-books, short-reads, spare-less}
use Rattle.sd_model.proofs.book.Book.note_valued.Goals as goal

pub invariant_of-self : goal.invariant_of-self
invariant_of-self c =
    let e : Entry = record { session = c.args.session; line = c.args.line; event = c.args.event.now; reply = c.args.reply.now } in
    let l = c.in-Some.short in
    short-books c.self.inside.noted.items c.keep.new.noted.items c.self.inside.lines.items c.self.inside.whole.items e
    (manually_drop_value c.renew.new.apart) c.self.invariant.0 c.keep.ensures.noted
    c.keep_line.new.lines.items l c.keep_line.ensures.lines c.in-Some.ensures
    (c.renew.ensures ∙ c.in-Ok.ensures ∙ ap (λ (x : Entry). x.reply) c.in-Some.ensures)

pub returns-clause-noted : goal.returns-clause-noted
returns-clause-noted c = λ is.
    let e : Entry = record { session = c.args.session; line = c.args.line; event = c.args.event.now; reply = c.args.reply.now } in
    let l = c.in-Some.short in
    let kept = c.keep.ensures.spare in
    let lines = c.keep_line.ensures.spare in
    let view = ap (λ (h : History). h.spare) c.self.view_is in (
      short-reads c.self.inside.noted.items c.keep.new.noted.items c.self.inside.lines.items c.self.inside.whole.items e
          (manually_drop_value c.renew.new.apart) c.self.invariant.0 c.keep.ensures.noted
          c.keep_line.new.lines.items l c.keep_line.ensures.lines
          c.in-Some.ensures
          ∙ ap (λ (h : History). h.entries ++ e ∷ []) c.self.view_is,
      ap (λ (h : History). h.opening) c.self.view_is,
      spare-less (vec_capacity c.self.inside.noted - vec_len c.self.inside.noted)
          (vec_capacity c.self.inside.lines - vec_len c.self.inside.lines)
          (vec_capacity c.self.inside.whole - vec_len c.self.inside.whole)
          (vec_capacity c.keep.new.noted - vec_len c.keep.new.noted)
          (vec_capacity c.keep_line.new.lines - vec_len c.keep_line.new.lines)
          (vec_capacity c.self.inside.whole - vec_len c.self.inside.whole)
          c.args.self.now.spare kept lines (omega arith) view,
    )
