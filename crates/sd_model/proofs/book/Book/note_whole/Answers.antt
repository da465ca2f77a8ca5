use Rattle.std.proofs.Common.{◌++◌, ◌∷◌, ◌-◌, [], ap, arith, vec_len, ◌∙◌}
use Rattle.std.specs.Mem.{manually_drop_value}
use Rattle.std.specs.Vec.{vec_capacity}
use Rattle.sd_model.specs.declared.event.Entry.{Entry}
use Rattle.sd_model.specs.History.{History}
use Rattle.sd_model.proofs.Booked.{spare-less, whole-books, whole-reads}
use Rattle.sd_model.proofs.book.Book.note_whole.Goals as goal

pub invariant_of-self : goal.invariant_of-self
invariant_of-self c =
    let e : Entry = record { session = c.args.session; line = c.args.line; event = c.args.event; reply = c.args.reply } in
    whole-books c.self.inside.noted.items c.keep.new.noted.items c.self.inside.lines.items c.self.inside.whole.items e
    (manually_drop_value c.self.inside.apart) c.self.invariant.0 c.keep.ensures.noted
    c.push_reserved.new.self.items c.push_reserved.ensures.items

pub returns : goal.returns
returns c =
    let e : Entry = record { session = c.args.session; line = c.args.line; event = c.args.event; reply = c.args.reply } in
    let kept = c.keep.ensures.spare in
    let len = c.push_reserved.ensures.len in
    let capacity = c.push_reserved.ensures.capacity in
    let view = ap (λ (h : History). h.spare) c.self.view_is in
    let room = c.requires.room in (
      whole-reads c.self.inside.noted.items c.keep.new.noted.items c.self.inside.lines.items c.self.inside.whole.items e
          (manually_drop_value c.self.inside.apart) c.self.invariant.0 c.keep.ensures.noted
          c.push_reserved.new.self.items c.push_reserved.ensures.items
          ∙ ap (λ (h : History). h.entries ++ e ∷ []) c.self.view_is,
      ap (λ (h : History). h.opening) c.self.view_is,
      spare-less (vec_capacity c.self.inside.noted - vec_len c.self.inside.noted)
          (vec_capacity c.self.inside.lines - vec_len c.self.inside.lines)
          (vec_capacity c.self.inside.whole - vec_len c.self.inside.whole)
          (vec_capacity c.keep.new.noted - vec_len c.keep.new.noted)
          (vec_capacity c.self.inside.lines - vec_len c.self.inside.lines)
          (vec_capacity c.push_reserved.new.self - vec_len c.push_reserved.new.self)
          c.args.self.now.spare kept (omega arith) (omega (arith, len, capacity, room, view)) view,
    )
