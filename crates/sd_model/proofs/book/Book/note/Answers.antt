use Rattle.std.proofs.Common.{◌++◌, ◌∷◌, [], ap, ◌∙◌}
use Rattle.std.specs.Mem.{manually_drop_value}
use Rattle.sd_model.specs.declared.event.Entry.{Entry}
use Rattle.sd_model.specs.History.{History}
use Rattle.sd_model.proofs.Booked.{help-books, help-reads, short-books, short-reads}
use Rattle.sd_model.proofs.book.Book.note.Goals as goal

pub invariant_of-self : goal.invariant_of-self
invariant_of-self c =
    let e : Entry = record { session = c.args.session; line = c.args.line; event = c.args.event; reply = c.args.reply } in
    help-books c.self.inside.noted.items c.keep.new.noted.items c.self.inside.lines.items c.self.inside.whole.items e
    (manually_drop_value c.renew.new.apart) c.self.invariant.0 c.in-Some.help c.keep.ensures.noted c.in-Some.ensures
    c.renew.ensures

pub returns-in-Some-clause-entries : goal.returns-in-Some-clause-entries
returns-in-Some-clause-entries c =
    let e : Entry = record { session = c.args.session; line = c.args.line; event = c.args.event; reply = c.args.reply } in
    help-reads c.self.inside.noted.items c.keep.new.noted.items c.self.inside.lines.items c.self.inside.whole.items e
    (manually_drop_value c.renew.new.apart) c.self.invariant.0 c.in-Some.help c.keep.ensures.noted c.in-Some.ensures
    ∙ ap (λ (h : History). h.entries ++ e ∷ []) c.self.view_is

pub invariant_of-self-in-Some-of : goal.invariant_of-self-in-Some-of
invariant_of-self-in-Some-of c =
    let e : Entry = record { session = c.args.session; line = c.args.line; event = c.args.event; reply = c.args.reply } in
    short-books c.self-in-Some-of.inside.noted.items c.keep-in-Some-of.new.noted.items c.self-in-Some-of.inside.lines.items c.self-in-Some-of.inside.whole.items e
    (manually_drop_value c.renew-in-Some-of.new.apart) c.self-in-Some-of.invariant.0 c.keep-in-Some-of.ensures.noted
    c.keep_line.new.lines.items c.in-Some-of.short c.keep_line.ensures.lines c.in-Some-of.ensures c.renew-in-Some-of.ensures

pub returns-in-Some-of-clause-entries : goal.returns-in-Some-of-clause-entries
returns-in-Some-of-clause-entries c =
    let e : Entry = record { session = c.args.session; line = c.args.line; event = c.args.event; reply = c.args.reply } in
    short-reads c.self-in-Some-of.inside.noted.items c.keep-in-Some-of.new.noted.items c.self-in-Some-of.inside.lines.items c.self-in-Some-of.inside.whole.items e
    (manually_drop_value c.renew-in-Some-of.new.apart) c.self-in-Some-of.invariant.0 c.keep-in-Some-of.ensures.noted
    c.keep_line.new.lines.items c.in-Some-of.short c.keep_line.ensures.lines c.in-Some-of.ensures
    ∙ ap (λ (h : History). h.entries ++ e ∷ []) c.self-in-Some-of.view_is
