use Rattle.std.proofs.Common.{ap, sym, ◌∙◌}
use Rattle.std.specs.Mem.{manually_drop_value}
use Rattle.sd_model.specs.History.{History}
use Rattle.sd_model.specs.Booked.{last_of}
use Rattle.sd_model.proofs.Booked.{behind-newest, whole-newest}
use Rattle.sd_model.proofs.book.Book.last_whole.Goals as goal

pub returns-in-Behind-clause-newest : goal.returns-in-Behind-clause-newest
returns-in-Behind-clause-newest c =
    whole-newest c.args.self.now.entries c.last.result
    (c.last.ensures.value ∙ ap last_of c.deref.ensures.value
    ∙ sym (behind-newest c.self.inside.noted.items c.self.inside.lines.items c.self.inside.whole.items c.self.inside.at
    (manually_drop_value c.self.inside.apart) c.self.invariant c.in-Behind.is)
    ∙ ap (λ (h : History). last_of h.entries) c.self.view_is)
