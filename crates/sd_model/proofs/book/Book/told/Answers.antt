use Rattle.std.proofs.Common.{ap, ◌∙◌}
use Rattle.sd_model.specs.History.{History}
use Rattle.sd_model.specs.Booked.{unpacked}
use Rattle.sd_model.proofs.book.Book.told.Goals as goal

pub returns : goal.returns
returns c =
    (λ i. unpacked (c.deref.ensures.value i) (c.deref-2.ensures.value i) (c.deref-3.ensures.value i))
    ∙ ap (λ (h : History). h.entries) c.self.view_is
