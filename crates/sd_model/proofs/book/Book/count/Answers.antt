use Rattle.std.proofs.Common.{length, ap, arith}
use Rattle.sd_model.specs.History.{History}
use Rattle.sd_model.proofs.Booked.{count-read}
use Rattle.sd_model.proofs.book.Book.count.Goals as goal

pub returns : goal.returns
returns c =
    let count = count-read c.self.inside.noted.items c.self.inside.lines.items c.self.inside.whole.items c.self.invariant.0 in
    let view = ap (λ (h : History). length h.entries) c.self.view_is in
    let len = c.len.ensures in
    let fits = c.self.inside.noted.ok.0 in
    omega (arith, count, view, len, fits)
