use Rattle.std.proofs.Common.{◌≡◌, ℕ, List, subst, sym, ap}
use Rattle.std.specs.Prelude.{IfOk}
use Rattle.sd_report.specs.Report.{report, AreFrom}
use Rattle.sd_report.proofs.report.render_book.Goals as goal

pub render-requires : goal.render-requires
render-requires c = record {
  lines = c.requires.lines;
  entries = subst (AreFrom 0) (sym c.told.ensures) c.requires.entries;
}

pub returns : goal.returns
returns c = subst (λ (l : List ℕ). IfOk c.render.result (λ text. text.items ≡ l))
    (ap (report c.args.lines.now) c.told.ensures) c.render.ensures
