use Rattle.std.proofs.Common.{◌≡◌, ◌∙◌, min, rules, sym}
use Rattle.sd_logrec.specs.Spelling.{Changed}
use Rattle.sd_ckpt.proofs.Least.{least-step}
use Rattle.sd_ckpt.proofs.tables.least_rec.Goals as goal

pub loop-row-preserved : goal.loop-row-preserved
loop-row-preserved c =
    let less : c.min-least.result ≡ min c.loop-row.least c.row-item.result.1 = search rules in
    least-step (λ (r : Changed). r.1) c.loop-row.least c.min-least.result c.args.rows.now c.loop-row.row-index c.row-item.result
    c.loop-row-test.true (sym c.row-item.is) less
    ∙ c.loop-row.invariant
