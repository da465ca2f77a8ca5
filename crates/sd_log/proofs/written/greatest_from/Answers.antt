use Rattle.std.proofs.Common.{rules, ◌≡◌, max, ◌∙◌, arith}
use Rattle.sd_log.proofs.Items.{step_greatest}
use Rattle.sd_log.proofs.WrittenItems.{is_there}
use Rattle.sd_log.proofs.written.greatest_from.Goals as goal

pub loop-index-preserved : goal.loop-index-preserved
loop-index-preserved c =
    let es = c.args.records.now.entries in
    let there = is_there es c.loop-index.index (omega (arith, c.loop-index-test.true, c.len-index-end.ensures)) in
    let greater : c.max-greatest.result ≡ max c.loop-index.greatest c.lsn.result = search rules in
    step_greatest es c.loop-index.index c.loop-index.greatest c.lsn.result c.max-greatest.result there.0 there.1 (c.lsn.ensures there.0 there.1) greater
    ∙ c.loop-index.invariant
