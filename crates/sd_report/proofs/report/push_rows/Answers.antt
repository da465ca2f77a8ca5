use Rattle.std.proofs.Common.{arith}
use Rattle.sd_report.specs.Report.{row_line}
use Rattle.sd_report.proofs.Growing.{text_more}
use Rattle.sd_report.proofs.report.push_rows.Goals as goal

pub loop-rid-preserved : goal.loop-rid-preserved
loop-rid-preserved c = record {
  text = text_more row_line c.args.rows.now c.loop-rid.rid-index c.loop-rid-item.result c.loop-rid-test.true c.loop-rid-item.is
      c.args.out.now.items c.loop-rid.out.items c.push_row.new.out.items c.loop-rid.invariant.text c.in_ok-push_row.ensures.text;
  bytes = omega (arith, c.in_ok-push_row.ensures.bytes, c.loop-rid.invariant.bytes);
}
