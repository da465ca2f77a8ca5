use Rattle.std.proofs.Common.{sym, vec_items, ◌∙◌}
use Rattle.sd_txn.specs.Marked.{named}
use Rattle.sd_txn.proofs.Marks.{filter-not_above, Trims-pop}
use Rattle.sd_txn.proofs.txn.trim.Goals as goal

pub loop-marks-preserved-in-loop-marks : goal.loop-marks-preserved-in-loop-marks
loop-marks-preserved-in-loop-marks c =
    let step = Trims-pop vec_items c.args.left c.loop-marks.marks.entries c.pop.new.self.entries c.pop.result c.pop.ensures.entries c.pop.ensures.found.1
    (sym c.ends_above.ensures ∙ c.loop-marks-test.true) c.loop-marks.invariant.rising in
    record { rising = step.rising; same = step.same ∙ c.loop-marks.invariant.same }

pub returns : goal.returns
returns c = sym (filter-not_above c.args.left (named vec_items c.loop-marks.marks.entries) c.loop-marks.invariant.rising (sym c.ends_above.ensures ∙ c.loop-marks-test.false))
    ∙ c.loop-marks.invariant.same
