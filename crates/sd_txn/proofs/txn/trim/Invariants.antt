use Rattle.std.proofs.Common.{◌≡◌, length, vec_items}
use Rattle.sd_txn.specs.Marked.{named, AreRising}
use Rattle.sd_txn.proofs.Marks.{kept}
use Rattle.sd_txn.proofs.txn.trim.Given as goal

abbrev pub invariant-loop-marks : goal.invariant-loop-marks
invariant-loop-marks l = record {
  rising : AreRising (named vec_items l.marks.entries);
  same : kept vec_items l.left l.marks.entries ≡ kept vec_items l.left l.initial.marks.entries;
}

abbrev pub decreases-loop-marks : goal.decreases-loop-marks
decreases-loop-marks l = length l.marks.entries
