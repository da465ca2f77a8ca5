use Rattle.std.proofs.Common.{map}
use Rattle.sd_redo.specs.Changes.{found_of, is_of}
use Rattle.sd_redo.proofs.Gathered.{turn_more}
use Rattle.sd_redo.proofs.change.gathered_changes.Goals as goal

pub loop-index-preserved : goal.loop-index-preserved
loop-index-preserved c = record {
  changes = c.in_ok-gather.ensures.changes;
  stand = c.in_ok-gather.ensures.stand;
  gathered = turn_more c.args.logs.now c.loop-index.index (is_of c.args.page) (map found_of c.loop-index.changes.items)
      (map found_of c.gather.new.changes.items) c.loop-index.invariant.gathered c.in_ok-gather.ensures.gathered;
}
