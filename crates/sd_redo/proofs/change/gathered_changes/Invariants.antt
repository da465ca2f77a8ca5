use Rattle.std.proofs.Common.{◌≡◌, ◌+◌, map}
use Rattle.std.specs.Prelude.{filter}
use Rattle.sd_redo.specs.Changes.{AllStand, AreChanges, found_of, in_turn, is_of, placed_in}
use Rattle.sd_redo.proofs.change.gathered_changes.Given as goal

abbrev pub invariant-loop-index : goal.invariant-loop-index
invariant-loop-index l = record {
  changes : AreChanges l.changes.items;
  stand : AllStand l.logs l.changes.items;
  gathered : map found_of l.changes.items ≡ filter (is_of l.page) (in_turn (placed_in l.logs) (l.index + 1));
}
