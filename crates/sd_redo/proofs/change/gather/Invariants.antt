use Rattle.std.proofs.Common.{◌≡◌, ◌++◌, map, take}
use Rattle.std.specs.Prelude.{filter}
use Rattle.sd_redo.specs.Changes.{AllStand, AreChanges, found_of}
use Rattle.sd_redo.proofs.OfPage.{on}
use Rattle.sd_redo.proofs.change.gather.Given as goal

abbrev pub invariant-loop-at : goal.invariant-loop-at
invariant-loop-at l = record {
  changes : AreChanges l.changes.items;
  stand : AllStand l.logs l.changes.items;
  gathered : map found_of l.changes.items ≡ map found_of l.fn.changes.items ++ take l.at-index (filter (on l.fn.page) l.records);
}
