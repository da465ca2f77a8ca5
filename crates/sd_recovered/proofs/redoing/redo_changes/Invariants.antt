use Rattle.std.proofs.Common.{◌≡◌, ℕ, ◌<◌, length, take}
use Rattle.sd_recovered.specs.Redone.{IsNoted, IsRedone}
use Rattle.sd_recovered.proofs.redoing.redo_changes.Given as goal

abbrev pub invariant-loop-change : goal.invariant-loop-change
invariant-loop-change l = record {
  count : length l.firsts.items ≡ 1024;
  redone : (p : ℕ) → p < 1024 → IsRedone p (take l.change-index l.changes) l.fn.pages l.pages;
  noted : (p : ℕ) → p < 1024 → IsNoted p (take l.change-index l.changes) l.fn.pages l.firsts.items;
}
