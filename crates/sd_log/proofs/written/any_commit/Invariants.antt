use Rattle.std.proofs.Common.{◌≡◌, drop}
use Rattle.std.specs.List.{list_any}
use Rattle.sd_logrec.specs.View.{is_commit_of}
use Rattle.sd_log.proofs.written.any_commit.Given as goal

abbrev pub invariant-loop-index : goal.invariant-loop-index
invariant-loop-index l = list_any (λ e. is_commit_of l.fn.t e.1) (drop l.index l.fn.records.entries) ≡ list_any (λ e. is_commit_of l.fn.t e.1) l.fn.records.entries
