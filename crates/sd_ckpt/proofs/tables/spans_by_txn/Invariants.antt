use Rattle.std.proofs.Common.{◌≤◌, length}
use Rattle.sd_ckpt.proofs.TableRows.{HasSpans}
use Rattle.sd_ckpt.proofs.tables.spans_by_txn.Given as goal

abbrev pub invariant-loop-t : goal.invariant-loop-t
invariant-loop-t l = HasSpans l.txns l.t-index l.spans.entries × (length l.spans.entries ≤ l.t-index)
