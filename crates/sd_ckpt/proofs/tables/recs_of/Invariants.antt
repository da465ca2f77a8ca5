use Rattle.std.proofs.Common.{◌≤◌}
use Rattle.sd_pagelock.specs.Directory.{rec_lsn_at}
use Rattle.sd_ckpt.proofs.TableRows.{HasRecs}
use Rattle.sd_ckpt.proofs.tables.recs_of.Given as goal

abbrev pub invariant-loop-number : goal.invariant-loop-number
invariant-loop-number l = (l.number ≤ 1024) × HasRecs (rec_lsn_at l.directory) l.number l.rows.items
