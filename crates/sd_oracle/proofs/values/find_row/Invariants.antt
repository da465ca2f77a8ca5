use Rattle.std.proofs.Common.{◌≡◌, drop}
use Rattle.sd_model.specs.Tables.{contents}
use Rattle.sd_oracle.proofs.values.find_row.Given as goal

abbrev pub invariant-loop-at : goal.invariant-loop-at
invariant-loop-at l = contents (drop l.at-index l.rows) l.rid ≡ contents l.rows l.rid
