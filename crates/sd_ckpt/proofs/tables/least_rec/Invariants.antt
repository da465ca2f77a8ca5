use Rattle.std.proofs.Common.{◌≡◌, drop, map}
use Rattle.sd_state.specs.Parts.{least_of}
use Rattle.sd_ckpt.proofs.tables.least_rec.Given as goal

abbrev pub invariant-loop-row : goal.invariant-loop-row
invariant-loop-row l = least_of l.least (map (λ r. r.1) (drop l.row-index l.rows)) ≡ least_of l.low (map (λ r. r.1) l.rows)
