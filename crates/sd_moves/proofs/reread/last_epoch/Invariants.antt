use Rattle.std.proofs.Common.{◌≡◌, map, take}
use Rattle.sd_chain.specs.Checks.{Past}
use Rattle.sd_chain.specs.Logs.{after_records}
use Rattle.sd_moves.proofs.reread.last_epoch.Given as goal

abbrev pub invariant-loop-placed : goal.invariant-loop-placed
invariant-loop-placed l = (past : Past) → past.epoch ≡ l.fn.epoch
    → l.last ≡ (after_records past (map (λ p. p.rec) (take l.placed-index l.log))).epoch
