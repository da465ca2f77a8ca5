use Rattle.std.proofs.Common.{◌≡◌, drop}
use Rattle.std.specs.Prelude.{option_copied}
use Rattle.sd_model.specs.Tables.{contents}
use Rattle.sd_model.specs.Acts.{after}
use Rattle.sd_oracle.proofs.values.committed.Given as goal

abbrev pub invariant-loop-transaction : goal.invariant-loop-transaction
invariant-loop-transaction l = after (λ _. option_copied l.found) (drop l.transaction-index l.done) l.rid ≡ after (contents l.start) l.done l.rid
