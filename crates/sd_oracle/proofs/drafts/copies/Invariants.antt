use Rattle.std.proofs.Common.{◌≡◌, take}
use Rattle.sd_oracle.proofs.drafts.copies.Given as goal

abbrev pub invariant-loop-transaction : goal.invariant-loop-transaction
invariant-loop-transaction l = l.copied.items ≡ take l.transaction-index l.done
