use Rattle.std.proofs.Common.{◌≡◌, take}
use Rattle.sd_base.specs.declared.ids.TxnId.{TxnId}
use Rattle.sd_oracle.specs.Lists.{part_in}
use Rattle.sd_oracle.specs.Outcomes.{left_part}
use Rattle.sd_oracle.proofs.reopenings.left_parts.Given as goal

abbrev pub invariant-loop-txn : goal.invariant-loop-txn
invariant-loop-txn l = (t : TxnId) → part_in l.all.items t ≡ left_part l.outcome t (part_in (take l.txn-index l.parts) t)
