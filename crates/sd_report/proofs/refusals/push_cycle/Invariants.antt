use Rattle.std.proofs.Common.{◌≡◌, ◌++◌, ◌∷◌, take}
use Rattle.std.specs.List.{flat_map}
use Rattle.sd_report.specs.Names.{name_in}
use Rattle.sd_report.specs.Words.{spelled}
use Rattle.sd_report.proofs.refusals.push_cycle.Given as goal

abbrev pub invariant-loop-txn : goal.invariant-loop-txn
invariant-loop-txn l = l.out.items ≡ l.fn.out.items ++ flat_map (λ t. 32 ∷ spelled (name_in l.names) t)
    (take l.txn-index l.txn-items)
