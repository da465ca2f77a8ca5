use Rattle.sd_log.specs.Logs.{flats}
use Rattle.sd_recovered.proofs.Relisted.{Relisted}
use Rattle.sd_recovered.proofs.relisting.relist.Given as goal

abbrev pub invariant-loop-txn : goal.invariant-loop-txn
invariant-loop-txn l = Relisted l.fn.inst l.who (flats l.log) l.losers l.table l.next l.txn-index
