use Rattle.std.proofs.Common.{All}
use Rattle.sd_log.specs.Logs.{AreSpelled}
use Rattle.sd_chain.specs.Records.{IsPageRecord}
use Rattle.sd_tests_disk.proofs.many_pages.chain_to.Given as goal

abbrev pub invariant-loop-before : goal.invariant-loop-before
invariant-loop-before l = AreSpelled l.chain.items × All (λ x. IsPageRecord x.rec) l.chain.items
