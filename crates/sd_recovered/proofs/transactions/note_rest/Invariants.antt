use Rattle.std.proofs.Common.{take}
use Rattle.sd_log.specs.Logs.{flats}
use Rattle.sd_recovered.specs.Misplaced.{IsLeast}
use Rattle.sd_recovered.specs.Seen.{OthersStay, Tells}
use Rattle.sd_recovered.proofs.transactions.note_rest.Given as goal

abbrev pub invariant-loop-at : goal.invariant-loop-at
invariant-loop-at l = record {
  tells : Tells l.log (flats (take l.at l.log)) l.txn l.seen;
  least : IsLeast (flats (take l.at l.log)) l.worst;
  others : OthersStay l.log l.txn (flats (take l.from l.log)) (flats (take l.at l.log));
}
