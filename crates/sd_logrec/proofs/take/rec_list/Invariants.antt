use Rattle.std.proofs.Common.{◌≡◌, ◌-◌}
use Rattle.sd_logrec.specs.Reading.{items_at, changed_at}
use Rattle.sd_logrec.proofs.Lists.{with_front}
use Rattle.sd_logrec.proofs.take.rec_list.Given as goal

abbrev pub invariant-loop : goal.invariant-loop
invariant-loop l = with_front l.recs.items (items_at changed_at (l.count - l.counter) l.rest) ≡ items_at changed_at l.count l.bytes
