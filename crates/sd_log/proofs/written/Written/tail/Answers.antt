use Rattle.std.proofs.Common.{drop, map, sym, ap, ◌∙◌, arith}
use Rattle.sd_logrec.specs.Kept.{spelled}
use Rattle.sd_log.specs.Spellings.{record_in}
use Rattle.sd_log.specs.WrittenStates.{WrittenState}
use Rattle.sd_log.proofs.WrittenItems.{tail_is}
use Rattle.sd_log.proofs.written.Written.tail.Goals as goal

pub from-requires : goal.from-requires
from-requires c = let within = c.self.invariant.forced_there in omega (arith, c.forced.ensures)

pub returns : goal.returns
returns c =
    c.from.ensures ∙ ap (λ n. spelled (map record_in (drop n c.self.inside.records.entries))) c.forced.ensures
    ∙ ap spelled (sym (tail_is c.self.inside c.self.invariant)) ∙ ap (λ (s : WrittenState). spelled s.tail) c.self.view_is
