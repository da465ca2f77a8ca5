use Rattle.std.proofs.Common.{arith}
use Rattle.sd_log.proofs.Spelling.{cut, cut_entries, same_entries, slot_at}
use Rattle.sd_log.proofs.spellings.Spellings.truncate.Goals as goal

pub invariant_of-self : goal.invariant_of-self
invariant_of-self c =
    let s = c.index.result.now in
    let there = slot_at c.self.inside c.args.count c.len.result s c.if-count-len.true c.len.ensures c.index.ensures in
    cut c.self.inside c.truncate.new.self c.truncate-then-count-len.new.self s c.args.count c.self.invariant there c.truncate.ensures.items c.truncate-then-count-len.ensures.items

pub returns-then-count-len-clause-entries : goal.returns-then-count-len-clause-entries
returns-then-count-len-clause-entries c =
    let s = c.index.result.now in
    let there = slot_at c.self.inside c.args.count c.len.result s c.if-count-len.true c.len.ensures c.index.ensures in
    cut_entries c.self.inside c.args.self.now c.truncate.new.self c.truncate-then-count-len.new.self s c.args.count c.self.invariant c.self.view_is there
    c.truncate.ensures.items c.truncate-then-count-len.ensures.items

pub returns-else-count-len-clause-entries : goal.returns-else-count-len-clause-entries
returns-else-count-len-clause-entries c = same_entries c.self.inside c.args.self.now c.args.count c.self.invariant c.self.view_is (omega (arith, c.if-count-len.false, c.len.ensures))
