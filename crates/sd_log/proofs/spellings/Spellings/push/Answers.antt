use Rattle.std.proofs.Common.{length, ap, ◌∙◌, arith}
use Rattle.sd_log.proofs.Spelling.{pushed, pushed_entries, text_is}
use Rattle.sd_log.proofs.spellings.Spellings.push.Goals as goal

pub overflow_cast-at : goal.overflow_cast-at
overflow_cast-at c = omega (arith, c.len-at.ensures, c.self.inside.bytes.ok.0, ap length (text_is c.self.inside c.args.self.now c.self.invariant c.self.view_is), c.requires.small)

pub invariant_of-self : goal.invariant_of-self
invariant_of-self c =
    pushed c.self.inside c.write.new.out c.push_reserved.new.self (record { lsn = c.lsn-lsn.result; place = c.args.place; at = c.len-at.result }) c.args.rec.now c.self.invariant
    c.requires.fits (c.len-at.ensures ∙ c.self.inside.bytes.ok.0) c.lsn-lsn.ensures c.write.ensures.items c.push_reserved.ensures.items

pub returns-clause-entries : goal.returns-clause-entries
returns-clause-entries c =
    pushed_entries c.self.inside c.args.self.now c.write.new.out c.push_reserved.new.self (record { lsn = c.lsn-lsn.result; place = c.args.place; at = c.len-at.result }) c.args.rec.now
    c.self.invariant c.self.view_is c.requires.fits c.write.ensures.items c.push_reserved.ensures.items
