use Rattle.std.proofs.Common.{sym, ◌∙◌}
use Rattle.sd_recovered.proofs.Keys.{same-eq}
use Rattle.sd_recovered.proofs.Lasts.{more-other, more-newer}
use Rattle.sd_recovered.proofs.last_changes.Last.and.Goals as goal

pub returns-then-lsn-self : goal.returns-then-lsn-self
returns-then-lsn-self c =
    more-other c.args.self c.args.txn c.args.lsn _ (sym (same-eq c.args.txn c.args.self.txn) ∙ sym c.eq.ensures ∙ c.if-eq.false)
    c.if-lsn-self.true c.max-then-lsn-self.ensures

pub returns : goal.returns
returns c =
    more-newer c.args.self c.args.txn c.args.lsn _ (sym (same-eq c.args.txn c.args.self.txn) ∙ sym c.eq.ensures ∙ c.if-eq.false)
    c.if-lsn-self.false c.max-2.ensures
