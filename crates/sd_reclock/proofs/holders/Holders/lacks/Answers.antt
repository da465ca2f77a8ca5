use Rattle.std.proofs.Common.{sym}
use Rattle.sd_base.specs.Ids.{same_txn}
use Rattle.sd_reclock.proofs.Firsts.{other_none, other_row, lacks_all}
use Rattle.sd_reclock.proofs.holders.Holders.lacks.Goals as goal

pub returns-in-None : goal.returns-in-None
returns-in-None c h = lacks_all c.self.inside.first c.self.inside.others c.args.self.now c.args.t.now c.self.view_is (c.is_empty.ensures.0 h)
    (other_none c.self.inside.first c.args.t.now c.in-None.is)

pub returns-else-eq : goal.returns-else-eq
unfolding same_txn
returns-else-eq c h = lacks_all c.self.inside.first c.self.inside.others c.args.self.now c.args.t.now c.self.view_is (c.is_empty-in-Some.ensures.0 h)
    (other_row c.self.inside.first c.in-Some.u c.args.t.now c.in-Some._mode c.in-Some.is (sym c.if-eq.ensures))
