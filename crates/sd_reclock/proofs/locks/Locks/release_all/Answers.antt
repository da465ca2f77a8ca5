use Rattle.std.proofs.Common.{◌++◌, subst}
use Rattle.sd_reclock.specs.Locks.{Held}
use Rattle.sd_reclock.proofs.Agreeing.{Frees, agree_freed}
use Rattle.sd_reclock.proofs.Joining.{frees_both, apart_both}
use Rattle.sd_reclock.proofs.locks.Locks.release_all.Goals as goal

pub returns-clause-released : goal.returns-clause-released
returns-clause-released c = subst (λ (l : Held). Frees l (c.release_all.new.self ++ c.release_all-2.new.self) c.args.t.now) c.self.view_is
    (frees_both c.self.inside.few c.release_all.new.self c.self.inside.many c.release_all-2.new.self c.args.t.now c.self.invariant.0 c.release_all.ensures.rows c.release_all.ensures.released c.release_all-2.ensures.released)

pub returns-clause-agree : goal.returns-clause-agree
returns-clause-agree c = agree_freed (c.self.inside.few ++ c.self.inside.many) (c.release_all.new.self ++ c.release_all-2.new.self) c.args.t.now
    (frees_both c.self.inside.few c.release_all.new.self c.self.inside.many c.release_all-2.new.self c.args.t.now c.self.invariant.0 c.release_all.ensures.rows c.release_all.ensures.released c.release_all-2.ensures.released)
    c.self.invariant.1

pub invariant_of-self : goal.invariant_of-self
invariant_of-self c = (
  apart_both c.self.inside.few c.release_all.new.self c.self.inside.many c.release_all-2.new.self c.args.t.now c.self.invariant.0 c.release_all.ensures.rows c.release_all-2.ensures.released,
  agree_freed (c.self.inside.few ++ c.self.inside.many) (c.release_all.new.self ++ c.release_all-2.new.self) c.args.t.now
      (frees_both c.self.inside.few c.release_all.new.self c.self.inside.many c.release_all-2.new.self c.args.t.now c.self.invariant.0 c.release_all.ensures.rows c.release_all.ensures.released c.release_all-2.ensures.released)
      c.self.invariant.1,
)
