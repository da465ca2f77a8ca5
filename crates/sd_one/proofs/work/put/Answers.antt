use Rattle.std.proofs.Common.{[], ap, ◌∙◌, sym, subst}
use Rattle.sd_base.specs.declared.place.Mode.TheVariants as modes
use Rattle.sd_model.specs.State.{took}
use Rattle.sd_model.specs.Waits.{claim_of}
use Rattle.sd_reclock.specs.Locks.{held}
use Rattle.sd_state.specs.Complexes.{parts}
use Rattle.sd_state.specs.Parts.{Parts}
use Rattle.sd_one.specs.Ready.{IsReady}
use Rattle.sd_one.proofs.Ready.{lock-given, ready}
use Rattle.sd_one.proofs.work.put.Goals as goal

pub change-requires-clause-good : goal.change-requires-clause-good
change-requires-clause-good g c =
    (took c.args.t.now c.args.r.now (claim_of modes.Excl) [] c.requires.m, c.in_ok-grant.ensures.good c.requires.m c.requires.good)

pub change-requires-clause-lock : goal.change-requires-clause-lock
change-requires-clause-lock g c =
    lock-given c.args.t.now c.args.r.now (held (parts c.args.c.now).locks c.args.t.now c.args.r.now)
    (held (parts c.grant.new.self).locks c.args.t.now c.args.r.now) (c.in_ok-grant.ensures.given c.args.t.now c.args.r.now)

pub returns-in_err-change : goal.returns-in_err-change
returns-in_err-change g c =
    let old : IsReady (g.G.Rig.seen c.grant.new.self.rig) (g.G.Rig.leaves c.grant.new.self.rig) (parts c.grant.new.self) =
    ready (ap (λ (p : Parts). p.due) c.in_ok-grant.ensures.parts ∙ c.requires.idle)
    (c.in_ok-grant.ensures.good c.requires.m c.requires.good) in
    subst (λ r. IsReady (g.G.Rig.seen r) (g.G.Rig.leaves r) (parts c.change.new.c)) (sym c.change.ensures.rig)
    (subst (λ (p : Parts). IsReady (g.G.Rig.seen c.grant.new.self.rig) (g.G.Rig.leaves c.grant.new.self.rig) p)
    (sym c.in_err-change.ensures.refused) old)

pub returns : goal.returns
returns g c = ready
    (ap (λ (p : Parts). p.due) c.in_ok-change.ensures.made.put.is ∙ ap (λ (p : Parts). p.due) c.in_ok-grant.ensures.parts ∙ c.requires.idle)
    (c.in_ok-change.ensures.good (took c.args.t.now c.args.r.now (claim_of modes.Excl) [] c.requires.m)
    (c.in_ok-grant.ensures.good c.requires.m c.requires.good))
