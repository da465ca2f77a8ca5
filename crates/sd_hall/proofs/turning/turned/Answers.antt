use Rattle.std.proofs.Common.{refl, sym, ◌∙◌}
use Rattle.sd_world.specs.Serving.{Telling, telling}
use Rattle.sd_hall.proofs.Bodies.{frames-in, neither, not-over}
use Rattle.sd_hall.proofs.Closed.{lasts-in}
use Rattle.sd_hall.proofs.turning.turned.Goals as goal

pub fail_all-requires : goal.fail_all-requires
fail_all-requires g c =
    let tell : Telling _ = telling g.G.Rig.seen g.G.Rig.leaves g.G.Rig.moment g.G.Rig.since g.G.Rig.faults in
    let fits = c.requires.fits in
    record { frames = frames-in tell c.args.body fits.0 c.args.shape.frames fits.1 fits.2 }

pub unreachable-requires : goal.unreachable-requires
unreachable-requires g c =
    c.requires.over (neither c.args.e.now (λ pick is. c.in_default.not-FailAll pick is) (λ is. c.in_default.not-Reopen is))

pub returns-in-FailAll-clause-reopens : goal.returns-in-FailAll-clause-reopens
returns-in-FailAll-clause-reopens g c = λ is did. absurd (not-over _ (sym c.in-FailAll.is ∙ is))

pub returns-in-FailAll-clause-closes : goal.returns-in-FailAll-clause-closes
returns-in-FailAll-clause-closes g c =
    let tell : Telling _ = telling g.G.Rig.seen g.G.Rig.leaves g.G.Rig.moment g.G.Rig.since g.G.Rig.faults in
    λ pick is. lasts-in tell c.args.body c.fail_all.result c.fail_all.ensures.durable

pub returns-in-Reopen-clause-closes : goal.returns-in-Reopen-clause-closes
returns-in-Reopen-clause-closes g c = λ pick is. absurd (not-over pick (sym is ∙ c.in-Reopen.is))

pub returns-in-Reopen-clause-reopens : goal.returns-in-Reopen-clause-reopens
returns-in-Reopen-clause-reopens g c = λ is did. c.open_again.ensures.reopens refl did
