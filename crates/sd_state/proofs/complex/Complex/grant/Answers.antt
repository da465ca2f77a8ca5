use Rattle.sd_state.specs.Complexes.{parts}
use Rattle.sd_state.proofs.WorkingTakes.{grants-good, ok-then}
use Rattle.sd_state.proofs.complex.Complex.grant.Goals as goal

pub returns-clause-good : goal.returns-clause-good
returns-clause-good g c =
    let rig = c.args.self.now.rig in
    ok-then c.grant.result c.grant.ensures.given
    (λ given m good. grants-good (g.G.Rig.seen rig) (g.G.Rig.leaves rig) (parts c.args.self.now) m c.args.t.now c.args.r.now c.args.mode
    c.grant.new.self good c.requires.idle c.requires.up c.requires.runs c.requires.free given)
