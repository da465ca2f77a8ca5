use Rattle.sd_rig.proofs.Gates.{closes_none}
use Rattle.sd_rig.proofs.putting.make_closed.Goals as goal

pub returns-then-not-is_open-clause-any_moment : goal.returns-then-not-is_open-clause-any_moment
returns-then-not-is_open-clause-any_moment g c =
    let r = g.G.Rig in
    let rig = c.args.rig.now in
    record { each = λ img since. closes_none c.args.dev c.args.gate (r.seen rig) (r.leaves rig) img c.requires.device c.requires.stable (g.met.G.Rig.only_now rig img since) }
