use Rattle.std.proofs.Common.{◌≡◌, arith, sym, ◌∙◌, subst}
use Rattle.sd_state.specs.Complexes.{parts}
use Rattle.sd_state.specs.Good.{Good}
use Rattle.sd_moves.specs.Opening.{opened_parts}
use Rattle.sd_state.specs.Parts.{Parts}
use Rattle.sd_state.specs.Values.{Pending}
use Rattle.sd_moves.proofs.OpenedGood.{opened-good}
use Rattle.sd_moves.proofs.assembling.assemble.Goals as goal

pub returns-in-Ok-clause-good : goal.returns-in-Ok-clause-good
returns-in-Ok-clause-good g c m opens =
    let laws = g.met.G.Rig in
    let rig = c.args.rig in
    let is : opened_parts c.args.shape.frames c.args.found ≡ parts c.over.result = sym (c.over.ensures.parts ∙ c.in-Ok.ensures) in
    subst (λ r. Good (g.G.Rig.seen r) (g.G.Rig.leaves r) Pending.Idle (parts c.over.result) m) (sym c.over.ensures.rig)
    (subst (λ (p : Parts). Good (g.G.Rig.seen rig) (g.G.Rig.leaves rig) Pending.Idle p m) is
    (opened-good (g.G.Rig.seen rig) (g.G.Rig.leaves rig) c.args.shape.frames (opened_parts c.args.shape.frames c.args.found) m
    c.requires.settled (laws.whole rig 0 (g.G.Rig.seen rig 0) (omega arith) (laws.leaves_seen rig 0 (omega arith))) c.requires.found opens))
