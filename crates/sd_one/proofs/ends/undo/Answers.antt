use Rattle.std.proofs.Common.{ap, ◌∙◌, refl}
use Rattle.std.specs.Prelude.{None}
use Rattle.sd_state.specs.Complexes.{parts}
use Rattle.sd_state.specs.Parts.{Parts}
use Rattle.sd_one.proofs.Ready.{ready, rolls-to}
use Rattle.sd_one.proofs.ends.undo.Goals as goal

pub undo-requires-clause-good : goal.undo-requires-clause-good
undo-requires-clause-good g c = (
  c.turn.ensures.m,
  None,
  c.turn.ensures.good,
  rolls-to c.args.t.now (g.G.Rig.seen c.turn.new.c.rig) (g.G.Rig.leaves c.turn.new.c.rig) (parts c.turn.new.c) c.turn.ensures.m
      c.turn.ensures.good c.turn.ensures.idle (c.if-not-may_take_back.ensures refl),
)

pub returns : goal.returns
returns g c =
    let rolls = rolls-to c.args.t.now (g.G.Rig.seen c.turn.new.c.rig) (g.G.Rig.leaves c.turn.new.c.rig) (parts c.turn.new.c)
    c.turn.ensures.m c.turn.ensures.good c.turn.ensures.idle (c.if-not-may_take_back.ensures refl) in
    ready (ap (λ (p : Parts). p.due) c.undo.ensures.made.rest ∙ c.turn.ensures.idle)
    (c.undo.ensures.good c.turn.ensures.m None c.turn.ensures.good rolls)
