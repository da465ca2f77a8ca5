use Rattle.std.proofs.Common.{sym, ap, subst}
use Rattle.std.specs.Prelude.{Err}
use Rattle.sd_base.specs.declared.refusal.Refusal.{Refusal}
use Rattle.sd_moves.specs.Opening.{AreOpened, opened_parts}
use Rattle.sd_state.specs.Parts.{Parts}
use Rattle.sd_restart.proofs.Reopened.{opened-still, opens-still}
use Rattle.sd_restart.proofs.restarting.restart.Goals as goal

pub assemble-requires-clause-found : goal.assemble-requires-clause-found
assemble-requires-clause-found g c =
    let r = g.G.Rig in
    let frames = c.args.shape.frames in
    opened-still (r.seen c.args.rig) (r.seen c.found_on.new.rig) c.in-Ok.ensures.calms.reads frames (opened_parts frames c.in-Ok.found)
    (c.in-Ok.ensures.found frames)

pub returns-in-Ok-assemble-clause-opened : goal.returns-in-Ok-assemble-clause-opened
returns-in-Ok-assemble-clause-opened g c =
    let r = g.G.Rig in
    let frames = c.args.shape.frames in
    subst (λ (p : Parts). AreOpened frames (r.seen c.args.rig) p) (sym c.in-Ok-assemble.ensures.parts) (c.in-Ok.ensures.found frames)

pub returns-in-Ok-assemble-clause-good : goal.returns-in-Ok-assemble-clause-good
returns-in-Ok-assemble-clause-good g c = λ m o.
    let r = g.G.Rig in
    c.in-Ok-assemble.ensures.good m (opens-still (r.seen c.args.rig) (r.seen c.found_on.new.rig) c.in-Ok.ensures.calms.reads m o)

pub returns-in-Err-clause-place : goal.returns-in-Err-clause-place
returns-in-Err-clause-place g c = λ dev at is. c.in-Err.ensures.place dev at (ap (λ (e : Refusal). Err e) is)
