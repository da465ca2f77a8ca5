use Rattle.std.proofs.Common.{sym, ◌∙◌}
use Rattle.sd_world.specs.Serving.{Telling, telling}
use Rattle.sd_drive.proofs.Pulled.{given-not, given-on}
use Rattle.sd_drive.proofs.pull.give.Goals as goal

pub help-requires-clause-served : goal.help-requires-clause-served
help-requires-clause-served g c = tt

pub help-requires-clause-helps : goal.help-requires-clause-helps
help-requires-clause-helps g c = tt

pub returns-in-Gave-clause-given : goal.returns-in-Gave-clause-given
returns-in-Gave-clause-given g c =
    let tell : Telling _ = telling g.G.Rig.seen g.G.Rig.leaves g.G.Rig.moment g.G.Rig.since g.G.Rig.faults in
    let h = c.in_ok-answer.ensures.helped in
    λ for. given-on tell c.args.page for c.args.hall.now c.help.new.hall c.args.of h.0 h.2 (h.1 ∙ c.in-Gave.is)

pub returns-in_default : goal.returns-in_default
returns-in_default g c =
    let tell : Telling _ = telling g.G.Rig.seen g.G.Rig.leaves g.G.Rig.moment g.G.Rig.since g.G.Rig.faults in
    let h = c.in_ok-answer.ensures.helped in
    record {
      given = λ for. given-not tell c.args.page for c.args.hall.now c.help.new.hall c.args.of h.0 h.2 (λ gave. c.in_default.not-Gave (sym h.1 ∙ gave));
      memory = tt;
      rests = c.in_ok-answer.ensures.rests;
    }
