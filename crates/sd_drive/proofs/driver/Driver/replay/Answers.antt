use Rattle.std.proofs.Common.{◌≡◌, length, refl, ◌∙◌, subst, arith}
use Rattle.std.proofs.lemmas.Result.{err_from_is_err_and}
use Rattle.sd_world.specs.Serving.{Telling, telling}
use Rattle.sd_drive.proofs.Replays.{IsAt, all-told, at-line, line-done, line-some}
use Rattle.sd_drive.proofs.driver.Driver.replay.Goals as goal

pub loop-line-init : goal.loop-line-init
loop-line-init g c = record { on = λ start w r. (w, r); same = (refl, refl); within = omega arith }

pub line-requires : goal.line-requires
line-requires g c =
    let tell : Telling _ = telling g.G.Rig.seen g.G.Rig.leaves g.G.Rig.moment g.G.Rig.since g.G.Rig.faults in
    record {
      at = at-line tell c.args.lines.now c.args.self.now c.requires.script c.loop-line.self c.loop-line.invariant.same c.loop-line.line-index
          c.loop-line.invariant.on c.line-item.result c.loop-line-test.true c.line-item.is c.requires.at;
    }

pub returns-in_err-line-clause-memory : goal.returns-in_err-line-clause-memory
returns-in_err-line-clause-memory g c =
    let tell : Telling _ = telling g.G.Rig.seen g.G.Rig.leaves g.G.Rig.moment g.G.Rig.since g.G.Rig.faults in
    let p = err_from_is_err_and c.from_residual.result c.from_residual.ensures.1 in
    rw p.1 (line-some tell c.args.lines.now c.args.self.now c.requires.script c.loop-line.self c.loop-line.invariant.same c.loop-line.line-index
    c.loop-line.invariant.on c.line-item.result c.loop-line-test.true c.line-item.is c.line.new.self c.in_err-line.ensures.memory)

pub loop-line-preserved : goal.loop-line-preserved
loop-line-preserved g c =
    let tell : Telling _ = telling g.G.Rig.seen g.G.Rig.leaves g.G.Rig.moment g.G.Rig.since g.G.Rig.faults in
    record {
      on = line-done tell c.args.lines.now c.args.self.now c.requires.script c.loop-line.self c.loop-line.invariant.same c.loop-line.line-index
          c.loop-line.invariant.on c.line-item.result c.loop-line-test.true c.line-item.is c.line.new.self c.in_ok-line.ensures.driven;
      same = (c.line.ensures.same.0 ∙ c.loop-line.invariant.same.0, c.line.ensures.same.1 ∙ c.loop-line.invariant.same.1);
      within = let lt = c.loop-line-test.true in omega (arith, lt);
    }

pub returns-clause-told : goal.returns-clause-told
returns-clause-told g c =
    let tell : Telling _ = telling g.G.Rig.seen g.G.Rig.leaves g.G.Rig.moment g.G.Rig.since g.G.Rig.faults in
    let within = c.loop-line.invariant.within in
    let past = c.loop-line-test.false in
    let all : c.loop-line.line-index ≡ length c.args.lines.now = omega (arith, within, past) in
    all-told tell c.args.lines.now c.args.self.now c.requires.script c.loop-line.self
    (subst (IsAt tell c.args.lines.now c.args.self.now c.requires.script c.loop-line.self) all c.loop-line.invariant.on)
