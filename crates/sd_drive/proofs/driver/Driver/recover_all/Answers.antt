use Rattle.std.proofs.Common.{Bool, true, false, ℕ, ◌+◌, refl, sym, ◌∙◌, subst, arith}
use Rattle.std.proofs.lemmas.Result.{err_from_is_err_and}
use Rattle.sd_world.specs.Serving.{Telling, telling}
use Rattle.sd_drive.specs.Recovering.{LineRecovers, RecoversNow, RecoversSome}
use Rattle.sd_drive.proofs.Recovering.{recovers-begin, recovers-end, recovers-in, recovers-last, recovers-next, recovers-part}
use Rattle.sd_drive.proofs.driver.Driver.recover_all.Goals as goal

pub loop-number-init : goal.loop-number-init
loop-number-init g c =
    let tell : Telling _ = telling g.G.Rig.seen g.G.Rig.leaves g.G.Rig.moment g.G.Rig.since g.G.Rig.faults in
    record { on = recovers-begin tell c.args.self.now c.args.line.now c.requires.recovers; within = omega arith; same = (refl, refl) }

pub recover_down-requires : goal.recover_down-requires
recover_down-requires g c =
    let tell : Telling _ = telling g.G.Rig.seen g.G.Rig.leaves g.G.Rig.moment g.G.Rig.since g.G.Rig.faults in
    let lt = c.loop-number-test.true in
    let is = c.inst_no.ensures in
    record {
      at = subst (λ (i : ℕ). LineRecovers tell c.loop-number.self c.args.line.now i) (sym is)
          (recovers-in tell c.args.self.now c.args.line.now c.requires.recovers c.loop-number.self (c.loop-number.number + 1) c.loop-number.invariant.on
          c.requires.at);
      recovers = c.requires.recovers;
      low = omega (arith, is);
      high = omega (arith, is, lt);
    }

pub returns-in_err-recover_down-clause-memory : goal.returns-in_err-recover_down-clause-memory
returns-in_err-recover_down-clause-memory g c =
    let tell : Telling _ = telling g.G.Rig.seen g.G.Rig.leaves g.G.Rig.moment g.G.Rig.since g.G.Rig.faults in
    let p = err_from_is_err_and c.from_residual.result c.from_residual.ensures.1 in
    rw p.1 (recovers-part tell c.args.self.now c.args.line.now c.requires.recovers c.loop-number.self (c.loop-number.number + 1) c.loop-number.invariant.on
    c.recover_down.new.self
    (subst (λ (i : ℕ). RecoversSome tell c.loop-number.self c.recover_down.new.self c.args.line.now i) c.inst_no.ensures c.in_err-recover_down.ensures.memory))

pub returns-then-not-branch-clause-driven : goal.returns-then-not-branch-clause-driven
returns-then-not-branch-clause-driven g c =
    let tell : Telling _ = telling g.G.Rig.seen g.G.Rig.leaves g.G.Rig.moment g.G.Rig.since g.G.Rig.faults in
    recovers-last tell c.args.self.now c.args.line.now c.requires.recovers c.loop-number.self (c.loop-number.number + 1) c.loop-number.invariant.on
    c.recover_down.new.self
    (subst (λ (i : ℕ). RecoversNow tell c.loop-number.self c.recover_down.new.self c.args.line.now i false) c.inst_no.ensures
    (subst (λ (b : Bool). RecoversNow tell c.loop-number.self c.recover_down.new.self c.args.line.now c.inst_no.result b) c.if-not-branch.true
    c.in_ok-recover_down.ensures.recovered))

pub loop-number-preserved : goal.loop-number-preserved
loop-number-preserved g c =
    let tell : Telling _ = telling g.G.Rig.seen g.G.Rig.leaves g.G.Rig.moment g.G.Rig.since g.G.Rig.faults in
    record {
      on = recovers-next tell c.args.self.now c.args.line.now c.requires.recovers c.loop-number.self (c.loop-number.number + 1) c.loop-number.invariant.on
          c.recover_down.new.self
          (subst (λ (i : ℕ). RecoversNow tell c.loop-number.self c.recover_down.new.self c.args.line.now i true) c.inst_no.ensures
          (subst (λ (b : Bool). RecoversNow tell c.loop-number.self c.recover_down.new.self c.args.line.now c.inst_no.result b) c.if-not-branch.false
          c.in_ok-recover_down.ensures.recovered));
      within = let lt = c.loop-number-test.true in omega (arith, lt);
      same = (c.recover_down.ensures.same.0 ∙ c.loop-number.invariant.same.0, c.recover_down.ensures.same.1 ∙ c.loop-number.invariant.same.1);
    }

pub returns-clause-driven : goal.returns-clause-driven
returns-clause-driven g c =
    let tell : Telling _ = telling g.G.Rig.seen g.G.Rig.leaves g.G.Rig.moment g.G.Rig.since g.G.Rig.faults in
    let past = c.loop-number-test.false in
    let within = c.loop-number.invariant.within in
    recovers-end tell c.args.self.now c.args.line.now c.requires.recovers c.loop-number.self (c.loop-number.number + 1) c.loop-number.invariant.on
    (omega (arith, past, within))
