use Rattle.std.proofs.Common.{Bool, true, false, ℕ, ◌+◌, refl, sym, ◌∙◌, subst, arith}
use Rattle.std.proofs.lemmas.Result.{err_from_is_err_and}
use Rattle.sd_world.specs.Serving.{Telling, telling}
use Rattle.sd_drive.specs.Reaching.{IsJoining, JoinsNow, JoinsSome}
use Rattle.sd_drive.proofs.Joining.{joins-begin, joins-end, joins-in, joins-last, joins-next, joins-part}
use Rattle.sd_drive.proofs.driver.Driver.join_all.Goals as goal

pub loop-number-init : goal.loop-number-init
loop-number-init g c =
    let tell : Telling _ = telling g.G.Rig.seen g.G.Rig.leaves g.G.Rig.moment g.G.Rig.since g.G.Rig.faults in
    record { on = joins-begin tell c.args.self.now c.args.line.now c.requires.joins; same = (refl, refl) }

pub join_absent-requires : goal.join_absent-requires
join_absent-requires g c =
    let tell : Telling _ = telling g.G.Rig.seen g.G.Rig.leaves g.G.Rig.moment g.G.Rig.since g.G.Rig.faults in
    let lt = c.loop-number-test.true in
    let most = c.requires.at.driven.insts_most in
    let same = c.loop-number.invariant.same.0 in
    let is = c.inst_no.ensures in
    record {
      at = subst (λ (i : ℕ). IsJoining tell c.loop-number.self c.args.line.now i) (sym is)
          (joins-in tell c.args.self.now c.args.line.now c.requires.joins c.loop-number.self (c.loop-number.number + 1) c.loop-number.invariant.on
          c.requires.at);
      joins = c.requires.joins;
      low = omega (arith, is);
      high = omega (arith, is, lt, most);
      within = omega (arith, is, lt, same);
    }

pub returns-in_err-join_absent-clause-memory : goal.returns-in_err-join_absent-clause-memory
returns-in_err-join_absent-clause-memory g c =
    let tell : Telling _ = telling g.G.Rig.seen g.G.Rig.leaves g.G.Rig.moment g.G.Rig.since g.G.Rig.faults in
    let p = err_from_is_err_and c.from_residual.result c.from_residual.ensures.1 in
    rw p.1 (joins-part tell c.args.self.now c.args.line.now c.requires.joins c.loop-number.self (c.loop-number.number + 1) c.loop-number.invariant.on
    c.join_absent.new.self
    (subst (λ (i : ℕ). JoinsSome tell c.loop-number.self c.join_absent.new.self c.args.line.now i) c.inst_no.ensures c.in_err-join_absent.ensures.memory))

pub returns-then-not-branch-clause-driven : goal.returns-then-not-branch-clause-driven
returns-then-not-branch-clause-driven g c =
    let tell : Telling _ = telling g.G.Rig.seen g.G.Rig.leaves g.G.Rig.moment g.G.Rig.since g.G.Rig.faults in
    joins-last tell c.args.self.now c.args.line.now c.requires.joins c.loop-number.self (c.loop-number.number + 1) c.loop-number.invariant.on
    c.join_absent.new.self
    (subst (λ (i : ℕ). JoinsNow tell c.loop-number.self c.join_absent.new.self c.args.line.now i false) c.inst_no.ensures
    (subst (λ (b : Bool). JoinsNow tell c.loop-number.self c.join_absent.new.self c.args.line.now c.inst_no.result b) c.if-not-branch.true
    c.in_ok-join_absent.ensures.joined))

pub loop-number-preserved : goal.loop-number-preserved
loop-number-preserved g c =
    let tell : Telling _ = telling g.G.Rig.seen g.G.Rig.leaves g.G.Rig.moment g.G.Rig.since g.G.Rig.faults in
    record {
      on = joins-next tell c.args.self.now c.args.line.now c.requires.joins c.loop-number.self (c.loop-number.number + 1) c.loop-number.invariant.on
          c.join_absent.new.self
          (subst (λ (i : ℕ). JoinsNow tell c.loop-number.self c.join_absent.new.self c.args.line.now i true) c.inst_no.ensures
          (subst (λ (b : Bool). JoinsNow tell c.loop-number.self c.join_absent.new.self c.args.line.now c.inst_no.result b) c.if-not-branch.false
          c.in_ok-join_absent.ensures.joined));
      same = (c.join_absent.ensures.same.0 ∙ c.loop-number.invariant.same.0, c.join_absent.ensures.same.1 ∙ c.loop-number.invariant.same.1);
    }

pub returns-clause-driven : goal.returns-clause-driven
returns-clause-driven g c =
    let tell : Telling _ = telling g.G.Rig.seen g.G.Rig.leaves g.G.Rig.moment g.G.Rig.since g.G.Rig.faults in
    let same = c.loop-number.invariant.same.0 in
    joins-end tell c.args.self.now c.args.line.now c.requires.joins c.loop-number.self (c.loop-number.number + 1) c.loop-number.invariant.on
    (omega (arith, same))
