use Rattle.std.proofs.Common.{◌≡◌, ℕ, ◌+◌, refl, sym, ◌∙◌, subst, arith}
use Rattle.std.proofs.lemmas.Result.{err_from_is_err_and}
use Rattle.sd_world.specs.Serving.{Telling, telling}
use Rattle.sd_drive.specs.Restarting.{IsRestarting, RestartBreaks, Restarts, RestartsSome}
use Rattle.sd_drive.proofs.Openings.{restarts-broken, restarts-in, restarts-next, restarts-some}
use Rattle.sd_drive.proofs.opening.Rise.restart_all.Goals as goal

pub loop-number-init : goal.loop-number-init
loop-number-init g c = record { on = λ start w lines at. (w, at); within = omega arith; same = (refl, refl) }

pub restart-requires : goal.restart-requires
restart-requires g c =
    let tell : Telling g.row.G.Denot = telling g.G.Rig.seen g.G.Rig.leaves g.G.Rig.moment g.G.Rig.since g.G.Rig.faults in
    let lt = c.loop-number-test.true in
    let is = c.inst_no.ensures in
    record {
      at = subst (λ (i : ℕ). IsRestarting tell c.loop-number.self i) (sym is)
          (restarts-in tell c.args.self.now c.loop-number.self (c.loop-number.number + 1) c.loop-number.invariant.on c.requires.at);
      low = omega (arith, is);
      high = omega (arith, is, lt);
    }

pub returns-in_err-restart-clause-memory : goal.returns-in_err-restart-clause-memory
returns-in_err-restart-clause-memory g c =
    let tell : Telling g.row.G.Denot = telling g.G.Rig.seen g.G.Rig.leaves g.G.Rig.moment g.G.Rig.since g.G.Rig.faults in
    let p = err_from_is_err_and c.from_residual.result c.from_residual.ensures.1 in
    rw (p.1, p.2) (λ is. restarts-some tell c.args.self.now c.loop-number.self (c.loop-number.number + 1) c.loop-number.invariant.on c.restart.new.self
    (subst (λ (i : ℕ). RestartsSome tell c.loop-number.self c.restart.new.self i) c.inst_no.ensures (c.in_err-restart.ensures.memory is)))

pub returns-in_err-restart-clause-breaks : goal.returns-in_err-restart-clause-breaks
returns-in_err-restart-clause-breaks g c =
    let tell : Telling g.row.G.Denot = telling g.G.Rig.seen g.G.Rig.leaves g.G.Rig.moment g.G.Rig.since g.G.Rig.faults in
    let p = err_from_is_err_and c.from_residual.result c.from_residual.ensures.1 in
    rw (p.1, p.2) (λ is. restarts-broken tell c.args.self.now c.loop-number.self (c.loop-number.number + 1) c.loop-number.invariant.on c.restart.new.self
    (subst (λ (i : ℕ). RestartBreaks tell c.loop-number.self c.restart.new.self i) c.inst_no.ensures (c.in_err-restart.ensures.breaks is)))

pub loop-number-preserved : goal.loop-number-preserved
loop-number-preserved g c =
    let tell : Telling g.row.G.Denot = telling g.G.Rig.seen g.G.Rig.leaves g.G.Rig.moment g.G.Rig.since g.G.Rig.faults in
    record {
      on = restarts-next tell c.args.self.now c.loop-number.self (c.loop-number.number + 1) c.loop-number.invariant.on c.restart.new.self
          (c.loop-number.number + 1 + 1)
          (subst (λ (i : ℕ). Restarts tell c.loop-number.self c.restart.new.self i (i + 1)) c.inst_no.ensures c.in_ok-restart.ensures.restarted);
      within = let lt = c.loop-number-test.true in omega (arith, lt);
      same = (c.restart.ensures.same.0 ∙ c.loop-number.invariant.same.0, c.restart.ensures.same.1 ∙ c.loop-number.invariant.same.1);
    }

pub returns-clause-restarted : goal.returns-clause-restarted
returns-clause-restarted g c =
    let tell : Telling g.row.G.Denot = telling g.G.Rig.seen g.G.Rig.leaves g.G.Rig.moment g.G.Rig.since g.G.Rig.faults in
    let past = c.loop-number-test.false in
    let within = c.loop-number.invariant.within in
    let last : c.loop-number.number + 1 ≡ 9 = omega (arith, past, within) in
    subst (λ (i : ℕ). Restarts tell c.args.self.now c.loop-number.self 1 i) last c.loop-number.invariant.on
