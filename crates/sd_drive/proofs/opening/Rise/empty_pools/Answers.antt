use Rattle.std.proofs.Common.{◌≡◌, ℕ, ◌+◌, refl, sym, ◌∙◌, subst, arith}
use Rattle.std.proofs.lemmas.Result.{err_from_is_err_and}
use Rattle.sd_world.specs.Serving.{Telling, telling}
use Rattle.sd_drive.specs.Emptying.{BreaksIn, OpensAt, OpensTo, StopsIn, pools_from}
use Rattle.sd_drive.proofs.Pools.{breaks-then, opens-in, opens-then, stops-then}
use Rattle.sd_drive.proofs.opening.Rise.empty_pools.Goals as goal

pub loop-number-init : goal.loop-number-init
loop-number-init g c = record { on = λ start w lines on. (w, on); within = omega arith; same = (refl, refl) }

pub empty_pool-requires : goal.empty_pool-requires
empty_pool-requires g c =
    let tell : Telling g.row.G.Denot = telling g.G.Rig.seen g.G.Rig.leaves g.G.Rig.moment g.G.Rig.since g.G.Rig.faults in
    let lt = c.loop-number-test.true in
    let is = c.inst_no.ensures in
    record {
      at = subst (λ (i : ℕ). OpensAt tell c.loop-number.self (pools_from i)) (sym is) (opens-in tell c.args.self.now c.loop-number.self (pools_from 1) (pools_from (c.loop-number.number + 1)) c.loop-number.invariant.on c.requires.at);
      low = omega (arith, is);
      high = omega (arith, is, lt);
    }

pub returns-in_err-empty_pool-clause-memory : goal.returns-in_err-empty_pool-clause-memory
returns-in_err-empty_pool-clause-memory g c =
    let tell : Telling g.row.G.Denot = telling g.G.Rig.seen g.G.Rig.leaves g.G.Rig.moment g.G.Rig.since g.G.Rig.faults in
    let p = err_from_is_err_and c.from_residual.result c.from_residual.ensures.1 in
    rw (p.1, p.2) (λ is. stops-then tell c.args.self.now c.loop-number.self (pools_from 1) (pools_from (c.loop-number.number + 1)) c.loop-number.invariant.on c.empty_pool.new.self
    (subst (λ (i : ℕ). StopsIn tell c.loop-number.self c.empty_pool.new.self (pools_from i)) c.inst_no.ensures (c.in_err-empty_pool.ensures.memory is)))

pub returns-in_err-empty_pool-clause-breaks : goal.returns-in_err-empty_pool-clause-breaks
returns-in_err-empty_pool-clause-breaks g c =
    let tell : Telling g.row.G.Denot = telling g.G.Rig.seen g.G.Rig.leaves g.G.Rig.moment g.G.Rig.since g.G.Rig.faults in
    let p = err_from_is_err_and c.from_residual.result c.from_residual.ensures.1 in
    rw (p.1, p.2) (λ is. breaks-then tell c.args.self.now c.loop-number.self (pools_from 1) (pools_from (c.loop-number.number + 1)) c.loop-number.invariant.on c.empty_pool.new.self
    (subst (λ (i : ℕ). BreaksIn tell c.loop-number.self c.empty_pool.new.self (pools_from i)) c.inst_no.ensures (c.in_err-empty_pool.ensures.breaks is)))

pub loop-number-preserved : goal.loop-number-preserved
loop-number-preserved g c =
    let tell : Telling g.row.G.Denot = telling g.G.Rig.seen g.G.Rig.leaves g.G.Rig.moment g.G.Rig.since g.G.Rig.faults in
    record {
      on = opens-then tell c.args.self.now c.loop-number.self (pools_from 1) (pools_from (c.loop-number.number + 1)) c.loop-number.invariant.on c.empty_pool.new.self
          (pools_from (c.loop-number.number + 1 + 1))
          (subst (λ (i : ℕ). OpensTo tell c.loop-number.self c.empty_pool.new.self (pools_from i) (pools_from (i + 1)))
          c.inst_no.ensures c.in_ok-empty_pool.ensures.emptied);
      within = let lt = c.loop-number-test.true in omega (arith, lt);
      same = (c.empty_pool.ensures.same.0 ∙ c.loop-number.invariant.same.0, c.empty_pool.ensures.same.1 ∙ c.loop-number.invariant.same.1);
    }

pub returns-clause-emptied : goal.returns-clause-emptied
returns-clause-emptied g c =
    let tell : Telling g.row.G.Denot = telling g.G.Rig.seen g.G.Rig.leaves g.G.Rig.moment g.G.Rig.since g.G.Rig.faults in
    let past = c.loop-number-test.false in
    let within = c.loop-number.invariant.within in
    let last : c.loop-number.number + 1 ≡ 9 = omega (arith, past, within) in
    subst (λ (i : ℕ). OpensTo tell c.args.self.now c.loop-number.self (pools_from 1) (pools_from i)) last c.loop-number.invariant.on
