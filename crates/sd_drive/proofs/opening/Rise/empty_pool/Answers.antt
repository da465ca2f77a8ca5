use Rattle.std.proofs.Common.{◌≡◌, ℕ, ◌+◌, refl, sym, ap, ◌∙◌, subst, arith}
use Rattle.std.proofs.lemmas.Result.{err_from_is_err_and}
use Rattle.sd_world.specs.Serving.{Telling, telling}
use Rattle.sd_base.specs.Standing.{is_up}
use Rattle.sd_drive.specs.Emptying.{BreaksIn, OpensAt, OpensTo, StopsIn, copies_from, pools_from}
use Rattle.sd_drive.proofs.Pools.{breaks-then, opens-fit, opens-in, opens-then, pool-begins, pool-ends, pool-stays, stops-then}
use Rattle.sd_drive.proofs.opening.Rise.empty_pool.Goals as goal

pub status_of-status-requires : goal.status_of-status-requires
status_of-status-requires g c =
    let tell : Telling g.row.G.Denot = telling g.G.Rig.seen g.G.Rig.leaves g.G.Rig.moment g.G.Rig.since g.G.Rig.faults in
    record { fits = opens-fit tell c.args.self.now (pools_from c.args.inst) c.requires.at }

pub returns-then-is_up-clause-emptied : goal.returns-then-is_up-clause-emptied
returns-then-is_up-clause-emptied g c =
    let tell : Telling g.row.G.Denot = telling g.G.Rig.seen g.G.Rig.leaves g.G.Rig.moment g.G.Rig.since g.G.Rig.faults in
    pool-stays tell c.args.self.now c.args.inst c.requires.low c.requires.high (sym (ap is_up c.status_of-status.ensures) ∙ sym c.is_up.ensures ∙ c.if-is_up.true)

pub loop-number-init : goal.loop-number-init
loop-number-init g c =
    let tell : Telling g.row.G.Denot = telling g.G.Rig.seen g.G.Rig.leaves g.G.Rig.moment g.G.Rig.since g.G.Rig.faults in
    record { on = pool-begins tell c.args.self.now c.args.inst c.requires.low c.requires.high; within = omega arith; same = (refl, refl) }

pub let_go-requires : goal.let_go-requires
let_go-requires g c =
    let tell : Telling g.row.G.Denot = telling g.G.Rig.seen g.G.Rig.leaves g.G.Rig.moment g.G.Rig.since g.G.Rig.faults in
    let lt = c.loop-number-test.true in
    let is = c.page_no.ensures in
    record {
      at = subst (λ (p : ℕ). OpensAt tell c.loop-number.self (copies_from c.args.inst p)) (sym is) (opens-in tell c.args.self.now c.loop-number.self (pools_from c.args.inst) (copies_from c.args.inst c.loop-number.number) c.loop-number.invariant.on c.requires.at);
      low = c.requires.low;
      high = c.requires.high;
      range = omega (arith, is, lt);
    }

pub returns-in_err-let_go-clause-memory : goal.returns-in_err-let_go-clause-memory
returns-in_err-let_go-clause-memory g c =
    let tell : Telling g.row.G.Denot = telling g.G.Rig.seen g.G.Rig.leaves g.G.Rig.moment g.G.Rig.since g.G.Rig.faults in
    let p = err_from_is_err_and c.from_residual.result c.from_residual.ensures.1 in
    rw (p.1, p.2) (λ is. stops-then tell c.args.self.now c.loop-number.self (pools_from c.args.inst) (copies_from c.args.inst c.loop-number.number) c.loop-number.invariant.on c.let_go.new.self
    (subst (λ (p : ℕ). StopsIn tell c.loop-number.self c.let_go.new.self (copies_from c.args.inst p)) c.page_no.ensures (c.in_err-let_go.ensures.memory is)))

pub returns-in_err-let_go-clause-breaks : goal.returns-in_err-let_go-clause-breaks
returns-in_err-let_go-clause-breaks g c =
    let tell : Telling g.row.G.Denot = telling g.G.Rig.seen g.G.Rig.leaves g.G.Rig.moment g.G.Rig.since g.G.Rig.faults in
    let p = err_from_is_err_and c.from_residual.result c.from_residual.ensures.1 in
    rw (p.1, p.2) (λ is. breaks-then tell c.args.self.now c.loop-number.self (pools_from c.args.inst) (copies_from c.args.inst c.loop-number.number) c.loop-number.invariant.on c.let_go.new.self
    (subst (λ (p : ℕ). BreaksIn tell c.loop-number.self c.let_go.new.self (copies_from c.args.inst p)) c.page_no.ensures (c.in_err-let_go.ensures.breaks is)))

pub loop-number-preserved : goal.loop-number-preserved
loop-number-preserved g c =
    let tell : Telling g.row.G.Denot = telling g.G.Rig.seen g.G.Rig.leaves g.G.Rig.moment g.G.Rig.since g.G.Rig.faults in
    record {
      on = opens-then tell c.args.self.now c.loop-number.self (pools_from c.args.inst) (copies_from c.args.inst c.loop-number.number) c.loop-number.invariant.on c.let_go.new.self
          (copies_from c.args.inst (c.loop-number.number + 1))
          (subst (λ (p : ℕ). OpensTo tell c.loop-number.self c.let_go.new.self (copies_from c.args.inst p) (copies_from c.args.inst (p + 1)))
          c.page_no.ensures c.in_ok-let_go.ensures.gone);
      within = let lt = c.loop-number-test.true in omega (arith, lt);
      same = (c.let_go.ensures.same.0 ∙ c.loop-number.invariant.same.0, c.let_go.ensures.same.1 ∙ c.loop-number.invariant.same.1);
    }

pub returns-clause-emptied : goal.returns-clause-emptied
returns-clause-emptied g c =
    let tell : Telling g.row.G.Denot = telling g.G.Rig.seen g.G.Rig.leaves g.G.Rig.moment g.G.Rig.since g.G.Rig.faults in
    let past = c.loop-number-test.false in
    let within = c.loop-number.invariant.within in
    let last : c.loop-number.number ≡ 1024 = omega (arith, past, within) in
    opens-then tell c.args.self.now c.loop-number.self (pools_from c.args.inst) (copies_from c.args.inst c.loop-number.number) c.loop-number.invariant.on c.loop-number.self (pools_from (c.args.inst + 1))
    (subst (λ (p : ℕ). OpensTo tell c.loop-number.self c.loop-number.self (copies_from c.args.inst p) (pools_from (c.args.inst + 1))) (sym last)
    (pool-ends tell c.loop-number.self c.args.inst c.requires.low c.requires.high))
