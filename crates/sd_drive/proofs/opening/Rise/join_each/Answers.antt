use Rattle.std.proofs.Common.{ℕ, ◌+◌, inl, refl, sym, ◌∙◌, subst, arith}
use Rattle.std.proofs.lemmas.Result.{err_from_is_err_and}
use Rattle.sd_world.specs.Serving.{Telling, telling}
use Rattle.sd_drive.specs.Rising.{IsOpening, JoinBreaks, Joins}
use Rattle.sd_drive.specs.declared.opening.Rise.{Rise}
use Rattle.sd_drive.proofs.Openings.{is-opening, joins-all, joins-broken, joins-next, joins-some}
use Rattle.sd_drive.proofs.opening.Rise.join_each.Goals as goal

pub loop-number-init : goal.loop-number-init
loop-number-init g c = record { on = λ start w lines j. (w, inl j); same = (refl, refl) }

pub join-requires : goal.join-requires
join-requires g c =
    let tell : Telling g.row.G.Denot = telling g.G.Rig.seen g.G.Rig.leaves g.G.Rig.moment g.G.Rig.since g.G.Rig.faults in
    let here : Rise g.row.G.Denot = c.loop-number.self in
    let lt = c.loop-number-test.true in
    let same = c.loop-number.invariant.same.0 in
    record {
      at = subst (λ (i : ℕ). IsOpening tell here i) (sym c.inst_no.ensures)
          (is-opening tell c.args.self.now here (c.loop-number.number + 1) c.loop-number.invariant.on (omega (arith, lt, same)) c.requires.at);
    }

pub returns-in_err-join-clause-memory : goal.returns-in_err-join-clause-memory
returns-in_err-join-clause-memory g c =
    let tell : Telling g.row.G.Denot = telling g.G.Rig.seen g.G.Rig.leaves g.G.Rig.moment g.G.Rig.since g.G.Rig.faults in
    let here : Rise g.row.G.Denot = c.loop-number.self in
    let lt = c.loop-number-test.true in
    let same = c.loop-number.invariant.same.0 in
    let p = err_from_is_err_and c.from_residual.result c.from_residual.ensures.1 in
    rw (p.1, p.2) (λ is. joins-some tell c.args.self.now here (c.loop-number.number + 1) c.loop-number.invariant.on (omega (arith, lt, same))
    c.join.new.self (c.in_err-join.ensures.memory is))

pub returns-in_err-join-clause-breaks : goal.returns-in_err-join-clause-breaks
returns-in_err-join-clause-breaks g c =
    let tell : Telling g.row.G.Denot = telling g.G.Rig.seen g.G.Rig.leaves g.G.Rig.moment g.G.Rig.since g.G.Rig.faults in
    let here : Rise g.row.G.Denot = c.loop-number.self in
    let lt = c.loop-number-test.true in
    let same = c.loop-number.invariant.same.0 in
    let p = err_from_is_err_and c.from_residual.result c.from_residual.ensures.1 in
    rw (p.1, p.2) (λ is. joins-broken tell c.args.self.now here (c.loop-number.number + 1) c.loop-number.invariant.on (omega (arith, lt, same))
    c.join.new.self (subst (λ (i : ℕ). JoinBreaks tell here c.join.new.self i) c.inst_no.ensures (c.in_err-join.ensures.breaks is)))

pub loop-number-preserved : goal.loop-number-preserved
loop-number-preserved g c =
    let tell : Telling g.row.G.Denot = telling g.G.Rig.seen g.G.Rig.leaves g.G.Rig.moment g.G.Rig.since g.G.Rig.faults in
    let here : Rise g.row.G.Denot = c.loop-number.self in
    let lt = c.loop-number-test.true in
    let was = c.loop-number.invariant.same in
    let same = was.0 in
    let next = c.join.ensures.same in
    record {
      on = joins-next tell c.args.self.now here (c.loop-number.number + 1) c.loop-number.invariant.on (omega (arith, lt, same)) c.join.new.self
          (subst (λ (i : ℕ). Joins tell here c.join.new.self i) c.inst_no.ensures c.in_ok-join.ensures.joined);
      same = (next.0 ∙ was.0, next.1 ∙ was.1);
    }

pub returns-clause-joined : goal.returns-clause-joined
returns-clause-joined g c =
    let tell : Telling g.row.G.Denot = telling g.G.Rig.seen g.G.Rig.leaves g.G.Rig.moment g.G.Rig.since g.G.Rig.faults in
    let past = c.loop-number-test.false in
    let same = c.loop-number.invariant.same.0 in
    joins-all tell c.args.self.now c.loop-number.self (c.loop-number.number + 1) c.loop-number.invariant.on (omega (arith, past, same))
