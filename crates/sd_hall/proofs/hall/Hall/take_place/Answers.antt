use Rattle.std.proofs.Common.{ℕ, ◌+◌, ◌≤◌, inl, arith}
use Rattle.sd_base.proofs.Results.{on_ok}
use Rattle.sd_world.specs.Serving.{Telling, telling}
use Rattle.sd_hall.proofs.Keeping.{made-place, of-err, owed-counted}
use Rattle.sd_hall.proofs.hall.Hall.take_place.Goals as goal

pub overflow_sub-self : goal.overflow_sub-self
overflow_sub-self g c =
    let tell : Telling _ = telling g.G.Rig.seen g.G.Rig.leaves g.G.Rig.moment g.G.Rig.since g.G.Rig.faults in
    let k = c.requires.kept in
    owed-counted tell k.0 c.args.e.now c.args.self.now k.1 ((c.is_owed_in.ensures k.1.core k.1.fits).0 c.if-is_owed_in.true)

pub returns-then-is_owed_in-clause-place : goal.returns-then-is_owed_in-clause-place
returns-then-is_owed_in-clause-place g c =
    let tell : Telling _ = telling g.G.Rig.seen g.G.Rig.leaves g.G.Rig.moment g.G.Rig.since g.G.Rig.faults in
    let k = c.requires.kept in
    let some = owed-counted tell k.0 c.args.e.now c.args.self.now k.1
    ((c.is_owed_in.ensures k.1.core k.1.fits).0 c.if-is_owed_in.true) in
    inl (record { owed = λ w f. (c.is_owed_in.ensures w f).0 c.if-is_owed_in.true; less = omega (arith, some); room = k.1.room })

pub returns-then-is_owed_in-clause-fits : goal.returns-then-is_owed_in-clause-fits
returns-then-is_owed_in-clause-fits g c =
    let tell : Telling _ = telling g.G.Rig.seen g.G.Rig.leaves g.G.Rig.moment g.G.Rig.since g.G.Rig.faults in
    let k = c.requires.kept in
    let some = owed-counted tell k.0 c.args.e.now c.args.self.now k.1
    ((c.is_owed_in.ensures k.1.core k.1.fits).0 c.if-is_owed_in.true) in
    omega (arith, some)

pub returns-clause-place : goal.returns-clause-place
returns-clause-place g c =
    let tell : Telling _ = telling g.G.Rig.seen g.G.Rig.leaves g.G.Rig.moment g.G.Rig.since g.G.Rig.faults in
    let made = c.make_room.ensures in
    on_ok c.make_room.result _ _ (λ room. made-place tell c.args.e.now c.args.self.now c.make_room.new.self made.owed room) made.room

pub returns-clause-fits : goal.returns-clause-fits
returns-clause-fits g c = on_ok c.make_room.result _ _ (λ room. one-of-two _ _ room) c.make_room.ensures.fits
  where
    one-of-two : (n most : ℕ) → n + 2 ≤ most → n + 1 ≤ most
    one-of-two n most fits = omega (arith, fits)

pub returns-clause-free : goal.returns-clause-free
returns-clause-free g c = of-err c.make_room.result _
    (λ w f owed. let is = (c.is_owed_in.ensures w f).1 owed in let not = c.if-is_owed_in.false in absurd (cc))
