use Rattle.std.proofs.Common.{⊎_elim, [], refl, subst, sym, arith}
use Rattle.std.specs.Prelude.{Option}
use Rattle.std.proofs.lemmas.Result.{err_from_is_err_and}
use Rattle.sd_world.specs.Serving.{Telling, telling}
use Rattle.sd_fits.specs.Bodies.{rig_of}
use Rattle.sd_fits.specs.declared.body.Body.{Body}
use Rattle.sd_hall.specs.Bodies.{IsRigIn}
use Rattle.sd_drive.proofs.Bodies.{fits-some}
use Rattle.sd_drive.proofs.Helps.{each-way, on-ok-map}
use Rattle.sd_drive.proofs.Openings.{fails-break, fails-keeps, is-restarting, joins-fail, joins-lost, joins-open, lost-in, lost-keeps, opened-all, pools-fail, pools-lost, pools-open, reached-keeps, restart-fails, restart-lost}
use Rattle.sd_drive.proofs.Unused.{risen-recovers}
use Rattle.sd_drive.proofs.opening.Rise.opening.Goals as goal

pub restart_all-requires : goal.restart_all-requires
restart_all-requires g c =
    let tell : Telling g.row.G.Denot = telling g.G.Rig.seen g.G.Rig.leaves g.G.Rig.moment g.G.Rig.since g.G.Rig.faults in
    record { at = is-restarting tell c.args.self.now c.requires.empty (λ d img s. g.met.G.Rig.only_now d img s) c.requires.kept }

pub returns-in_err-restart_all-clause-memory : goal.returns-in_err-restart_all-clause-memory
returns-in_err-restart_all-clause-memory g c =
    let tell : Telling g.row.G.Denot = telling g.G.Rig.seen g.G.Rig.leaves g.G.Rig.moment g.G.Rig.since g.G.Rig.faults in
    let p = err_from_is_err_and c.from_residual.result c.from_residual.ensures.1 in
    rw (p.1, p.2) (λ is. lost-in tell c.args.self.now c.requires.empty (λ d img s. g.met.G.Rig.only_now d img s) c.restart_all.new.self
    (restart-lost tell c.args.self.now c.requires.empty (λ d img s. g.met.G.Rig.only_now d img s) c.restart_all.new.self (c.in_err-restart_all.ensures.memory is)))

pub returns-in_err-restart_all-clause-breaks : goal.returns-in_err-restart_all-clause-breaks
returns-in_err-restart_all-clause-breaks g c =
    let tell : Telling g.row.G.Denot = telling g.G.Rig.seen g.G.Rig.leaves g.G.Rig.moment g.G.Rig.since g.G.Rig.faults in
    let p = err_from_is_err_and c.from_residual.result c.from_residual.ensures.1 in
    rw (p.1, p.2) (λ is. fails-break tell c.args.self.now c.requires.empty (λ d img s. g.met.G.Rig.only_now d img s) c.restart_all.new.self
    (restart-fails tell c.args.self.now c.requires.empty (λ d img s. g.met.G.Rig.only_now d img s) c.restart_all.new.self (c.in_err-restart_all.ensures.breaks is)) (λ rig dev le. g.met.G.Rig.leaves_seen rig dev le))

pub returns-in_err-restart_all-clause-kept : goal.returns-in_err-restart_all-clause-kept
returns-in_err-restart_all-clause-kept g c =
    let tell : Telling g.row.G.Denot = telling g.G.Rig.seen g.G.Rig.leaves g.G.Rig.moment g.G.Rig.since g.G.Rig.faults in
    ⊎_elim
    (λ is. lost-keeps tell c.args.self.now c.requires.empty (λ d img s. g.met.G.Rig.only_now d img s) c.restart_all.new.self
    (restart-lost tell c.args.self.now c.requires.empty (λ d img s. g.met.G.Rig.only_now d img s) c.restart_all.new.self (c.in_err-restart_all.ensures.memory is)))
    (λ is. fails-keeps tell c.args.self.now c.requires.empty (λ d img s. g.met.G.Rig.only_now d img s) c.restart_all.new.self
    (restart-fails tell c.args.self.now c.requires.empty (λ d img s. g.met.G.Rig.only_now d img s) c.restart_all.new.self (c.in_err-restart_all.ensures.breaks is)))
    c.in_err-restart_all.ensures.errors

pub join_each-requires : goal.join_each-requires
join_each-requires g c =
    let tell : Telling g.row.G.Denot = telling g.G.Rig.seen g.G.Rig.leaves g.G.Rig.moment g.G.Rig.since g.G.Rig.faults in
    let insts = c.restart_all.ensures.same.0 in
    let most = c.requires.most in
    record {
      at = joins-open tell c.args.self.now c.requires.empty (λ d img s. g.met.G.Rig.only_now d img s) c.restart_all.new.self c.restart_all.ensures.same c.requires.some c.in_ok-restart_all.ensures.restarted
          (is-restarting tell c.args.self.now c.requires.empty (λ d img s. g.met.G.Rig.only_now d img s) c.requires.kept);
      most = omega (arith, insts, most);
    }

pub returns-in_err-join_each-clause-memory : goal.returns-in_err-join_each-clause-memory
returns-in_err-join_each-clause-memory g c =
    let tell : Telling g.row.G.Denot = telling g.G.Rig.seen g.G.Rig.leaves g.G.Rig.moment g.G.Rig.since g.G.Rig.faults in
    let p = err_from_is_err_and c.from_residual-in_err-join_each.result c.from_residual-in_err-join_each.ensures.1 in
    rw (p.1, p.2) (λ is. lost-in tell c.args.self.now c.requires.empty (λ d img s. g.met.G.Rig.only_now d img s) c.join_each.new.self
    (joins-lost tell c.args.self.now c.requires.empty (λ d img s. g.met.G.Rig.only_now d img s) c.restart_all.new.self c.restart_all.ensures.same c.requires.some
    c.in_ok-restart_all.ensures.restarted c.join_each.new.self (c.in_err-join_each.ensures.memory is)))

pub returns-in_err-join_each-clause-breaks : goal.returns-in_err-join_each-clause-breaks
returns-in_err-join_each-clause-breaks g c =
    let tell : Telling g.row.G.Denot = telling g.G.Rig.seen g.G.Rig.leaves g.G.Rig.moment g.G.Rig.since g.G.Rig.faults in
    let p = err_from_is_err_and c.from_residual-in_err-join_each.result c.from_residual-in_err-join_each.ensures.1 in
    rw (p.1, p.2) (λ is. fails-break tell c.args.self.now c.requires.empty (λ d img s. g.met.G.Rig.only_now d img s) c.join_each.new.self
    (joins-fail tell c.args.self.now c.requires.empty (λ d img s. g.met.G.Rig.only_now d img s) c.restart_all.new.self c.restart_all.ensures.same c.requires.some
    c.in_ok-restart_all.ensures.restarted c.join_each.new.self (c.in_err-join_each.ensures.breaks is)) (λ rig dev le. g.met.G.Rig.leaves_seen rig dev le))

pub returns-in_err-join_each-clause-kept : goal.returns-in_err-join_each-clause-kept
returns-in_err-join_each-clause-kept g c =
    let tell : Telling g.row.G.Denot = telling g.G.Rig.seen g.G.Rig.leaves g.G.Rig.moment g.G.Rig.since g.G.Rig.faults in
    ⊎_elim
    (λ is. lost-keeps tell c.args.self.now c.requires.empty (λ d img s. g.met.G.Rig.only_now d img s) c.join_each.new.self (joins-lost tell c.args.self.now c.requires.empty (λ d img s. g.met.G.Rig.only_now d img s) c.restart_all.new.self c.restart_all.ensures.same c.requires.some
    c.in_ok-restart_all.ensures.restarted c.join_each.new.self (c.in_err-join_each.ensures.memory is)))
    (λ is. fails-keeps tell c.args.self.now c.requires.empty (λ d img s. g.met.G.Rig.only_now d img s) c.join_each.new.self (joins-fail tell c.args.self.now c.requires.empty (λ d img s. g.met.G.Rig.only_now d img s) c.restart_all.new.self c.restart_all.ensures.same c.requires.some
    c.in_ok-restart_all.ensures.restarted c.join_each.new.self (c.in_err-join_each.ensures.breaks is)))
    c.in_err-join_each.ensures.errors

pub empty_pools-requires : goal.empty_pools-requires
empty_pools-requires g c =
    let tell : Telling g.row.G.Denot = telling g.G.Rig.seen g.G.Rig.leaves g.G.Rig.moment g.G.Rig.since g.G.Rig.faults in
    record {
      at = pools-open tell c.args.self.now c.requires.empty (λ d img s. g.met.G.Rig.only_now d img s) c.restart_all.new.self c.restart_all.ensures.same c.requires.some
          c.in_ok-restart_all.ensures.restarted c.join_each.new.self c.in_ok-join_each.ensures.joined (is-restarting tell c.args.self.now c.requires.empty (λ d img s. g.met.G.Rig.only_now d img s) c.requires.kept);
    }

pub returns-clause-opened : goal.returns-clause-opened
returns-clause-opened g c =
    let tell : Telling g.row.G.Denot = telling g.G.Rig.seen g.G.Rig.leaves g.G.Rig.moment g.G.Rig.since g.G.Rig.faults in
    on-ok-map c.empty_pools.result _ _ (λ empty. opened-all tell c.args.self.now c.requires.empty (λ d img s. g.met.G.Rig.only_now d img s) c.restart_all.new.self c.restart_all.ensures.same c.requires.some
    c.in_ok-restart_all.ensures.restarted c.join_each.new.self c.in_ok-join_each.ensures.joined c.empty_pools.new.self empty) c.empty_pools.ensures.emptied

pub returns-clause-recovered : goal.returns-clause-recovered
returns-clause-recovered g c =
    let tell : Telling g.row.G.Denot = telling g.G.Rig.seen g.G.Rig.leaves g.G.Rig.moment g.G.Rig.since g.G.Rig.faults in
    let k = c.requires.kept in
    let b = fits-some tell c.args.self.now.hall.body k.1.core k.1.fits in
    let there : IsRigIn (rig_of b.0) c.args.self.now.hall.body = subst (λ (x : Option (Body g.row.G.Denot)). IsRigIn (rig_of b.0) x) (sym b.1) refl in
    on-ok-map c.empty_pools.result _ _ (λ empty unused.
    let all = opened-all tell c.args.self.now c.requires.empty (λ d img s. g.met.G.Rig.only_now d img s) c.restart_all.new.self c.restart_all.ensures.same c.requires.some
    c.in_ok-restart_all.ensures.restarted c.join_each.new.self c.in_ok-join_each.ensures.joined c.empty_pools.new.self empty in
    let h = all k.0 [] (rig_of b.0) there k.1 in
    risen-recovers tell c.args.self.now k.0 k.1 c.requires.empty unused [] (rig_of b.0) c.empty_pools.new.self h.0 h.1) c.empty_pools.ensures.emptied

pub returns-clause-memory : goal.returns-clause-memory
returns-clause-memory g c =
    let tell : Telling g.row.G.Denot = telling g.G.Rig.seen g.G.Rig.leaves g.G.Rig.moment g.G.Rig.since g.G.Rig.faults in
    λ is. lost-in tell c.args.self.now c.requires.empty (λ d img s. g.met.G.Rig.only_now d img s) c.empty_pools.new.self
    (pools-lost tell c.args.self.now c.requires.empty (λ d img s. g.met.G.Rig.only_now d img s) c.restart_all.new.self c.restart_all.ensures.same c.requires.some
    c.in_ok-restart_all.ensures.restarted c.join_each.new.self c.in_ok-join_each.ensures.joined c.empty_pools.new.self (c.empty_pools.ensures.memory is))

pub returns-clause-breaks : goal.returns-clause-breaks
returns-clause-breaks g c =
    let tell : Telling g.row.G.Denot = telling g.G.Rig.seen g.G.Rig.leaves g.G.Rig.moment g.G.Rig.since g.G.Rig.faults in
    λ is. fails-break tell c.args.self.now c.requires.empty (λ d img s. g.met.G.Rig.only_now d img s) c.empty_pools.new.self
    (pools-fail tell c.args.self.now c.requires.empty (λ d img s. g.met.G.Rig.only_now d img s) c.restart_all.new.self c.restart_all.ensures.same c.requires.some
    c.in_ok-restart_all.ensures.restarted c.join_each.new.self c.in_ok-join_each.ensures.joined c.empty_pools.new.self (c.empty_pools.ensures.breaks is)) (λ rig dev le. g.met.G.Rig.leaves_seen rig dev le)

pub returns-clause-kept : goal.returns-clause-kept
returns-clause-kept g c =
    let tell : Telling g.row.G.Denot = telling g.G.Rig.seen g.G.Rig.leaves g.G.Rig.moment g.G.Rig.since g.G.Rig.faults in
    each-way c.empty_pools.result _ _ _ _ c.empty_pools.ensures.errors c.empty_pools.ensures.emptied c.empty_pools.ensures.memory c.empty_pools.ensures.breaks
    (λ empty. reached-keeps tell c.args.self.now c.requires.empty (λ d img s. g.met.G.Rig.only_now d img s) c.restart_all.new.self c.restart_all.ensures.same c.requires.some
    c.in_ok-restart_all.ensures.restarted c.join_each.new.self c.in_ok-join_each.ensures.joined c.empty_pools.new.self (opened-all tell c.args.self.now c.requires.empty (λ d img s. g.met.G.Rig.only_now d img s) c.restart_all.new.self c.restart_all.ensures.same c.requires.some
    c.in_ok-restart_all.ensures.restarted c.join_each.new.self c.in_ok-join_each.ensures.joined c.empty_pools.new.self empty))
    (λ lost. lost-keeps tell c.args.self.now c.requires.empty (λ d img s. g.met.G.Rig.only_now d img s) c.empty_pools.new.self (pools-lost tell c.args.self.now c.requires.empty (λ d img s. g.met.G.Rig.only_now d img s) c.restart_all.new.self c.restart_all.ensures.same c.requires.some
    c.in_ok-restart_all.ensures.restarted c.join_each.new.self c.in_ok-join_each.ensures.joined c.empty_pools.new.self lost))
    (λ breaks. fails-keeps tell c.args.self.now c.requires.empty (λ d img s. g.met.G.Rig.only_now d img s) c.empty_pools.new.self (pools-fail tell c.args.self.now c.requires.empty (λ d img s. g.met.G.Rig.only_now d img s) c.restart_all.new.self c.restart_all.ensures.same c.requires.some
    c.in_ok-restart_all.ensures.restarted c.join_each.new.self c.in_ok-join_each.ensures.joined c.empty_pools.new.self breaks))
