use Rattle.std.proofs.Common.{refl, sym, ap, ◌∙◌}
use Rattle.std.proofs.lemmas.Result.{err_from_is_err_and}
use Rattle.sd_world.specs.Serving.{Telling, telling}
use Rattle.sd_model.specs.Replies.{is_did}
use Rattle.sd_drive.proofs.Backs.{back-all, back-due, back-in, back-named, back-not, back-part, back-served, back-some, none-is, roll-none, rolls-named}
use Rattle.sd_drive.proofs.Doing.{nothing-came, ordinal-known, short-there}
use Rattle.sd_drive.proofs.Helps.{on-err-then, on-ok-then}
use Rattle.sd_drive.proofs.Operating.{came-some}
use Rattle.sd_drive.proofs.driver.Driver.roll_back.Goals as goal

pub txn_of-requires : goal.txn_of-requires
txn_of-requires g c =
    let tell : Telling _ = telling g.G.Rig.seen g.G.Rig.leaves g.G.Rig.moment g.G.Rig.since g.G.Rig.faults in
    record { known = ordinal-known tell c.args.self.now c.args.line.now c.requires.at }

pub returns-in_default-clause-driven : goal.returns-in_default-clause-driven
returns-in_default-clause-driven g c =
    let tell : Telling _ = telling g.G.Rig.seen g.G.Rig.leaves g.G.Rig.moment g.G.Rig.since g.G.Rig.faults in
    roll-none tell c.args.self.now c.args.line.now c.requires.rolls (sym c.txn_of.ensures ∙ none-is c.txn_of.result c.in_default.not-Some)

pub event_by-requires-clause-named : goal.event_by-requires-clause-named
event_by-requires-clause-named g c = rolls-named c.args.line.now.form c.requires.rolls

pub event_by-requires-clause-short : goal.event_by-requires-clause-short
event_by-requires-clause-short g c =
    let tell : Telling _ = telling g.G.Rig.seen g.G.Rig.leaves g.G.Rig.moment g.G.Rig.since g.G.Rig.faults in
    short-there tell c.args.self.now c.args.line.now c.requires.at

pub returns-in_err-back-clause-memory : goal.returns-in_err-back-clause-memory
returns-in_err-back-clause-memory g c =
    let tell : Telling _ = telling g.G.Rig.seen g.G.Rig.leaves g.G.Rig.moment g.G.Rig.since g.G.Rig.faults in
    let p = err_from_is_err_and c.from_residual.result c.from_residual.ensures.1 in
    rw p.1 (nothing-came tell c.args.self.now c.args.line.now)

pub operate-requires-clause-served : goal.operate-requires-clause-served
operate-requires-clause-served g c =
    let tell : Telling _ = telling g.G.Rig.seen g.G.Rig.leaves g.G.Rig.moment g.G.Rig.since g.G.Rig.faults in
    back-served tell c.args.self.now c.args.line.now c.requires.rolls c.in-Some.txn (sym c.txn_of.ensures ∙ c.in-Some.is) c.in_ok-back.back
    c.in_ok-back.ensures c.requires.at

pub operate-requires-clause-names : goal.operate-requires-clause-names
operate-requires-clause-names g c =
    let tell : Telling _ = telling g.G.Rig.seen g.G.Rig.leaves g.G.Rig.moment g.G.Rig.since g.G.Rig.faults in
    back-named tell c.args.self.now c.args.line.now c.requires.rolls c.in-Some.txn (sym c.txn_of.ensures ∙ c.in-Some.is) c.in_ok-back.back
    c.in_ok-back.ensures c.requires.at

pub operate-requires-clause-due : goal.operate-requires-clause-due
operate-requires-clause-due g c =
    let tell : Telling _ = telling g.G.Rig.seen g.G.Rig.leaves g.G.Rig.moment g.G.Rig.since g.G.Rig.faults in
    back-due tell c.args.self.now c.args.line.now c.requires.rolls c.in-Some.txn (sym c.txn_of.ensures ∙ c.in-Some.is) c.in_ok-back.back
    c.in_ok-back.ensures c.requires.at

pub returns-in_err-operate-clause-memory : goal.returns-in_err-operate-clause-memory
returns-in_err-operate-clause-memory g c =
    let tell : Telling _ = telling g.G.Rig.seen g.G.Rig.leaves g.G.Rig.moment g.G.Rig.since g.G.Rig.faults in
    let p = err_from_is_err_and c.from_residual-in_err-operate.result c.from_residual-in_err-operate.ensures.1 in
    rw p.1 (back-some tell c.args.self.now c.args.line.now c.requires.rolls c.in-Some.txn (sym c.txn_of.ensures ∙ c.in-Some.is) c.in_ok-back.back
    c.in_ok-back.ensures (record c.args.self.now { hall = c.operate.new.hall }) c.in_err-operate.ensures.memory)

pub last-requires : goal.last-requires
last-requires g c =
    let tell : Telling _ = telling g.G.Rig.seen g.G.Rig.leaves g.G.Rig.moment g.G.Rig.since g.G.Rig.faults in
    came-some tell c.args.self.now.hall c.operate.new.hall c.args.line.now.session c.args.line.now.number c.in_ok-back.back
    c.in_ok-operate.ensures.done
    (back-due tell c.args.self.now c.args.line.now c.requires.rolls c.in-Some.txn (sym c.txn_of.ensures ∙ c.in-Some.is) c.in_ok-back.back
    c.in_ok-back.ensures c.requires.at)

pub returns-then-not-is_did-clause-driven : goal.returns-then-not-is_did-clause-driven
returns-then-not-is_did-clause-driven g c =
    let tell : Telling _ = telling g.G.Rig.seen g.G.Rig.leaves g.G.Rig.moment g.G.Rig.since g.G.Rig.faults in
    back-not tell c.args.self.now c.args.line.now c.requires.rolls c.in-Some.txn (sym c.txn_of.ensures ∙ c.in-Some.is) c.in_ok-back.back
    c.in_ok-back.ensures (record c.args.self.now { hall = c.operate.new.hall }) (refl, refl) refl c.in_ok-operate.ensures.done
    (λ before r noted. sym (ap is_did (c.last.ensures before _ noted)) ∙ sym c.is_did.ensures ∙ c.if-not-is_did.true)

pub undo_all-requires : goal.undo_all-requires
undo_all-requires g c =
    let tell : Telling _ = telling g.G.Rig.seen g.G.Rig.leaves g.G.Rig.moment g.G.Rig.since g.G.Rig.faults in
    record {
      at = back-in tell c.args.self.now c.args.line.now c.requires.rolls c.in-Some.txn (sym c.txn_of.ensures ∙ c.in-Some.is) c.in_ok-back.back
          c.in_ok-back.ensures (record c.args.self.now { hall = c.operate.new.hall }) (refl, refl) refl c.in_ok-operate.ensures.done
          (λ before r noted. sym (ap is_did (c.last.ensures before _ noted)) ∙ sym c.is_did.ensures ∙ c.if-not-is_did.false) c.requires.at;
    }

pub returns-clause-driven : goal.returns-clause-driven
returns-clause-driven g c =
    let tell : Telling _ = telling g.G.Rig.seen g.G.Rig.leaves g.G.Rig.moment g.G.Rig.since g.G.Rig.faults in
    on-ok-then c.undo_all.result _ _
    (back-all tell c.args.self.now c.args.line.now c.requires.rolls c.in-Some.txn (sym c.txn_of.ensures ∙ c.in-Some.is) c.in_ok-back.back
    c.in_ok-back.ensures (record c.args.self.now { hall = c.operate.new.hall }) (refl, refl) refl c.in_ok-operate.ensures.done
    (λ before r noted. sym (ap is_did (c.last.ensures before _ noted)) ∙ sym c.is_did.ensures ∙ c.if-not-is_did.false) c.undo_all.new.self)
    c.undo_all.ensures.driven

pub returns-clause-memory : goal.returns-clause-memory
returns-clause-memory g c =
    let tell : Telling _ = telling g.G.Rig.seen g.G.Rig.leaves g.G.Rig.moment g.G.Rig.since g.G.Rig.faults in
    on-err-then c.undo_all.result _ _
    (back-part tell c.args.self.now c.args.line.now c.requires.rolls c.in-Some.txn (sym c.txn_of.ensures ∙ c.in-Some.is) c.in_ok-back.back
    c.in_ok-back.ensures (record c.args.self.now { hall = c.operate.new.hall }) (refl, refl) refl c.in_ok-operate.ensures.done
    (λ before r noted. sym (ap is_did (c.last.ensures before _ noted)) ∙ sym c.is_did.ensures ∙ c.if-not-is_did.false) c.undo_all.new.self)
    c.undo_all.ensures.memory
