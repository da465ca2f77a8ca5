use Rattle.std.proofs.Common.{◌≡◌, ℕ, refl, sym, ap, ◌∙◌, subst, arith}
use Rattle.std.proofs.lemmas.Result.{err_from_is_err_and}
use Rattle.sd_model.specs.declared.event.Event.{Event}
use Rattle.sd_model.specs.declared.event.Event.TheVariants as event
use Rattle.sd_world.specs.Serving.{Telling, telling}
use Rattle.sd_drive.specs.Operating.{DueIn, Operates, OperatesSome}
use Rattle.sd_model.specs.Replies.{is_rows}
use Rattle.sd_drive.proofs.Operating.{came-some}
use Rattle.sd_drive.proofs.Tables.{table-due, table-first, table-last, table-next, table-fits, table-refused, table-some}
use Rattle.sd_drive.proofs.driver.Driver.table.Goals as goal

pub lister-inst-requires-clause-fits : goal.lister-inst-requires-clause-fits
lister-inst-requires-clause-fits g c =
    let tell : Telling _ = telling g.G.Rig.seen g.G.Rig.leaves g.G.Rig.moment g.G.Rig.since g.G.Rig.faults in
    table-fits tell c.args.self.now c.args.line.now c.requires.table 1 c.requires.at

pub lister-inst-requires-clause-most : goal.lister-inst-requires-clause-most
lister-inst-requires-clause-most g c = c.requires.at.driven.insts_most

pub loop-number-init : goal.loop-number-init
loop-number-init g c =
    let tell : Telling _ = telling g.G.Rig.seen g.G.Rig.leaves g.G.Rig.moment g.G.Rig.since g.G.Rig.faults in
    let some = c.requires.at.driven.some in
    record {
      more = λ lt. table-first tell c.args.self.now c.args.line.now c.requires.table c.lister-inst.result
          c.lister-inst.ensures;
      last = λ none. absurd (omega (arith, none, some));
      same = (refl, refl);
      txns = refl;
    }

pub page_no-page-requires : goal.page_no-page-requires
page_no-page-requires g c =
    let lt = c.loop-number-test.true in
    let most = c.requires.at.driven.most in omega (arith, lt, most)

pub operate-requires-clause-due : goal.operate-requires-clause-due
operate-requires-clause-due g c =
    let tell : Telling _ = telling g.G.Rig.seen g.G.Rig.leaves g.G.Rig.moment g.G.Rig.since g.G.Rig.faults in
    let same : event.List c.lister-inst.result c.loop-number.number ≡ event.List c.lister-inst.result c.page_no-page.result =
    ap (λ (p : ℕ). event.List c.lister-inst.result p) (sym c.page_no-page.ensures) in
    subst (λ (e : Event). DueIn tell c.loop-number.self.hall c.args.line.now.session c.args.line.now.number e) same
    (table-due tell c.args.self.now c.args.line.now c.requires.table c.lister-inst.result c.loop-number.self c.loop-number.number
    (c.loop-number.invariant.more c.loop-number-test.true) c.requires.at)

pub returns-in_err-operate-clause-memory : goal.returns-in_err-operate-clause-memory
returns-in_err-operate-clause-memory g c =
    let tell : Telling _ = telling g.G.Rig.seen g.G.Rig.leaves g.G.Rig.moment g.G.Rig.since g.G.Rig.faults in
    let same : event.List c.lister-inst.result c.page_no-page.result ≡ event.List c.lister-inst.result c.loop-number.number =
    ap (λ (p : ℕ). event.List c.lister-inst.result p) c.page_no-page.ensures in
    let new = record c.loop-number.self { hall = c.operate.new.hall } in
    let p = err_from_is_err_and c.from_residual.result c.from_residual.ensures.1 in
    rw p.1 (table-some tell c.args.self.now c.args.line.now c.requires.table c.lister-inst.result c.loop-number.self c.loop-number.number
    (c.loop-number.invariant.more c.loop-number-test.true) new
    (subst (λ (e : Event). OperatesSome tell c.loop-number.self.hall c.operate.new.hall c.args.line.now.session c.args.line.now.number e) same
    c.in_err-operate.ensures.memory))

pub returns-then-not-is_rows-clause-driven : goal.returns-then-not-is_rows-clause-driven
returns-then-not-is_rows-clause-driven g c =
    let tell : Telling _ = telling g.G.Rig.seen g.G.Rig.leaves g.G.Rig.moment g.G.Rig.since g.G.Rig.faults in
    let same : event.List c.lister-inst.result c.page_no-page.result ≡ event.List c.lister-inst.result c.loop-number.number =
    ap (λ (p : ℕ). event.List c.lister-inst.result p) c.page_no-page.ensures in
    let new = record c.loop-number.self { hall = c.operate.new.hall } in
    let came = subst (λ (e : Event). Operates tell c.loop-number.self.hall c.operate.new.hall c.args.line.now.session c.args.line.now.number e) same
    c.in_ok-operate.ensures.done in
    table-refused tell c.args.self.now c.args.line.now c.requires.table c.lister-inst.result c.loop-number.self c.loop-number.number
    (c.loop-number.invariant.more c.loop-number-test.true) new came
    (λ before r noted. sym (ap is_rows (c.last.ensures before _ noted)) ∙ sym c.is_rows.ensures ∙ c.if-not-is_rows.true)
    c.loop-number.invariant.same c.loop-number.invariant.txns

pub loop-number-preserved : goal.loop-number-preserved
loop-number-preserved g c =
    let tell : Telling _ = telling g.G.Rig.seen g.G.Rig.leaves g.G.Rig.moment g.G.Rig.since g.G.Rig.faults in
    let same : event.List c.lister-inst.result c.page_no-page.result ≡ event.List c.lister-inst.result c.loop-number.number =
    ap (λ (p : ℕ). event.List c.lister-inst.result p) c.page_no-page.ensures in
    let new = record c.loop-number.self { hall = c.operate.new.hall } in
    let came = subst (λ (e : Event). Operates tell c.loop-number.self.hall c.operate.new.hall c.args.line.now.session c.args.line.now.number e) same
    c.in_ok-operate.ensures.done in
    let on = c.loop-number.invariant.more c.loop-number-test.true in
    record {
      more = λ lt. table-next tell c.args.self.now c.args.line.now c.requires.table c.lister-inst.result c.loop-number.self c.loop-number.number on new came
          (λ before r noted. sym (ap is_rows (c.last.ensures before _ noted)) ∙ sym c.is_rows.ensures ∙ c.if-not-is_rows.false) lt;
      last = λ is. table-last tell c.args.self.now c.args.line.now c.requires.table c.lister-inst.result c.loop-number.self c.loop-number.number on new came
          (λ before r noted. sym (ap is_rows (c.last.ensures before _ noted)) ∙ sym c.is_rows.ensures ∙ c.if-not-is_rows.false) (omega (arith, is))
          c.loop-number.invariant.same c.loop-number.invariant.txns;
      same = c.loop-number.invariant.same;
      txns = c.loop-number.invariant.txns;
    }

pub returns-clause-driven : goal.returns-clause-driven
returns-clause-driven g c = c.loop-number.invariant.last (omega arith)

pub last-requires : goal.last-requires
last-requires g c =
    let tell : Telling _ = telling g.G.Rig.seen g.G.Rig.leaves g.G.Rig.moment g.G.Rig.since g.G.Rig.faults in
    let same : event.List c.lister-inst.result c.page_no-page.result ≡ event.List c.lister-inst.result c.loop-number.number =
    ap (λ (p : ℕ). event.List c.lister-inst.result p) c.page_no-page.ensures in
    came-some tell c.loop-number.self.hall c.operate.new.hall c.args.line.now.session c.args.line.now.number (event.List c.lister-inst.result c.loop-number.number)
    (subst (λ (e : Event). Operates tell c.loop-number.self.hall c.operate.new.hall c.args.line.now.session c.args.line.now.number e) same
    c.in_ok-operate.ensures.done)
    (table-due tell c.args.self.now c.args.line.now c.requires.table c.lister-inst.result c.loop-number.self c.loop-number.number
    (c.loop-number.invariant.more c.loop-number-test.true) c.requires.at)
