use Rattle.std.proofs.Common.{◌≡◌, ℕ, ◌+◌, ◌-◌, Bool, true, false, sym, ap, ◌∙◌, subst, arith}
use Rattle.std.specs.Prelude.{Option, unwrap_or}
use Rattle.sd_drive.specs.Bodies.{status_in}
use Rattle.sd_drive.specs.Driving.{first_from}
use Rattle.sd_base.specs.Standing.{is_up}
use Rattle.sd_drive.proofs.Finding.{first-behind, first-here, first-none}
use Rattle.sd_drive.proofs.driver.lister.Goals as goal

pub loop-number-init : goal.loop-number-init
loop-number-init g c =
    let test : ℕ → Bool = λ i. is_up (status_in c.args.hall.now.body i) in
    let same : c.args.insts ≡ c.args.insts - 0 = omega arith in
    record { rest = ap (first_from test 1) same }

pub returns-then-is_up : goal.returns-then-is_up
returns-then-is_up g c =
    let test : ℕ → Bool = λ i. is_up (status_in c.args.hall.now.body i) in
    let k = c.loop-number.number in
    let lt = c.loop-number-test.true in
    let here : test (k + 1) ≡ true = subst (λ (i : ℕ). test i ≡ true) c.inst_no-inst.ensures
    (sym (ap is_up c.status_of.ensures) ∙ sym c.is_up.ensures ∙ c.if-is_up.true) in
    c.inst_no-inst.ensures ∙ sym (ap (λ (o : Option ℕ). unwrap_or o 1)
    (c.loop-number.invariant.rest ∙ first-here test (k + 1) (c.args.insts - k) (omega (arith, lt)) here))

pub loop-number-preserved : goal.loop-number-preserved
loop-number-preserved g c =
    let test : ℕ → Bool = λ i. is_up (status_in c.args.hall.now.body i) in
    let k = c.loop-number.number in
    let lt = c.loop-number-test.true in
    let here : test (k + 1) ≡ false = subst (λ (i : ℕ). test i ≡ false) c.inst_no-inst.ensures
    (sym (ap is_up c.status_of.ensures) ∙ sym c.is_up.ensures ∙ c.if-is_up.false) in
    let count : c.args.insts - k ≡ (c.args.insts - (k + 1)) + 1 = omega (arith, lt) in
    record { rest = c.loop-number.invariant.rest ∙ first-behind test (k + 1) (c.args.insts - k) (c.args.insts - (k + 1)) count here }

pub returns : goal.returns
returns g c =
    let test : ℕ → Bool = λ i. is_up (status_in c.args.hall.now.body i) in
    let k = c.loop-number.number in
    let past = c.loop-number-test.false in
    let none : c.args.insts - k ≡ 0 = omega (arith, past) in
    c.inst_no.ensures ∙ sym (ap (λ (o : Option ℕ). unwrap_or o 1)
    (c.loop-number.invariant.rest ∙ first-none test (k + 1) (c.args.insts - k) none))
