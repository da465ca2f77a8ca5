use Rattle.std.proofs.Common.{◌≡◌, inl, inr, ⊎_elim, ℕ, List, get_or, ◌∙◌, subst, arith}
use Rattle.std.proofs.lemmas.Result.{err_from_is_err_and}
use Rattle.sd_chain.specs.Faults.{LogFailsAt}
use Rattle.sd_recovered.proofs.Growing.{count-taken, fails-next, read-all, read-next, unread-next}
use Rattle.sd_recovered.proofs.Refusals.{came, told_on}
use Rattle.sd_recovered.proofs.logs.read_logs.Goals as goal

pub next-requires-clause-few : goal.next-requires-clause-few
next-requires-clause-few c =
    let i = c.loop-device.device-index in
    let n = count-taken c.args.devices.now i c.loop-device.read c.loop-device.invariant c.loop-device.auto.device-index-end in
    let lt = c.loop-device-test.true in
    let eight = c.requires.eight in
    omega (arith, n, lt, eight)

pub returns-in_err-read-clause-unsound : goal.returns-in_err-read-clause-unsound
returns-in_err-read-clause-unsound c =
    let i = c.loop-device.device-index in
    let devices : List (List ℕ) = c.args.devices.now in
    let device : List ℕ = c.items.result.now in
    let held : List ℕ = c.device-item.result in
    let here : device ≡ get_or devices i held = c.items.ensures ∙ c.device-item.is in
    let told = ⊎_elim (λ m. inl m)
    (λ d. inr (d.0, d.1, d.2, unread-next devices i c.loop-device.read c.loop-device.invariant device held c.loop-device-test.true here d.3))
    c.in_err-read.ensures.unsound in
    let p = err_from_is_err_and c.from_residual.result c.from_residual.ensures.1 in
    told_on _ c.from_residual.result p.0 c.in_err-read.field-0.0 p.1 p.2 told

pub returns-in_err-read-clause-place : goal.returns-in_err-read-clause-place
returns-in_err-read-clause-place c = λ dev at is.
    let i = c.loop-device.device-index in
    let devices : List (List ℕ) = c.args.devices.now in
    let held : List ℕ = c.device-item.result in
    let p = err_from_is_err_and c.from_residual.result c.from_residual.ensures.1 in
    let f = c.in_err-read.ensures.place dev at (came c.from_residual.result p.0 c.in_err-read.field-0.0 dev at p.1 p.2 is) in
    fails-next devices i c.loop-device.read c.loop-device.invariant held dev at c.loop-device-test.true c.device-item.is f.0
    (subst (λ (x : List ℕ). LogFailsAt dev x at) c.items.ensures f.1)

pub loop-device-preserved : goal.loop-device-preserved
loop-device-preserved c =
    let i = c.loop-device.device-index in
    let devices : List (List ℕ) = c.args.devices.now in
    let device : List ℕ = c.items.result.now in
    let held : List ℕ = c.device-item.result in
    let here : device ≡ get_or devices i held = c.items.ensures ∙ c.device-item.is in
    read-next devices i device held c.in_ok-read.read c.loop-device-test.true here (c.in_ok-read.ensures.read _ c.loop-device.invariant)

pub returns-clause-read : goal.returns-clause-read
returns-clause-read c =
    read-all c.args.devices.now c.loop-device.device-index c.loop-device.read c.loop-device.invariant c.loop-device.auto.device-index-end
    c.loop-device-test.false
