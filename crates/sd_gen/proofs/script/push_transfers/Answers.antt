use Rattle.std.proofs.Common.{◌≡◌, ℕ, ◌-◌, ◌+◌, ◌++◌, ap, ap₂, arith, ◌∙◌}
use Rattle.sd_gen.specs.declared.transfer.Transfer.{Transfer}
use Rattle.sd_gen.specs.Generated.{transfer_text, transfers_text}
use Rattle.sd_gen.proofs.Following.{no_more, one_more}
use Rattle.sd_gen.proofs.script.push_transfers.Goals as goal

pub loop-done-init : goal.loop-done-init
loop-done-init c =
    let all : c.args.count - 0 ≡ c.args.count = omega arith in
    ap₂ (λ (m x : ℕ). c.args.out.now.items ++ transfers_text 1 m x) all c.from-draws.ensures

pub loop-done-preserved : goal.loop-done-preserved
loop-done-preserved c =
    let out = c.loop-done.out.items in
    let done = c.loop-done.done in
    one_more out c.push_transfer.new.out.items done (c.args.count - (done + 1)) (c.args.count - done) c.loop-done.draws.state
    c.of-transfer.new.draws.state (omega (arith, c.loop-done-test.true)) c.of-transfer.ensures.state
    (c.in_ok-push_transfer.ensures
    ∙ ap₂ (λ (k : ℕ) (t : Transfer). out ++ transfer_text k t) (ap (λ (k : ℕ). k + 1) c.from.ensures) c.of-transfer.ensures.transfer)
    ∙ c.loop-done.invariant

pub returns : goal.returns
returns c =
    no_more c.loop-done.out.items c.args.out.now.items c.loop-done.done (c.args.count - c.loop-done.done) c.loop-done.draws.state c.args.number
    c.args.count (omega (arith, c.loop-done-test.false)) c.loop-done.invariant
