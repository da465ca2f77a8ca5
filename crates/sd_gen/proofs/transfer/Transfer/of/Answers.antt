use Rattle.std.proofs.Common.{◌≡◌, ℕ, ◌+◌, ◌%◌, ap, ap₂, ◌∙◌}
use Rattle.sd_gen.specs.Draws.{drawn, next_state}
use Rattle.sd_gen.proofs.transfer.Transfer.of.Goals as goal

pub returns-clause-state : goal.returns-clause-state
returns-clause-state c =
    let two = c.below-from.ensures.state ∙ ap next_state c.below-inst.ensures.state in
    let three = c.below-apart.ensures.state ∙ ap next_state two in
    c.below-amount.ensures.state ∙ ap next_state three

pub returns-clause-transfer : goal.returns-clause-transfer
returns-clause-transfer c =
    let s = c.args.draws.now.state in
    let one = c.below-inst.ensures.state in
    let two = c.below-from.ensures.state ∙ ap next_state one in
    let three = c.below-apart.ensures.state ∙ ap next_state two in
    let from : c.below-from.result ≡ drawn 2 s % 10 = c.below-from.ensures.drawn ∙ ap (λ (x : ℕ). drawn 1 x % 10) one in
    let apart : c.below-apart.result ≡ drawn 3 s % 9 = c.below-apart.ensures.drawn ∙ ap (λ (x : ℕ). drawn 1 x % 9) two in
    let amount : c.below-amount.result ≡ drawn 4 s % 9 = c.below-amount.ensures.drawn ∙ ap (λ (x : ℕ). drawn 1 x % 9) three in
    let inst = ap (λ (k : ℕ). 1 + k) c.below-inst.ensures.drawn in
    let to = ap₂ (λ (a b : ℕ). (a + 1 + b) % 10) from apart in
    let last = ap (λ (k : ℕ). 1 + k) amount in
    λ n. record { inst = inst n; from = from n; to = to n; amount = last n }
