use Rattle.std.proofs.Common.{◌≡◌, ◌∙◌, ℕ, ap, arith, replicate, vec_len}
use Rattle.sd_pagelock.proofs.filled.repeated.Goals as goal

pub returns : goal.returns
returns g c = let e : vec_len c.loop-value.values ≡ c.args.count = omega arith in c.loop-value.invariant.filled ∙ ap (λ (n : ℕ). replicate n c.args.value) e
