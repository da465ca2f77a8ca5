use Rattle.std.proofs.Common.{◌≡◌, ◌∙◌, ℕ, ap, arith, replicate, vec_len, None}
use Rattle.sd_pagelock.proofs.filled.nothing.Goals as goal

pub returns : goal.returns
returns g c = let e : vec_len c.loop-values.values ≡ 1024 = omega arith in c.loop-values.invariant.filled ∙ ap (λ (n : ℕ). replicate n None) e
