-- Which answer a call gave: for the goals of asking.rt, evicting.rt and giving.rt.
use Rattle.std.proofs.Common.{◌≡◌}
use Rattle.std.specs.Prelude.{Result, Err, Ok}
use Rattle.sd_base.specs.declared.refusal.Refusal.{Refusal}
use Rattle.sd_base.specs.declared.refusal.Refusal.TheVariants as R

-- it was refused once,
pub err-same : {T : Type 0} (r : Result T Refusal) (a b : Refusal) → r ≡ Err a → r ≡ Err b → a ≡ b
err-same r a b is so = cc

-- or not at all,
pub not-refused : {T : Type 0} (x : T) (n : Refusal) → ◌≡◌ {A = Result T Refusal} (Ok x) (Err n) → ⊥
not-refused x n is = absurd (cc)

-- and not for want of memory
pub had-memory : R.Failed ≡ R.Memory → ⊥
had-memory is = absurd (cc)
