-- A refusal that is handed on. It serves the goals of logs.rt and reading.rt.
use Rattle.std.proofs.Common.{◌≡◌, ◌⊎◌, ℕ, inl, inr, sym, subst}
use Rattle.std.specs.Prelude.{Err, IfErr, Result}
use Rattle.sd_base.specs.declared.refusal.Refusal.{Refusal}
use Rattle.sd_base.specs.declared.refusal.Refusal.TheVariants as R

-- what holds of the refusal that was told holds of the one that is returned
pub told_on : {T : Type 0} (Q : Refusal → Type 0) (r : Result T Refusal) (y e : Refusal) → r ≡ Err y → y ≡ e → Q e → IfErr r Q
told_on {T} Q r y e is same q = subst (λ (x : Result T Refusal). IfErr x Q) (sym is) (subst Q (sym same) q)

-- the refusal that comes is that of the call
pub came : {T U : Type 0} (r : Result T Refusal) (y e : Refusal) (dev at : ℕ) → r ≡ Err y → y ≡ e → r ≡ Err (R.Damaged dev at)
    → ◌≡◌ {A = Result U Refusal} (Err e) (Err (R.Damaged dev at))
came r y e dev at a b is = cc

-- and names this device
pub told_dev : {U : Type 0} (inst : ℕ) (e : Refusal) (dev at : ℕ) → (e ≡ R.Memory) ⊎ ((a : ℕ) × (e ≡ R.Damaged inst a))
    → ◌≡◌ {A = Result U Refusal} (Err e) (Err (R.Damaged dev at)) → dev ≡ inst
told_dev inst e dev at (inl memory) is = absurd (cc)
told_dev inst e dev at (inr named) is = let same = named.1 in cc

pub told_at : {U : Type 0} (e : Refusal) (d a dev at : ℕ) → e ≡ R.Damaged d a → ◌≡◌ {A = Result U Refusal} (Err e) (Err (R.Damaged dev at))
    → (dev ≡ d) × (at ≡ a)
told_at e d a dev at named is = (cc, cc)
