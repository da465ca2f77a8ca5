-- What is known of a result, and what follows from it. They serve callers.
use Rattle.std.proofs.Common.{◌≡◌, ℕ, subst}
use Rattle.std.specs.Prelude.{Result, Ok, Err, OnErr, OnOk}
use Rattle.sd_base.specs.declared.refusal.Refusal.{Refusal}
use Rattle.sd_base.specs.declared.refusal.Refusal.TheVariants as R

-- what holds of a call that is done
pub when_ok : {T E : Type 0} (r : Result T E) (x : T) (P : Type 0) → r ≡ Ok x → OnOk r P → P
when_ok r x P is holds = subst (λ (q : Result _ _). OnOk q P) is holds

-- what follows from what holds of an answer
pub on_ok : {T E : Type 0} (r : Result T E) (P Q : Type 0) → (P → Q) → OnOk r P → OnOk r Q
on_ok (Ok x) P Q f p = f p
on_ok (Err e) P Q f p = tt

pub on_err : {T E : Type 0} (r : Result T E) (P Q : Type 0) → (P → Q) → OnErr r P → OnErr r Q
on_err (Ok x) P Q f p = tt
on_err (Err e) P Q f p = f p

-- the refusal that comes is that of a call
pub came : {T : Type 0} (r : Result T Refusal) (y e : Refusal) (dev at : ℕ) → r ≡ Err y → y ≡ e → r ≡ Err (R.Damaged dev at) → e ≡ R.Damaged dev at
came r y e dev at a b is = cc
