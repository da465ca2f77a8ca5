-- From the outcomes of one call to those of the call around it. It serves the goals of memory_rig.rt.
use Rattle.std.proofs.Common.{◌≡◌, ◌⊎◌, inl, inr, true, refl}
use Rattle.std.specs.Prelude.{Result, Ok, Err, OnOk, OnErr, is_ok}

pub either : {T E : Type 0} (r : Result T E) (A B : Type 0) → OnOk r A → OnErr r B → A ⊎ B
either (Ok x) A B a b = inl a
either (Err e) A B a b = inr b

pub on_ok : {T E : Type 0} (r : Result T E) (P : Type 0) → (is_ok r ≡ true → P) → OnOk r P
on_ok (Ok x) P f = f refl
on_ok (Err e) P f = tt

pub on_err : {T E : Type 0} (r : Result T E) (P : Type 0) → P → OnErr r P
on_err (Ok x) P p = tt
on_err (Err e) P p = p

pub from_on_ok : {T E : Type 0} (r : Result T E) (P : Type 0) → OnOk r P → is_ok r ≡ true → P
from_on_ok (Ok x) P p e = p
from_on_ok (Err y) P p e = absurd (cc)
