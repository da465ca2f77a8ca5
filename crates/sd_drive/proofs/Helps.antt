-- Results of calls, carried over. It serves the goals of pull.rt, events.rt and recovery.rt.
use Rattle.std.proofs.Common.{◌≡◌, ◌⊎◌, ⊎_elim}
use Rattle.std.specs.Prelude.{Result, Ok, Err, IfErr, IfOk, IsErrAnd, OnErr, OnOk}
use Rattle.sd_base.specs.declared.refusal.Memory.{Memory}
use Rattle.sd_base.specs.declared.refusal.Refusal.{Refusal}
use Rattle.sd_base.specs.declared.refusal.Refusal.TheVariants as R

-- what holds of each value, where there is one
pub if-ok-then : {X : Type 0} (r : Result X Memory) (P Q : X → Type 0) → ((x : X) → P x → Q x) → IfOk r P → IfOk r Q
if-ok-then (Ok x) P Q then h = then x h
if-ok-then (Err e) P Q then h = h

pub on-ok-then : {X : Type 0} (r : Result X Memory) (P Q : Type 0) → (P → Q) → OnOk r P → OnOk r Q
on-ok-then (Ok x) P Q then h = then h
on-ok-then (Err e) P Q then h = h

pub on-err-then : {X : Type 0} (r : Result X Memory) (P Q : Type 0) → (P → Q) → OnErr r P → OnErr r Q
on-err-then (Ok x) P Q then h = h
on-err-then (Err e) P Q then h = then h

pub on-err-both : {X : Type 0} (r : Result X Memory) (P Q : Type 0) → OnErr r P → OnErr r Q → OnErr r (P × Q)
on-err-both (Ok x) P Q p q = p
on-err-both (Err e) P Q p q = (p, q)

pub on-ok-both : {X : Type 0} (r : Result X Memory) (P Q : Type 0) → OnOk r P → OnOk r Q → OnOk r (P × Q)
on-ok-both (Ok x) P Q p q = (p, q)
on-ok-both (Err e) P Q p q = p

-- a fact with its witness, and another one
pub on-ok-with : {X Y : Type 0} (r : Result X Memory) (A B : Y → Type 0) (Q : Type 0) → OnOk r ((y : Y) × A y × B y) → OnOk r Q
    → OnOk r ((y : Y) × A y × B y × Q)
on-ok-with (Ok x) A B Q h q = (h.0, h.1, h.2, q)
on-ok-with (Err e) A B Q h q = h

pub on-ok-map : {X E : Type 0} (r : Result X E) (P Q : Type 0) → (P → Q) → OnOk r P → OnOk r Q
on-ok-map (Ok x) P Q then h = then h
on-ok-map (Err e) P Q then h = h

-- what follows from each way in which a call of the opening may end
pub each-way : {X : Type 0} (r : Result X Refusal) (P Q V W : Type 0) → IfErr r (λ n. (n ≡ R.Memory) ⊎ (n ≡ R.Failed)) → OnOk r P
    → (IsErrAnd r (λ n. n ≡ R.Memory) → Q) → (IsErrAnd r (λ n. n ≡ R.Failed) → V) → (P → W) → (Q → W) → (V → W) → W
each-way (Ok x) P Q V W errors ok memory failed on_ok on_memory on_failed = on_ok ok
each-way (Err e) P Q V W errors ok memory failed on_ok on_memory on_failed =
    ⊎_elim (λ is. on_memory (memory is)) (λ is. on_failed (failed is)) errors
