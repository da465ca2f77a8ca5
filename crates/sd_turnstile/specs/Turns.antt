-- Turns one after another.
use Rattle.std.specs.Prelude.{◌≡◌, ℕ, List, [], ◌∷◌, ◌++◌}
use Rattle.sd_turnstile.specs.declared.shift.Turn.{Turn}
use Rattle.sd_turnstile.specs.declared.shift.Turn.TheVariants as T

-- a turn that did something adds one entry, and each other turn adds none
abbrev pub IsNext : {E : Type 0} → List E → List E → Turn → Type 0
IsNext {E} xs ys T.Did = (e : E) × (ys ≡ xs ++ e ∷ [])
IsNext xs ys other = ys ≡ xs

-- turns led from the one value through these to the last
abbrev pub Leads : {V : Type 0} → (V → ℕ → Turn → V → Type 0) → V → List V → V → Type 0
Leads turns a [] c = a ≡ c
Leads turns a (b ∷ bs) c = (i : ℕ) × (r : Turn) × turns a i r b × Leads turns b bs c

-- turns led from the one value to the other
abbrev pub IsLed : {V : Type 0} → (V → ℕ → Turn → V → Type 0) → V → V → Type 0
IsLed {V} turns a c = (through : List V) × Leads turns a through c
