-- The images since a moment, over a sequence of calls.
use Rattle.std.specs.Prelude.{ℕ, ◌≤◌, List}
use Rattle.std.proofs.Common.{inl, inr, ⊎_elim, arith}
use Rattle.sd_rig.specs.Devices.{DeviceImages, Leaves, Elapses, IsOneStep, Span}

-- What holds of each image since the first call, and of each since the second, holds of each since the first.
pub span-then : (a b c : ℕ) (since since' : ℕ → DeviceImages → Type 0) (P : DeviceImages → Type 0) → a ≤ b → Elapses b c since since' → Span a since P → Span b since' P → Span a since' P
span-then a b c since since' P le later f g = record { each = λ img s. ⊎_elim (f.each img) (g.each img) (later.splits a img le s) }

pub span-weaker : (a : ℕ) (since : ℕ → DeviceImages → Type 0) (P Q : DeviceImages → Type 0) → ((img : DeviceImages) → P img → Q img) → Span a since P → Span a since Q
span-weaker a since P Q h f = record { each = λ img s. h img (f.each img s) }

-- Of one call it is enough to know the images before it and after it.
pub span-step : (a : ℕ) (since' : ℕ → DeviceImages → Type 0) (leaves leaves' : ℕ → List ℕ → Type 0) (P : DeviceImages → Type 0) → IsOneStep a since' leaves leaves' → ((img : DeviceImages) → Leaves leaves img → P img) → ((img : DeviceImages) → Leaves leaves' img → P img) → Span a since' P
span-step a since' leaves leaves' P step before after = record { each = λ img s. ⊎_elim (before img) (after img) (step img s) }

-- Time goes on over two calls; `earlier` is the rig's law.
pub elapses-then : (a b c : ℕ) (s s' s'' : ℕ → DeviceImages → Type 0) → ((t u : ℕ) (img : DeviceImages) → t ≤ u → s'' u img → s'' t img) → Elapses a b s s' → Elapses b c s' s'' → Elapses a c s s''
elapses-then a b c s s' s'' earlier f g =
    let first : a ≤ b = f.later in
    let second : b ≤ c = g.later in
    record {
      later = omega arith;
      splits = λ t img le h. ⊎_elim
          (λ i. ⊎_elim (λ j. inl j) (λ j. inr (g.keeps a img first j)) (f.splits t img le i))
          (λ i. inr (earlier a b img first i))
          (g.splits t img (omega arith) h);
      keeps = λ t img le h. g.keeps t img (omega arith) (f.keeps t img le h);
    }
