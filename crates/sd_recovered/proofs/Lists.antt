-- An element put behind others. It serves the goals of twin.rt.
use Rattle.std.proofs.Common.{◌≡◌, ℕ, ◌+◌, ◌<◌, List, [], ◌∷◌, ◌++◌, Some, length, sym, ap, ◌∙◌, arith, below_more}
use Rattle.std.specs.Prelude.{slice_get}
use Rattle.sd_base.proofs.Lists.{slice_get-append_left, slice_get-push}

-- a list that has the values of a function so far, with the next one
pub values_push : {X : Type 0} (f : ℕ → X) (xs ys : List X) (n : ℕ) (y : X) → length xs ≡ n
    → ((k : ℕ) → k < n → slice_get xs k ≡ Some (f k)) → y ≡ f n → ys ≡ xs ++ y ∷ []
    → (k : ℕ) → k < n + 1 → slice_get ys k ≡ Some (f k)
values_push f xs ys n y len all last is =
    below_more (λ k. slice_get ys k ≡ Some (f k)) n
    (λ k lt. ap (λ l. slice_get l k) is ∙ slice_get-append_left xs (y ∷ []) k (omega arith) ∙ all k lt)
    (ap (λ l. slice_get l n) is ∙ ap (slice_get (xs ++ y ∷ [])) (sym len) ∙ slice_get-push xs y ∙ ap (λ z. Some z) last)
