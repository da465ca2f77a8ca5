-- Words that are told to be the same. For marks.
use Rattle.std.proofs.Common.{◌≡◌, ap₂, eqb, eqb-true, ℕ, true, List, [], ◌∷◌, refl}
use Rattle.sd_model.specs.Words.{same_word}
use Rattle.sd_chain.proofs.Whose.{both}

-- words that are told to be the same are
pub word-is : (a b : List ℕ) → same_word a b ≡ true → a ≡ b
word-is [] [] e = refl
word-is [] (y ∷ ys) e = absurd (cc)
word-is (x ∷ xs) [] e = absurd (cc)
word-is (x ∷ xs) (y ∷ ys) e = let h = both (eqb x y) (same_word xs ys) e in
    ap₂ (λ (a : ℕ) (b : List ℕ). a ∷ b) (eqb-true x y h.0) (word-is xs ys h.1)
