-- What a list's elements give one after another, and one element more. It serves the goals of render, TxnNames::of
-- and push_rows.
use Rattle.std.proofs.Common.{◌≡◌, ℕ, ◌+◌, ◌<◌, List, [], ◌∷◌, ◌++◌, length, take, get_or, append_assoc, sym, ap, ◌∙◌}
use Rattle.std.specs.List.{flat_map}
use Rattle.std.proofs.lemmas.List.{take_more, append-nil}
use Rattle.std.proofs.lemmas.List.Concat.{flat_map-cons}
use Rattle.std.proofs.lemmas.Grind.{flat_map-append}

pub flat_map_more : {X A : Type 0} (f : X → List A) (xs : List X) (i : ℕ) (x : X) → i < length xs → x ≡ get_or xs i x
    → flat_map f (take (i + 1) xs) ≡ flat_map f (take i xs) ++ f x
flat_map_more f xs i x lt is =
    ap (flat_map f) (take_more xs i x lt ∙ ap (λ y. take i xs ++ y ∷ []) (sym is)) ∙ flat_map-append f (take i xs) (x ∷ [])
    ∙ ap (λ l. flat_map f (take i xs) ++ l) (flat_map-cons f x [] ∙ append-nil (f x))

-- a text to which one element more is put
pub text_more : {X : Type 0} (f : X → List ℕ) (xs : List X) (i : ℕ) (x : X) → i < length xs → x ≡ get_or xs i x
    → (old out new : List ℕ) → out ≡ old ++ flat_map f (take i xs) → new ≡ out ++ f x → new ≡ old ++ flat_map f (take (i + 1) xs)
text_more f xs i x lt is old out new so_far one =
    one ∙ ap (λ (l : List ℕ). l ++ f x) so_far ∙ append_assoc old (flat_map f (take i xs)) (f x)
    ∙ ap (λ (l : List ℕ). old ++ l) (sym (flat_map_more f xs i x lt is))
