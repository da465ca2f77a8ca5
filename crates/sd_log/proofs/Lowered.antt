-- A list that is written from its front on, each item by the same function. It serves the goals of pages.rt and spellings.rt.
use Rattle.std.proofs.Common.{◌≡◌, ℕ, suc, ◌+◌, ◌<◌, List, [], ◌∷◌, ◌++◌, length, take, drop, get_or, set, sym, ap, ◌∙◌, arith, append_assoc}
use Rattle.std.specs.Prelude.{map}
use Rattle.std.proofs.lemmas.List.{append-nil, drop_all, get_or_at, length-map, length-take-le, map-append}
use Rattle.std.proofs.Math.Seq.{drop-cons, set-append_seam, take-length, take-suc}

-- the list once the items below this index are written
abbrev pub written_to : {A : Type 0} → (A → A) → ℕ → List A → List A
written_to f i xs = map f (take i xs) ++ drop i xs

pub writes : {A : Type 0} (f : A → A) (i : ℕ) (xs now : List A) (d : A) → i < length xs → now ≡ written_to f i xs → set now i (f (get_or now i d)) ≡ written_to f (i + 1) xs
writes {A} f i xs now d low is =
    let one : i + 1 ≡ suc i = omega arith in
    let front : List A = map f (take i xs) in
    let x : A = get_or xs i d in
    let rest : drop i xs ≡ x ∷ drop (i + 1) xs = drop-cons xs i d low ∙ ap (λ j. x ∷ drop j xs) (sym one) in
    let size : length front ≡ i = length-map (take i xs) f ∙ length-take-le i xs (omega arith) in
    let here : now ≡ front ++ x ∷ drop (i + 1) xs = is ∙ ap (λ (l : List A). front ++ l) rest in
    let same : get_or now i d ≡ x = ap (λ (l : List A). get_or l i d) here ∙ get_or_at front x (drop (i + 1) xs) d i size in
    let longer : map f (take (i + 1) xs) ≡ front ++ f x ∷ [] =
    ap (λ j. map f (take j xs)) one ∙ ap (map f) (take-suc xs i d low) ∙ map-append f (take i xs) (x ∷ []) in
    ap (λ (y : A). set now i (f y)) same ∙ ap (λ (l : List A). set l i (f x)) here
    ∙ ap (λ j. set (front ++ x ∷ drop (i + 1) xs) j (f x)) (sym size) ∙ set-append_seam front x (drop (i + 1) xs) (f x)
    ∙ sym (append_assoc front (f x ∷ []) (drop (i + 1) xs)) ∙ ap (λ (l : List A). l ++ drop (i + 1) xs) (sym longer)

pub written_all : {A : Type 0} (f : A → A) (xs now : List A) → now ≡ written_to f (length xs) xs → now ≡ map f xs
written_all {A} f xs now is =
    is ∙ ap (λ (l : List A). map f l ++ drop (length xs) xs) (take-length xs) ∙ ap (λ (l : List A). map f xs ++ l) (drop_all (length xs) xs (omega arith)) ∙ append-nil (map f xs)
