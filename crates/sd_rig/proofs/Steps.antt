-- Steps of loops over the devices. It serves the goals of drives.rt.
use Rattle.std.proofs.Common.{◌≡◌, ℕ, ◌+◌, ◌<◌, List, [], ◌∷◌, ◌++◌, length, take, drop, map, get_or, set, sym, ap, ◌∙◌, arith, append_assoc, length-take-le}
use Rattle.std.proofs.lemmas.List.{drop_more, get_or_at, set_at, map_more, length-map}

-- one more element of a list that is mapped in place
pub map_in_place : {X : Type 0} (f : X → X) (old now : List X) (i : ℕ) (x y : X) → i < length old → now ≡ map f (take i old) ++ drop i old → x ≡ get_or now i x → y ≡ f x → set now i y ≡ map f (take (i + 1) old) ++ drop (i + 1) old
map_in_place {X} f old now i x y h is read made =
    let z : X = get_or old i x in
    let front : List X = map f (take i old) in
    let rest : List X = drop (i + 1) old in
    let split : now ≡ front ++ z ∷ rest = is ∙ ap (λ l. front ++ l) (drop_more old i x h) in
    let size : length front ≡ i = length-map (take i old) f ∙ length-take-le i old (omega arith) in
    let same : x ≡ z = read ∙ ap (λ l. get_or l i x) split ∙ get_or_at front z rest x i size in
    let more : front ++ f z ∷ [] ≡ map f (take (i + 1) old) = sym (map_more f old i x h) in
    ap (λ l. set l i y) split ∙ set_at front z rest y i size ∙ ap (λ w. front ++ w ∷ rest) (made ∙ ap f same) ∙ sym (append_assoc front (f z ∷ []) rest) ∙ ap (λ l. l ++ rest) more
