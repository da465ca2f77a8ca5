-- Fields of bytes that are made of parts, and pieces pasted into them. It serves bytes.rt, and the laws of Parts.antt.
use Rattle.std.proofs.Common.{◌≡◌, ℕ, ◌+◌, ◌^◌, ◌<◌, ◌≤◌, List, [], ◌∷◌, ◌++◌, length, get_or, take, drop, refl, sym, ap, ◌∙◌, append_assoc, zero-add, arith}
use Rattle.std.specs.Int.{w16, w32, w64, from_be_bytes}
use Rattle.std.proofs.lemmas.List.{take_at, drop_at, length-append, length-take-le, length-drop, get_or-take, get_or-drop, drop-drop}
use Rattle.std.proofs.lemmas.Nat.{from_be_bytes-to_be_bytes_2, from_be_bytes-to_be_bytes_4, from_be_bytes-to_be_bytes_8}
use Rattle.std.proofs.Math.Seq.{take-append-add, drop-append-add}
use Rattle.sd_page.specs.Reading.{field, two_at, four_at, eight_at}
use Rattle.sd_page.specs.Spelling.{two, four, eight}
use Rattle.sd_page.specs.Writing.{pasted}

-- ---- fields

pub field_skip : (p q : List ℕ) (rest size at : ℕ) → at ≡ length p + rest → field (p ++ q) at size ≡ field q rest size
field_skip p q rest size at e = ap (λ k. take size (drop k (p ++ q))) e ∙ ap (take size) (drop-append-add p q rest)

pub field_here : (m q : List ℕ) (size at : ℕ) → at ≡ 0 → length m ≡ size → field (m ++ q) at size ≡ m
field_here m q size at z e = ap (λ k. take size (drop k (m ++ q))) z ∙ take_at m q size e

pub field_at : (p m q : List ℕ) (at size : ℕ) → length p ≡ at → length m ≡ size → field (p ++ (m ++ q)) at size ≡ m
field_at p m q at size e f = ap (take size) (drop_at p (m ++ q) at e) ∙ take_at m q size f

-- ---- pieces

pub pasted_skip : (p q piece : List ℕ) (rest at : ℕ) → at ≡ length p + rest → pasted (p ++ q) at piece ≡ p ++ pasted q rest piece
pasted_skip p q piece rest at e =
    let front : take at (p ++ q) ≡ p ++ take rest q = ap (λ k. take k (p ++ q)) e ∙ take-append-add p q rest in
    let back : drop (at + length piece) (p ++ q) ≡ drop (rest + length piece) q = ap (λ k. drop k (p ++ q)) (omega (arith, e)) ∙ drop-append-add p q (rest + length piece) in
    ap (λ (x : List ℕ). x ++ (piece ++ drop (at + length piece) (p ++ q))) front
    ∙ ap (λ (x : List ℕ). (p ++ take rest q) ++ (piece ++ x)) back
    ∙ append_assoc p (take rest q) (piece ++ drop (rest + length piece) q)

pub pasted_here : (m q piece : List ℕ) (at : ℕ) → at ≡ 0 → length m ≡ length piece → pasted (m ++ q) at piece ≡ piece ++ q
pasted_here m q piece at z e =
    ap (λ k. pasted (m ++ q) k piece) z ∙ ap (λ (x : List ℕ). piece ++ x) (drop_at m q (0 + length piece) (omega (arith, e)))

pub pasted_at : (p m q piece : List ℕ) (at : ℕ) → length p ≡ at → length m ≡ length piece → pasted (p ++ (m ++ q)) at piece ≡ p ++ (piece ++ q)
pasted_at p m q piece at e f =
    pasted_skip p (m ++ q) piece 0 at (omega (arith, e)) ∙ ap (λ (x : List ℕ). p ++ x) (pasted_here m q piece 0 refl f)

pub length-pasted : (bytes piece : List ℕ) (at : ℕ) → at + length piece ≤ length bytes → length (pasted bytes at piece) ≡ length bytes
length-pasted bytes piece at le =
    omega (arith, le, length-append (take at bytes) (piece ++ drop (at + length piece) bytes), length-append piece (drop (at + length piece) bytes), length-take-le at bytes (omega (arith, le)), length-drop (at + length piece) bytes)

-- one piece behind another
pub pasted-pasted : (bytes a b : List ℕ) (at next : ℕ) → next ≡ at + length a → at + length a ≤ length bytes → pasted (pasted bytes at a) next b ≡ pasted bytes at (a ++ b)
pasted-pasted bytes a b at next e le =
    let front : length (take at bytes) ≡ at = length-take-le at bytes (omega (arith, le)) in
    let rest = drop (at + length a) bytes in
    let off : (at + length a) + length b ≡ at + length (a ++ b) = omega (arith, length-append a b) in
    pasted_skip (take at bytes) (a ++ rest) b (length a) next (omega (arith, e, front))
    ∙ ap (λ (l : List ℕ). take at bytes ++ l) (pasted_skip a rest b 0 (length a) (omega arith))
    ∙ ap (λ k. take at bytes ++ (a ++ (b ++ drop k rest))) (zero-add (length b))
    ∙ ap (λ (l : List ℕ). take at bytes ++ (a ++ (b ++ l))) (drop-drop (length b) (at + length a) bytes)
    ∙ ap (λ k. take at bytes ++ (a ++ (b ++ drop k bytes))) off
    ∙ ap (λ (l : List ℕ). take at bytes ++ l) (sym (append_assoc a b (drop (at + length (a ++ b)) bytes)))

-- ---- numbers

pub length-two : (n : ℕ) → length (two n) ≡ 2
unfolding two
length-two n = refl

pub length-four : (n : ℕ) → length (four n) ≡ 4
unfolding four
length-four n = refl

pub length-eight : (n : ℕ) → length (eight n) ≡ 8
unfolding eight
length-eight n = refl

-- what stands in the bytes of a field is the number
pub two_at-is : (bytes : List ℕ) (at n : ℕ) → n < 2 ^ 16 → field bytes at 2 ≡ two n → two_at bytes at ≡ n
unfolding two_at two
two_at-is bytes at n lt e = ap (from_be_bytes w16) e ∙ from_be_bytes-to_be_bytes_2 n lt

pub four_at-is : (bytes : List ℕ) (at n : ℕ) → n < 2 ^ 32 → field bytes at 4 ≡ four n → four_at bytes at ≡ n
unfolding four_at four
four_at-is bytes at n lt e = ap (from_be_bytes w32) e ∙ from_be_bytes-to_be_bytes_4 n lt

pub eight_at-is : (bytes : List ℕ) (at n : ℕ) → n < 2 ^ 64 → field bytes at 8 ≡ eight n → eight_at bytes at ≡ n
unfolding eight_at eight
eight_at-is bytes at n lt e = ap (from_be_bytes w64) e ∙ from_be_bytes-to_be_bytes_8 n lt

-- ---- single bytes

field_get : (bytes : List ℕ) (at size i : ℕ) → i < size → get_or (field bytes at size) i 0 ≡ get_or bytes (at + i) 0
field_get bytes at size i lt = get_or-take size (drop at bytes) i 0 lt ∙ get_or-drop at bytes i 0

pub two_at-bytes : (bytes : List ℕ) (at : ℕ) → from_be_bytes w16 (get_or bytes (at + 0) 0 ∷ get_or bytes (at + 1) 0 ∷ []) ≡ two_at bytes at
unfolding two_at
two_at-bytes bytes at = omega (arith, field_get bytes at 2 0 (omega arith), field_get bytes at 2 1 (omega arith))

pub four_at-bytes : (bytes : List ℕ) (at : ℕ) → from_be_bytes w32 (get_or bytes (at + 0) 0 ∷ get_or bytes (at + 1) 0 ∷ get_or bytes (at + 2) 0 ∷ get_or bytes (at + 3) 0 ∷ []) ≡ four_at bytes at
unfolding four_at
four_at-bytes bytes at =
    let near : (i : ℕ) → i < 4 → get_or (field bytes at 4) i 0 ≡ get_or bytes (at + i) 0 = field_get bytes at 4 in
    omega (arith, near 0 (omega arith), near 1 (omega arith), near 2 (omega arith), near 3 (omega arith))

pub eight_at-bytes : (bytes : List ℕ) (at : ℕ) → from_be_bytes w64 (get_or bytes (at + 0) 0 ∷ get_or bytes (at + 1) 0 ∷ get_or bytes (at + 2) 0 ∷ get_or bytes (at + 3) 0 ∷ get_or bytes (at + 4) 0 ∷ get_or bytes (at + 5) 0 ∷ get_or bytes (at + 6) 0 ∷ get_or bytes (at + 7) 0 ∷ []) ≡ eight_at bytes at
unfolding eight_at
eight_at-bytes bytes at =
    let near : (i : ℕ) → i < 8 → get_or (field bytes at 8) i 0 ≡ get_or bytes (at + i) 0 = field_get bytes at 8 in
    omega (arith, near 0 (omega arith), near 1 (omega arith), near 2 (omega arith), near 3 (omega arith), near 4 (omega arith), near 5 (omega arith), near 6 (omega arith), near 7 (omega arith))
