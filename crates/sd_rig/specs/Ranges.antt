-- Parts of a device that a write doesn't reach, and parts that it writes.
use Rattle.std.specs.Prelude.{◌≡◌, ◌⊎◌, ℕ, ◌+◌, ◌-◌, ◌<◌, ◌≤◌, List, ◌++◌, length, take, drop, get_or, refl}
use Rattle.std.proofs.Common.{⊎_elim, sym, ap, ◌∙◌, arith, append_assoc, length-take-le}
use Rattle.std.proofs.lemmas.List.{drop-drop, drop-take, drop_at, get_or-drop, get_or-take, take-take, take_at}
use Rattle.sd_rig.specs.Devices.{AgreesOutside, overwritten}

pub outside_same : (at n : ℕ) (bytes : List ℕ) → AgreesOutside at n bytes bytes
outside_same at n bytes = record { size = refl; before = refl; behind = refl }

-- a byte before or behind the range
pub outside_place : (at n : ℕ) (old new : List ℕ) → AgreesOutside at n old new → (i : ℕ) → (i < at) ⊎ (at + n ≤ i) → get_or new i 0 ≡ get_or old i 0
outside_place at n old new a i = ⊎_elim
    (λ lt. sym (get_or-take at new i 0 lt) ∙ ap (λ (l : List ℕ). get_or l i 0) a.before ∙ get_or-take at old i 0 lt)
    (λ le. behind le)
  where
    behind : at + n ≤ i → get_or new i 0 ≡ get_or old i 0
    behind le =
        let place : at + n + (i - (at + n)) ≡ i = omega arith in
        ap (λ j. get_or new j 0) (sym place) ∙ sym (get_or-drop (at + n) new (i - (at + n)) 0) ∙ ap (λ (l : List ℕ). get_or l (i - (at + n)) 0) a.behind ∙ get_or-drop (at + n) old (i - (at + n)) 0 ∙ ap (λ j. get_or old j 0) place

front_part : (from m at : ℕ) (bytes : List ℕ) → from + m ≤ at → take m (drop from bytes) ≡ take m (drop from (take at bytes))
front_part from m at bytes h =
    sym (drop-take from m bytes) ∙ ap (drop from) (sym (take-take (from + m) at bytes h)) ∙ drop-take from m (take at bytes)

-- a part before the range, and one behind it
pub outside_before : (at n : ℕ) (old new : List ℕ) → AgreesOutside at n old new → (from m : ℕ) → from + m ≤ at → take m (drop from new) ≡ take m (drop from old)
outside_before at n old new a from m h =
    front_part from m at new h ∙ ap (λ (l : List ℕ). take m (drop from l)) a.before ∙ sym (front_part from m at old h)

pub outside_behind : (at n : ℕ) (old new : List ℕ) → AgreesOutside at n old new → (from m : ℕ) → at + n ≤ from → take m (drop from new) ≡ take m (drop from old)
outside_behind at n old new a from m h =
    let place : at + n + (from - (at + n)) ≡ from = omega arith in
    let split : (l : List ℕ) → drop from l ≡ drop (from - (at + n)) (drop (at + n) l) = λ l. ap (λ j. drop j l) (sym place) ∙ sym (drop-drop (from - (at + n)) (at + n) l) in
    ap (take m) (split new ∙ ap (drop (from - (at + n))) a.behind ∙ sym (split old))

-- a range within another
pub outside_wider : (at n p m : ℕ) (old new : List ℕ) → AgreesOutside p m old new → at ≤ p → p + m ≤ at + n → AgreesOutside at n old new
outside_wider at n p m old new a low high = record {
  size = a.size;
  before = sym (take-take at p new low) ∙ ap (take at) a.before ∙ take-take at p old low;
  behind = split new ∙ ap (drop (at + n - (p + m))) a.behind ∙ sym (split old);
}
  where
    split : (l : List ℕ) → drop (at + n) l ≡ drop (at + n - (p + m)) (drop (p + m) l)
    split l = let place : p + m + (at + n - (p + m)) ≡ at + n = omega arith in ap (λ j. drop j l) (sym place) ∙ sym (drop-drop (at + n - (p + m)) (p + m) l)

pub outside_then : (at n : ℕ) (a b c : List ℕ) → AgreesOutside at n a b → AgreesOutside at n b c → AgreesOutside at n a c
outside_then at n a b c f g = record { size = g.size ∙ f.size; before = g.before ∙ f.before; behind = g.behind ∙ f.behind }

-- what was written reads as written
pub written_part : (at : ℕ) (bytes old : List ℕ) → at + length bytes ≤ length old → take (length bytes) (drop at (overwritten at bytes old)) ≡ bytes
written_part at bytes old h =
    let front : length (take at old) ≡ at = length-take-le at old (omega arith) in
    let rest : List ℕ = drop (at + length bytes) old in
    let opened : drop at (take at old ++ bytes ++ rest) ≡ bytes ++ rest = ap (drop at) (append_assoc (take at old) bytes rest) ∙ drop_at (take at old) (bytes ++ rest) at front in
    ap (take (length bytes)) opened ∙ take_at bytes rest (length bytes) refl
