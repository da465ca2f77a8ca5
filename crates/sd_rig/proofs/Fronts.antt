-- Bytes of which a front is kept, place by place. It serves the goals of front.rt.
use Rattle.std.proofs.Common.{◌≡◌, ⊎_elim, ℕ, ◌+◌, ◌-◌, ◌<◌, ◌≤◌, min, List, ◌++◌, length, take, drop, get_or, replicate, refl, sym, ap, ◌∙◌, arith, length-append, length-drop, length-take-le, append_assoc}
use Rattle.std.proofs.lemmas.Bool.{cases_lt}
use Rattle.std.proofs.lemmas.List.{ext_get_or, get_or-append_right, get_or-drop, get_or-take, get_or_append_left, get_or_past, get_or-replicate, length-replicate, length-take, take_all}
use Rattle.sd_rig.specs.Devices.{overwritten}
use Rattle.sd_rig.specs.Disk.{copies, copies-is, length-copies}
use Rattle.sd_rig.specs.Front.{filled}
use Rattle.sd_rig.proofs.Places.{get_or-before, get_or-behind, get_or-copies_any, get_or-inside, length-middle}

pub length_filled : (len : ℕ) (kept : List ℕ) → length kept ≤ len → length (filled len kept) ≡ len
length_filled len kept h = omega (arith, length-append kept (copies (len - length kept) 0), length-copies {X = ℕ} (len - length kept) 0)

-- a byte behind what is kept is 0, as one behind the end
pub get_or-filled : (len i : ℕ) (kept : List ℕ) → get_or (filled len kept) i 0 ≡ get_or kept i 0
get_or-filled len i kept = ⊎_elim
    (λ lt. get_or_append_left kept (copies (len - length kept) 0) 0 i lt)
    (λ ge. get_or-append_right kept (copies (len - length kept) 0) (length kept) i 0 refl ge ∙ get_or-copies_any (len - length kept) (i - length kept) 0 ∙ sym (get_or_past kept i 0 ge))
    (cases_lt i (length kept))

-- two that read the same
pub filled-same : (len : ℕ) (kept : List ℕ) (bytes : List ℕ) → length kept ≤ len → length bytes ≡ len → ((i : ℕ) → i < len → get_or kept i 0 ≡ get_or bytes i 0) → filled len kept ≡ bytes
filled-same len kept bytes h size each =
    let size' = length_filled len kept h in
    ext_get_or 0 (filled len kept) bytes (size' ∙ sym size) (λ i lt. get_or-filled len i kept ∙ each i (omega (arith, size')))

-- what is kept of a part
known-at : (at count i : ℕ) (kept part : List ℕ) → part ≡ take (min count (length (drop (min at (length kept)) kept))) (drop (min at (length kept)) kept) → i < count → get_or part i 0 ≡ get_or kept (at + i) 0
known-at at count i kept part is lt =
    let from : ℕ = min at (length kept) in
    let rest : List ℕ = drop from kept in
    let n : ℕ = min count (length rest) in
    let size = length-drop from kept in
    ap (λ (l : List ℕ). get_or l i 0) is ∙ ⊎_elim
    (λ (h : i < n). get_or-take n rest i 0 h ∙ get_or-drop from kept i 0 ∙ ap (λ k. get_or kept (k + i) 0) (omega arith))
    (λ (h : n ≤ i). get_or_past (take n rest) i 0 (omega (arith, length-take-le n rest (omega arith))) ∙ sym (get_or_past kept (at + i) 0 (omega arith)))
    (cases_lt i n)

pub known-part : (len at count : ℕ) (kept part : List ℕ) → length kept ≤ len → at + count ≤ len → part ≡ take (min count (length (drop (min at (length kept)) kept))) (drop (min at (length kept)) kept) → filled count part ≡ take count (drop at (filled len kept))
known-part len at count kept part h fits is =
    let rest : List ℕ = drop (min at (length kept)) kept in
    let small : length part ≤ count = omega (arith, ap length is, length-take (min count (length rest)) rest) in
    let whole = length_filled len kept h in
    let behind = length-drop at (filled len kept) in
    filled-same count part (take count (drop at (filled len kept))) small (length-take-le count (drop at (filled len kept)) (omega arith)) (λ i lt.
    known-at at count i kept part is lt ∙ sym (get_or-filled len (at + i) kept) ∙ sym (get_or-drop at (filled len kept) i 0) ∙ sym (get_or-take count (drop at (filled len kept)) i 0 lt))

-- what is known of a part, put behind others and filled up
pub copied : (count len had : ℕ) (to known part now : List ℕ) → now ≡ take len (to ++ known) ++ replicate (len - had) 0 → len ≡ length to + count → had ≡ length to + length known → length known ≤ count → filled count known ≡ part → now ≡ to ++ part
copied count len had to known part now is whole so_far small part_is =
    let all : take len (to ++ known) ≡ to ++ known = take_all len (to ++ known) (omega (arith, length-append to known)) in
    let rest : len - had ≡ count - length known = omega arith in
    is ∙ ap (λ (l : List ℕ). l ++ replicate (len - had) 0) all ∙ ap (λ n. to ++ known ++ replicate n 0) rest
    ∙ append_assoc to known (replicate (count - length known) 0) ∙ ap (λ (l : List ℕ). to ++ (known ++ l)) (sym (copies-is (count - length known) 0)) ∙ ap (λ (l : List ℕ). to ++ l) part_is

-- a write that begins in what is kept or behind it, and ends behind it
pub grown : (len at : ℕ) (bytes kept now : List ℕ) → length kept ≤ len → at + length bytes ≤ len → length kept < at + length bytes → now ≡ (take at kept ++ replicate (at - length kept) 0) ++ bytes → filled len now ≡ overwritten at bytes (filled len kept)
grown len at bytes kept now h fits behind is =
    let n : ℕ = length bytes in
    let zeros : List ℕ = replicate (at - length kept) 0 in
    let front : List ℕ = take at kept ++ zeros in
    let old : List ℕ = filled len kept in
    let long : length old ≡ len = length_filled len kept h in
    let before : length front ≡ at = omega (arith, length-append (take at kept) zeros, length-take at kept, length-replicate {A = ℕ} (at - length kept) 0) in
    let size : length now ≡ at + n = omega (arith, ap length is, length-append front bytes) in
    let shown : (i : ℕ) → get_or now i 0 ≡ get_or (overwritten at bytes old) i 0 = λ i. ap (λ (l : List ℕ). get_or l i 0) is ∙ ⊎_elim
    (λ lt. get_or_append_left front bytes 0 i (omega arith) ∙ in_front at i kept lt ∙ sym (get_or-filled len i kept) ∙ sym (get_or-before at i bytes old 0 (omega arith) lt))
    (λ ge. get_or-append_right front bytes at i 0 before ge ∙ ⊎_elim
    (λ lt. sym (get_or-inside at i bytes old 0 (omega arith) ge lt))
    (λ le. get_or_past bytes (i - at) 0 (omega arith) ∙ sym (get_or_past kept i 0 (omega arith)) ∙ sym (get_or-filled len i kept) ∙ sym (get_or-behind at i bytes old 0 (omega arith) le))
    (cases_lt i (at + n)))
    (cases_lt i at) in
    filled-same len now (overwritten at bytes old) (omega arith) (length-middle at bytes old (omega arith) ∙ long) (λ i lt. shown i)
  where
    in_front : (at i : ℕ) (kept : List ℕ) → i < at → get_or (take at kept ++ replicate (at - length kept) 0) i 0 ≡ get_or kept i 0
    in_front at i kept lt =
        let size = length-take at kept in
        ⊎_elim
        (λ (h : i < length kept). get_or_append_left (take at kept) (replicate (at - length kept) 0) 0 i (omega arith) ∙ get_or-take at kept i 0 lt)
        (λ (h : length kept ≤ i). get_or-append_right (take at kept) (replicate (at - length kept) 0) (length kept) i 0 (omega arith) h ∙ get_or-replicate (at - length kept) (i - length kept) 0 0 (omega arith) ∙ sym (get_or_past kept i 0 h))
        (cases_lt i (length kept))
