-- The number that a body begins with, by its eight bytes. It serves the goals of `number_of` and `chosen_of` in slots.rt.
use Rattle.std.proofs.Common.{◌≡◌, ◌+◌, ◌-◌, ◌≤◌, true, List, ℕ, length, take, drop, get_or, sym, ap, ◌∙◌, arith}
use Rattle.std.specs.Prelude.{slice_range}
use Rattle.std.proofs.lemmas.List.{get_or-take}
use Rattle.byteorder.specs.Endian.{big_number}
use Rattle.sd_base.specs.Twin.{body_at, chosen_slot, is_open, newer, number_of, slot_of}
use Rattle.sd_rig.specs.Slots.{slots_len}

pub big_number-is : (body : List ℕ) → big_number 8 body ≡ number_of body
big_number-is body = omega arith

-- it hangs on these eight alone
pub number_of-take : (n : ℕ) (bytes : List ℕ) → 8 ≤ n → number_of (take n bytes) ≡ number_of bytes
number_of-take n bytes h =
    let e : (i : ℕ) → i ≤ 7 → get_or (take n bytes) i 0 ≡ get_or bytes i 0 = λ i le. get_or-take n bytes i 0 (omega arith) in
    cc (e 0 (omega arith), e 1 (omega arith), e 2 (omega arith), e 3 (omega arith), e 4 (omega arith), e 5 (omega arith), e 6 (omega arith), e 7 (omega arith))

-- where both gates are open, the numbers choose
pub chosen-both : (n x y : ℕ) (slots : List ℕ) → 8 ≤ n → length slots ≡ slots_len n → true ≡ is_open 0 slots → true ≡ is_open (n + 1) slots → x ≡ number_of (slice_range slots 1 (length slots)) → y ≡ number_of (slice_range slots (n + 1 + 1) (length slots)) → newer x y ≡ chosen_slot 0 n slots
chosen-both n x y slots h whole first second is_x is_y =
    let place : 0 + n + 1 ≡ n + 1 = omega arith in
    let o : is_open (0 + n + 1) slots ≡ true = ap (λ g. is_open g slots) place ∙ sym second in
    let p : number_of (body_at n 0 slots) ≡ x = number_of-take n (drop 1 slots) h ∙ sym (number_of-take (length slots - 1) (drop 1 slots) (omega arith)) ∙ sym is_x in
    let q : number_of (body_at n (0 + n + 1) slots) ≡ y =
    ap (λ g. number_of (body_at n g slots)) place ∙ number_of-take n (drop (n + 1 + 1) slots) h ∙ sym (number_of-take (length slots - (n + 1 + 1)) (drop (n + 1 + 1) slots) (omega arith)) ∙ sym is_y in
    sym (ap (λ b. slot_of b (is_open (0 + n + 1) slots) (number_of (body_at n 0 slots)) (number_of (body_at n (0 + n + 1) slots))) (sym first)
    ∙ ap (λ b. slot_of true b (number_of (body_at n 0 slots)) (number_of (body_at n (0 + n + 1) slots))) o
    ∙ ap (λ m. newer m (number_of (body_at n (0 + n + 1) slots))) p
    ∙ ap (λ m. newer x m) q)
