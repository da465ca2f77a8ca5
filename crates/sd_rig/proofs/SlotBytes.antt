-- Two slots as part of the bytes of a device. It serves callers that read them from one.
use Rattle.std.proofs.Common.{◌≡◌, ℕ, ◌+◌, ◌-◌, ◌<◌, ◌≤◌, List, take, drop, get_or, sym, ap, ◌∙◌, arith}
use Rattle.std.specs.Prelude.{◌==◌, slice_range}
use Rattle.std.proofs.lemmas.List.{drop-drop, drop-take, get_or-drop, get_or-take, take-take}
use Rattle.sd_base.specs.Twin.{Slot, body_at, body_of, chosen_body, chosen_slot, is_open, number_of, slot_of}
use Rattle.sd_rig.specs.declared.slots.Chosen.{Chosen}
use Rattle.sd_rig.specs.Slots.{named_body, slot, slots_len}
use Rattle.sd_base.proofs.Twins.{byte_within, part_within, open_within, body_within}

pub chosen_within : (at n : ℕ) (bytes : List ℕ) → chosen_slot 0 n (take (slots_len n) (drop at bytes)) ≡ chosen_slot at n bytes
chosen_within at n bytes =
    let len : ℕ = slots_len n in
    let first : at + 0 ≡ at = omega arith in
    let second : at + (0 + n + 1) ≡ at + n + 1 = omega arith in
    let o1 : is_open 0 (take len (drop at bytes)) ≡ is_open at bytes = open_within at len 0 bytes (omega arith) ∙ ap (λ p. is_open p bytes) first in
    let o2 : is_open (0 + n + 1) (take len (drop at bytes)) ≡ is_open (at + n + 1) bytes = open_within at len (0 + n + 1) bytes (omega arith) ∙ ap (λ p. is_open p bytes) second in
    let b1 : body_at n 0 (take len (drop at bytes)) ≡ body_at n at bytes = body_within at len 0 n bytes (omega arith) ∙ ap (λ p. body_at n p bytes) first in
    let b2 : body_at n (0 + n + 1) (take len (drop at bytes)) ≡ body_at n (at + n + 1) bytes = body_within at len (0 + n + 1) n bytes (omega arith) ∙ ap (λ p. body_at n p bytes) second in
    ap (λ o. slot_of o (is_open (0 + n + 1) (take len (drop at bytes))) (number_of (body_at n 0 (take len (drop at bytes)))) (number_of (body_at n (0 + n + 1) (take len (drop at bytes))))) o1
    ∙ ap (λ o. slot_of (is_open at bytes) o (number_of (body_at n 0 (take len (drop at bytes)))) (number_of (body_at n (0 + n + 1) (take len (drop at bytes))))) o2
    ∙ ap (λ (b : List ℕ). slot_of (is_open at bytes) (is_open (at + n + 1) bytes) (number_of b) (number_of (body_at n (0 + n + 1) (take len (drop at bytes))))) b1
    ∙ ap (λ (b : List ℕ). slot_of (is_open at bytes) (is_open (at + n + 1) bytes) (number_of (body_at n at bytes)) (number_of b)) b2

-- the same of what a read of both slots gives
pub chosen_read : (at n len : ℕ) (bytes out : List ℕ) → len ≡ slots_len n → out ≡ slice_range bytes at (at + len) → chosen_slot 0 n out ≡ chosen_slot at n bytes
chosen_read at n len bytes out size read =
    let count : at + len - at ≡ slots_len n = omega arith in
    ap (chosen_slot 0 n) (read ∙ ap (λ m. take m (drop at bytes)) count) ∙ chosen_within at n bytes

pub body_read : (c : Chosen) (at n len : ℕ) (bytes out : List ℕ) → len ≡ slots_len n → out ≡ slice_range bytes at (at + len) → slot c ≡ chosen_slot at n bytes → named_body c n out ≡ chosen_body at n bytes
body_read c at n len bytes out size read is =
    let count : at + len - at ≡ slots_len n = omega arith in
    let place : 0 + n + 1 ≡ n + 1 = omega arith in
    let whole : out ≡ take (slots_len n) (drop at bytes) = read ∙ ap (λ m. take m (drop at bytes)) count in
    let first : at + 0 ≡ at = omega arith in
    let second : at + (n + 1) ≡ at + n + 1 = omega arith in
    let b1 : body_at n 0 out ≡ body_at n at bytes = ap (body_at n 0) whole ∙ body_within at (slots_len n) 0 n bytes (omega arith) ∙ ap (λ p. body_at n p bytes) first in
    let b2 : body_at n (n + 1) out ≡ body_at n (at + n + 1) bytes = ap (body_at n (n + 1)) whole ∙ body_within at (slots_len n) (n + 1) n bytes (omega arith) ∙ ap (λ p. body_at n p bytes) second in
    ap (λ (s : Slot). body_of s (body_at n 0 out) (body_at n (n + 1) out)) is
    ∙ ap (λ (b : List ℕ). body_of (chosen_slot at n bytes) b (body_at n (n + 1) out)) b1
    ∙ ap (λ (b : List ℕ). body_of (chosen_slot at n bytes) (body_at n at bytes) b) b2
