-- Numbers, bytes and values as formats. It serves the laws of records.
use Rattle.std.proofs.Common.{◌≡◌, ℕ, suc, ◌^◌, ◌<◌, ◌≤◌, Bool, true, false, cond, ltb, List, [], ◌∷◌, ◌++◌, length, take, drop, refl, sym, subst, arith}
use Rattle.std.specs.Prelude.{Option, Some, None}
use Rattle.std.specs.Int.{Width, w16, w32, w64, byte_len, from_be_bytes, to_be_bytes}
use Rattle.std.proofs.lemmas.Bool.{ltb-false, le-ltb}
use Rattle.std.proofs.lemmas.List.{take_at, drop_at, take-append-drop, length-append, length-take}
use Rattle.std.proofs.lemmas.Nat.{be_bytes_2, be_bytes_4, be_bytes_8, from_be_bytes-to_be_bytes_2, from_be_bytes-to_be_bytes_4, from_be_bytes-to_be_bytes_8}
use Rattle.sd_logrec.specs.Spelling.{one, two, four, eight}
use Rattle.sd_logrec.specs.Reading.{byte_at, number_at, bytes_at}
use Rattle.sd_logrec.proofs.Formats.{IsBytes, IsBytes-drop, IsBytes-take, Takes, IsFormat}

-- a test that did not fail
guard_some : {A : Type 0} (b : Bool) (x y : A) → cond b None (Some x) ≡ Some y → (b ≡ false) × (x ≡ y)
guard_some true x y e = absurd (cc)
guard_some false x y e = (refl, cc)

record IsWide (w : Width) (limit : ℕ) : Type 0 where
  pub len : (n : ℕ) → length (to_be_bytes w n) ≡ byte_len w
  pub back : (bytes : List ℕ) → length bytes ≡ byte_len w → IsBytes bytes → to_be_bytes w (from_be_bytes w bytes) ≡ bytes
  pub again : (n : ℕ) → n < limit → from_be_bytes w (to_be_bytes w n) ≡ n
  pub below : (bytes : List ℕ) → IsBytes bytes → from_be_bytes w bytes < limit

wide16 : IsWide w16 (2 ^ 16)
wide16 = record {
  len = λ n. refl;
  back = λ bytes len fits. be_bytes_2 bytes _ len fits refl;
  again = λ n lt. from_be_bytes-to_be_bytes_2 n lt;
  below = λ bytes fits. omega (arith, fits 0, fits 1);
}

wide32 : IsWide w32 (2 ^ 32)
wide32 = record {
  len = λ n. refl;
  back = λ bytes len fits. be_bytes_4 bytes _ len fits refl;
  again = λ n lt. from_be_bytes-to_be_bytes_4 n lt;
  below = λ bytes fits. omega (arith, fits 0, fits 1, fits 2, fits 3);
}

wide64 : IsWide w64 (2 ^ 64)
wide64 = record {
  len = λ n. refl;
  back = λ bytes len fits. be_bytes_8 bytes _ len fits refl;
  again = λ n lt. from_be_bytes-to_be_bytes_8 n lt;
  below = λ bytes fits. omega (arith, fits 0, fits 1, fits 2, fits 3, fits 4, fits 5, fits 6, fits 7);
}

number_takes : (w : Width) (limit : ℕ) → IsWide w limit → (bytes : List ℕ) (x : ℕ × List ℕ) → IsBytes bytes → number_at w bytes ≡ Some x → Takes (to_be_bytes w x.0) bytes x.1 × (x.0 < limit)
unfolding number_at
number_takes w limit wide bytes x fits e =
    let front = take (byte_len w) bytes in
    let g = guard_some (ltb (length bytes) (byte_len w)) (from_be_bytes w front, drop (byte_len w) bytes) x e in
    let long : byte_len w ≤ length bytes = ltb-false _ _ g.0 in
    let whole : to_be_bytes w (from_be_bytes w front) ≡ front = wide.back front (omega (arith, length-take (byte_len w) bytes)) (IsBytes-take (byte_len w) bytes fits) in
    let first : Takes (to_be_bytes w (from_be_bytes w front)) bytes (drop (byte_len w) bytes) = record { parts = rw whole (sym (take-append-drop (byte_len w) bytes)); rest_fits = IsBytes-drop (byte_len w) bytes fits } in
    subst (λ (y : ℕ × List ℕ). Takes (to_be_bytes w y.0) bytes y.1 × (y.0 < limit)) g.1 (first, wide.below front (IsBytes-take (byte_len w) bytes fits))

number_again : (w : Width) (limit : ℕ) → IsWide w limit → (n : ℕ) (rest : List ℕ) → n < limit → number_at w (to_be_bytes w n ++ rest) ≡ Some (n, rest)
unfolding number_at
number_again w limit wide n rest lt =
    let len = wide.len n in
    let long : ltb (length (to_be_bytes w n ++ rest)) (byte_len w) ≡ false = le-ltb _ _ (omega (arith, length-append (to_be_bytes w n) rest)) in
    rw (long, take_at (to_be_bytes w n) rest (byte_len w) len, drop_at (to_be_bytes w n) rest (byte_len w) len, wide.again n lt) refl

pub two_is : IsFormat ℕ two (λ n. n < 2 ^ 16) (number_at w16)
unfolding two
two_is = record { takes = number_takes w16 (2 ^ 16) wide16; again = number_again w16 (2 ^ 16) wide16 }

pub four_is : IsFormat ℕ four (λ n. n < 2 ^ 32) (number_at w32)
unfolding four
four_is = record { takes = number_takes w32 (2 ^ 32) wide32; again = number_again w32 (2 ^ 32) wide32 }

pub eight_is : IsFormat ℕ eight (λ n. n < 2 ^ 64) (number_at w64)
unfolding eight
eight_is = record { takes = number_takes w64 (2 ^ 64) wide64; again = number_again w64 (2 ^ 64) wide64 }

some_pair : (a : ℕ) (b : List ℕ) (x : ℕ × List ℕ) → ◌≡◌ {A = Option (ℕ × List ℕ)} (Some (a, b)) (Some x) → (a, b) ≡ x
some_pair a b x e = cc

byte_takes : (bytes : List ℕ) (x : ℕ × List ℕ) → IsBytes bytes → byte_at bytes ≡ Some x → Takes (one x.0) bytes x.1 × (x.0 < 256)
unfolding byte_at
byte_takes [] x fits e = absurd (cc)
byte_takes (b ∷ bytes) x fits e =
    let first : Takes (b ∷ []) (b ∷ bytes) bytes = record { parts = refl; rest_fits = λ i. fits (suc i) } in
    subst (λ (y : ℕ × List ℕ). Takes (one y.0) (b ∷ bytes) y.1 × (y.0 < 256)) (some_pair b bytes x e) (first, fits 0)

byte_again : (n : ℕ) (rest : List ℕ) → n < 256 → byte_at (one n ++ rest) ≡ Some (n, rest)
unfolding byte_at
byte_again n rest lt = refl

pub one_is : IsFormat ℕ one (λ n. n < 256) byte_at
one_is = record { takes = byte_takes; again = byte_again }

bytes_take : (n : ℕ) (bytes : List ℕ) (x : List ℕ × List ℕ) → IsBytes bytes → bytes_at n bytes ≡ Some x → Takes x.0 bytes x.1 × (length x.0 ≡ n)
unfolding bytes_at
bytes_take n bytes x fits e =
    let g = guard_some (ltb (length bytes) n) (take n bytes, drop n bytes) x e in
    let long : n ≤ length bytes = ltb-false _ _ g.0 in
    let len : length (take n bytes) ≡ n = omega (arith, length-take n bytes) in
    let first : Takes (take n bytes) bytes (drop n bytes) = record { parts = sym (take-append-drop n bytes); rest_fits = IsBytes-drop n bytes fits } in
    subst (λ (y : List ℕ × List ℕ). Takes y.0 bytes y.1 × (length y.0 ≡ n)) g.1 (first, len)

bytes_again : (n : ℕ) (x : List ℕ) (rest : List ℕ) → length x ≡ n → bytes_at n (x ++ rest) ≡ Some (x, rest)
unfolding bytes_at
bytes_again n x rest len =
    let long : ltb (length (x ++ rest)) n ≡ false = le-ltb _ _ (omega (arith, length-append x rest)) in
    rw (long, take_at x rest n len, drop_at x rest n len) refl

pub bytes_is : (n : ℕ) → IsFormat (List ℕ) (λ x. x) (λ x. length x ≡ n) (bytes_at n)
bytes_is n = record { takes = bytes_take n; again = bytes_again n }
