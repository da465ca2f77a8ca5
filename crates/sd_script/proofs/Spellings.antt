-- The words of a record, a number, a mode and a capacity. It serves the goals of parts.rt, and the law of one form.
use Rattle.std.proofs.Common.{◌≡◌, ◌≢◌, ◌==◌, Bool, ℕ, zero, suc, ℤ, pos, negsuc, ◌+◌, ◌-◌, ◌<◌, ◌≤◌, ◌^◌, List, [], ◌∷◌, ◌++◌, length, take, drop, get_or, Option, Some, None, refl, sym, ap, ◌∙◌, subst, arith, length-append, nat_lt}
use Rattle.std.proofs.Math.Seq.{get_or-append_seam, split_at, take-append_seam}
use Rattle.std.proofs.Math.ListN.{get_or-append}
use Rattle.std.proofs.lemmas.Bool.{cond-true, lt-ltb, ne_eqb, eqb-true}
use Rattle.std.proofs.lemmas.Fmt.{decimal_is_IsNumeral, decimal_injective}
use Rattle.std.proofs.lemmas.List.Quantifiers.{position-Some}
use Rattle.std.proofs.lemmas.List.Sums.{position_or_len_is}
use Rattle.std.proofs.lemmas.Str.Parse.{digit_at}
use Rattle.std.specs.Prelude.{position, IfSome, IfNone}
use Rattle.std.specs.Fmt.{decimal, signed_decimal}
use Rattle.std.specs.Int.{IsInRange}
use Rattle.std.specs.List.{position_or_len}
use Rattle.sd_base.specs.declared.ids.Rid.{Rid}
use Rattle.sd_script.specs.Causes.{IsNumberIn, IsWideRecord}
use Rattle.sd_script.specs.Forms.{rid_word, IsRid, IsAmount}
use Rattle.sd_script.proofs.Parting.{rest_of}

abbrev is_dot : ℕ → Bool
is_dot b = b == 46

-- no digit is a dot or a minus
digit_in : (n : ℕ) (k : ℕ) → n < 2 ^ 64 → k < length (decimal n) → IsInRange 48 57 (get_or (decimal n) k 0)
digit_in n k below lt = let numeral = decimal_is_IsNumeral n below in digit_at (decimal n) k numeral.0.1 lt

-- the dot in the word of a record
dot_behind : (xs rest : List ℕ) → ((k : ℕ) → k < length xs → get_or xs k 0 ≡ 46 → ⊥)
    → position is_dot (xs ++ 46 ∷ rest) ≡ Some (length xs)
dot_behind xs rest none =
    let size = length-append xs (46 ∷ rest) in
    let place : position_or_len is_dot (xs ++ 46 ∷ rest) ≡ length xs = position_or_len_is is_dot (xs ++ 46 ∷ rest)
    (length xs) 0 (omega (arith, size))
    (λ k lt. ne_eqb (get_or (xs ++ 46 ∷ rest) k 0) 46 (λ is. none k lt (sym (get_or-append xs (46 ∷ rest) 0 k lt) ∙ is)))
    (λ lt. ap is_dot (get_or-append_seam xs 46 rest 0)) in
    let short : position_or_len is_dot (xs ++ 46 ∷ rest) < length (xs ++ 46 ∷ rest) = omega (arith, size, place) in
    cond-true (nat_lt (position_or_len is_dot (xs ++ 46 ∷ rest)) (length (xs ++ 46 ∷ rest))) (Some (position_or_len is_dot
    (xs ++ 46 ∷ rest))) None (lt-ltb (position_or_len is_dot (xs ++ 46 ∷ rest)) (length (xs ++ 46 ∷ rest)) short)
    ∙ ap (λ (n : ℕ). Some n) place

dot_at : (p : ℕ) (rest : List ℕ) → p < 2 ^ 64 → position is_dot (decimal p ++ 46 ∷ rest) ≡ Some (length (decimal p))
dot_at p rest below = dot_behind (decimal p) rest (λ k lt is. let digit = digit_in p k below lt in omega (arith, digit, is))

-- a word with a dot is what stands before it and behind it
pub dotted : (word : List ℕ) (dot p s : ℕ) → position is_dot word ≡ Some dot → decimal p ≡ take dot word
    → decimal s ≡ take (length word - (dot + 1)) (drop (dot + 1) word) → decimal p ++ 46 ∷ decimal s ≡ word
dotted word dot p s at page slot =
    let found = position-Some is_dot word dot 0 at in
    let is : get_or word dot 0 ≡ 46 = eqb-true (get_or word dot 0) 46 found.1 in
    let next : suc dot ≡ dot + 1 = omega arith in
    ap (λ (l : List ℕ). l ++ 46 ∷ decimal s) page
    ∙ ap (λ (l : List ℕ). take dot word ++ 46 ∷ l) (slot ∙ rest_of word (dot + 1))
    ∙ ap (λ (b : ℕ). take dot word ++ b ∷ drop (dot + 1) word) (sym is)
    ∙ ap (λ (n : ℕ). take dot word ++ get_or word dot 0 ∷ drop n word) (sym next)
    ∙ sym (split_at word dot 0 found.0)

-- the dot parts the word of a record
pub parted : (word : List ℕ) (dot : ℕ) (r : Rid) → r.page < 10 ^ 10 → rid_word r ≡ word → position is_dot word ≡ Some dot
    → (decimal r.page ≡ take dot word) × (decimal r.slot ≡ take (length word - (dot + 1)) (drop (dot + 1) word))
parted word dot r is e at =
    let both : Some (length (decimal r.page)) ≡ Some dot = sym (dot_at r.page (decimal r.slot) (omega (arith, is)))
    ∙ ap (position is_dot) e ∙ at in
    let place : length (decimal r.page) ≡ dot = cc in (
      sym (take-append_seam (decimal r.page) (46 ∷ decimal r.slot)) ∙ ap (take (length (decimal r.page))) e
          ∙ ap (λ n. take n word) place,
      sym (drop_dot (decimal r.page) (decimal r.slot) (length (decimal r.page) + 1) refl)
          ∙ ap (drop (length (decimal r.page) + 1)) e ∙ ap (λ n. drop (n + 1) word) place ∙ sym (rest_of word (dot + 1)),
    ) where
      drop_dot : (xs ys : List ℕ) (n : ℕ) → n ≡ length xs + 1 → drop n (xs ++ 46 ∷ ys) ≡ ys
      drop_dot [] ys zero count = absurd (omega arith)
      drop_dot [] ys (suc n) count = let none : n ≡ 0 = omega arith in ap (λ k. drop k ys) none
      drop_dot (x ∷ xs) ys zero count = absurd (omega arith)
      drop_dot (x ∷ xs) ys (suc n) count = drop_dot xs ys n (omega arith)

pub has_dot : (word : List ℕ) (r : Rid) → r.page < 10 ^ 10 → rid_word r ≡ word → position is_dot word ≡ None → ⊥
has_dot word r is e none =
    let both : Some (length (decimal r.page)) ≡ None = sym (dot_at r.page (decimal r.slot) (omega (arith, is)))
    ∙ ap (position is_dot) e ∙ none in
    absurd (cc)

-- the word of a record, however high its page is, by the words before and behind its dot
module _ (word : List ℕ) (dot : ℕ) (at : position is_dot word ≡ Some dot) where
  pub wide_is : IsNumberIn 0 9999999999 (take dot word) → IsNumberIn 0 999 (take (length word - (dot + 1)) (drop (dot + 1) word))
      → IsWideRecord word
  wide_is page slot = (
    record { page = page.0; slot = slot.0 },
    omega (arith, page.2),
    omega (arith, slot.2),
    dotted word dot page.0 slot.0 at page.3 slot.3,
  )

  pub wide_page : IsWideRecord word → IsNumberIn 0 9999999999 (take dot word)
  wide_page wide = (wide.0.page, omega arith, omega (arith, wide.1), (parted word dot wide.0 wide.1 wide.3 at).0)

  pub wide_slot : IsWideRecord word → IsNumberIn 0 999 (take (length word - (dot + 1)) (drop (dot + 1) word))
  wide_slot wide = (wide.0.slot, omega arith, omega (arith, wide.2), (parted word dot wide.0 wide.1 wide.3 at).1)

pub same_number : (m n : ℕ) → m ≤ 1000000 → n ≤ 1000000 → decimal m ≡ decimal n → m ≡ n
same_number m n below_m below_n e = decimal_injective m n (omega arith) (omega arith) e

abbrev made : ℕ → ℕ → Rid
made page slot = record { page = page; slot = slot }

pub same_rid : (r q : Rid) → IsRid r → IsRid q → rid_word r ≡ rid_word q → r ≡ q
same_rid r q is_r is_q e =
    let dot : position is_dot (rid_word q) ≡ Some (length (decimal q.page)) = dot_at q.page (decimal q.slot) (omega
    (arith, is_q)) in
    let a = parted (rid_word q) (length (decimal q.page)) r (omega (arith, is_r)) e dot in
    let b = parted (rid_word q) (length (decimal q.page)) q (omega (arith, is_q)) refl dot in
    let page : r.page ≡ q.page = same_number r.page q.page (omega (arith, is_r)) (omega (arith, is_q)) (a.0 ∙ sym b.0) in
    let slot : r.slot ≡ q.slot = same_number r.slot q.slot (omega (arith, is_r)) (omega (arith, is_q)) (a.1 ∙ sym b.1) in
    ap (λ (n : ℕ). made n r.slot) page ∙ ap (λ (n : ℕ). made q.page n) slot

-- no number begins with a minus
pub no_minus : (n : ℕ) (rest : List ℕ) → n < 2 ^ 64 → decimal n ≡ 45 ∷ rest → ⊥
no_minus n rest below e =
    let some : 0 < length (decimal n) = rw e (omega arith) in
    let digit = digit_in n 0 below some in
    let first : get_or (decimal n) 0 0 ≡ 45 = ap (λ (l : List ℕ). get_or l 0 0) e in
    omega (arith, digit, first)

-- 0 is spelt otherwise than a number above it
pub zero_alone : (digits : List ℕ) → decimal 0 ≡ digits → (n : ℕ) → n + 1 < 10 ^ 10 → decimal (n + 1) ≢ digits
zero_alone digits zero_ n small e =
    let same : n + 1 ≡ 0 = decimal_injective (n + 1) 0 (omega (arith, small)) (omega arith) (e ∙ sym zero_) in
    omega (arith, same)

pub minus_first : (word : List ℕ) → get_or word 0 0 ≡ 45 → word ≡ 45 ∷ drop 1 word
minus_first [] e = absurd (omega (arith, e))
minus_first (b ∷ bs) e = ap (λ (a : ℕ). a ∷ bs) e

-- a word that begins with a minus is of no number but one below zero
pub below_none : (word rest : List ℕ) → word ≡ 45 ∷ rest → ((n : ℕ) → n + 1 < 10 ^ 10 → decimal (n + 1) ≢ rest)
    → (z : ℤ) → IsAmount z → signed_decimal z ≢ word
below_none word rest minus none (pos n) small e = no_minus n rest (omega (arith, small)) (e ∙ minus)
below_none word rest minus none (negsuc n) small e =
    let next : suc n ≡ n + 1 = omega arith in
    none n (omega (arith, small)) (ap decimal (sym next) ∙ ap (drop 1) (e ∙ minus))

-- what is known of an answer
pub if_none : {X : Type 0} (o : Option X) (P : Type 0) → o ≡ None → IfNone o P → P
if_none None P is holds = holds
if_none (Some x) P is holds = absurd (cc)

pub if_some : {X : Type 0} (o : Option X) (x : X) (P : X → Type 0) → o ≡ Some x → IfSome o P → P x
if_some o x P is holds = subst (λ q. IfSome q P) is holds
