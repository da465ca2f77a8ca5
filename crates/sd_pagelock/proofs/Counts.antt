-- How many pages are lost, and the first of them. It serves table.rt.
use Rattle.std.proofs.Common.{◌≡◌, ⊎_elim, ℕ, zero, suc, ◌+◌, ◌<◌, ◌≤◌, Bool, true, false, cond, List, length, get_or, replicate, Option, None, Some, IfSome, IfNone, position, refl, sym, ap, ◌∙◌, arith}
use Rattle.std.specs.Prelude.{slice_set}
use Rattle.std.specs.List.{position_or_len}
use Rattle.std.proofs.lemmas.Bool.{cases_lt}
use Rattle.std.proofs.lemmas.List.{get_or_past}
use Rattle.std.proofs.lemmas.List.Sums.{sum_by-set, count_by-le-length, fails_before_first}
use Rattle.std.proofs.lemmas.List.Quantifiers.{position-Some}
use Rattle.sd_base.specs.declared.place.Place as coded
use Rattle.sd_base.specs.declared.place.Place.TheVariants as variants
use Rattle.sd_pagelock.specs.Places.{seen, is_lost}
use Rattle.sd_pagelock.specs.Table.{lost_among}
use Rattle.sd_pagelock.proofs.Firsts.{past_end}

-- one page alone, as the sum counts it
abbrev weight : coded.Place → ℕ
weight place = cond (is_lost (seen place)) 1 0

pub few_lost : (places : List coded.Place) → lost_among places ≤ length places
few_lost places = count_by-le-length (λ (place : coded.Place). is_lost (seen place)) places

set_counts : (places : List coded.Place) (i : ℕ) (to d : coded.Place) → i < length places → lost_among (slice_set places i to) + weight (get_or places i d) ≡ lost_among places + weight to
set_counts places i to d lt = sum_by-set weight places i to d lt

-- the count where a lost page is found or put, or none is
pub put_counts : (places : List coded.Place) (i : ℕ) (was to : coded.Place) (n : ℕ) (b d : Bool) → i < length places → was ≡ get_or places i was
    → is_lost (seen was) ≡ b → is_lost (seen to) ≡ d → n + cond b 1 0 ≡ lost_among places + cond d 1 0 → n ≡ lost_among (slice_set places i to)
put_counts places i was to n b d lt is e f counts =
    let w : weight (get_or places i was) ≡ cond b 1 0 = ap weight (sym is) ∙ ap (λ (x : Bool). cond x 1 0) e in
    let t : weight to ≡ cond d 1 0 = ap (λ (x : Bool). cond x 1 0) f in
    let s = set_counts places i to was lt in
    omega (arith, s, w, t, counts)

-- a lost page is counted
pub some_lost : (places : List coded.Place) (i : ℕ) (was : coded.Place) → i < length places → was ≡ get_or places i was → is_lost (seen was) ≡ true → 1 ≤ lost_among places
some_lost places i was lt is e =
    let w : weight (get_or places i was) ≡ 1 = ap weight (sym is) ∙ ap (λ (x : Bool). cond x 1 0) e in
    let s : lost_among (slice_set places i variants.Free) + weight (get_or places i was) ≡ lost_among places + 0 = set_counts places i variants.Free was lt in
    omega (arith, s, w)

-- where no place is lost
pub none_counted : (n : ℕ) → lost_among (replicate n variants.Free) ≡ 0
none_counted zero = refl
none_counted (suc n) = none_counted n

abbrev pub lost_at : List coded.Place → Option ℕ
lost_at places = position (λ (place : coded.Place). is_lost (seen place)) places

-- the first lost page
pub first-found : (places : List coded.Place) (r : Option ℕ) → r ≡ lost_at places → IfSome r (λ p. is_lost (seen (get_or places p variants.Free)) ≡ true)
first-found places None e = tt
first-found places (Some p) e = (position-Some (λ (place : coded.Place). is_lost (seen place)) places p variants.Free (sym e)).1

pub first-lowest : (places : List coded.Place) (r : Option ℕ) → r ≡ lost_at places → IfSome r (λ p. (q : ℕ) → q < p → is_lost (seen (get_or places q variants.Free)) ≡ false)
first-lowest places None e = tt
first-lowest places (Some p) e = (position-Some (λ (place : coded.Place). is_lost (seen place)) places p variants.Free (sym e)).2

pub first-none : (places : List coded.Place) (r : Option ℕ) → r ≡ lost_at places → IfNone r ((q : ℕ) → is_lost (seen (get_or places q variants.Free)) ≡ false)
first-none places (Some p) e = tt
first-none places None e = λ q. ⊎_elim
    (λ lt. fails_before_first (λ (place : coded.Place). is_lost (seen place)) places q variants.Free (let past : length places ≤ position_or_len (λ (place : coded.Place). is_lost (seen place)) places = past_end (λ (place : coded.Place). is_lost (seen place)) places (sym e) in omega (arith, past, lt)))
    (λ past. ap (λ (x : coded.Place). is_lost (seen x)) (get_or_past places q variants.Free past))
    (cases_lt q (length places))

pub first-within : (places : List coded.Place) (p : ℕ) → Some p ≡ lost_at places → p < length places
first-within places p e = (position-Some (λ (place : coded.Place). is_lost (seen place)) places p variants.Free (sym e)).0
