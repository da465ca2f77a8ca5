-- Who uses which page, and is noted for which group of pages. It serves noted.rt and table.rt.
use Rattle.std.proofs.Common.{◌≡◌, ◌≢◌, ⊎_elim, ℕ, zero, suc, ◌+◌, ◌*◌, ◌-◌, ◌^◌, ◌/◌, ◌<◌, ◌≤◌, not, max, Bool, true, false, cond, eqb, List, [], ◌∷◌, length, get_or, replicate, refl, sym, ap, ◌∙◌, arith}
use Rattle.std.specs.Prelude.{bit_or, slice_set}
use Rattle.std.specs.Int.{bit_at}
use Rattle.std.proofs.lemmas.Bool.{cases_eq}
use Rattle.std.proofs.lemmas.List.{get_or-set_other, length-set, length-replicate}
use Rattle.std.proofs.lemmas.Grind.{get_or-set_at}
use Rattle.std.proofs.Math.Nat.{mod-lt}
use Rattle.std.proofs.lemmas.Nat.{div-add-mod', div-mul-add}
use Rattle.std.proofs.lemmas.Nat.Bits.{and_pow, bit_at_or, bit_at-lt}
use Rattle.sd_base.specs.declared.set.InstSet.{InstSet}
use Rattle.sd_base.specs.declared.place.Place as coded
use Rattle.sd_base.specs.declared.place.Place.TheVariants as variants
use Rattle.sd_base.specs.Sets.{chosen, has, in_byte, members}
use Rattle.sd_pagelock.specs.Noted.{AreGrouped, AreNoted, is_noted}
use Rattle.sd_pagelock.specs.Places.{seen, uses}
use Rattle.sd_pagelock.proofs.Members.{not_both}
use Rattle.sd_pagelock.proofs.TableKept.{get_or-replicate}

-- who is chosen by a test is chosen by a wider one
has-chosen : (k : ℕ) (small big : ℕ → Bool) (xs : List ℕ) → ((n : ℕ) → small n ≡ true → big n ≡ true)
    → has k (chosen small xs) ≡ true → has k (chosen big xs) ≡ true
has-chosen k small big [] wider is = is
has-chosen k small big (x ∷ xs) wider is = go (has-chosen k small big xs wider) (small x) (big x) (wider x) is
  where
    or : (b c d : Bool) → (c ≡ true → d ≡ true) → cond b true c ≡ true → cond b true d ≡ true
    or true c d f e = refl
    or false c d f e = f e

    or_right : (b d : Bool) → d ≡ true → cond b true d ≡ true
    or_right true d e = refl
    or_right false d e = e

    go : (has k (chosen small xs) ≡ true → has k (chosen big xs) ≡ true) → (s b : Bool) → (s ≡ true → b ≡ true)
        → has k (cond s (x ∷ chosen small xs) (chosen small xs)) ≡ true → has k (cond b (x ∷ chosen big xs) (chosen big xs)) ≡ true
    go rest true true f e = or (eqb x k) (has k (chosen small xs)) (has k (chosen big xs)) rest e
    go rest true false f e = not_both (f refl) refl
    go rest false true f e = or_right (eqb x k) (has k (chosen big xs)) (rest e)
    go rest false false f e = rest e

mul-zero : (p : ℕ) → 0 * p ≡ 0
mul-zero p = omega arith

left_bit : (x y p : ℕ) → x < 2 → y < 2 → not (eqb (x * p) 0) ≡ true → not (eqb (max x y * p) 0) ≡ true
left_bit zero y p lx ly e = not_both e (ap (λ (z : ℕ). not (eqb z 0)) (mul-zero p))
left_bit (suc zero) zero p lx ly e = e
left_bit (suc zero) (suc zero) p lx ly e = e
left_bit (suc zero) (suc (suc y)) p lx ly e = absurd (omega (arith, ly))
left_bit (suc (suc x)) y p lx ly e = absurd (omega (arith, lx))

right_bit : (x y p : ℕ) → x < 2 → y < 2 → not (eqb (y * p) 0) ≡ true → not (eqb (max x y * p) 0) ≡ true
right_bit x zero p lx ly e = not_both e (ap (λ (z : ℕ). not (eqb z 0)) (mul-zero p))
right_bit zero (suc zero) p lx ly e = e
right_bit (suc zero) (suc zero) p lx ly e = e
right_bit (suc (suc x)) (suc zero) p lx ly e = absurd (omega (arith, lx))
right_bit x (suc (suc y)) p lx ly e = absurd (omega (arith, ly))

in_or : (a b n : ℕ) → in_byte (bit_or a b) n ≡ not (eqb (max (bit_at a (n - 1)) (bit_at b (n - 1)) * 2 ^ (n - 1)) 0)
in_or a b n = ap (λ (z : ℕ). not (eqb z 0)) (and_pow (bit_or a b) (n - 1) ∙ ap (λ (z : ℕ). z * 2 ^ (n - 1)) (bit_at_or a b (n - 1)))

in_one : (a n : ℕ) → in_byte a n ≡ not (eqb (bit_at a (n - 1) * 2 ^ (n - 1)) 0)
in_one a n = ap (λ (z : ℕ). not (eqb z 0)) (and_pow a (n - 1))

pub has-left : (a b k : ℕ) → has k (members a) ≡ true → has k (members (bit_or a b)) ≡ true
has-left a b k is = has-chosen k (in_byte a) (in_byte (bit_or a b)) (1 ∷ 2 ∷ 3 ∷ 4 ∷ 5 ∷ 6 ∷ 7 ∷ 8 ∷ [])
    (λ n e. in_or a b n ∙ left_bit (bit_at a (n - 1)) (bit_at b (n - 1)) (2 ^ (n - 1)) (bit_at-lt a (n - 1)) (bit_at-lt b (n - 1)) (sym (in_one a n) ∙ e)) is

pub has-right : (a b k : ℕ) → has k (members b) ≡ true → has k (members (bit_or a b)) ≡ true
has-right a b k is = has-chosen k (in_byte b) (in_byte (bit_or a b)) (1 ∷ 2 ∷ 3 ∷ 4 ∷ 5 ∷ 6 ∷ 7 ∷ 8 ∷ [])
    (λ n e. in_or a b n ∙ right_bit (bit_at a (n - 1)) (bit_at b (n - 1)) (2 ^ (n - 1)) (bit_at-lt a (n - 1)) (bit_at-lt b (n - 1)) (sym (in_one b n) ∙ e)) is

-- nobody
abbrev pub none : InstSet
none = record { bits = 0 }

-- a set that is written is there, and the others stay
pub set-here : (sets : List InstSet) (n k : ℕ) (x : InstSet) → n < length sets → is_noted (slice_set sets n x) n k ≡ has k (members x.bits)
set-here sets n k x lt = ap (λ (s : InstSet). has k (members s.bits)) (get_or-set_at sets n n x none refl lt)

pub set-others : (sets : List InstSet) (n m k : ℕ) (x : InstSet) → m ≢ n → is_noted (slice_set sets n x) m k ≡ is_noted sets m k
set-others sets n m k x ne = ap (λ (s : InstSet). has k (members s.bits)) (get_or-set_other sets n m x none ne)

-- nobody is in sets that are all empty
pub none_noted : (sets : List InstSet) (n : ℕ) → sets ≡ replicate n none → (q k : ℕ) → is_noted sets q k ≡ false
none_noted sets n e q k = ap (λ (xs : List InstSet). is_noted xs q k) e ∙ ap (λ (s : InstSet). has k (members s.bits)) (get_or-replicate n q none)

pub grouped-new : (pages groups : List InstSet) → pages ≡ replicate 1024 none → groups ≡ replicate 32 none → AreGrouped pages groups
grouped-new pages groups ps gs = record {
  count = ap length ps ∙ length-replicate 1024 none;
  grouped = ap length gs ∙ length-replicate 32 none;
  whole = λ q k is. not_both is (none_noted pages 1024 ps q k);
}

-- the written set of a group has all whom it needs
pub grouped-regroup : (pages groups : List InstSet) (g : ℕ) (x : InstSet) → AreGrouped pages groups → g < 32
    → ((q k : ℕ) → q / 32 ≡ g → is_noted pages q k ≡ true → has k (members x.bits) ≡ true) → AreGrouped pages (slice_set groups g x)
grouped-regroup pages groups g x was lt all = record {
  count = was.count;
  grouped = length-set groups g x ∙ was.grouped;
  whole = λ q k is. ⊎_elim
      (λ e. ap (λ (n : ℕ). is_noted (slice_set groups g x) n k) e ∙ set-here groups g k x (omega (arith, lt, was.grouped)) ∙ all q k e is)
      (λ ne. set-others groups g (q / 32) k x ne ∙ was.whole q k is)
      (cases_eq (q / 32) g);
}

-- the users of a page are written, and are among those of its group
pub grouped-note : (pages groups : List InstSet) (p g : ℕ) (x y : InstSet) → AreGrouped pages groups → p < 1024 → g ≡ p / 32
    → ((k : ℕ) → is_noted groups g k ≡ true → has k (members y.bits) ≡ true) → ((k : ℕ) → has k (members x.bits) ≡ true → has k (members y.bits) ≡ true)
    → AreGrouped (slice_set pages p x) (slice_set groups g y)
grouped-note pages groups p g x y was lt at left right = record {
  count = length-set pages p x ∙ was.count;
  grouped = length-set groups g y ∙ was.grouped;
  whole = λ q k is. ⊎_elim
      (λ e. ap (λ (n : ℕ). is_noted (slice_set groups g y) n k) e ∙ set-here groups g k y (in_groups p g lt at was.grouped) ∙ member q k e is)
      (λ ne. set-others groups g (q / 32) k y ne
      ∙ was.whole q k (sym (set-others pages p q k x (λ same. ne (ap (λ (n : ℕ). n / 32) same ∙ sym at))) ∙ is))
      (cases_eq (q / 32) g);
}
  where
    in_groups : (p g : ℕ) → p < 1024 → g ≡ p / 32 → length groups ≡ 32 → g < length groups
    in_groups p g lt at len = omega (arith, div-add-mod' p 32, lt, at, len)

    member : (q k : ℕ) → q / 32 ≡ g → is_noted (slice_set pages p x) q k ≡ true → has k (members y.bits) ≡ true
    member q k e is = ⊎_elim
        (λ same. right k (sym (set-here pages p k x (omega (arith, lt, was.count))) ∙ ap (λ (n : ℕ). is_noted (slice_set pages p x) n k) (sym same) ∙ is))
        (λ ne. left k (ap (λ (n : ℕ). is_noted groups n k) (sym e) ∙ was.whole q k (sym (set-others pages p q k x ne) ∙ is)))
        (cases_eq q p)

-- just its users are noted still, where a page's place is written
pub noted-write : (places : List coded.Place) (old new : List InstSet) (p : ℕ) (to : coded.Place) → p < length places
    → ((k : ℕ) → is_noted new p k ≡ uses (seen to) k) → ((q k : ℕ) → q ≢ p → is_noted new q k ≡ is_noted old q k)
    → AreNoted places old → AreNoted (slice_set places p to) new
noted-write places old new p to lt here others was q k = ⊎_elim
    (λ e. ap (λ (z : ℕ). is_noted new z k) e ∙ here k ∙ sym (ap (λ (x : coded.Place). uses (seen x) k) (get_or-set_at places p q to variants.Free e lt)))
    (λ ne. others q k ne ∙ was q k ∙ sym (ap (λ (x : coded.Place). uses (seen x) k) (get_or-set_other places p q to variants.Free ne)))
    (cases_eq q p)

-- nobody uses pages that are all free
pub noted-free : (places : List coded.Place) (noted : List InstSet) → ((p : ℕ) → get_or places p variants.Free ≡ variants.Free)
    → ((p k : ℕ) → is_noted noted p k ≡ false) → AreNoted places noted
noted-free places noted free nobody p k = nobody p k ∙ sym (ap (λ (x : coded.Place). uses (seen x) k) (free p))

-- the pages of a group
pub in_group : (g q : ℕ) → 32 * g ≤ q → q < 32 * g + 32 → q / 32 ≡ g
in_group g q low high = ap (λ (z : ℕ). z / 32) (whole g q low) ∙ div-mul-add g 32 (q - 32 * g) (omega (arith, low, high))
  where
    whole : (g q : ℕ) → 32 * g ≤ q → q ≡ g * 32 + (q - 32 * g)
    whole g q low = omega (arith, low)

-- who isn't noted for a group is noted for none of its pages
pub ungrouped : (pages groups : List InstSet) (g i q : ℕ) → AreGrouped pages groups → is_noted groups g i ≡ false
    → 32 * g ≤ q → q < 32 * g + 32 → is_noted pages q i ≡ false
ungrouped pages groups g i q all out low high = go (is_noted pages q i) (λ e. ap (λ (z : ℕ). is_noted groups z i) (sym (in_group g q low high)) ∙ all.whole q i e)
  where
    go : (b : Bool) → (b ≡ true → is_noted groups g i ≡ true) → b ≡ false
    go true f = not_both (f refl) out
    go false f = refl

-- the first and the last page of a page's group
pub group_low : (g q : ℕ) → q / 32 ≡ g → 32 * g ≤ q
group_low g q e = omega (arith, div-add-mod' q 32, e)

pub group_high : (g q : ℕ) → q / 32 ≡ g → q < 32 * g + 32
group_high g q e = omega (arith, div-add-mod' q 32, mod-lt q {m = 32} (omega arith), e)
