-- The members of a set in one byte: they are instances, and when there is one alone. It serves the laws and lawful.rt.
use Rattle.std.proofs.Common.{◌≡◌, ◌↔◌, ⊎_elim, ℕ, zero, suc, ◌<◌, ◌≤◌, ◌+◌, ◌-◌, ◌^◌, not, Bool, true, false, cond, eqb, ◌&&◌, List, [], ◌∷◌, refl, sym, ap, ◌∙◌, subst, ne_eqb, eqb-true, arith}
use Rattle.std.proofs.lemmas.Bool.{cases_eq}
use Rattle.sd_base.specs.Sets.{has, without, members, chosen, in_byte}
use Rattle.sd_pagelock.specs.Rows.{is_only}
use Rattle.sd_base.proofs.Masks.{each_below, of_each}

abbrev none : List ℕ → Bool
none [] = true
none (x ∷ xs) = false

abbrev same : Bool → Bool → Bool
same true b = b
same false b = not b

same_is : (a b : Bool) → same a b ≡ true → a ≡ b
same_is true b e = sym e
same_is false true e = absurd (cc)
same_is false false e = refl

only_ok : ℕ → ℕ → Bool
only_ok b n = same (has (suc n) (members b) && none (without (suc n) (members b))) (is_only (suc n) (members b))

all_only : each_below 256 (λ b. each_below 8 (only_ok b)) ≡ true
unfolding only_ok
all_only = refl

byte-only : (b i : ℕ) → b < 256 → 1 ≤ i → i ≤ 8 → (has i (members b) && none (without i (members b))) ≡ is_only i (members b)
unfolding only_ok
byte-only b zero lb low high = absurd (omega arith)
byte-only b (suc n) lb low high = same_is (has (suc n) (members b) && none (without (suc n) (members b))) (is_only (suc n) (members b)) (of_each 8 (only_ok b) (of_each 256 (λ b. each_below 8 (only_ok b)) all_only b lb) n (omega arith))

is_none : (r : Bool) (xs : List ℕ) → (r ≡ true ↔ (xs ≡ [])) → r ≡ none xs
is_none true [] h = refl
is_none false [] h = h.1 refl
is_none true (x ∷ xs) h = absurd (let e = h.0 refl in absurd (cc))
is_none false (x ∷ xs) h = refl

abbrev Instance : ℕ → Type 0
Instance k = (1 ≤ k) × (k ≤ 8)

abbrev Instances : List ℕ → Type 0
Instances [] = Unit {0}
Instances (x ∷ xs) = Instance x × Instances xs

chosen_instances : (test : ℕ → Bool) (xs : List ℕ) → Instances xs → Instances (chosen test xs)
chosen_instances test [] all = tt
chosen_instances test (x ∷ xs) all = go (chosen_instances test xs all.1) (test x)
  where
    go : Instances (chosen test xs) → (b : Bool) → Instances (cond b (x ∷ chosen test xs) (chosen test xs))
    go rest true = (all.0, rest)
    go rest false = rest

one_of : (k : ℕ) (xs : List ℕ) → Instances xs → has k xs ≡ true → Instance k
one_of k [] all there = absurd (cc)
one_of k (x ∷ xs) all there = ⊎_elim
    (λ e. subst Instance e all.0)
    (λ ne. one_of k xs all.1 (sym (ap (λ (b : Bool). cond b true (has k xs)) (ne_eqb x k ne)) ∙ there))
    (cases_eq x k)

eight : Instances (1 ∷ 2 ∷ 3 ∷ 4 ∷ 5 ∷ 6 ∷ 7 ∷ 8 ∷ [])
eight = (a, (b, (d, (e, (f, (g, (h, (i, tt))))))))
  where
    a : Instance 1
    a = (omega arith, omega arith)

    b : Instance 2
    b = (omega arith, omega arith)

    d : Instance 3
    d = (omega arith, omega arith)

    e : Instance 4
    e = (omega arith, omega arith)

    f : Instance 5
    f = (omega arith, omega arith)

    g : Instance 6
    g = (omega arith, omega arith)

    h : Instance 7
    h = (omega arith, omega arith)

    i : Instance 8
    i = (omega arith, omega arith)

-- a member is an instance
pub member_range : (b k : ℕ) → has k (members b) ≡ true → (1 ≤ k) × (k ≤ 8)
member_range b k there = one_of k (members b) (chosen_instances (in_byte b) (1 ∷ 2 ∷ 3 ∷ 4 ∷ 5 ∷ 6 ∷ 7 ∷ 8 ∷ []) eight) there

-- one who is in the set is the only one where nobody is left without it
pub only_then : (b i : ℕ) → b < 256 → (r : Bool) (left : List ℕ) → has i (members b) ≡ true → left ≡ without i (members b) → (r ≡ true ↔ (left ≡ [])) → r ≡ is_only i (members b)
only_then b i lb r left there e h = let range = member_range b i there in is_none r left h ∙ ap none e ∙ ap (λ (a : Bool). a && none (without i (members b))) (sym there) ∙ byte-only b i lb range.0 range.1

-- the byte of a list of members
abbrev pub byte_of : List ℕ → ℕ
byte_of [] = 0
byte_of (x ∷ xs) = 2 ^ (x - 1) + byte_of xs

back_ok : ℕ → Bool
back_ok b = eqb (byte_of (members b)) b

all_back : each_below 256 back_ok ≡ true
unfolding back_ok
all_back = refl

-- a byte is its members' byte
pub byte_of-members : (b : ℕ) → b < 256 → byte_of (members b) ≡ b
unfolding back_ok
byte_of-members b lt = eqb-true (byte_of (members b)) b (of_each 256 back_ok all_back b lt)

-- the receiver of a page, and those who hold it
pub moving_range : (to b k : ℕ) → 1 ≤ to → to ≤ 8 → cond (eqb to k) true (has k (members b)) ≡ true → (1 ≤ k) × (k ≤ 8)
moving_range to b k low high used = ⊎_elim
    (λ e. subst (λ (z : ℕ). (1 ≤ z) × (z ≤ 8)) e (low, high))
    (λ ne. member_range b k (sym (ap (λ (c : Bool). cond c true (has k (members b))) (ne_eqb to k ne)) ∙ used))
    (cases_eq to k)
