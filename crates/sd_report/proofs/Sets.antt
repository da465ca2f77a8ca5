-- The members of a set in one byte, and how they are written one after another. It serves the goals of places.rt.
use Rattle.std.proofs.Common.{◌≡◌, ℕ, ◌<◌, ◌≤◌, Bool, true, false, cond, List, [], ◌∷◌, ◌++◌, length, refl, sym, ap, ◌∙◌, arith, append_assoc}
use Rattle.std.specs.Prelude.{None, Some}
use Rattle.std.specs.Fmt.{decimal}
use Rattle.std.specs.List.{flat_map}
use Rattle.std.proofs.lemmas.Bool.{ne_eqb, eq-eqb}
use Rattle.std.proofs.lemmas.List.Concat.{flat_map-cons}
use Rattle.sd_base.specs.Sets.{members, chosen, in_byte, without, first}
use Rattle.sd_report.specs.Places.{insts_text}

-- the numbers rise, each above this one
abbrev Rises : ℕ → List ℕ → Type 0
Rises low [] = Unit {0}
Rises low (x ∷ xs) = (low < x) × Rises x xs

lower : (low high : ℕ) (xs : List ℕ) → low ≤ high → Rises high xs → Rises low xs
lower low high [] le rises = tt
lower low high (x ∷ xs) le rises = (omega (arith, le, rises.0), rises.1)

chosen_rise : (test : ℕ → Bool) (low : ℕ) (xs : List ℕ) → Rises low xs → Rises low (chosen test xs)
chosen_rise test low [] rises = tt
chosen_rise test low (x ∷ xs) rises = go (test x) (chosen_rise test x xs rises.1) where
  go : (b : Bool) → Rises x (chosen test xs) → Rises low (cond {A = List ℕ} b (x ∷ chosen test xs) (chosen test xs))
  go true rest = (rises.0, rest)
  go false rest = lower low x (chosen test xs) (omega (arith, rises.0)) rest

members_rise : (b : ℕ) → Rises 0 (members b)
members_rise b =
    chosen_rise (in_byte b) 0 (1 ∷ 2 ∷ 3 ∷ 4 ∷ 5 ∷ 6 ∷ 7 ∷ 8 ∷ [])
    (omega arith, (omega arith, (omega arith, (omega arith, (omega arith, (omega arith, (omega arith, (omega arith, tt))))))))

without_lower : (i low : ℕ) (xs : List ℕ) → i ≤ low → Rises low xs → without i xs ≡ xs
without_lower i low [] le rises = refl
without_lower i low (x ∷ xs) le rises =
    ap (λ (b : Bool). cond {A = List ℕ} b (without i xs) (x ∷ without i xs)) (ne_eqb x i (λ is. omega (arith, is, le, rises.0)))
    ∙ ap (λ (l : List ℕ). x ∷ l) (without_lower i x xs (omega (arith, le, rises.0)) rises.1)

-- the first stands before the others
parted : (i low : ℕ) (xs : List ℕ) → Rises low xs → Some i ≡ first xs → xs ≡ i ∷ without i xs
parted i low [] rises is = absurd (cc)
parted i low (x ∷ xs) rises is =
    let same : i ≡ x = cc in
    let rest : without i (x ∷ xs) ≡ xs =
    ap (λ (b : Bool). cond {A = List ℕ} b (without i xs) (x ∷ without i xs)) (eq-eqb x i (sym same))
    ∙ without_lower i x xs (omega (arith, same)) rises.1 in
    ap (λ (n : ℕ). n ∷ xs) (sym same) ∙ ap (λ (l : List ℕ). i ∷ l) (sym rest)

none : (xs : List ℕ) → None ≡ first xs → xs ≡ []
none [] is = refl
none (x ∷ xs) is = absurd (cc)

abbrev others_text : List ℕ → List ℕ
others_text insts = flat_map (λ other. 44 ∷ decimal other) insts

-- a set, its lowest member, and the others
module _ (b i rest : ℕ) (lowest : Some i ≡ first (members b)) (left : members rest ≡ without i (members b)) where
  others : members b ≡ i ∷ members rest
  others = parted i 0 (members b) (members_rise b) lowest ∙ ap (λ (l : List ℕ). i ∷ l) (sym left)

  pub fewer : length (members rest) < length (members b)
  fewer = let count = ap length others in omega (arith, count)

  pub first_text : (old new : List ℕ) → new ≡ old ++ decimal i → new ++ others_text (members rest) ≡ old ++ insts_text (members b)
  first_text old new is =
      ap (λ (l : List ℕ). l ++ others_text (members rest)) is ∙ append_assoc old (decimal i) (others_text (members rest))
      ∙ ap (λ (l : List ℕ). old ++ insts_text l) (sym others)

  pub next_text : (out new all : List ℕ) → out ++ others_text (members b) ≡ all → new ≡ (out ++ 44 ∷ []) ++ decimal i
      → new ++ others_text (members rest) ≡ all
  next_text out new all so_far is =
      ap (λ (l : List ℕ). l ++ others_text (members rest)) (is ∙ append_assoc out (44 ∷ []) (decimal i))
      ∙ append_assoc out (44 ∷ decimal i) (others_text (members rest))
      ∙ ap (λ (l : List ℕ). out ++ l) (sym (flat_map-cons (λ other. 44 ∷ decimal other) i (members rest)))
      ∙ ap (λ (l : List ℕ). out ++ others_text l) (sym others) ∙ so_far

pub no_text : (b : ℕ) (old : List ℕ) → None ≡ first (members b) → old ++ insts_text (members b) ≡ old ++ []
no_text b old is = ap (λ (l : List ℕ). old ++ insts_text l) (none (members b) is)

pub no_others : (b : ℕ) (out : List ℕ) → None ≡ first (members b) → out ++ others_text (members b) ≡ out ++ []
no_others b out is = ap (λ (l : List ℕ). out ++ others_text l) (none (members b) is)
