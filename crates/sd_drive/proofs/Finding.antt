-- The first number that passes a test, the first instance that is down, and the first work. It serves the goals of `restart` and `let_go` in
-- opening.rt, and those of driver.rt and laws.rt.
use Rattle.std.proofs.Common.{◌≡◌, ⊎_elim, ℕ, zero, suc, ◌+◌, ◌-◌, ◌<◌, ◌≤◌, Bool, true, false, cond, List, ◌∷◌, refl, sym, ap, ◌∙◌, arith}
use Rattle.std.specs.Prelude.{Option, None, Some, is_some, unwrap_or}
use Rattle.std.proofs.lemmas.Bool.{cases_eq}
use Rattle.sd_model.specs.State.{State}
use Rattle.sd_drive.specs.Driving.{Cursor, Known, Work, ahead, first_from, left_from, next_down, opens}
use Rattle.sd_base.specs.Standing.{is_down}

-- the first of them passes, or it is one behind it
pub first-here : (f : ℕ → Bool) (i n : ℕ) → 1 ≤ n → f i ≡ true → first_from f i n ≡ Some i
first-here f i zero some yes_ = absurd (omega (arith, some))
first-here f i (suc n) some yes_ = ap (λ (b : Bool). cond {A = Option ℕ} b (Some i) (first_from f (i + 1) n)) yes_

pub first-behind : (f : ℕ → Bool) (i n m : ℕ) → n ≡ m + 1 → f i ≡ false → first_from f i n ≡ first_from f (i + 1) m
first-behind f i zero m is no_ = absurd (omega (arith, is))
first-behind f i (suc n) m is no_ =
    let same : n ≡ m = omega (arith, is) in
    ap (λ (b : Bool). cond {A = Option ℕ} b (Some i) (first_from f (i + 1) n)) no_ ∙ ap (first_from f (i + 1)) same

pub first-none : (f : ℕ → Bool) (i n : ℕ) → n ≡ 0 → first_from f i n ≡ None
first-none f i n is = ap (first_from f i) is

-- ---- which one it is

-- the first of so many from a on that passes
abbrev pub Found : (ℕ → Bool) → ℕ → ℕ → ℕ → Type 0
Found f j a k = (a ≤ j) × (j < a + k) × (f j ≡ true) × ((x : ℕ) → a ≤ x → x < j → f x ≡ false)

pub first-found : (f : ℕ → Bool) (i n j : ℕ) → first_from f i n ≡ Some j → Found f j i n
first-found f i zero j is = absurd (cc)
first-found f i (suc n) j is = go (f i) refl (λ behind. first-found f (i + 1) n j behind) is
  where
    here : f i ≡ true → i ≡ j → Found f j i (suc n)
    here yes_ same = (
      omega (arith, same),
      omega (arith, same),
      ap f (sym same) ∙ yes_,
      λ x low high. absurd (omega (arith, low, high, same)),
    )

    later : f i ≡ false → Found f j (i + 1) n → Found f j i (suc n)
    later no_ h = let low = h.0 in let high = h.1 in (
      omega (arith, low),
      omega (arith, high),
      h.2,
      λ x from below. ⊎_elim (λ is. ap f (sym is) ∙ no_) (λ ne. h.3 x (omega (arith, from, ne)) below) (cases_eq i x),
    )

    go : (b : Bool) → f i ≡ b → (first_from f (i + 1) n ≡ Some j → Found f j (i + 1) n)
        → cond {A = Option ℕ} b (Some i) (first_from f (i + 1) n) ≡ Some j → Found f j i (suc n)
    go true yes_ ih same = here yes_ (ap (λ (o : Option ℕ). unwrap_or o i) same)
    go false no_ ih same = later no_ (ih same)

pub first-missed : (f : ℕ → Bool) (i n : ℕ) → first_from f i n ≡ None → (k : ℕ) → i ≤ k → k < i + n → f k ≡ false
first-missed f i zero is k low high = absurd (omega (arith, low, high))
first-missed f i (suc n) is k low high = go (f i) refl (λ behind from. first-missed f (i + 1) n behind k from (omega (arith, high))) is
  where
    go : (b : Bool) → f i ≡ b → (first_from f (i + 1) n ≡ None → i + 1 ≤ k → f k ≡ false)
        → cond {A = Option ℕ} b (Some i) (first_from f (i + 1) n) ≡ None → f k ≡ false
    go true yes_ ih same = absurd (cc)
    go false no_ ih same = ⊎_elim (λ is. ap f (sym is) ∙ no_) (λ ne. ih same (omega (arith, low, ne))) (cases_eq i k)

-- ---- who recovers next

pub down-here : (m : State) (i : ℕ) → i ≤ 8 → is_down (m.inst i).status ≡ true → next_down m i ≡ Some i
down-here m i le down = first-here (λ j. is_down (m.inst j).status) i (9 - i) (omega (arith, le)) down

pub down-behind : (m : State) (i : ℕ) → i ≤ 8 → is_down (m.inst i).status ≡ false → next_down m i ≡ next_down m (i + 1)
down-behind m i le stands =
    let count : 9 - i ≡ 9 - (i + 1) + 1 = omega (arith, le) in
    first-behind (λ j. is_down (m.inst j).status) i (9 - i) (9 - (i + 1)) count stands

-- ---- the first work

-- the opening is the first work, where it has begun or not
opens-some : (o : Option ℕ) → is_some (opens o) ≡ true
opens-some None = refl
opens-some (Some i) = refl

pub opening-first : (m : State) (known : Known) (o : Option Cursor) (works : List Work)
    → left_from m known o (Work.Opening ∷ works) ≡ Work.Opening ∷ works
opening-first m known None works = ap (λ (b : Bool). cond {A = List Work} b (Work.Opening ∷ works) (ahead m known works)) (opens-some (next_down m 1))
opening-first m known (Some c) works = refl
