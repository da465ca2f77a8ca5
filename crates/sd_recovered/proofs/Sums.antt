-- How many records end the losers of all logs. It serves the goals of ends.rt.
use Rattle.std.proofs.Common.{◌≡◌, ℕ, suc, ◌+◌, ◌-◌, ◌<◌, ◌≤◌, min, List, [], ◌∷◌, length, take, drop, get_or, refl, sym, ap, ◌∙◌, arith}
use Rattle.std.proofs.Math.Seq.{take-length}
use Rattle.std.proofs.lemmas.List.Sums.{sum_by-cons}
use Rattle.sd_log.specs.declared.placed.Placed.{Placed}
use Rattle.sd_log.specs.Logs.{LogState, flats, scanned}
use Rattle.sd_chain.specs.Checks.{owed}
use Rattle.sd_recovered.specs.declared.losers.Loser.{Loser}
use Rattle.sd_recovered.specs.Losers.{AreLosers}
use Rattle.sd_recovered.specs.UndoPass.{AreLosersFrom}
use Rattle.sd_recovered.specs.Ends.{owed_in}

-- an empty list
pub nothing : {A : Type 0} (xs : List A) → length xs < 1 → xs ≡ []
nothing [] few = refl
nothing (x ∷ xs) few = absurd (omega (arith, few))

-- one that isn't
pub first_and_rest : {A : Type 0} (xs : List A) (x d : A) → 1 ≤ length xs → x ≡ get_or xs 0 d → xs ≡ x ∷ take (length xs - 1) (drop 1 xs)
first_and_rest [] x d some is = absurd (omega (arith, some))
first_and_rest {A} (y ∷ ys) x d some is =
    let n : length ys ≡ length (y ∷ ys) - 1 = omega arith in
    ap (λ (z : A). z ∷ ys) (sym is) ∙ ap (λ (zs : List A). x ∷ zs) (sym (take-length ys) ∙ ap (λ (k : ℕ). take k ys) n)

pub owed_none : (j : ℕ) (logs : List LogState) → AreLosersFrom j logs [] → 0 ≡ min (owed_in logs) 18446744073709551615
owed_none j [] are = refl
owed_none j (log ∷ logs) are = absurd are

capped : (a b m n : ℕ) → a ≡ min m 18446744073709551615 → b ≡ min n 18446744073709551615
    → min (a + b) 18446744073709551615 ≡ min (m + n) 18446744073709551615
capped a b m n p q = omega (arith, p, q)

pub owed_more : (a b : ℕ) (first : List Loser) (others : List (List Loser))
    → ((log : List Placed) → AreLosers log first → a ≡ min (owed (flats log)) 18446744073709551615)
    → ((j : ℕ) (logs : List LogState) → AreLosersFrom j logs others → b ≡ min (owed_in logs) 18446744073709551615)
    → (j : ℕ) (logs : List LogState) → AreLosersFrom j logs (first ∷ others)
    → min (a + b) 18446744073709551615 ≡ min (owed_in logs) 18446744073709551615
owed_more a b first others here behind j [] are = absurd are
owed_more a b first others here behind j (log ∷ logs) are =
    capped a b (owed (flats (scanned log))) (owed_in logs) (here (scanned log) are.0.losers_are) (behind (suc j) logs are.1)
    ∙ ap (λ (n : ℕ). min n 18446744073709551615) (sym (sum_by-cons (λ (x : LogState). owed (flats (scanned x))) log logs))
