-- What is made of a list, one after another: for the loops of parts.rt.
use Rattle.std.proofs.Common.{◌≡◌, ⊎_elim, ℕ, suc, ◌+◌, ◌-◌, ◌^◌, min, ◌<◌, ◌≤◌, List, [], ◌∷◌, ◌++◌, length, take, get_or, Some, sym, ap, ◌∙◌, subst, arith, length-append}
use Rattle.std.specs.Prelude.{slice_get}
use Rattle.std.proofs.Math.Seq.{take-length}
use Rattle.std.proofs.lemmas.Bool.{cases_lt}
use Rattle.std.proofs.lemmas.List.{length-take-le}
use Rattle.std.proofs.lemmas.Option.{slice_get-get_or, slice_get_within}
use Rattle.sd_base.proofs.Lists.{slice_get-append_left, slice_get-push, take_next}
use Rattle.sd_log.specs.declared.placed.Placed.{Placed}
use Rattle.sd_log.specs.Logs.{LogState, flats, scanned}
use Rattle.sd_chain.specs.Checks.{owed}
use Rattle.sd_recovered.specs.declared.losers.Loser.{Loser}
use Rattle.sd_recovered.specs.Losers.{AreLosers}
use Rattle.sd_recovered.specs.UndoPass.{AreLosersOf}
use Rattle.sd_recovered.proofs.OpenStacks.{losers-length}
use Rattle.sd_restart.specs.Reading.{AreOwed, Matches}
use Rattle.sd_restart.proofs.Claiming.{losers_at}

one : {A : Type 0} {o : _} {a b : A} → o ≡ Some a → o ≡ Some b → a ≡ b
one p q = cc

module _ {A B : Type 0} (Of : ℕ → A → B → Type 0) where
  matches_push : (xs : List A) (ys : List B) (x : A) (y : B) → Matches Of xs ys → Of (length xs) x y → Matches Of (xs ++ x ∷ []) (ys ++ y ∷ [])
  matches_push xs ys x y m is = record {
    many = let n = m.many in length-append ys (y ∷ []) ∙ ap (λ k. k + 1) n ∙ sym (length-append xs (x ∷ []));
    each = λ k a b p q. ⊎_elim
        (λ lt. let n = m.many in
        m.each k a b (sym (slice_get-append_left xs (x ∷ []) k lt) ∙ p) (sym (slice_get-append_left ys (y ∷ []) k (omega (arith, lt, n))) ∙ q))
        (λ ge.
        let n = m.many in
        let within = slice_get_within (xs ++ x ∷ []) k a p in
        let len = length-append xs (x ∷ []) in
        let last : length xs ≡ k = omega (arith, ge, within, len) in
        let at : length ys ≡ k = n ∙ last in
        let same : x ≡ a = one (slice_get-push xs x) (ap (slice_get (xs ++ x ∷ [])) last ∙ p) in
        let same' : y ≡ b = one (slice_get-push ys y) (ap (slice_get (ys ++ y ∷ [])) at ∙ q) in
        subst (λ (v : B). Of k a v) same' (subst (λ (u : A). Of k u y) same (subst (λ (i : ℕ). Of i x y) last is)))
        (cases_lt k (length xs));
  }

  pub matches_more : (xs : List A) (ys : List B) (i : ℕ) (x : A) (y : B) → Matches Of (take i xs) ys → slice_get xs i ≡ Some x → Of i x y
      → Matches Of (take (i + 1) xs) (ys ++ y ∷ [])
  matches_more xs ys i x y m there is =
      let lt = slice_get_within xs i x there in
      let longer : take i xs ++ x ∷ [] ≡ take (i + 1) xs =
      sym (take_next xs i x there) ∙ (let e : suc i ≡ i + 1 = omega arith in ap (λ n. take n xs) e) in
      let len : length (take i xs) ≡ i = front xs i lt in
      subst (λ (l : List A). Matches Of l (ys ++ y ∷ [])) longer
      (matches_push (take i xs) ys x y m (subst (λ (n : ℕ). Of n x y) (sym len) is))
    where
      front : (xs : List A) (i : ℕ) → i < length xs → length (take i xs) ≡ i
      front xs i lt = length-take-le i xs (omega (arith, lt))

  pub matches_all : (xs : List A) (ys : List B) (i : ℕ) → Matches Of (take i xs) ys → i ≤ length xs → length xs ≤ i → Matches Of xs ys
  matches_all xs ys i m low high =
      let whole : i ≡ length xs = omega (arith, low, high) in
      subst (λ (l : List A). Matches Of l ys) (ap (λ n. take n xs) whole ∙ take-length xs) m

  -- those of one place
  pub matches_at : (xs : List A) (ys : List B) (k : ℕ) (x : A) (y : B) → Matches Of xs ys → k < length xs → Of k (get_or xs k x) (get_or ys k y)
  matches_at xs ys k x y m lt =
      let n = m.many in
      m.each k (get_or xs k x) (get_or ys k y) (slice_get-get_or xs k x lt) (slice_get-get_or ys k y (omega (arith, lt, n)))

-- what each log owes, told by its losers
abbrev pub IsOwedBy : ℕ → List Loser → ℕ → Type 0
IsOwedBy k losers n = (log : List Placed) → AreLosers log losers → n ≡ min (owed (flats log)) (2 ^ 64 - 1)

pub owed_all : (logs : List LogState) (losers : List (List Loser)) (all : List ℕ) → AreLosersOf logs losers → Matches IsOwedBy losers all
    → AreOwed logs all
owed_all logs losers all are m = record {
  many = m.many ∙ losers-length 1 logs losers are;
  each = λ k log n at_log at_n.
      let l = losers_at logs losers k log are at_log in
      m.each k l.found n l.there at_n (scanned log) l.are.losers_are;
}
