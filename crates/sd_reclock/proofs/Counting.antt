-- How many of those that wait aren't seen yet: each that is seen is one fewer, so the search ends. It serves the goals of deadlock.rt.
use Rattle.std.proofs.Common.{◌≡◌, ◌≢◌, ℕ, zero, suc, ◌<◌, ◌≤◌, Bool, true, false, cond, List, [], ◌∷◌, length, get_or, count_by, sym, ap, subst, ⊎_elim, arith}
use Rattle.std.proofs.lemmas.List.Sums.{sum_by-cons}
use Rattle.std.specs.List.{Contains}
use Rattle.sd_base.specs.declared.ids.TxnId.{TxnId}
use Rattle.sd_base.proofs.SameIds.{cases_txn}

one_less : (a b : Bool) → a ≡ true → b ≡ false → suc (cond b 1 0) ≤ cond a 1 0
one_less a b e f = rw (e, f) (omega arith)

module _ (u : TxnId) (p q : TxnId → Bool) (others : (x : TxnId) → u ≢ x → q x ≡ p x) (was : p u ≡ true) (gone : q u ≡ false) where
  no_more_at : (x : TxnId) → cond (q x) 1 0 ≤ cond (p x) 1 0
  no_more_at x = ⊎_elim
      (λ e. subst (λ (z : TxnId). cond (q z) 1 0 ≤ cond (p z) 1 0) e (let h = one_less (p u) (q u) was gone in omega arith))
      (λ ne. let e : cond {A = ℕ} (q x) 1 0 ≡ cond (p x) 1 0 = ap (λ (b : Bool). cond {A = ℕ} b 1 0) (others x ne) in omega arith)
      (cases_txn u x)

  no_more : (xs : List TxnId) → count_by q xs ≤ count_by p xs
  no_more [] = omega arith
  no_more (x ∷ xs) = let h = no_more xs in let k = no_more_at x in omega (arith, sum_by-cons (λ (z : TxnId). cond {A = ℕ} (q z) 1 0) x xs, sum_by-cons (λ (z : TxnId). cond {A = ℕ} (p z) 1 0) x xs)

  fewer_at : (k : ℕ) (xs : List TxnId) → k < length xs → get_or xs k u ≡ u → suc (count_by q xs) ≤ count_by p xs
  fewer_at k [] l e = absurd (omega arith)
  fewer_at zero (x ∷ xs) l e = let h = no_more xs in let k = subst (λ (z : TxnId). suc (cond (q z) 1 0) ≤ cond (p z) 1 0) (sym e) (one_less (p u) (q u) was gone) in omega (arith, sum_by-cons (λ (z : TxnId). cond {A = ℕ} (q z) 1 0) x xs, sum_by-cons (λ (z : TxnId). cond {A = ℕ} (p z) 1 0) x xs)
  fewer_at (suc k) (x ∷ xs) l e = let h = fewer_at k xs (omega arith) e in let m = no_more_at x in omega (arith, sum_by-cons (λ (z : TxnId). cond {A = ℕ} (q z) 1 0) x xs, sum_by-cons (λ (z : TxnId). cond {A = ℕ} (p z) 1 0) x xs)

  pub fewer : (xs : List TxnId) → Contains xs u → suc (count_by q xs) ≤ count_by p xs
  fewer xs h = fewer_at h.0 xs h.1 h.2
