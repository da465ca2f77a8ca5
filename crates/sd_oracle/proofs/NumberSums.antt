-- When there is no sum, and what is said of a value that was found. It serves the goals of values.rt.
use Rattle.std.proofs.Common.{◌≡◌, ◌↔◌, ℕ, ℤ, ◌<◌, Bool, true, false, not, IsTrue, nat_lt, List, length, Some, refl, sym, ap, ◌∙◌, subst, ltb-true, lt-ltb}
use Rattle.sd_model.specs.declared.numbers.NoSum.{NoSum}
use Rattle.sd_model.specs.declared.numbers.NoSum.TheVariants.{NotNumber, TooLong}
use Rattle.sd_model.specs.Numbers.{IsSum, IsLongSum, Sums, Lacks}
use Rattle.sd_model.specs.Tables.{Content}
use Rattle.sd_oracle.proofs.Search.{not_true}

pub never-sum : (e : NoSum) (u : List ℕ) (by : ℤ) → Lacks e u by → (w : List ℕ) → IsSum u by w → ⊥
never-sum NotNumber u by h w s = h (s.1.0, s.1.1)
never-sum TooLong u by h w s = h.none w s

pub never-long : (u : List ℕ) (by : ℤ) → Lacks NotNumber u by → IsLongSum u by → ⊥
never-long u by h l = h (l.2.0, l.2.1)

-- the text of the sum is the longer one
pub longer-sum : (u w : List ℕ) (by : ℤ) (n : ℕ) → Sums u by w → n ≡ length w → IsTrue (nat_lt (length u) n) ↔ ((v : List ℕ) × IsSum u by v × (length u < length v))
longer-sum u w by n s e = (
  λ t. (w, s.is, subst (λ (k : ℕ). length u < k) e (ltb-true (length u) n t)),
  λ h. lt-ltb (length u) n (subst (λ (k : ℕ). length u < k) (ap length (s.only h.0 h.1) ∙ sym e) h.2),
)

pub not-so : (b : Bool) (P : Type 0) → IsTrue b ↔ P → IsTrue (not b) ↔ (P → ⊥)
not-so true P h = (λ t. absurd (not_true t), λ k. absurd (k (h.0 refl)))
not-so false P h = (λ t p. not_true (h.1 p), λ k. refl)

pub the_value : (u v : List ℕ) → Some u ≡ Some v → u ≡ v
the_value u v e = cc

-- what is said of the value that was found
pub of-found : (P : List ℕ → Type 0) (b : Bool) (u : List ℕ) (v : Content) → Some u ≡ v → IsTrue b ↔ P u → IsTrue b ↔ ((x : List ℕ) × (v ≡ Some x) × P x)
of-found P b u v e h = (λ t. (u, sym e, h.0 t), λ k. h.1 (subst P (the_value k.0 u (sym k.1 ∙ sym e)) k.2))

pub of-sum : (by : ℤ) (b : Bool) (u : List ℕ) (v : Content) → Some u ≡ v → IsTrue b ↔ ((w : List ℕ) × IsSum u by w × (length u < length w)) → IsTrue b ↔ ((x w : List ℕ) × (v ≡ Some x) × IsSum x by w × (length x < length w))
of-sum by b u v e h = (
  λ t. let k = h.0 t in (u, k.0, sym e, k.1, k.2),
  λ k. h.1 (subst (λ (x : List ℕ). (w : List ℕ) × IsSum x by w × (length x < length w)) (the_value k.0 u (sym k.2 ∙ sym e)) (k.1, k.3, k.4)),
)
