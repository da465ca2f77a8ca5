-- What turns lead to, one turn more.
use Rattle.std.proofs.Common.{ℕ, List, [], ◌∷◌, ◌++◌, refl, sym, subst}
use Rattle.sd_turnstile.specs.declared.shift.Turn.{Turn}
use Rattle.sd_turnstile.specs.Turns.{Leads, IsLed}

module _ {V : Type 0} (turns : V → ℕ → Turn → V → Type 0) where
  pub leads-on : (a : V) (bs : List V) (c d : V) (i : ℕ) (r : Turn) → Leads turns a bs c → turns c i r d
      → Leads turns a (bs ++ d ∷ []) d
  leads-on a [] c d i r is t = (i, r, subst (λ (x : V). turns x i r d) (sym is) t, refl)
  leads-on a (b ∷ bs) c d i r l t = (l.0, l.1, l.2, leads-on b bs c d i r l.3 t)

  pub led-on : (a c d : V) (i : ℕ) (r : Turn) → IsLed turns a c → turns c i r d → IsLed turns a d
  led-on a c d i r l t = (l.0 ++ d ∷ [], leads-on a l.0 c d i r l.1 t)

  pub led-none : (a : V) → IsLed turns a a
  led-none a = ([], refl)
