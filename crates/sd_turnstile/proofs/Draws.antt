-- The draw of a ticket keeps the rule.
use Rattle.std.proofs.Common.{◌≡◌, ℕ, suc, ◌+◌, ◌-◌, ◌%◌, ◌<◌, ◌≤◌, List, [], ◌∷◌, length, set, sym, refl, ap, arith, subst, Option, Some, None, Bool, true, false, eqb, slice_index, rules}
use mathlib.Core.Option.{some}
use lib.ListN.{get_elem?}
use Rattle.atomic_table.specs.Table.{Me, Allows, keeps}
use Rattle.sd_turnstile.specs.declared.rule.View.{View}
use Rattle.sd_turnstile.specs.declared.shift.Turn.{Turn}
use Rattle.sd_turnstile.specs.Rule.{total, one, times, has, holds, below, view, Calm, Fits, Views, Stands, Draws}
use Rattle.sd_turnstile.proofs.Sums.{all-set, total-set, total-zero}

-- no view with a ticket below next has the ticket next
off-ticket : (n t : ℕ) (x : Option ℕ) → ((k : ℕ) → 0 < holds k x → k < n) → n ≤ t → holds t x ≡ 0
off-ticket n t None h le = refl
off-ticket n t (Some k) h le = at (eqb k t) refl
  where
    at : (b : Bool) → eqb k t ≡ b → one (eqb k t) ≡ 0
    at true e = absurd (let l = h k (search rules) in let same : k ≡ t = grind (arith, e) in omega (arith, l, same, le))
    at false e = ap one e

pub next-word : (n : ℕ) → (n % 18446744073709551616 + 1) % 18446744073709551616 ≡ suc n % 18446744073709551616
next-word n = omega arith

pub holds-self : (t k : ℕ) → 0 < holds k (Some t) → k ≡ t
holds-self t k h = at (eqb t k) refl
  where
    at : (b : Bool) → eqb t k ≡ b → k ≡ t
    at true e = grind (arith, e)
    at false e = absurd (omega (arith, h, ap one e))

module _ {V E : Type 0} where
  abbrev pub drawn_view : View V E → ℕ → View V E
  drawn_view v t = view v.seen v.mine v.parts (Some t) false None

module _ {V E : Type 0} (history : V → List E) (stands : V → Type 0) (turns : V → ℕ → Turn → V → Type 0) where
  abbrev pub later : (first : V) (s n : ℕ) (log : List E) (u : View V E) → Fits history stands turns first s n log u
      → Fits history stands turns first s (suc n) log u
  later first s n log u f = record {
    part = f.part;
    drawn = λ t h. ((f.drawn t h).0, omega (arith, (f.drawn t h).1));
    begins = f.begins;
    serves = f.serves;
    outside = f.outside;
    knows = f.knows;
    idle = f.idle;
  }

  pub ticket-drawn : (key : ℕ) (first : V) (s n : ℕ) (log : List E) (out : ℕ) (views : List (View V E)) (id : ℕ) (v : View V E)
      → Calm v → 1 ≤ v.parts → get_elem? views id ≡ some v
      → Views history stands turns key first s n log out views
      → Views history stands turns key first s (suc n) log out (set views id (drawn_view v n))
  ticket-drawn key first s n log out views id v calm part at old =
      let w = drawn_view v n in
      let quiet : (t : ℕ) → holds t v.ticket ≡ 0 = λ t. ap (holds t) calm.0 in record {
        few = old.few;
        parts = omega (arith, total-set (λ (u : View V E). u.parts) views id v w at, old.parts);
        waiting = omega (arith, total-set (λ (u : View V E). has u.ticket) views id v w at, old.waiting, ap has calm.0);
        alone = λ t. one-each t (eqb n t) refl;
        places = λ p. omega (arith, total-set (λ (u : View V E). times p u.mine) views id v w at, old.places p);
        outs = omega (arith, total-set (λ (u : View V E). has u.out) views id v w at, old.outs, ap has calm.2);
        fit = all-set (Fits history stands turns first s (suc n) log) views id w
            (record {
              part = omega (arith, part);
              drawn = λ t h. let is = holds-self n t h in (omega (arith, is, old.waiting), omega (arith, is));
              begins = (old.fit id v at).begins;
              serves = omega arith;
              outside = omega arith;
              knows = λ x e. absurd (cc);
              idle = λ e. absurd (omega (arith, part, e));
            })
            (λ j u _ e. later first s n log u (old.fit j u e));
      }
    where
      one-each : (t : ℕ) (b : Bool) → eqb n t ≡ b → total (λ (u : View V E). holds t u.ticket) (set views id (drawn_view v n)) ≤ 1
      one-each t true e = omega (
        arith,
        total-set (λ (u : View V E). holds t u.ticket) views id v (drawn_view v n) at,
        ap one e,
        total-zero (λ (u : View V E). holds t u.ticket) views
            (λ j u d. off-ticket n t u.ticket (λ k h. ((old.fit j u d).drawn k h).1) (let same : n ≡ t = grind (arith, e) in
            omega (arith, same))),
      )
      one-each t false e = omega (
        arith,
        total-set (λ (u : View V E). holds t u.ticket) views id v (drawn_view v n) at,
        ap one e,
        old.alone t,
      )

  pub draws : (key : ℕ) (first : V) (slots id : ℕ) (me : Me (Option V) (View V E)) → Calm me.0 → 1 ≤ me.0.parts
      → Allows (Stands history stands turns key first) slots id me 0 (λ n. (n + 1) % 18446744073709551616) (Draws me)
  draws key first slots id me calm part s h _ at _ =
      let v = me.0 in
      let found : slice_index s.words 0 ≡ h.next % 18446744073709551616 = ap (λ ws. slice_index ws 0) h.words in (
        drawn_view v h.next,
        keeps,
        tt,
        record {
          served = h.served;
          next = suc h.next;
          log = h.log;
          out = h.out;
          words = subst (λ (ws : List ℕ). set ws 0 ((slice_index ws 0 + 1) % 18446744073709551616)
              ≡ suc h.next % 18446744073709551616 ∷ h.served % 18446744073709551616 ∷ length h.log ∷ []) (sym h.words)
              (ap (λ (x : ℕ). x ∷ h.served % 18446744073709551616 ∷ length h.log ∷ []) (next-word h.next));
          home = h.home;
          views = ticket-drawn key first h.served h.next h.log h.out s.views id v calm part at h.views;
        },
        (h.next, refl, sym found),
      )
