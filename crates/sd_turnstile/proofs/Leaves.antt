-- The step that serves the next ticket keeps the rule.
use Rattle.std.proofs.Common.{◌≡◌, ℕ, suc, ◌+◌, ◌%◌, ◌<◌, ◌≤◌, List, [], ◌∷◌, length, set, sym, refl, ap, ◌∙◌, arith, subst, Option, Some, None, true, false, slice_index}
use mathlib.Core.Option.{some}
use mathlib.Core.Logic.{dite}
use native.Mathlib.Decide.{ℕ_discrete}
use lib.ListN.{get_elem?}
use Rattle.atomic_table.specs.Table.{Me, Allows, keeps}
use Rattle.sd_turnstile.specs.declared.rule.View.{View}
use Rattle.sd_turnstile.specs.declared.shift.Turn.{Turn}
use Rattle.sd_turnstile.specs.Rule.{one, times, has, holds, view, Fits, Views, Stands, Leaves}
use Rattle.sd_turnstile.proofs.Sums.{all-set, total-set, terms-le}
use Rattle.sd_turnstile.proofs.Draws.{next-word, holds-self}
use Rattle.sd_turnstile.proofs.Looks.{holds-own}

module _ {V E : Type 0} where
  abbrev pub left_view : View V E → View V E
  left_view v = view v.seen v.mine v.parts None false None

module _ {V E : Type 0} (history : V → List E) (stands : V → Type 0) (turns : V → ℕ → Turn → V → Type 0) where
  pub served-next : (key : ℕ) (first : V) (s n : ℕ) (log : List E) (out : ℕ) (views : List (View V E)) (id : ℕ) (v : View V E)
      → v.ticket ≡ Some s → v.out ≡ None → get_elem? views id ≡ some v
      → Views history stands turns key first s n log out views
      → Views history stands turns key first (suc s) n log out (set views id (left_view v))
  served-next key first s n log out views id v mine inside at old =
      let w = left_view v in record {
        few = old.few;
        parts = omega (arith, total-set (λ (u : View V E). u.parts) views id v w at, old.parts);
        waiting = omega (arith, total-set (λ (u : View V E). has u.ticket) views id v w at, old.waiting, ap has mine);
        alone = λ t. omega (arith, total-set (λ (u : View V E). holds t u.ticket) views id v w at, old.alone t);
        places = λ p. omega (arith, total-set (λ (u : View V E). times p u.mine) views id v w at, old.places p);
        outs = omega (arith, total-set (λ (u : View V E). has u.out) views id v w at, old.outs, ap has inside);
        fit = all-set (Fits history stands turns first (suc s) n log) views id w
            (record {
              part = omega arith;
              drawn = λ t h. absurd (omega (arith, h));
              begins = (old.fit id v at).begins;
              serves = omega arith;
              outside = omega arith;
              knows = λ x e. absurd (cc);
              idle = (old.fit id v at).idle;
            })
            (λ j u other e.
            let f = old.fit j u e in
            let off : holds s u.ticket ≡ 0 = omega (
              arith,
              terms-le (λ (x : View V E). holds s x.ticket) views id j v u other at e,
              old.alone s,
              holds-own s v.ticket mine,
            ) in
            record {
              part = f.part;
              drawn = λ t h. let d = f.drawn t h in (above t d.0 u.ticket h off, d.1);
              begins = f.begins;
              serves = omega (arith, f.serves, off);
              outside = f.outside;
              knows = f.knows;
              idle = f.idle;
            });
      }
    where
      above : (t : ℕ) → s ≤ t → (x : Option ℕ) → 0 < holds t x → holds s x ≡ 0 → suc s ≤ t
      above t le x h off = dite (ℕ_discrete s t) (λ same. absurd (omega (arith, h, off, ap (λ k. holds k x) same)))
          (λ apart. grind (arith, le, apart))

  pub leaves : (key : ℕ) (first : V) (slots id : ℕ) (me : Me (Option V) (View V E)) (t : ℕ) → me.0.ticket ≡ Some t
      → me.0.serving ≡ true → me.0.out ≡ None → Allows (Stands history stands turns key first) slots id me 1
      (λ n. (n + 1) % 18446744073709551616) (λ _. Leaves me)
  leaves key first slots id me t mine serving inside s h _ at _ =
      let is : t ≡ h.served = same-ticket me.0.ticket t h.served mine
      (omega (arith, (h.views.fit id me.0 at).serves, ap one serving)) in (
        left_view me.0,
        keeps,
        tt,
        record {
          served = suc h.served;
          next = h.next;
          log = h.log;
          out = h.out;
          words = subst (λ (ws : List ℕ). set ws 1 ((slice_index ws 1 + 1) % 18446744073709551616)
              ≡ h.next % 18446744073709551616 ∷ suc h.served % 18446744073709551616 ∷ length h.log ∷ []) (sym h.words)
              (ap (λ (x : ℕ). h.next % 18446744073709551616 ∷ x ∷ length h.log ∷ []) (next-word h.served));
          home = h.home;
          views = served-next key first h.served h.next h.log h.out s.views id me.0 (mine ∙ ap Some is) inside at h.views;
        },
        refl,
      )
    where
      same-ticket : (x : Option ℕ) (t k : ℕ) → x ≡ Some t → 1 ≤ holds k x → t ≡ k
      same-ticket x t k e h = sym (holds-self t k (omega (arith, h, ap (holds k) e)))
