-- The look that finds the ticket served takes the value out.
use Rattle.std.proofs.Common.{◌≡◌, ℕ, ◌-◌, ◌%◌, ◌<◌, ◌⊎◌, inr, List, [], ◌∷◌, length, set, sym, refl, ap, ◌∙◌, ⊎_elim, arith, subst, Option, Some, None, true, slice_index, rules}
use mathlib.Core.Option.{some, none}
use mathlib.Core.Option as M
use mathlib.Core.Logic.{dite}
use native.Mathlib.Decide.{ℕ_discrete}
use mathlib.Core.List.{IsPrefix}
use lib.ListN.{get_elem?}
use Rattle.atomic_table.specs.Table.{Me, Allows, keeps, takes}
use Rattle.atomic_table.proofs.Lists.{one_turn, set_again}
use Rattle.sd_turnstile.specs.declared.rule.View.{View}
use Rattle.sd_turnstile.specs.declared.shift.Turn.{Turn}
use Rattle.sd_turnstile.specs.Rule.{one, times, has, holds, view, Fits, Views, Stands, Serves, IsFrom}
use Rattle.sd_turnstile.proofs.Sums.{all-set, total-set, total-le, total-le-but}

pub holds-own : (t : ℕ) (x : Option ℕ) → x ≡ Some t → holds t x ≡ 1
holds-own t x e = ap (holds t) e ∙ search rules

module _ {V E : Type 0} where
  abbrev pub out_view : View V E → List E → ℕ → V → View V E
  out_view v log t x = view log v.mine v.parts (Some t) true (Some x)

one-value : {V : Type 0} (a b : V) → Some a ≡ Some b → b ≡ a
one-value a b e = cc (e)

module _ {V E : Type 0} (history : V → List E) (stands : V → Type 0) (turns : V → ℕ → Turn → V → Type 0) where
  -- nobody else is out where one seat has the served ticket
  pub nobody-out : (key : ℕ) (first : V) (s n : ℕ) (log : List E) (out : ℕ) (views : List (View V E)) (id : ℕ) (v : View V E)
      → v.ticket ≡ Some s → v.out ≡ None → get_elem? views id ≡ some v → Views history stands turns key first s n log out views
      → out ≡ 0
  nobody-out key first s n log out views id v mine inside at old =
      omega (
        arith,
        old.outs,
        old.alone s,
        holds-own s v.ticket mine,
        ap has inside,
        total-le-but (λ (u : View V E). has u.out) (λ (u : View V E). holds s u.ticket) views id v at
            (λ j u e. let f = old.fit j u e in omega (arith, f.serves, f.outside)),
      )

  -- the served ticket, from the word
  pub is-served : (key : ℕ) (first : V) (s n : ℕ) (log : List E) (out : ℕ) (views : List (View V E)) (id : ℕ) (v : View V E)
      (t : ℕ) → v.ticket ≡ Some t → get_elem? views id ≡ some v → Views history stands turns key first s n log out views
      → s % 18446744073709551616 ≡ t % 18446744073709551616 → s ≡ t
  is-served key first s n log out views id v t mine at old e =
      let d = (old.fit id v at).drawn t (omega (arith, holds-own t v.ticket mine)) in
      let few = total-le (λ (u : View V E). has u.ticket) (λ (u : View V E). u.parts) views (λ j u e. (old.fit j u e).part) in
      one_turn s t 18446744073709551616 d.0 (omega (arith, d.1, old.waiting, few, old.parts, old.few)) e

  pub taken : (key : ℕ) (first : V) (s n : ℕ) (x : V) (views : List (View V E)) (id : ℕ) (v : View V E) → v.ticket ≡ Some s
      → v.out ≡ None → get_elem? views id ≡ some v → IsFrom history stands turns first x
      → Views history stands turns key first s n (history x) 0 views
      → Views history stands turns key first s n (history x) 1 (set views id (out_view v (history x) s x))
  taken key first s n x views id v mine inside at from old =
      let w = out_view v (history x) s x in record {
        few = old.few;
        parts = omega (arith, total-set (λ (u : View V E). u.parts) views id v w at, old.parts);
        waiting = omega (arith, total-set (λ (u : View V E). has u.ticket) views id v w at, old.waiting, ap has mine);
        alone = λ t. omega (
          arith,
          total-set (λ (u : View V E). holds t u.ticket) views id v w at,
          old.alone t,
          ap (holds t) mine,
        );
        places = λ p. omega (arith, total-set (λ (u : View V E). times p u.mine) views id v w at, old.places p);
        outs = omega (arith, total-set (λ (u : View V E). has u.out) views id v w at, old.outs, ap has inside);
        fit = all-set (Fits history stands turns first s n (history x)) views id w
            (record {
              part = omega (arith, (old.fit id v at).part, ap has mine);
              drawn = λ t h. (old.fit id v at).drawn t (subst (λ x. 0 < holds t x) (sym mine) h);
              begins = ([], search rules);
              serves = omega (arith, holds-own s (Some s) refl);
              outside = omega arith;
              knows = λ y e. (refl, subst (IsFrom history stands turns first) (sym (one-value x y e)) from);
              idle = (old.fit id v at).idle;
            })
            (λ j u _ e. old.fit j u e);
      }

  pub looks : (key : ℕ) (first : V) (slots id : ℕ) (me : Me (Option V) (View V E)) (t : ℕ) → me.0.ticket ≡ Some t
      → me.0.out ≡ None → Allows (Stands history stands turns key first) slots id me 1 (λ n. n) (Serves history stands me)
  looks key first slots id me t mine inside s h _ at _ =
      let found : slice_index s.words 1 ≡ h.served % 18446744073709551616 = ap (λ ws. slice_index ws 1) h.words in
      let same : set s.words 1 (slice_index s.words 1)
      ≡ h.next % 18446744073709551616 ∷ h.served % 18446744073709551616 ∷ length h.log ∷ []
      = subst (λ (ws : List ℕ). set ws 1 (slice_index ws 1)
      ≡ h.next % 18446744073709551616 ∷ h.served % 18446744073709551616 ∷ length h.log ∷ []) (sym h.words) refl in
      dite (ℕ_discrete (slice_index s.words 1) (t % 18446744073709551616))
      (λ e.
      let is : h.served ≡ t = is-served key first h.served h.next h.log h.out s.views id me.0 t mine at h.views
      (sym found ∙ e) in
      let mine' : me.0.ticket ≡ Some h.served = mine ∙ ap Some (sym is) in
      let nobody : h.out ≡ 0 = nobody-out key first h.served h.next h.log h.out s.views id me.0 mine' inside at h.views in
      ⊎_elim
      (λ (x : (v : V) × (s.homes ≡ some (Some v) ∷ []) × (history v ≡ h.log) × (h.out ≡ 0)
      × IsFrom history stands turns first v). (
        out_view me.0 (history x.0) h.served x.0,
        takes 0 (Some x.0),
        ap (λ (hs : List (M.Option (Option V))). get_elem? hs 0) x.1,
        record {
          served = h.served;
          next = h.next;
          log = history x.0;
          out = 1;
          words = same
              ∙ ap (λ (l : List E). h.next % 18446744073709551616 ∷ h.served % 18446744073709551616 ∷ length l ∷ []) (sym x.2);
          home = inr (ap (λ (hs : List (M.Option (Option V))). set hs 0 none) x.1, refl);
          views = taken key first h.served h.next x.0 s.views id me.0 mine' inside at x.4
              (subst (λ (l : List E). Views history stands turns key first h.served h.next l 0 s.views) (sym x.2)
              (subst (λ (o : ℕ). Views history stands turns key first h.served h.next h.log o s.views) nobody h.views));
        },
        (
          h.served,
          mine',
          (λ _. (
            x.0,
            refl,
            subst (λ (l : List E). IsPrefix me.0.seen l) (sym x.2) (h.views.fit id me.0 at).begins,
            x.4.stood,
          )),
          λ ne. absurd (ne found),
        ),
      ))
      (λ (x : (s.homes ≡ none ∷ []) × (h.out ≡ 1)). absurd (omega (arith, x.1, nobody)))
      h.home)
      (λ ne. (
        me.0,
        keeps,
        tt,
        record {
          served = h.served;
          next = h.next;
          log = h.log;
          out = h.out;
          words = same;
          home = h.home;
          views = subst (λ vs. Views history stands turns key first h.served h.next h.log h.out vs)
              (sym (set_again s.views id me.0 at)) h.views;
        },
        (t, mine, (λ e. absurd (ne e)), (λ _. refl)),
      ))

abbrev first_held : {V : Type 0} → List (ℕ × Option V) → Option V
first_held [] = None
first_held (x ∷ xs) = x.1

pub same-value : {V : Type 0} (a b : V) → Some a ≡ Some b → a ≡ b
same-value a b e = cc (e)

-- a slot that a seat holds has one value
pub same-slot : {V : Type 0} (c ks : List (ℕ × Option V)) (r : Option V) (a b : V) → c ≡ (0, r) ∷ ks → c ≡ (0, Some b) ∷ []
    → r ≡ Some a → a ≡ b
same-slot c ks r a b p q e = same-value a b (sym e ∙ ap first_held (sym p ∙ q))

-- so does one that it holds alone
pub one-held : {V : Type 0} (c : List (ℕ × Option V)) (a b : V) → c ≡ (0, Some a) ∷ [] → c ≡ (0, Some b) ∷ [] → a ≡ b
one-held c a b p q = same-value a b (ap first_held (sym p ∙ q))
