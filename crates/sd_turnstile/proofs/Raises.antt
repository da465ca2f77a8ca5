-- The step that gives the value back and raises the count keeps the rule.
use Rattle.std.proofs.Common.{◌≡◌, ℕ, suc, ◌+◌, ◌%◌, ◌<◌, ◌≤◌, ◌⊎◌, List, [], ◌∷◌, ◌++◌, append_assoc, length-append, length, set, sym, refl, ap, ◌∙◌, inl, ⊎_elim, arith, subst, Option, Some, None, Bool, true, false, cond, nat_lt, eqb, rules}
use mathlib.Core.Option.{some, none}
use mathlib.Core.Option as M
use Rattle.sd_turnstile.specs.declared.shift.Turn.{Turn}
use Rattle.sd_turnstile.specs.declared.shift.Turn.TheVariants as T
use Rattle.sd_turnstile.specs.Turns.{IsNext}
use mathlib.Core.List.{IsPrefix}
use mathlib.Core.Logic.{dite}
use native.Mathlib.Decide.{ℕ_discrete}
use lib.ListN.{get_elem?}
use Rattle.atomic_table.specs.Table.{Me, Allows, gives, put_back, rest}
use Rattle.sd_turnstile.specs.declared.rule.View.{View}
use Rattle.sd_turnstile.specs.Rule.{one, times, has, holds, below, view, added, Fits, Views, Stands, Raises, IsFrom}
use Rattle.sd_turnstile.proofs.Led.{led-on}
use Rattle.sd_turnstile.proofs.Sums.{all-set, total-set, term-le, terms-le}
use Rattle.sd_turnstile.proofs.Seats.{times-append}
use Rattle.sd_turnstile.proofs.Looks.{holds-own}
use Rattle.sd_turnstile.proofs.Draws.{holds-self}

pub prefix-trans : {A : Type 0} (xs ys zs : List A) → IsPrefix xs ys → IsPrefix ys zs → IsPrefix xs zs
prefix-trans xs ys zs p q = (p.0 ++ q.0, sym (append_assoc xs p.0 q.0) ∙ ap (λ l. l ++ q.0) p.1 ∙ q.1)

pub same-prefix : {A : Type 0} (xs ys : List A) → xs ≡ ys → IsPrefix xs ys
same-prefix xs ys e = subst (IsPrefix xs) e ([], search rules)

abbrev pub Grows : {E : Type 0} → List E → List E → Type 0
Grows xs ys = IsPrefix xs ys × (length xs ≤ length ys) × (length ys ≤ suc (length xs))

same-grows : {E : Type 0} (xs ys : List E) → ys ≡ xs → Grows xs ys
same-grows xs ys e = (([], search rules), omega (arith, ap length e), omega (arith, ap length e))

pub next-grows : {E : Type 0} (xs ys : List E) (r : Turn) → IsNext xs ys r → Grows xs ys
next-grows xs ys T.Did h = let n : length ys ≡ length xs + 1 = ap length h.1 ∙ length-append xs (h.0 ∷ []) in
    ((h.0 ∷ [], sym h.1), omega (arith, n), omega (arith, n))
next-grows xs ys (T.NotReady w) h = same-grows xs ys h
next-grows xs ys T.Ended h = same-grows xs ys h
next-grows xs ys T.Short h = same-grows xs ys h

added-once : (p m n : ℕ) → m ≤ n → n ≤ suc m → times p (added m n) + below p m ≡ below p n
added-once p m n le near = at (nat_lt m n) refl
  where
    one-more : (b d : Bool) → eqb m p ≡ b → nat_lt p m ≡ d → one (eqb m p) + 0 + one (nat_lt p m) ≡ one (nat_lt p (suc m))
    one-more true true e f = absurd (let same : m ≡ p = grind (arith, e) in let lt : p < m = grind (arith, f) in
        omega (arith, same, lt))
    one-more true false e f = let same : m ≡ p = grind (arith, e) in let lt : p < suc m = omega (arith, same) in
        let up : nat_lt p (suc m) ≡ true = grind (arith, lt) in omega (arith, ap one e, ap one f, ap one up)
    one-more false true e f = let lt : p < suc m = grind (arith, f) in let up : nat_lt p (suc m) ≡ true = grind (arith, lt) in
        omega (arith, ap one e, ap one f, ap one up)
    one-more false false e f = not-up (nat_lt p (suc m)) refl
      where
        not-up : (u : Bool) → nat_lt p (suc m) ≡ u → one (eqb m p) + 0 + one (nat_lt p m) ≡ one (nat_lt p (suc m))
        not-up false u = omega (arith, ap one e, ap one f, ap one u)
        not-up true u = absurd (dite (ℕ_discrete m p) (λ same. let yes : eqb m p ≡ true = grind (arith, same) in
            cc (yes, e)) (λ apart. let lt : p < suc m = grind (arith, u) in let less : p < m = grind (arith, lt, apart) in
            let yes : nat_lt p m ≡ true = grind (arith, less) in cc (yes, f)))

    at : (b : Bool) → nat_lt m n ≡ b → times p (cond b (m ∷ []) []) + below p m ≡ below p n
    at false e = let same : m ≡ n = grind (arith, e, le) in omega (arith, ap (λ k. below p k) same)
    at true e = let up : n ≡ suc m = grind (arith, e, near) in
        subst (λ k. times p (m ∷ []) + below p m ≡ below p k) (sym up) (one-more (eqb m p) (nat_lt p m) refl refl)

module _ {V E : Type 0} where
  abbrev pub raised_view : View V E → List E → ℕ → View V E
  raised_view v log t = view log (v.mine ++ added (length v.seen) (length log)) v.parts (Some t) true None

module _ {V E : Type 0} (history : V → List E) (stands : V → Type 0) (turns : V → ℕ → Turn → V → Type 0) where
  pub raised : (key : ℕ) (first : V) (s n : ℕ) (log now : List E) (views : List (View V E)) (id : ℕ) (v : View V E) (x : V)
      → v.ticket ≡ Some s → v.out ≡ Some x → v.seen ≡ log → get_elem? views id ≡ some v
      → IsPrefix log now → length log ≤ length now → length now ≤ suc (length log)
      → Views history stands turns key first s n log 1 views
      → Views history stands turns key first s n now 0 (set views id (raised_view v now s))
  raised key first s n log now views id v x mine outside all at pre le near old =
      let w = raised_view v now s in record {
        few = old.few;
        parts = omega (arith, total-set (λ (u : View V E). u.parts) views id v w at, old.parts);
        waiting = omega (arith, total-set (λ (u : View V E). has u.ticket) views id v w at, old.waiting, ap has mine);
        alone = λ t. omega (
          arith,
          total-set (λ (u : View V E). holds t u.ticket) views id v w at,
          old.alone t,
          ap (holds t) mine,
        );
        places = λ p. omega (
          arith,
          total-set (λ (u : View V E). times p u.mine) views id v w at,
          old.places p,
          times-append p v.mine (added (length v.seen) (length now)),
          subst (λ l. times p (added (length l) (length now)) + below p (length log) ≡ below p (length now)) (sym all)
              (added-once p (length log) (length now) le near),
        );
        outs = omega (arith, total-set (λ (u : View V E). has u.out) views id v w at, old.outs, ap has outside);
        fit = all-set (Fits history stands turns first s n now) views id w
            (record {
              part = omega (arith, (old.fit id v at).part, ap has mine);
              drawn = λ t h. (old.fit id v at).drawn t (subst (λ x. 0 < holds t x) (sym mine) h);
              begins = ([], search rules);
              serves = omega (arith, holds-own s (Some s) refl);
              outside = omega arith;
              knows = λ y e. absurd (cc);
              idle = λ e. absurd (omega (arith, (old.fit id v at).part, ap has mine, e));
            })
            (λ j u other e.
            let f = old.fit j u e in record {
              part = f.part;
              drawn = f.drawn;
              begins = prefix-trans u.seen log now f.begins pre;
              serves = f.serves;
              outside = f.outside;
              knows = λ y o. absurd (omega (
                arith,
                terms-le (λ (x : View V E). has x.out) views id j v u other at e,
                old.outs,
                ap has outside,
                ap has o,
              ));
              idle = f.idle;
            });
      }

  pub raises : (key : ℕ) (first : V) (slots id : ℕ) (me : Me (Option V) (View V E)) (t i : ℕ) (r : Turn) (x y : V)
      → me.1 ≡ (0, Some y) ∷ [] → me.0.ticket ≡ Some t → me.0.serving ≡ true → me.0.out ≡ Some x → turns x i r y → stands y
      → IsPrefix me.0.seen (history y) → length me.0.seen ≤ length (history y) → length (history y) ≤ suc (length me.0.seen)
      → Allows (Stands history stands turns key first) slots id me 2 (λ _. length (history y)) (λ _. Raises history me)
  raises key first slots id me t i r x y held mine serving outside made good pre le near s h _ at _ =
      let f = h.views.fit id me.0 at in
      let knows = f.knows x outside in
      let all : me.0.seen ≡ h.log = knows.0 in
      let is : t ≡ h.served = same-ticket me.0.ticket t h.served mine (omega (arith, f.serves, ap one serving)) in
      let mine' : me.0.ticket ≡ Some h.served = mine ∙ ap Some is in
      let one_out : 1 ≤ h.out = omega (
        arith,
        h.views.outs,
        term-le (λ (u : View V E). has u.out) s.views id me.0 at,
        ap has outside,
      ) in
      ⊎_elim
      (λ (z : (v : V) × (s.homes ≡ some (Some v) ∷ []) × (history v ≡ h.log) × (h.out ≡ 0)
      × IsFrom history stands turns first v). absurd (omega (arith, z.3, one_out)))
      (λ (z : (s.homes ≡ none ∷ []) × (h.out ≡ 1)). (
        raised_view me.0 (history y) h.served,
        gives,
        tt,
        record {
          served = h.served;
          next = h.next;
          log = history y;
          out = 0;
          words = subst (λ (ws : List ℕ). set ws 2 (length (history y))
              ≡ h.next % 18446744073709551616 ∷ h.served % 18446744073709551616 ∷ length (history y) ∷ []) (sym h.words) refl;
          home = inl (
            y,
            subst (λ (c : List (ℕ × Option V)). put_back s.homes c ≡ some (Some y) ∷ []) (sym held)
                (ap (λ (hs : List (M.Option (Option V))). set hs 0 (some (Some y))) z.0),
            refl,
            refl,
            record { led = led-on turns first x y i r knows.1.led made; stood = good },
          );
          views = raised key first h.served h.next h.log (history y) s.views id me.0 x mine' outside all at
              (subst (λ l. IsPrefix l (history y)) all pre)
              (subst (λ l. length l ≤ length (history y)) all le) (subst (λ l. length (history y) ≤ suc (length l)) all near)
              (subst (λ (o : ℕ). Views history stands turns key first h.served h.next h.log o s.views) z.1 h.views);
        },
        (y, h.served, held, mine', ap (λ (c : List (ℕ × Option V)). (raised_view me.0 (history y) h.served, rest c)) held),
      ))
      h.home
    where
      same-ticket : (x : Option ℕ) (t k : ℕ) → x ≡ Some t → 1 ≤ holds k x → t ≡ k
      same-ticket x t k e h = sym (holds-self t k (omega (arith, h, ap (holds k) e)))

  pub raises-to : (key : ℕ) (first : V) (slots id : ℕ) (me : Me (Option V) (View V E)) (t i : ℕ) (r : Turn) (x y : V) (n : ℕ)
      → me.1 ≡ (0, Some y) ∷ [] → me.0 ≡ view (history x) me.0.mine me.0.parts (Some t) true (Some x) → turns x i r y → stands y
      → n ≡ length (history y)
      → Grows (history x) (history y) → Allows (Stands history stands turns key first) slots id me 2 (λ _. n)
      (λ _. Raises history me)
  raises-to key first slots id me t i r x y n held is made good count grows =
      let seen : me.0.seen ≡ history x = ap (λ (v : View V E). v.seen) is in
      let g : Grows me.0.seen (history y) = subst (λ l. Grows l (history y)) (sym seen) grows in
      subst (λ k. Allows (Stands history stands turns key first) slots id me 2 (λ _. k) (λ _. Raises history me)) (sym count)
      (raises key first slots id me t i r x y held (ap (λ (v : View V E). v.ticket) is)
      (ap (λ (v : View V E). v.serving) is) (ap (λ (v : View V E). v.out) is) made good g.0 g.1 g.2)
