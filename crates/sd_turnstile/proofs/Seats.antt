-- The steps that leave the value where it is keep the rule.
use Rattle.std.proofs.Common.{◌≡◌, ℕ, zero, suc, ◌+◌, ◌-◌, ◌<◌, ◌≤◌, ◌≢◌, ◌⊎◌, inl, List, [], ◌∷◌, ◌++◌, length, set, sym, refl, ap, ◌∙◌, ⊎_elim, arith, subst, Some, None, false, nat_lt}
use mathlib.Core.Option.{some, some-injective, some-ne-none}
use mathlib.Core.List.{IsPrefix}
use lib.ListN.{get_elem?}
use Rattle.std.proofs.lemmas.Bool.{cond_both}
use Rattle.atomic_table.proofs.Lists.{at_set}
use Rattle.atomic_table.specs.Table.{Splits, Joins, opening}
use Rattle.sd_turnstile.specs.declared.rule.View.{View}
use Rattle.sd_turnstile.specs.declared.shift.Turn.{Turn}
use Rattle.sd_turnstile.specs.Rule.{total, one, times, has, holds, view, left_of, right_of, both_of, spent_view, longer, Calm, Fits, Views, Stands}
use Rattle.sd_turnstile.proofs.Led.{led-none}
use Rattle.sd_turnstile.proofs.Sums.{all-set, all-snoc, total-split, total-join}

pub times-append : (p : ℕ) (xs ys : List ℕ) → times p (xs ++ ys) ≡ times p xs + times p ys
times-append p [] ys = omega arith
times-append p (x ∷ xs) ys = omega (arith, times-append p xs ys)

module _ {V E : Type 0} (history : V → List E) (stands : V → Type 0) (turns : V → ℕ → Turn → V → Type 0) where
  -- a view without a ticket that has seen a beginning of the history
  pub calm-fits : (first : V) (s n : ℕ) (log : List E) (w : View V E) → Calm w → IsPrefix w.seen log
      → (w.parts ≡ 0 → w.mine ≡ []) → Fits history stands turns first s n log w
  calm-fits first s n log w calm pre idle = record {
    part = omega (arith, ap has calm.0);
    drawn = λ t h. absurd (omega (arith, h, ap (holds t) calm.0));
    begins = pre;
    serves = omega (arith, ap one calm.1);
    outside = omega (arith, ap has calm.2);
    knows = λ x e. absurd (let c = calm.2 in cc);
    idle = idle;
  }

  pub parts-split : (key : ℕ) (first : V) (s n : ℕ) (log : List E) (out : ℕ) (views : List (View V E)) (id : ℕ) (v : View V E)
      → Calm v → 2 ≤ v.parts → get_elem? views id ≡ some v
      → Views history stands turns key first s n log out views
      → Views history stands turns key first s n log out (set views id (left_of v) ++ right_of v ∷ [])
  parts-split key first s n log out views id v calm two at old = record {
    few = old.few;
    parts = omega (arith, total-split (λ (u : View V E). u.parts) views id v (left_of v) (right_of v) at, old.parts, two);
    waiting = omega (arith, total-split (λ (u : View V E). has u.ticket) views id v (left_of v) (right_of v) at, old.waiting);
    alone = λ t. omega (
      arith,
      total-split (λ (u : View V E). holds t u.ticket) views id v (left_of v) (right_of v) at,
      old.alone t,
    );
    places = λ p. omega (
      arith,
      total-split (λ (u : View V E). times p u.mine) views id v (left_of v) (right_of v) at,
      old.places p,
    );
    outs = omega (arith, total-split (λ (u : View V E). has u.out) views id v (left_of v) (right_of v) at, old.outs);
    fit = all-snoc (Fits history stands turns first s n log) (set views id (left_of v)) (right_of v)
        (calm-fits first s n log (right_of v) (refl, refl, refl) (old.fit id v at).begins (λ e. refl))
        (all-set (Fits history stands turns first s n log) views id (left_of v)
        (calm-fits first s n log (left_of v) calm (old.fit id v at).begins (λ e. absurd (omega (arith, two, e))))
        (λ j u _ e. old.fit j u e));
  }

  pub begins-longer : (xs ys log : List E) → IsPrefix xs log → IsPrefix ys log → IsPrefix (longer xs ys) log
  begins-longer xs ys log p q = cond_both (nat_lt (length xs) (length ys)) ys xs (λ zs. IsPrefix zs log) (λ _. q) (λ _. p)

  both-idle : (v w : View V E) → (v.parts ≡ 0 → v.mine ≡ []) → (w.parts ≡ 0 → w.mine ≡ []) → v.parts + w.parts ≡ 0
      → v.mine ++ w.mine ≡ []
  both-idle v w p q e = ap (λ (xs : List ℕ). xs ++ w.mine) (p (omega (arith, e))) ∙ q (omega (arith, e))

  pub parts-joined : (key : ℕ) (first : V) (s n : ℕ) (log : List E) (out : ℕ) (views : List (View V E)) (id other : ℕ)
      (v w : View V E) → Calm v → Calm w → get_elem? views id ≡ some v
      → ¬ (other ≡ id) → get_elem? (set views id (both_of v w)) other ≡ some w
      → Views history stands turns key first s n log out views
      → Views history stands turns key first s n log out (set (set views id (both_of v w)) other spent_view)
  parts-joined key first s n log out views id other v w calm calm' at apart there old =
      let b = both_of v w in
      let joined : (g : View V E → ℕ) → total g (set (set views id b) other spent_view) + g v + g w
      ≡ total g views + g b + g spent_view = λ g. total-join g views id other v w b spent_view at there in
      let was : get_elem? views other ≡ some w = ⊎_elim (λ (x : (other ≡ id) × (b ≡ w)). absurd (apart x.0))
      (λ (x : (other ≢ id) × (get_elem? views other ≡ some w)). x.1) (at_set views id other b w there) in record {
        few = old.few;
        parts = omega (arith, joined (λ (u : View V E). u.parts), old.parts);
        waiting = omega (arith, joined (λ (u : View V E). has u.ticket), old.waiting, ap has calm.0, ap has calm'.0);
        alone = λ t. omega (arith, joined (λ (u : View V E). holds t u.ticket), old.alone t);
        places = λ p. omega (arith, joined (λ (u : View V E). times p u.mine), old.places p, times-append p v.mine w.mine);
        outs = omega (arith, joined (λ (u : View V E). has u.out), old.outs, ap has calm.2, ap has calm'.2);
        fit = all-set (Fits history stands turns first s n log) (set views id b) other spent_view
            (calm-fits first s n log spent_view (refl, refl, refl) (log, refl) (λ e. refl))
            (λ j u _ e. all-set (Fits history stands turns first s n log) views id b
            (calm-fits first s n log b (refl, refl, refl)
            (begins-longer v.seen w.seen log (old.fit id v at).begins (old.fit other w was).begins)
            (both-idle v w (old.fit id v at).idle (old.fit other w was).idle)) (λ k x _ d. old.fit k x d) j u e);
      }

  pub parts-opened : (key : ℕ) (first : V) → key < 4294967296
      → Views history stands turns key first 0 0 (history first) 0 (view [] [] key None false None ∷ [])
  parts-opened key first few = record {
    few = few;
    parts = omega arith;
    waiting = refl;
    alone = λ t. omega arith;
    places = λ p. omega arith;
    outs = refl;
    fit = only;
  }
    where
      only : (id : ℕ) (v : View V E) → get_elem? (view [] [] key None false None ∷ []) id ≡ some v
          → Fits history stands turns first 0 0 (history first) v
      only zero v e = subst (Fits history stands turns first 0 0 (history first)) (some-injective _ _ e)
          (calm-fits first 0 0 (history first) (view [] [] key None false None) (refl, refl, refl) (history first, refl)
          (λ e. refl))
      only (suc id) v e = absurd (some-ne-none v (sym e))

  pub splits : (key : ℕ) (first : V) (id : ℕ) (v : View V E) → Calm v → 2 ≤ v.parts
      → Splits (Stands history stands turns key first) id v (left_of v) (right_of v)
  splits key first id v calm two s h at = record {
    served = h.served;
    next = h.next;
    log = h.log;
    out = h.out;
    words = h.words;
    home = h.home;
    views = parts-split key first h.served h.next h.log h.out s.views id v calm two at h.views;
  }

  pub joins : (key : ℕ) (first : V) (id other : ℕ) (v w : View V E) → Calm v → Calm w
      → Joins (Stands history stands turns key first) id v other w (both_of v w) spent_view
  joins key first id other v w calm calm' s h at apart there =
      record {
        served = h.served;
        next = h.next;
        log = h.log;
        out = h.out;
        words = h.words;
        home = h.home;
        views = parts-joined key first h.served h.next h.log h.out s.views id other v w calm calm' at apart there h.views;
      }

  pub opens : (key : ℕ) (v : V) → key < 4294967296 → stands v
      → Stands history stands turns key v (opening (0 ∷ 0 ∷ length (history v) ∷ []) (Some v ∷ [])
      (view [] [] key None false None))
  opens key v few good = record {
    served = 0;
    next = 0;
    log = history v;
    out = 0;
    words = refl;
    home = inl (v, refl, refl, refl, record { led = led-none turns v; stood = good });
    views = parts-opened key v few;
  }
