-- Where a seat has every part, no other is out, and the value is home.
use Rattle.std.proofs.Common.{◌≡◌, ℕ, ◌+◌, ◌≤◌, ◌⊎◌, ⊎_elim, List, [], ◌∷◌, length, sym, ap, ◌∙◌, arith, subst, Option, Some, None, Bool, true, false, eqb}
use mathlib.Core.Option.{some, none}
use mathlib.Core.List.{IsPrefix}
use lib.ListN.{get_elem?}
use Rattle.atomic_table.specs.Table.{Final, Seen}
use Rattle.sd_turnstile.specs.declared.rule.View.{View}
use Rattle.sd_turnstile.specs.declared.shift.Turn.{Turn}
use Rattle.sd_turnstile.specs.Rule.{total, one, times, has, holds, below, Calm, Stands, IsFrom}
use Rattle.sd_turnstile.proofs.Sums.{total-le-but, total-only}

one-le : (b : Bool) → one b ≤ 1
one-le true = omega arith
one-le false = omega arith

holds-le : (t : ℕ) (x : Option ℕ) → holds t x ≤ has x
holds-le t None = omega arith
holds-le t (Some k) = one-le (eqb k t)

module _ {V E : Type 0} (history : V → List E) (stands : V → Type 0) (turns : V → ℕ → Turn → V → Type 0) where
  pub record Ends (first : V) (v : View V E) (xs : List (Option V)) : Type 0 where
    pub value : V
    pub at : get_elem? xs 0 ≡ some (Some value)
    pub from : IsFrom history stands turns first value
    pub begins : IsPrefix v.seen (history value)
    pub mine : (p : ℕ) → times p v.mine + below p (length (history first)) ≡ below p (length (history value))

  pub ends : (key : ℕ) (first : V) (id : ℕ) (v : View V E) (ws : List ℕ) (xs : List (Option V)) → Calm v → v.parts ≡ key
      → Final (Seen (Stands history stands turns key first) id v) ws xs → Ends first v xs
  ends key first id v ws xs calm all f =
      let h = f.1.0 in
      let at = f.1.1 in
      let o = h.views in
      let only : (p : ℕ) → total (λ (u : View V E). times p u.mine) f.0.views ≡ times p v.mine =
      λ p. total-only (λ (u : View V E). times p u.mine) (λ (u : View V E). u.parts) f.0.views id v at
      (o.parts ∙ sym all) (λ u j e none. ap (times p) ((o.fit j u e).idle none)) in
      ⊎_elim
      (λ (y : (x : V) × (f.0.homes ≡ some (Some x) ∷ []) × (history x ≡ h.log) × (h.out ≡ 0)
      × IsFrom history stands turns first x). record {
        value = y.0;
        at = f.4 0 (Some y.0) (ap (λ hs. get_elem? hs 0) y.1);
        from = y.4;
        begins = subst (λ (l : List E). IsPrefix v.seen l) (sym y.2) (o.fit id v at).begins;
        mine = λ p. subst (λ (l : List E). times p v.mine + below p (length (history first)) ≡ below p (length l)) (sym y.2)
            (omega (arith, o.places p, only p));
      })
      (λ (y : (f.0.homes ≡ none ∷ []) × (h.out ≡ 1)). absurd (omega (
        arith,
        y.1,
        o.outs,
        o.parts,
        all,
        ap has calm.2,
        total-le-but (λ (u : View V E). has u.out) (λ (u : View V E). u.parts) f.0.views id v at
            (λ j u e. let g = o.fit j u e in omega (arith, g.outside, g.serves, holds-le h.served u.ticket, g.part)),
      )))
      h.home
