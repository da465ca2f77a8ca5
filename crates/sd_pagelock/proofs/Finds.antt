-- The first of the asked pages that passes a test is the lowest one. It serves asks.rt.
use Rattle.std.proofs.Common.{◌≡◌, ℕ, ◌<◌, Bool, true, false, cond, List, [], ◌∷◌, Option, None, Some, refl, sym, ap, ◌∙◌, subst}
use Rattle.std.specs.Prelude.{find, IsSomeAnd, MatchOption, IfSome, IfNone, unwrap_or}
use Rattle.std.specs.Option.{option_map}
use Rattle.std.specs.Ordering.{nat_cmp, is_eq}
use Rattle.std.specs.declared.cmp.Ordering.TheVariants as orderings
use Rattle.std.specs.Cmp.{nat_cmp_is}
use Rattle.std.specs.List.Sorted.{IsStrictlySortedBy}
use Rattle.std.specs.Map.{lookup, keys_of}
use Rattle.std.specs.BTreeMap.{is_at}
use Rattle.std.proofs.lemmas.Cmp.{eq_by_cmp_equiv, nat_cmp_total}
use Rattle.std.proofs.lemmas.Map.{lookup-none}
use Rattle.std.proofs.lemmas.Map.Entries.{none_past_head, none_below_head}
use Rattle.std.proofs.lemmas.Map.Keys.{sorted_tail, IsDistinct-from_sorted}
use Rattle.sd_pagelock.specs.declared.queue.Ask.{Ask}
use Rattle.sd_pagelock.specs.Asks.{Queues, asks_for}
use Rattle.sd_pagelock.proofs.Members.{not_both}
use Rattle.sd_pagelock.proofs.Lookups.{absent, same_page}

-- what a closure made of what was found
pub made_of : {A B : Type 0} (o : Option A) (r : Option B) (h : A → B) (post : A → B → Type 0) → ((x : A) (y : B) → post x y → y ≡ h x) → MatchOption o (r ≡ None) (λ x. IsSomeAnd r (post x)) → r ≡ option_map h o
made_of None r h post says m = m
made_of (Some x) (Some y) h post says m = ap Some (says x y m)
made_of (Some x) None h post says m = absurd m

pub in_turn : {A B D : Type 0} (f : A → B) (h : B → D) (o : Option A) → option_map (λ x. h (f x)) o ≡ option_map h (option_map f o)
in_turn f h None = refl
in_turn f h (Some x) = refl

inside : {A : Type 0} {x y : A} → Some x ≡ Some y → x ≡ y
inside e = cc

at_itself : (p : ℕ) → is_at (nat_cmp p) p ≡ true
at_itself p = ap is_eq (sym (nat_cmp_is p p orderings.Equal refl))

-- the asks for a page, by the first of the list and by the others
asks_head : (p : ℕ) (e : ℕ × List Ask) (es : Queues) → is_at (nat_cmp p) e.0 ≡ true → asks_for (e ∷ es) p ≡ e.1
asks_head p e es is = ap (λ (b : Bool). unwrap_or (cond {A = Option (List Ask)} b (Some e.1) (lookup (is_at (nat_cmp p)) es)) []) is

asks_tail : (p : ℕ) (e : ℕ × List Ask) (es : Queues) → is_at (nat_cmp p) e.0 ≡ false → asks_for (e ∷ es) p ≡ asks_for es p
asks_tail p e es is = ap (λ (b : Bool). unwrap_or (cond {A = Option (List Ask)} b (Some e.1) (lookup (is_at (nat_cmp p)) es)) []) is

unasked : (p : ℕ) (es : Queues) → lookup (is_at (nat_cmp p)) es ≡ None → asks_for es p ≡ []
unasked p es e = ap (λ (o : Option (List Ask)). unwrap_or o []) e

two_ways : {A : Type 0} (b : Bool) → (b ≡ true → A) → (b ≡ false → A) → A
two_ways true f g = f refl
two_ways false f g = g refl

module _ (test : ℕ → List Ask → Bool) (idle : (p : ℕ) → test p [] ≡ false) where
  -- none passes: no page does
  pub missed : (es : Queues) → find (λ (e : ℕ × List Ask). test e.0 e.1) es ≡ None → (p : ℕ) → test p (asks_for es p) ≡ false
  missed [] e p = idle p
  missed (x ∷ xs) e p = two_ways (test x.0 x.1)
      (λ t. absurd (absent (sym e) (ap (λ (b : Bool). cond {A = Option (ℕ × List Ask)} b (Some x) (find (λ (e : ℕ × List Ask). test e.0 e.1) xs)) t)))
      (λ f. two_ways (is_at (nat_cmp p) x.0)
      (λ is. ap (test p) (asks_head p x xs is) ∙ ap (λ (z : ℕ). test z x.1) (same_page p x.0 is) ∙ f)
      (λ apart. ap (test p) (asks_tail p x xs apart) ∙ missed xs (sym (ap (λ (b : Bool). cond {A = Option (ℕ × List Ask)} b (Some x) (find (λ (e : ℕ × List Ask). test e.0 e.1) xs)) f) ∙ e) p))

  -- the first that passes: its page does, and no lower one
  pub hit : (es : Queues) → IsStrictlySortedBy nat_cmp (keys_of es) → (e : ℕ × List Ask) → find (λ (e : ℕ × List Ask). test e.0 e.1) es ≡ Some e
      → (asks_for es e.0 ≡ e.1) × (test e.0 e.1 ≡ true) × ((q : ℕ) → q < e.0 → test q (asks_for es q) ≡ false)
  hit [] rising e found = absurd (absent refl found)
  hit (x ∷ xs) rising e found = two_ways (test x.0 x.1)
      (λ t. subst (λ (e : ℕ × List Ask). (asks_for (x ∷ xs) e.0 ≡ e.1) × (test e.0 e.1 ≡ true) × ((q : ℕ) → q < e.0 → test q (asks_for (x ∷ xs) q) ≡ false))
      (inside (sym (ap (λ (b : Bool). cond {A = Option (ℕ × List Ask)} b (Some x) (find (λ (e : ℕ × List Ask). test e.0 e.1) xs)) t) ∙ found))
      (asks_head x.0 x xs (at_itself x.0), t, λ q lt. ap (test q) (unasked q (x ∷ xs) (lookup-none (is_at (nat_cmp q)) (x ∷ xs) (none_below_head nat_cmp_total q x xs rising (sym (nat_cmp_is q x.0 orderings.Less lt))))) ∙ idle q))
      (λ f. later f (hit xs (sorted_tail nat_cmp x.0 (keys_of xs) rising) e (sym (ap (λ (b : Bool). cond {A = Option (ℕ × List Ask)} b (Some x) (find (λ (e : ℕ × List Ask). test e.0 e.1) xs)) f) ∙ found)))
    where
      later : test x.0 x.1 ≡ false → (asks_for xs e.0 ≡ e.1) × (test e.0 e.1 ≡ true) × ((q : ℕ) → q < e.0 → test q (asks_for xs q) ≡ false)
          → (asks_for (x ∷ xs) e.0 ≡ e.1) × (test e.0 e.1 ≡ true) × ((q : ℕ) → q < e.0 → test q (asks_for (x ∷ xs) q) ≡ false)
      later f h = (
        two_ways (is_at (nat_cmp e.0) x.0)
            (λ is. not_both h.1 (ap (test e.0) (sym h.0 ∙ unasked e.0 xs (lookup-none (is_at (nat_cmp e.0)) xs (none_past_head (eq_by_cmp_equiv nat_cmp_total) e.0 x xs (IsDistinct-from_sorted nat_cmp (keys_of (x ∷ xs)) rising) is))) ∙ idle e.0))
            (λ apart. asks_tail e.0 x xs apart ∙ h.0),
        h.1,
        λ q lt. two_ways (is_at (nat_cmp q) x.0)
            (λ is. ap (test q) (asks_head q x xs is) ∙ ap (λ (z : ℕ). test z x.1) (same_page q x.0 is) ∙ f)
            (λ apart. ap (test q) (asks_tail q x xs apart) ∙ h.2 q lt),
      )

  pub found_passes : (es : Queues) → IsStrictlySortedBy nat_cmp (keys_of es) → (r : Option ℕ) → r ≡ option_map (λ (e : ℕ × List Ask). e.0) (find (λ (e : ℕ × List Ask). test e.0 e.1) es)
      → IfSome r (λ p. test p (asks_for es p) ≡ true)
  found_passes es rising r e = go (find (λ (e : ℕ × List Ask). test e.0 e.1) es) refl r e
    where
      go : (o : Option (ℕ × List Ask)) → find (λ (e : ℕ × List Ask). test e.0 e.1) es ≡ o → (r : Option ℕ) → r ≡ option_map (λ (e : ℕ × List Ask). e.0) o → IfSome r (λ p. test p (asks_for es p) ≡ true)
      go None f r e = subst (λ (r : Option ℕ). IfSome r (λ p. test p (asks_for es p) ≡ true)) (sym e) tt
      go (Some x) f r e = let h = hit es rising x f in subst (λ (r : Option ℕ). IfSome r (λ p. test p (asks_for es p) ≡ true)) (sym e) (ap (test x.0) h.0 ∙ h.1)

  pub found_lowest : (es : Queues) → IsStrictlySortedBy nat_cmp (keys_of es) → (r : Option ℕ) → r ≡ option_map (λ (e : ℕ × List Ask). e.0) (find (λ (e : ℕ × List Ask). test e.0 e.1) es)
      → IfSome r (λ p. (q : ℕ) → q < p → test q (asks_for es q) ≡ false)
  found_lowest es rising r e = go (find (λ (e : ℕ × List Ask). test e.0 e.1) es) refl r e
    where
      go : (o : Option (ℕ × List Ask)) → find (λ (e : ℕ × List Ask). test e.0 e.1) es ≡ o → (r : Option ℕ) → r ≡ option_map (λ (e : ℕ × List Ask). e.0) o → IfSome r (λ p. (q : ℕ) → q < p → test q (asks_for es q) ≡ false)
      go None f r e = subst (λ (r : Option ℕ). IfSome r (λ p. (q : ℕ) → q < p → test q (asks_for es q) ≡ false)) (sym e) tt
      go (Some x) f r e = subst (λ (r : Option ℕ). IfSome r (λ p. (q : ℕ) → q < p → test q (asks_for es q) ≡ false)) (sym e) ((hit es rising x f).2)

  pub found_none : (es : Queues) → (r : Option ℕ) → r ≡ option_map (λ (e : ℕ × List Ask). e.0) (find (λ (e : ℕ × List Ask). test e.0 e.1) es)
      → IfNone r ((p : ℕ) → test p (asks_for es p) ≡ false)
  found_none es r e = go (find (λ (e : ℕ × List Ask). test e.0 e.1) es) refl r e
    where
      go : (o : Option (ℕ × List Ask)) → find (λ (e : ℕ × List Ask). test e.0 e.1) es ≡ o → (r : Option ℕ) → r ≡ option_map (λ (e : ℕ × List Ask). e.0) o → IfNone r ((p : ℕ) → test p (asks_for es p) ≡ false)
      go None f r e = subst (λ (r : Option ℕ). IfNone r ((p : ℕ) → test p (asks_for es p) ≡ false)) (sym e) (missed es f)
      go (Some x) f r e = subst (λ (r : Option ℕ). IfNone r ((p : ℕ) → test p (asks_for es p) ≡ false)) (sym e) tt
