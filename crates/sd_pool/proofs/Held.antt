-- Lists of pages by number: what taking a page out and putting it first do to look-ups, lengths and numbers.
use Rattle.std.proofs.Common.{◌≡◌, ◌≢◌, ℕ, zero, suc, ◌≤◌, true, false, cond, List, [], ◌∷◌, length, Some, None, IsSome, is_some, slice_get, option_map, eqb, refl, sym, ap, subst, ◌∙◌, arith}
use Rattle.std.specs.Cmp.{nat_eq_equiv}
use Rattle.std.specs.List.{AllByRecursion, IsDistinct}
use Rattle.std.specs.Map.{keys_of, lookup, lookup_entry, remove_entry, set_value}
use Rattle.std.proofs.lemmas.Bool.{eqb-true}
use Rattle.std.proofs.lemmas.Map.Keys.{IsDistinct-head, IsDistinct-tail, IsDistinct-cons}

-- equal numbers pass the test
eqb-same : (a b : ℕ) → b ≡ a → eqb a b ≡ true
eqb-same a b same = subst (λ k. eqb a k ≡ true) (sym same) (nat_eq_equiv.refl a)

pub length-keys : {X : Type 0} (es : List (ℕ × X)) → length (keys_of es) ≡ length es
length-keys [] = refl
length-keys (e ∷ es) = ap suc (length-keys es)

pub slice_get-keys : {X : Type 0} (es : List (ℕ × X)) (i : ℕ) → option_map (λ e. e.0) (slice_get es i) ≡ slice_get (keys_of es) i
slice_get-keys [] i = refl
slice_get-keys (e ∷ es) zero = refl
slice_get-keys (e ∷ es) (suc i) = slice_get-keys es i

module _ {X : Type 0} (p : ℕ) where
  -- the entry that is found has the page's own number
  pub lookup_entry-lookup : (es : List (ℕ × X)) → lookup_entry (eqb p) es ≡ option_map (λ v. (p, v)) (lookup (eqb p) es)
  lookup_entry-lookup [] = refl
  lookup_entry-lookup (e ∷ es) = (elim (eqb p e.0) as (λ b. eqb p e.0 ≡ b → cond b (Some e) (lookup_entry (eqb p) es) ≡ option_map (λ v. (p, v)) (cond b (Some e.1) (lookup (eqb p) es))) [
    | true ↦ λ t. ap (λ k. Some (k, e.1)) (sym (eqb-true p e.0 t))
    | false ↦ λ t. lookup_entry-lookup es
  ]) refl

  -- a page that isn't held has nothing to take out
  pub remove_entry-absent : (es : List (ℕ × X)) → lookup (eqb p) es ≡ None → remove_entry (eqb p) es ≡ es
  remove_entry-absent [] h = refl
  remove_entry-absent (e ∷ es) h = (elim (eqb p e.0) as (λ b. eqb p e.0 ≡ b → cond b (Some e.1) (lookup (eqb p) es) ≡ None → cond b es (e ∷ remove_entry (eqb p) es) ≡ e ∷ es) [
    | true ↦ λ t h. cc
    | false ↦ λ t h. ap (λ l. e ∷ l) (remove_entry-absent es h)
  ]) refl h

  -- nor an image to set
  pub set_value-absent : (es : List (ℕ × X)) (w : X) → lookup (eqb p) es ≡ None → set_value (eqb p) es w ≡ es
  set_value-absent [] w h = refl
  set_value-absent (e ∷ es) w h = (elim (eqb p e.0) as (λ b. eqb p e.0 ≡ b → cond b (Some e.1) (lookup (eqb p) es) ≡ None → cond b ((e.0, w) ∷ es) (e ∷ set_value (eqb p) es w) ≡ e ∷ es) [
    | true ↦ λ t h. cc
    | false ↦ λ t h. ap (λ l. e ∷ l) (set_value-absent es w h)
  ]) refl h

  -- the others are found as before
  pub lookup-remove_entry_other : (q : ℕ) → q ≢ p → (es : List (ℕ × X)) → lookup (eqb q) (remove_entry (eqb p) es) ≡ lookup (eqb q) es
  lookup-remove_entry_other q apart [] = refl
  lookup-remove_entry_other q apart (e ∷ es) = (elim (eqb p e.0) as (λ b. eqb p e.0 ≡ b → lookup (eqb q) (cond b es (e ∷ remove_entry (eqb p) es)) ≡ cond (eqb q e.0) (Some e.1) (lookup (eqb q) es)) [
    | true ↦ λ t. (elim (eqb q e.0) as (λ b. eqb q e.0 ≡ b → lookup (eqb q) es ≡ cond b (Some e.1) (lookup (eqb q) es)) [
      | true ↦ λ u. absurd (apart (eqb-true q e.0 u ∙ sym (eqb-true p e.0 t)))
      | false ↦ λ u. refl
    ]) refl
    | false ↦ λ t. ap (λ r. cond (eqb q e.0) (Some e.1) r) (lookup-remove_entry_other q apart es)
  ]) refl

  -- what differs from each number still does when a page is taken out
  AllByRecursion-remove_entry : (P : ℕ → Type 0) (es : List (ℕ × X)) → AllByRecursion P (keys_of es) → AllByRecursion P (keys_of (remove_entry (eqb p) es))
  AllByRecursion-remove_entry P [] all = tt
  AllByRecursion-remove_entry P (e ∷ es) all = elim (eqb p e.0) as (λ b. AllByRecursion P (keys_of (cond b es (e ∷ remove_entry (eqb p) es)))) [
    | true ↦ all.1
    | false ↦ (all.0, AllByRecursion-remove_entry P es all.1)
  ]

  -- the numbers still differ
  pub IsDistinct-remove_entry : (es : List (ℕ × X)) → IsDistinct eqb (keys_of es) → IsDistinct eqb (keys_of (remove_entry (eqb p) es))
  IsDistinct-remove_entry [] d = d
  IsDistinct-remove_entry (e ∷ es) d = elim (eqb p e.0) as (λ b. IsDistinct eqb (keys_of (cond b es (e ∷ remove_entry (eqb p) es)))) [
    | true ↦ IsDistinct-tail eqb e.0 (keys_of es) d
    | false ↦ IsDistinct-cons eqb e.0 (keys_of (remove_entry (eqb p) es))
        (AllByRecursion-remove_entry (λ y. eqb e.0 y ≡ false) es (IsDistinct-head eqb e.0 (keys_of es) d))
        (IsDistinct-remove_entry es (IsDistinct-tail eqb e.0 (keys_of es) d))
  ]

  -- the page's own number is gone
  pub differs-remove_entry : (es : List (ℕ × X)) → IsDistinct eqb (keys_of es) → AllByRecursion (λ y. eqb p y ≡ false) (keys_of (remove_entry (eqb p) es))
  differs-remove_entry [] d = tt
  differs-remove_entry (e ∷ es) d = (elim (eqb p e.0) as (λ b. eqb p e.0 ≡ b → AllByRecursion (λ y. eqb p y ≡ false) (keys_of (cond b es (e ∷ remove_entry (eqb p) es)))) [
    | true ↦ λ t. subst (λ k. AllByRecursion (λ y. eqb k y ≡ false) (keys_of es)) (sym (eqb-true p e.0 t)) (IsDistinct-head eqb e.0 (keys_of es) d)
    | false ↦ λ t. (t, differs-remove_entry es (IsDistinct-tail eqb e.0 (keys_of es) d))
  ]) refl

  -- so it isn't found
  pub lookup-remove_entry_same : (es : List (ℕ × X)) → IsDistinct eqb (keys_of es) → lookup (eqb p) (remove_entry (eqb p) es) ≡ None
  lookup-remove_entry_same es d = absent (remove_entry (eqb p) es) (differs-remove_entry es d)
    where
      absent : (fs : List (ℕ × X)) → AllByRecursion (λ y. eqb p y ≡ false) (keys_of fs) → lookup (eqb p) fs ≡ None
      absent [] all = refl
      absent (f ∷ fs) all = ap (λ b. cond b (Some f.1) (lookup (eqb p) fs)) all.0 ∙ absent fs all.1

  pub length-remove_entry_le : (es : List (ℕ × X)) → length (remove_entry (eqb p) es) ≤ length es
  length-remove_entry_le [] = omega arith
  length-remove_entry_le (e ∷ es) = elim (eqb p e.0) as (λ b. length (cond b es (e ∷ remove_entry (eqb p) es)) ≤ suc (length es)) [
    | true ↦ omega arith
    | false ↦ let rest = length-remove_entry_le es in omega arith
  ]

  -- a page that is held leaves one fewer
  pub length-remove_entry_held : (es : List (ℕ × X)) → IsSome (lookup (eqb p) es) → suc (length (remove_entry (eqb p) es)) ≡ length es
  length-remove_entry_held [] h = cc
  length-remove_entry_held (e ∷ es) h = (elim (eqb p e.0) as (λ b. IsSome (cond b (Some e.1) (lookup (eqb p) es)) → suc (length (cond b es (e ∷ remove_entry (eqb p) es))) ≡ suc (length es)) [
    | true ↦ λ h. refl
    | false ↦ λ h. ap suc (length-remove_entry_held es h)
  ]) h

  -- a number in the list is found
  pub IsSome-lookup_at : (es : List (ℕ × X)) (i : ℕ) → slice_get (keys_of es) i ≡ Some p → IsSome (lookup (eqb p) es)
  IsSome-lookup_at [] i h = cc
  IsSome-lookup_at (e ∷ es) zero h = let same : e.0 ≡ p = cc in ap (λ b. is_some (cond b (Some e.1) (lookup (eqb p) es))) (eqb-same p e.0 same)
  IsSome-lookup_at (e ∷ es) (suc i) h = elim (eqb p e.0) as (λ b. IsSome (cond b (Some e.1) (lookup (eqb p) es))) [
    | true ↦ refl
    | false ↦ IsSome-lookup_at es i h
  ]
