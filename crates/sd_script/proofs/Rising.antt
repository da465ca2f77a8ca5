-- Keys that rise, and the ordinal at one. It serves the goals of names.rt.
use Rattle.std.proofs.Common.{◌≡◌, ◌≢◌, ℕ, suc, ◌-◌, ◌<◌, ◌≤◌, Option, None, Some, Bool, true, false, cond, List, [], ◌∷◌, ◌++◌, length, get_or, refl, sym, ap, ◌∙◌, subst, arith}
use Rattle.std.specs.Prelude.{All, nat_lt, is_some}
use Rattle.std.specs.BTreeMap.{BTreeMap, get, is_at}
use Rattle.std.specs.List.{AllByRecursion, insert, slice_get}
use Rattle.std.specs.List.Sorted.{IsStrictlySortedBy, IsPartitionedBy, IsPartitionPoint}
use Rattle.std.specs.Map.{keys_of, lookup}
use Rattle.std.specs.Option.{option_or}
use Rattle.std.specs.Ordering.{is_eq, nat_cmp}
use Rattle.std.specs.declared.cmp.Ordering.TheVariants.{Less, Greater}
use Rattle.std.proofs.lemmas.Bool.Decides.{nat_tests}
use Rattle.std.proofs.lemmas.Bool.{lt-ltb, ltb-true, ltb-false}
use Rattle.std.proofs.lemmas.Cmp.{eq_by_cmp_equiv, nat_cmp_total}
use Rattle.std.proofs.lemmas.List.{get_or-map}
use Rattle.std.proofs.lemmas.Map.{lookup-insert, none_passes_from_lookup}
use Rattle.std.proofs.lemmas.Map.Entries.{length-keys_of, lookup_at_gap, lookup_from_place}
use Rattle.std.proofs.lemmas.Map.Keys.{IsDistinct-from_sorted, non_decreasing_from_sorted}
use Rattle.std.proofs.lemmas.Option.{get_or_from_slice_get, slice_get-get_or, slice_get_within}
use Rattle.sd_script.specs.Ordinals.{ordinal_at}

-- ---- one more key, above the others

less : (a b : ℕ) → a < b → nat_cmp a b ≡ Less
less a b lt = grind (arith, nat_tests)

greater : (a b : ℕ) → b < a → nat_cmp a b ≡ Greater
greater a b lt = grind (arith, nat_tests)

all_push : (x : ℕ) (es : List (ℕ × ℕ)) (k o : ℕ) → AllByRecursion (λ y. nat_cmp x y ≡ Less) (keys_of es) → x < k
    → AllByRecursion (λ y. nat_cmp x y ≡ Less) (keys_of (es ++ (k, o) ∷ []))
all_push x [] k o all lt = (less x k lt, tt)
all_push x (e ∷ es) k o all lt = (all.0, all_push x es k o all.1 lt)

pub sorted_push : (es : List (ℕ × ℕ)) (k o : ℕ) → IsStrictlySortedBy nat_cmp (keys_of es) → All (λ e. e.0 < k) es
    → IsStrictlySortedBy nat_cmp (keys_of (es ++ (k, o) ∷ []))
unfolding IsStrictlySortedBy
sorted_push [] k o sorted below = (tt, tt)
sorted_push (e ∷ es) k o sorted below = (all_push e.0 es k o sorted.0 (below 0 e (omega arith)), sorted_push es k o sorted.1 (λ i d lt. below (suc i) d (omega arith)))

insert_end : (es : List (ℕ × ℕ)) (x : ℕ × ℕ) → insert es (length es) x ≡ es ++ x ∷ []
insert_end [] x = refl
insert_end (e ∷ es) x = ap (λ (l : List (ℕ × ℕ)). e ∷ l) (insert_end es x)

lookup_push : (q k o : ℕ) (es : List (ℕ × ℕ)) → lookup (is_at (nat_cmp k)) es ≡ None
    → lookup (is_at (nat_cmp q)) (es ++ (k, o) ∷ []) ≡ cond (is_eq (nat_cmp k q)) (Some o) (lookup (is_at (nat_cmp q)) es)
lookup_push q k o es none =
    ap (λ (l : List (ℕ × ℕ)). lookup (is_at (nat_cmp q)) l) (sym (insert_end es (k, o)))
    ∙ lookup-insert (eq_by_cmp_equiv nat_cmp_total) k o q es (length es) (none_passes_from_lookup (is_at (nat_cmp k)) es none)

or_none : (x y : Option ℕ) → option_or x y ≡ None → x ≡ None
or_none None y e = refl
or_none (Some v) y e = absurd cc

or_cond : (b : Bool) (o : ℕ) (x y : Option ℕ) → option_or (cond b (Some o) x) y ≡ cond b (Some o) (option_or x y)
or_cond true o x y = refl
or_cond false o x y = refl

pub ordinal_push : (es : List (ℕ × ℕ)) (others : BTreeMap ℕ ℕ) (k o q : ℕ) → ordinal_at es others k ≡ None
    → ordinal_at (es ++ (k, o) ∷ []) others q ≡ cond (is_eq (nat_cmp k q)) (Some o) (ordinal_at es others q)
ordinal_push es others k o q new =
    ap (λ (x : Option ℕ). option_or x (get nat_cmp others q)) (lookup_push q k o es (or_none _ _ new))
    ∙ or_cond (is_eq (nat_cmp k q)) o (lookup (is_at (nat_cmp q)) es) (get nat_cmp others q)

pub ordinal_insert : (es : List (ℕ × ℕ)) (old new : BTreeMap ℕ ℕ) (k o q : ℕ) → ordinal_at es old k ≡ None
    → get nat_cmp new q ≡ cond (is_eq (nat_cmp k q)) (Some o) (get nat_cmp old q)
    → ordinal_at es new q ≡ cond (is_eq (nat_cmp k q)) (Some o) (ordinal_at es old q)
ordinal_insert es old new k o q none changed = ap (λ (x : Option ℕ). option_or (lookup (is_at (nat_cmp q)) es) x) changed ∙ by (is_eq (nat_cmp k q)) refl
  where
    by : (b : Bool) → is_eq (nat_cmp k q) ≡ b
        → option_or (lookup (is_at (nat_cmp q)) es) (cond b (Some o) (get nat_cmp old q)) ≡ cond b (Some o) (ordinal_at es old q)
    by true same =
        let is : k ≡ q = grind (arith, nat_tests) in
        ap (λ (x : Option ℕ). option_or x (Some o)) (subst (λ (j : ℕ). lookup (is_at (nat_cmp j)) es ≡ None) is (or_none _ _ none))
    by false apart = refl

pub none_from : (x : Option ℕ) → is_some x ≡ false → x ≡ None
none_from None e = refl
none_from (Some v) e = absurd cc

-- the first is none, so the second decides
pub or_second : (x y : Option ℕ) → x ≡ None → (y ≡ None → option_or x y ≡ None) × (option_or x y ≡ None → y ≡ None)
or_second None y e = (λ h. h, λ h. h)
or_second (Some v) y e = absurd cc

-- ---- a key is looked up

pub none_above : (es : List (ℕ × ℕ)) (key : ℕ) → All (λ e. e.0 < key) es → lookup (is_at (nat_cmp key)) es ≡ None
none_above [] key below = refl
none_above (e ∷ es) key below =
    let lt : e.0 < key = below 0 e (omega arith) in
    let no : is_eq (nat_cmp key e.0) ≡ false = grind (arith, nat_tests) in
    ap (λ (b : Bool). cond b (Some e.1) (lookup (is_at (nat_cmp key)) es)) no ∙ none_above es key (λ i d h. below (suc i) d (omega arith))

-- the keys rise by their places
rises_upto : (es : List (ℕ × ℕ)) (i j : ℕ) (d : ℕ × ℕ) → IsStrictlySortedBy nat_cmp (keys_of es) → i ≤ j → j < length es
    → (get_or es i d).0 ≤ (get_or es j d).0
rises_upto es i j d sorted le within =
    let at_i = get_or-map {X = ℕ × ℕ} (λ e. e.0) es i d 0 (omega arith) in
    let at_j = get_or-map {X = ℕ × ℕ} (λ e. e.0) es j d 0 within in
    let rise = non_decreasing_from_sorted (keys_of es) sorted i j 0 le (omega (arith, length-keys_of es)) in
    omega (arith, at_i, at_j, rise)

pub below_last : (es : List (ℕ × ℕ)) (last : ℕ × ℕ) (key i : ℕ) (d : ℕ × ℕ) → IsStrictlySortedBy nat_cmp (keys_of es)
    → slice_get es (length es - 1) ≡ Some last → last.0 < key → i < length es → (get_or es i d).0 < key
below_last es last key i d sorted at lt within =
    let is = ap (λ (e : ℕ × ℕ). e.0) (get_or_from_slice_get es (length es - 1) last d at) in
    let rise = rises_upto es i (length es - 1) d sorted (omega arith) (omega arith) in
    omega (arith, is, rise)

pub last_below : (es : List (ℕ × ℕ)) (last : ℕ × ℕ) (key : ℕ) → slice_get es (length es - 1) ≡ Some last → All (λ e. e.0 < key) es → last.0 < key
last_below es last key at below =
    let is = ap (λ (e : ℕ × ℕ). e.0) (get_or_from_slice_get es (length es - 1) last (0, 0) at) in
    let lt = below (length es - 1) (0, 0) (slice_get_within es (length es - 1) last at) in
    omega (arith, is, lt)

pub parted : (es : List (ℕ × ℕ)) (key : ℕ) → IsStrictlySortedBy nat_cmp (keys_of es) → IsPartitionedBy (λ (e : ℕ × ℕ). nat_lt e.0 key) es
parted es key sorted = λ i j d le within below.
    let rise = rises_upto es i j d sorted le within in
    lt-ltb (get_or es i d).0 key (omega (arith, rise, ltb-true (get_or es j d).0 key below))

pub at_place : (es : List (ℕ × ℕ)) (key place : ℕ) → IsStrictlySortedBy nat_cmp (keys_of es) → place < length es
    → (get_or es place (0, 0)).0 ≡ key → Some (get_or es place (0, 0)).1 ≡ lookup (is_at (nat_cmp key)) es
at_place es key place sorted within is =
    let at : slice_get es place ≡ Some (key, (get_or es place (0, 0)).1) =
    slice_get-get_or es place (0, 0) within ∙ ap (λ (k : ℕ). Some (k, (get_or es place (0, 0)).1)) is in
    sym (lookup_from_place (eq_by_cmp_equiv nat_cmp_total) es place key (get_or es place (0, 0)).1 (IsDistinct-from_sorted nat_cmp (keys_of es) sorted) at)

above : (a b : ℕ) → a ≤ b → a ≢ b → a < b
above a b le differ = omega arith

pub no_place : (es : List (ℕ × ℕ)) (key place : ℕ) → IsStrictlySortedBy nat_cmp (keys_of es)
    → IsPartitionPoint (λ (e : ℕ × ℕ). nat_lt e.0 key ≡ true) (λ (e : ℕ × ℕ). nat_lt e.0 key ≡ false) es place
    → (place < length es → (get_or es place (0, 0)).0 ≢ key) → lookup (is_at (nat_cmp key)) es ≡ None
no_place es key place sorted point other =
    lookup_at_gap nat_cmp_total key es place sorted
    (λ j e lt at. let is = ap (λ (x : ℕ × ℕ). x.0) (get_or_from_slice_get es j e (0, 0) at) in
    greater key e.0 (omega (arith, is, ltb-true (get_or es j (0, 0)).0 key (point.0 j (0, 0) (omega arith) lt))))
    (λ e at. let within = slice_get_within es place e at in
    let is = ap (λ (x : ℕ × ℕ). x.0) (get_or_from_slice_get es place e (0, 0) at) in
    let from = ltb-false (get_or es place (0, 0)).0 key (point.1 place (0, 0) (omega arith) within) in
    less key e.0 (above key e.0 (omega (arith, is, from)) (λ same. other within (is ∙ sym same))))
