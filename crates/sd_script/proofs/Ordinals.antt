-- The place of a name among names. It serves the goals of reader.rt, and those of callers that know a transaction by it.
use Rattle.std.proofs.Common.{◌≡◌, ℕ, ◌<◌, ◌≤◌, Bool, true, false, ◌||◌, cond, ltb, List, [], ◌∷◌, ◌++◌, length, get_or, refl, sym, ap, ◌∙◌, arith, ⊎_elim}
use Rattle.std.specs.Prelude.{Some, None, slice_get}
use Rattle.std.specs.Cmp.Lexicographic.{bytes_decides, nat_list_eq_equiv}
use Rattle.std.specs.List.{position_or_len}
use Rattle.std.specs.Str.{bytes_eq}
use Rattle.std.proofs.lemmas.Bool.{cases_Bool, true≢false, ltb-true, ltb-false}
use Rattle.std.proofs.lemmas.Bool.Decides.{nat_tests}
use Rattle.std.proofs.lemmas.List.Folds.{list_any-append, position_or_len_push}
use Rattle.std.proofs.lemmas.List.Quantifiers.{position-Some}
use Rattle.std.proofs.lemmas.Option.{slice_get-get_or}
use Rattle.sd_script.specs.Order.{has_name, ordinal_of}

abbrev place : List ℕ → List (List ℕ) → ℕ
place name names = position_or_len (bytes_eq name) names

-- a name is there where its place is
has_place : (names : List (List ℕ)) (name : List ℕ) → has_name names name ≡ ltb (place name names) (length names)
has_place [] name = refl
has_place (other ∷ names) name = ⊎_elim
    (λ (same : bytes_eq name other ≡ true). let rest = has_place names name in rw same (grind (arith, nat_tests)))
    (λ (differ : bytes_eq name other ≡ false). let rest = has_place names name in rw differ (grind (arith, nat_tests)))
    (cases_Bool (bytes_eq name other))

ordinal_is : (names : List (List ℕ)) (name : List ℕ) → ordinal_of names name ≡ cond (has_name names name) (Some (place name names)) None
ordinal_is names name = ap (λ (b : Bool). cond b (Some (place name names)) None) (sym (has_place names name))

pub no_ordinal : (names : List (List ℕ)) (name : List ℕ) → has_name names name ≡ false → ordinal_of names name ≡ None
no_ordinal names name lack = ordinal_is names name ∙ ap (λ (b : Bool). cond b (Some (place name names)) None) lack

pub has_none : (names : List (List ℕ)) (name : List ℕ) → ordinal_of names name ≡ None → has_name names name ≡ false
has_none names name none = ⊎_elim
    (λ (had : has_name names name ≡ true). let some : Some (place name names) ≡ None = sym (ordinal_is names name ∙ ap (λ (b : Bool). cond b (Some (place name names)) None) had) ∙ none in absurd (cc))
    (λ lack. lack)
    (cases_Bool (has_name names name))

-- at its ordinal stands the name
pub named_at : (names : List (List ℕ)) (name : List ℕ) (o : ℕ) → ordinal_of names name ≡ Some o → slice_get names o ≡ Some name
named_at names name o is =
    let found = position-Some (bytes_eq name) names o [] is in
    slice_get-get_or names o [] found.0 ∙ ap (λ (x : List ℕ). Some x) (sym ((bytes_decides name (get_or names o [])).0 found.1))

most : (name : List ℕ) (names : List (List ℕ)) → place name names ≤ length names
most name [] = omega arith
most name (other ∷ names) = let rest = most name names in ⊎_elim
    (λ (same : bytes_eq name other ≡ true). rw same (omega arith))
    (λ (differ : bytes_eq name other ≡ false). rw differ (omega arith))
    (cases_Bool (bytes_eq name other))

-- a name behind names that don't have it
pub ordinal_push : (names : List (List ℕ)) (new name : List ℕ) → has_name names new ≡ false
    → ordinal_of (names ++ new ∷ []) name ≡ cond (bytes_eq new name) (Some (length names)) (ordinal_of names name)
ordinal_push names new name fresh = ordinal_is (names ++ new ∷ []) name ∙ ⊎_elim
    (λ (there : has_name names name ≡ true).
    let other : bytes_eq new name ≡ false = ⊎_elim
    (λ (same : bytes_eq new name ≡ true). absurd (true≢false (sym there ∙ ap (has_name names) (sym ((bytes_decides new name).0 same)) ∙ fresh)))
    (λ lack. lack)
    (cases_Bool (bytes_eq new name)) in
    let short : place name names < length names = ltb-true (place name names) (length names) (sym (has_place names name) ∙ there) in
    let still : place name (names ++ new ∷ []) ≡ place name names = position_or_len_push (bytes_eq name) names new ∙ grind (arith, nat_tests) in
    let has_it : has_name (names ++ new ∷ []) name ≡ true = list_any-append (bytes_eq name) names (new ∷ []) ∙ ap (λ (b : Bool). b || has_name (new ∷ []) name) there in
    chosen has_it ∙ ap (λ (n : ℕ). Some n) still ∙ sym (ap (λ (b : Bool). cond b (Some (place name names)) None) there) ∙ sym (ordinal_is names name)
    ∙ sym (ap (λ (b : Bool). cond b (Some (length names)) (ordinal_of names name)) other))
    (λ (free : has_name names name ≡ false).
    let far : length names ≤ place name names = ltb-false (place name names) (length names) (sym (has_place names name) ∙ free) in
    ⊎_elim
    (λ (same : bytes_eq new name ≡ true).
    let back : bytes_eq name new ≡ true = nat_list_eq_equiv.symm name new ∙ same in
    let has_it : has_name (names ++ new ∷ []) name ≡ true = list_any-append (bytes_eq name) names (new ∷ []) ∙ grind arith in
    let there : place name (names ++ new ∷ []) ≡ length names = position_or_len_push (bytes_eq name) names new ∙ grind (arith, nat_tests, most name names) in
    chosen has_it ∙ ap (λ (n : ℕ). Some n) there ∙ sym (ap (λ (b : Bool). cond b (Some (length names)) (ordinal_of names name)) same))
    (λ (differ : bytes_eq new name ≡ false).
    let back : bytes_eq name new ≡ false = nat_list_eq_equiv.symm name new ∙ differ in
    let lacks : has_name (names ++ new ∷ []) name ≡ false = list_any-append (bytes_eq name) names (new ∷ []) ∙ grind arith in
    ap (λ (b : Bool). cond b (Some (place name (names ++ new ∷ []))) None) lacks ∙ sym (no_ordinal names name free)
    ∙ sym (ap (λ (b : Bool). cond b (Some (length names)) (ordinal_of names name)) differ))
    (cases_Bool (bytes_eq new name)))
    (cases_Bool (has_name names name)) where
      chosen : has_name (names ++ new ∷ []) name ≡ true → cond (has_name (names ++ new ∷ []) name) (Some (place name (names ++ new ∷ []))) None ≡ Some (place name (names ++ new ∷ []))
      chosen had = ap (λ (b : Bool). cond b (Some (place name (names ++ new ∷ []))) None) had
