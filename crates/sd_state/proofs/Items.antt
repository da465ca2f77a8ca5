-- The items of instances in lists: what holds of each, and of none. For all that reads or writes a part of a complex.
use Rattle.std.proofs.Common.{◌≡◌, ◌≢◌, ℕ, zero, suc, ◌-◌, ◌≤◌, List, length, get_or, slice_set, refl, sym, ap, ◌∙◌, arith}
use Rattle.std.proofs.lemmas.List.{get_or-set_other, get_or-set_same, get_or_read, set-get_or}
use Rattle.sd_state.specs.Fresh.{for_each}
use Rattle.sd_state.specs.Parts.{among}

-- an item that each instance has
pub at-each : {A : Type 0} (none : A) (item : ℕ → A) (j : ℕ) → 1 ≤ j → j ≤ 8 → among none (for_each item 8) j ≡ item j
at-each none item zero low high = absurd (omega (arith, low))
at-each none item (suc zero) low high = refl
at-each none item (suc (suc zero)) low high = refl
at-each none item (suc (suc (suc zero))) low high = refl
at-each none item (suc (suc (suc (suc zero)))) low high = refl
at-each none item (suc (suc (suc (suc (suc zero))))) low high = refl
at-each none item (suc (suc (suc (suc (suc (suc zero)))))) low high = refl
at-each none item (suc (suc (suc (suc (suc (suc (suc zero))))))) low high = refl
at-each none item (suc (suc (suc (suc (suc (suc (suc (suc zero)))))))) low high = refl
at-each none item (suc (suc (suc (suc (suc (suc (suc (suc (suc j))))))))) low high = absurd (omega (arith, high))

-- what holds of each item, and of none, holds at any number
pub at-any : {A : Type 0} (P : A → Type 0) (none : A) (item : ℕ → A) → P none → ((j : ℕ) → P (item j)) → (j : ℕ)
    → P (among none (for_each item 8) j)
at-any P none item out each zero = out
at-any P none item out each (suc zero) = each 1
at-any P none item out each (suc (suc zero)) = each 2
at-any P none item out each (suc (suc (suc zero))) = each 3
at-any P none item out each (suc (suc (suc (suc zero)))) = each 4
at-any P none item out each (suc (suc (suc (suc (suc zero))))) = each 5
at-any P none item out each (suc (suc (suc (suc (suc (suc zero)))))) = each 6
at-any P none item out each (suc (suc (suc (suc (suc (suc (suc zero))))))) = each 7
at-any P none item out each (suc (suc (suc (suc (suc (suc (suc (suc zero)))))))) = each 8
at-any P none item out each (suc (suc (suc (suc (suc (suc (suc (suc (suc j))))))))) = out

-- the item that is lent at its place
pub item-is : {A : Type 0} (none : A) (items : List A) (i : ℕ) (x : A) → 1 ≤ i → i ≤ 8 → length items ≡ 8 → x ≡ get_or items (i - 1) x
    → among none items i ≡ x
item-is none items zero x low high eight is = absurd (omega (arith, low))
item-is none items (suc j) x low high eight is =
    let k : suc j - 1 ≡ j = omega arith in
    sym (get_or_read items j x (omega (arith, high, eight)) (is ∙ ap (λ n. get_or items n x) k) none)

-- one that is written is there,
pub item-set : {A : Type 0} (none : A) (items : List A) (i : ℕ) (x : A) → 1 ≤ i → i ≤ 8 → length items ≡ 8
    → among none (slice_set items (i - 1) x) i ≡ x
item-set none items zero x low high eight = absurd (omega (arith, low))
item-set none items (suc j) x low high eight =
    let k : suc j - 1 ≡ j = omega arith in
    ap (λ n. get_or (slice_set items n x) j none) k ∙ get_or-set_same items j x none (omega (arith, high, eight))

-- and the others stay
pub item-kept : {A : Type 0} (none : A) (items : List A) (i : ℕ) (x : A) → 1 ≤ i → (j : ℕ) → j ≢ i
    → among none (slice_set items (i - 1) x) j ≡ among none items j
item-kept none items i x low zero ne = refl
item-kept none items i x low (suc j) ne = get_or-set_other items (i - 1) j x none (λ e. ne (omega (arith, low, e)))

-- one that is written as it was leaves all as it was
pub item-same : {A : Type 0} (none : A) (items : List A) (i : ℕ) → 1 ≤ i → slice_set items (i - 1) (among none items i) ≡ items
item-same none items zero low = absurd (omega (arith, low))
item-same none items (suc j) low =
    let k : suc j - 1 ≡ j = omega arith in
    ap (λ n. slice_set items n (get_or items j none)) k ∙ set-get_or items j none
