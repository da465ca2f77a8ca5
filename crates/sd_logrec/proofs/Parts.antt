-- The fields of records as formats, each in its range. It serves the laws of records.
use Rattle.std.proofs.Common.{◌≡◌, ◌⊎◌, ℕ, zero, suc, ◌^◌, ◌<◌, ◌≤◌, Bool, true, false, cond, eqb, ◌&&◌, List, [], ◌∷◌, ◌++◌, length, refl, sym, ap, subst, ◌∙◌, append_assoc, arith, inl, inr}
use Rattle.std.specs.Prelude.{Option, Some, None, option_map, nat_lt, nat_le}
use Rattle.std.specs.Int.{w16}
use Rattle.std.specs.List.{flat_map, AllByRecursion}
use Rattle.std.proofs.lemmas.Bool.{leb-true, le-leb, eqb-true}
use Rattle.std.proofs.lemmas.Bool.Decides.{nat_tests}
use Rattle.sd_base.specs.declared.ids.TxnId.{TxnId}
use Rattle.sd_logrec.specs.Spelling.{Span, Changed, one, two, four, eight, transaction, value, span, changed, counted, IsLsn, IsOrdinal, IsTxn, IsValue, AreSpans, AreRecs, is_before, is_rising}
use Rattle.sd_logrec.specs.Reading.{Reader, made, number_at, is_lsn, lsn_at, inst_at, ordinal_at, txn_at, page_at, slot_at, capacity_at, bytes_at, value_behind, value_at, span_at, changed_at, items_at, counted_at, spans_at, recs_at}
use Rattle.sd_logrec.proofs.Formats.{IsBytes, Takes, Takes-then, IsFormat, and_then_some, map_some, then_is, only_is, made_is}
use Rattle.sd_logrec.proofs.Numbers.{two_is, four_is, eight_is, one_is, bytes_is}

-- ---- the tests of the ranges

lsn_there : (n : ℕ) → n < 2 ^ 64 → is_lsn n ≡ true → IsLsn n
lsn_there n lt e = grind (arith, nat_tests)

lsn_back : (n : ℕ) → IsLsn n → (n < 2 ^ 64) × (is_lsn n ≡ true)
lsn_back n h = grind (arith, nat_tests)

abbrev IsInst : ℕ → Type 0
IsInst n = (1 ≤ n) × (n ≤ 8)

inst_there : (n : ℕ) → n < 256 → (nat_le 1 n && nat_le n 8) ≡ true → IsInst n
inst_there n lt e = grind (arith, nat_tests)

inst_back : (n : ℕ) → IsInst n → (n < 256) × ((nat_le 1 n && nat_le n 8) ≡ true)
inst_back n h = grind (arith, nat_tests)

ordinal_there : (n : ℕ) → n < 2 ^ 32 → nat_le 1 n ≡ true → IsOrdinal n
ordinal_there n lt e = grind (arith, nat_tests)

ordinal_back : (n : ℕ) → IsOrdinal n → (n < 2 ^ 32) × (nat_le 1 n ≡ true)
ordinal_back n h = grind (arith, nat_tests)

below_there : (k n limit : ℕ) → n < k → nat_lt n limit ≡ true → n < limit
below_there k n limit lt e = grind (arith, nat_tests)

below_back : (k n limit : ℕ) → limit ≤ k → n < limit → (n < k) × (nat_lt n limit ≡ true)
below_back k n limit le h = grind (arith, nat_tests)

to_there : (k n limit : ℕ) → n < k → nat_le n limit ≡ true → n ≤ limit
to_there k n limit lt e = grind (arith, nat_tests)

to_back : (k n limit : ℕ) → limit < k → n ≤ limit → (n < k) × (nat_le n limit ≡ true)
to_back k n limit le h = grind (arith, nat_tests)

-- ---- the fields

pub lsn_is : IsFormat ℕ eight IsLsn lsn_at
unfolding lsn_at
lsn_is = only_is IsLsn is_lsn eight_is lsn_there lsn_back

inst_is : IsFormat ℕ one IsInst inst_at
unfolding inst_at
inst_is = only_is IsInst (λ n. nat_le 1 n && nat_le n 8) one_is inst_there inst_back

pub ordinal_is : IsFormat ℕ four IsOrdinal ordinal_at
unfolding ordinal_at
ordinal_is = only_is IsOrdinal (nat_le 1) four_is ordinal_there ordinal_back

pub page_is : IsFormat ℕ four (λ n. n < 1024) page_at
unfolding page_at
page_is = only_is (λ n. n < 1024) (λ n. nat_lt n 1024) four_is (λ n. below_there (2 ^ 32) n 1024) (λ n. below_back (2 ^ 32) n 1024 (omega arith))

pub slot_is : IsFormat ℕ two (λ n. n < 168) slot_at
unfolding slot_at
slot_is = only_is (λ n. n < 168) (λ n. nat_lt n 168) two_is (λ n. below_there (2 ^ 16) n 168) (λ n. below_back (2 ^ 16) n 168 (omega arith))

pub capacity_is : IsFormat ℕ two (λ n. n ≤ 256) capacity_at
unfolding capacity_at
capacity_is = only_is (λ n. n ≤ 256) (λ n. nat_le n 256) two_is (λ n. to_there (2 ^ 16) n 256) (λ n. to_back (2 ^ 16) n 256 (omega arith))

-- the ranges of a transaction, one in the other
abbrev IsTriple : TxnId → Type 0
IsTriple t = IsInst t.inst × (IsOrdinal t.epoch × IsOrdinal t.seq)

with_fits : {A : Type 0} {s : A → List ℕ} {F : A → Type 0} {r : Reader A} (G : A → Type 0) → IsFormat A s F r → ((x : A) → F x → G x) → ((x : A) → G x → F x) → IsFormat A s G r
with_fits G a there back = record {
  takes = λ bytes x fits e. let t = a.takes bytes x fits e in (t.0, there x.0 t.1);
  again = λ x rest h. a.again x rest (back x h);
}

triple_is : IsFormat TxnId transaction IsTriple txn_at
unfolding txn_at
triple_is = made_is (λ x. record { inst = x.0; epoch = x.1.0; seq = x.1.1 }) (λ t. (t.inst, (t.epoch, t.seq))) (then_is inst_is (then_is ordinal_is ordinal_is)) (λ x. refl) (λ t. refl)

pub txn_is : IsFormat TxnId transaction IsTxn txn_at
txn_is = with_fits IsTxn triple_is (λ t h. record { low = h.0.0; high = h.0.1; epoch = h.1.0; seq = h.1.1 }) (λ t h. ((h.low, h.high), (h.epoch, h.seq)))

abbrev IsSpan : Span → Type 0
IsSpan s = IsTxn s.0 × (s.1 < 2 ^ 64) × (s.2 < 2 ^ 64)

nested_span_is : IsFormat Span span (λ s. IsTxn s.0 × ((s.1 < 2 ^ 64) × (s.2 < 2 ^ 64))) span_at
unfolding span_at
nested_span_is = made_is (λ x. (x.0, x.1.0, x.1.1)) (λ s. (s.0, (s.1, s.2))) (then_is txn_is (then_is eight_is eight_is)) (λ x. refl) (λ s. refl)

span_is : IsFormat Span span IsSpan span_at
span_is = with_fits IsSpan nested_span_is (λ s h. (h.0, h.1.0, h.1.1)) (λ s h. (h.0, (h.1, h.2)))

changed_is : IsFormat Changed changed (λ c. (c.0 < 1024) × (c.1 < 2 ^ 64)) changed_at
unfolding changed_at
changed_is = then_is page_is eight_is

-- ---- a value

pub chosen : {A : Type 0} (b : Bool) (x y z : A) → cond b x y ≡ z → ((b ≡ true) × (x ≡ z)) ⊎ ((b ≡ false) × (y ≡ z))
chosen true x y z e = inl (refl, e)
chosen false x y z e = inr (refl, e)

some_is : {A : Type 0} (x y : A) → ◌≡◌ {A = Option A} (Some x) (Some y) → x ≡ y
some_is x y e = cc

Valued : List ℕ → Option (List ℕ) × List ℕ → Type 0
Valued bytes x = Takes (value x.0) bytes x.1 × IsValue x.0

none_taken : (len : ℕ) (bytes rest : List ℕ) (x : Option (List ℕ) × List ℕ) → Takes (two len) bytes rest → len ≡ 65535 → ◌≡◌ {A = Option (Option (List ℕ) × List ℕ)} (Some (None, rest)) (Some x) → Valued bytes x
unfolding Valued
none_taken len bytes rest x t is e =
    let here : Takes (two 65535) bytes rest = subst (λ (n : ℕ). Takes (two n) bytes rest) is t in
    subst (λ (y : Option (List ℕ) × List ℕ). Takes (value y.0) bytes y.1 × IsValue y.0) (some_is (None, rest) x e) (here, tt)

some_taken : (len : ℕ) (bytes rest : List ℕ) (x : Option (List ℕ) × List ℕ) → Takes (two len) bytes rest → len ≤ 256 → made Some (bytes_at len) rest ≡ Some x → Valued bytes x
unfolding Valued
some_taken len bytes rest x t le e =
    let q = map_some (λ (y : List ℕ × List ℕ). (Some y.0, y.1)) (bytes_at len rest) x e in
    let u = (bytes_is len).takes rest q.0 t.rest_fits q.1 in
    let both = Takes-then bytes (two len) rest q.0.0 q.0.1 t u.0 in
    let whole : Takes (two (length q.0.0) ++ q.0.0) bytes q.0.1 = subst (λ (n : ℕ). Takes (two n ++ q.0.0) bytes q.0.1) (sym u.1) both in
    let small : length q.0.0 ≤ 256 = omega (arith, u.1) in
    subst (λ (y : Option (List ℕ) × List ℕ). Takes (value y.0) bytes y.1 × IsValue y.0) q.2 (whole, small)

no_value : (x : Option (List ℕ) × List ℕ) → ◌≡◌ {A = Option (Option (List ℕ) × List ℕ)} None (Some x) → ⊥
no_value x e = cc

value_takes : (bytes : List ℕ) (x : Option (List ℕ) × List ℕ) → IsBytes bytes → value_at bytes ≡ Some x → Valued bytes x
unfolding value_at
value_takes bytes x fits e =
    let p = and_then_some (λ (n : ℕ × List ℕ). value_behind n.0 n.1) (number_at w16 bytes) x e in
    let len = p.0.0 in
    let rest = p.0.1 in
    let t = two_is.takes bytes p.0 fits p.1 in
    let some_part : Option (Option (List ℕ) × List ℕ) = cond (nat_le len 256) (made Some (bytes_at len) rest) None in
    elim (chosen (eqb len 65535) (Some (None, rest)) some_part (Some x) p.2) [
      | inl none ↦ none_taken len bytes rest x t.0 (eqb-true len 65535 none.0) none.1
      | inr other ↦ elim (chosen (nat_le len 256) (made Some (bytes_at len) rest) None (Some x) other.1) [
        | inl some ↦ some_taken len bytes rest x t.0 (leb-true len 256 some.0) some.1
        | inr long ↦ absurd (no_value x long.1)
      ]
    ]

value_again : (v : Option (List ℕ)) (rest : List ℕ) → IsValue v → value_at (value v ++ rest) ≡ Some (v, rest)
unfolding value_at
value_again None rest h = rw (two_is.again 65535 rest (omega arith)) refl
value_again (Some bytes) rest h =
    let other : eqb (length bytes) 65535 ≡ false = grind (arith, nat_tests) in
    let small : nat_le (length bytes) 256 ≡ true = le-leb (length bytes) 256 h in
    rw (append_assoc (two (length bytes)) bytes rest, two_is.again (length bytes) (bytes ++ rest) (omega arith), other, small, (bytes_is (length bytes)).again bytes rest refl) refl

pub value_is : IsFormat (Option (List ℕ)) value IsValue value_at
unfolding Valued
value_is = record { takes = value_takes; again = value_again }

-- ---- lists

items_take : {A : Type 0} (s : A → List ℕ) (F : A → Type 0) (item : Reader A) → IsFormat A s F item → (n : ℕ) (bytes : List ℕ) (x : List A × List ℕ) → IsBytes bytes → items_at item n bytes ≡ Some x
    → Takes (flat_map s x.0) bytes x.1 × (length x.0 ≡ n) × AllByRecursion F x.0
unfolding items_at
items_take {A} s F item a zero bytes x fits e =
    subst (λ (y : List A × List ℕ). Takes (flat_map s y.0) bytes y.1 × (length y.0 ≡ 0) × AllByRecursion F y.0) (some_is ([], bytes) x e) (record { parts = refl; rest_fits = fits }, refl, tt)
items_take {A} s F item a (suc n) bytes x fits e =
    let p = and_then_some (λ (first : A × List ℕ). option_map (λ (others : List A × List ℕ). (first.0 ∷ others.0, others.1)) (items_at item n first.1)) (item bytes) x e in
    let q = map_some (λ (others : List A × List ℕ). (p.0.0 ∷ others.0, others.1)) (items_at item n p.0.1) x p.2 in
    let first = a.takes bytes p.0 fits p.1 in
    let others = items_take s F item a n p.0.1 q.0 first.0.rest_fits q.1 in
    let both : Takes (flat_map s (p.0.0 ∷ q.0.0)) bytes q.0.1 = Takes-then bytes (s p.0.0) p.0.1 (flat_map s q.0.0) q.0.1 first.0 others.0 in
    subst (λ (y : List A × List ℕ). Takes (flat_map s y.0) bytes y.1 × (length y.0 ≡ suc n) × AllByRecursion F y.0) q.2 (both, ap suc others.1, (first.1, others.2))

items_again : {A : Type 0} (s : A → List ℕ) (F : A → Type 0) (item : Reader A) → IsFormat A s F item → (xs : List A) (rest : List ℕ) → AllByRecursion F xs → items_at item (length xs) (flat_map s xs ++ rest) ≡ Some (xs, rest)
unfolding items_at
items_again s F item a [] rest fits = refl
items_again s F item a (x ∷ xs) rest fits =
    let regrouped : flat_map s (x ∷ xs) ++ rest ≡ s x ++ (flat_map s xs ++ rest) = append_assoc (s x) (flat_map s xs) rest in
    ap (items_at item (suc (length xs))) regrouped ∙ rw (a.again x (flat_map s xs ++ rest) fits.0, items_again s F item a xs rest fits.1) refl

counted_takes : {A : Type 0} (s : A → List ℕ) (F : A → Type 0) (item : Reader A) → IsFormat A s F item → (bytes : List ℕ) (x : List A × List ℕ) → IsBytes bytes → counted_at item bytes ≡ Some x
    → Takes (counted s x.0) bytes x.1 × ((length x.0 < 2 ^ 16) × AllByRecursion F x.0)
counted_takes {A} s F item a bytes x fits e =
    let p = and_then_some (λ (n : ℕ × List ℕ). items_at item n.0 n.1) (number_at w16 bytes) x e in
    let first = two_is.takes bytes p.0 fits p.1 in
    let others = items_take s F item a p.0.0 p.0.1 x first.0.rest_fits p.2 in
    let both = Takes-then bytes (two p.0.0) p.0.1 (flat_map s x.0) x.1 first.0 others.0 in
    (subst (λ (n : ℕ). Takes (two n ++ flat_map s x.0) bytes x.1) (sym others.1) both, (omega (arith, others.1, first.1), others.2))

counted_is : {A : Type 0} (s : A → List ℕ) (F : A → Type 0) (item : Reader A) → IsFormat A s F item → IsFormat (List A) (counted s) (λ xs. (length xs < 2 ^ 16) × AllByRecursion F xs) (counted_at item)
counted_is s F item a = record {
  takes = counted_takes s F item a;
  again = λ xs rest h. rw (append_assoc (two (length xs)) (flat_map s xs) rest, two_is.again (length xs) (flat_map s xs ++ rest) h.0) (items_again s F item a xs rest h.1);
}

pub spans_is : IsFormat (List Span) (counted span) AreSpans spans_at
unfolding spans_at
spans_is = only_is AreSpans (is_rising (λ s t. is_before s.0 t.0)) (counted_is span IsSpan span_at span_is)
    (λ xs h e. record { count = h.0; each = h.1; rising = e }) (λ xs h. ((h.count, h.each), h.rising))

pub recs_is : IsFormat (List Changed) (counted changed) AreRecs recs_at
unfolding recs_at
recs_is = only_is AreRecs (is_rising (λ c d. nat_lt c.0 d.0)) (counted_is changed (λ c. (c.0 < 1024) × (c.1 < 2 ^ 64)) changed_at changed_is)
    (λ xs h e. record { count = h.0; each = h.1; rising = e }) (λ xs h. ((h.count, h.each), h.rising))
