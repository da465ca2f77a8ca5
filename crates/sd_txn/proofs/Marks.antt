-- Marks under the names of a map's keys, in the order of their numbers: for the goals of `Txn` and `trim`.
use Rattle.std.proofs.Common.{◌≡◌, inl, inr, Bool, true, false, cond, ℕ, suc, ◌-◌, ◌≤◌, ◌<◌, List, [], ◌∷◌, ◌++◌, length, filter, leb, nat_lt, Option, None, Some, slice_get, is_some, is_ok, Result, Ok, Err, OnErr, OnOk, refl, sym, ap, subst, ◌∙◌, arith, length-append}
use Rattle.std.proofs.lemmas.Bool.{leb-true, le-leb}
use Rattle.std.proofs.lemmas.Bool.Decides.{leb_tells}
use Rattle.std.proofs.lemmas.List.{map-append}
use Rattle.std.proofs.lemmas.Slice.Eq.{bytes_eq-Decides}
use Rattle.std.specs.List.{AllByRecursion}
use Rattle.std.specs.Map.{lookup, remove_entry}
use Rattle.std.specs.Option.{option_map_or, option_to_list}
use Rattle.std.specs.Str.{bytes_eq}
use Rattle.sd_txn.specs.Marked.{named, ends_above, AreMarks, AreRising}
use Rattle.sd_txn.specs.Transactions.{with_mark}

module _ {X : Type 0} (P : X → Type 0) where
  all-front : (xs : List X) (e : X) → AllByRecursion P (xs ++ e ∷ []) → AllByRecursion P xs × P e
  all-front [] e a = (tt, a.0)
  all-front (x ∷ xs) e a = let rest = all-front xs e a.1 in ((a.0, rest.0), rest.1)

  pub all-push : (xs : List X) (e : X) → AllByRecursion P xs → P e → AllByRecursion P (xs ++ e ∷ [])
  all-push [] e a p = (p, tt)
  all-push (x ∷ xs) e a p = (a.0, all-push xs e a.1 p)

  all-filter : (test : X → Bool) (xs : List X) → AllByRecursion P xs → AllByRecursion P (filter test xs)
  all-filter test [] a = tt
  all-filter test (x ∷ xs) a = elim (test x) as (λ b. AllByRecursion P (cond b (x ∷ filter test xs) (filter test xs))) [
    | true ↦ (a.0, all-filter test xs a.1)
    | false ↦ all-filter test xs a.1
  ]

  pub all-follows : (Q : X → Type 0) → ((x : X) → P x → Q x) → (xs : List X) → AllByRecursion P xs → AllByRecursion Q xs
  all-follows Q so [] a = tt
  all-follows Q so (x ∷ xs) a = (so x a.0, all-follows Q so xs a.1)

pub all-remove_entry : {K V : Type 0} (P : K × V → Type 0) (test : K → Bool) (es : List (K × V)) → AllByRecursion P es → AllByRecursion P (remove_entry test es)
all-remove_entry P test [] a = tt
all-remove_entry P test (e ∷ es) a = elim (test e.0) as (λ b. AllByRecursion P (cond b es (e ∷ remove_entry test es))) [
  | true ↦ a.1
  | false ↦ (a.0, all-remove_entry P test es a.1)
]

-- where a call has succeeded, what it promises at `Ok` holds
pub at_ok : {T E P : Type 0} (r : Result T E) → is_ok r ≡ true → OnOk r P → P
at_ok (Ok x) ok h = h
at_ok (Err e) ok h = cc

pub at_err : {T E P : Type 0} (r : Result T E) → P → OnErr r P
at_err (Ok x) p = tt
at_err (Err e) p = p

pub ok_so : {T E P Q : Type 0} (r : Result T E) → (P → Q) → OnOk r P → OnOk r Q
ok_so (Ok x) so h = so h
ok_so (Err e) so h = tt

pub err_so : {T E P Q : Type 0} (r : Result T E) → (P → Q) → OnErr r P → OnErr r Q
err_so (Ok x) so h = tt
err_so (Err e) so h = so h

pub either_way : {T E P Q G : Type 0} (r : Result T E) → OnOk r P → OnErr r Q → (P → G) → (Q → G) → G
either_way (Ok x) ok err from_ok from_err = from_ok ok
either_way (Err e) ok err from_ok from_err = from_err err

-- ---- marks whose numbers don't fall

abbrev Mark : Type 0
Mark = List ℕ × ℕ

rising-push : (ms : List Mark) (m : Mark) → AreRising ms → AllByRecursion (λ x. x.1 ≤ m.1) ms → AreRising (ms ++ m ∷ [])
rising-push [] m r a = (tt, tt)
rising-push (x ∷ ms) m r a = (all-push (λ later. x.1 ≤ later.1) ms m r.0 a.0, rising-push ms m r.1 a.1)

rising-front : (ms : List Mark) (m : Mark) → AreRising (ms ++ m ∷ []) → AreRising ms
rising-front [] m r = tt
rising-front (x ∷ ms) m r = ((all-front (λ later. x.1 ≤ later.1) ms m r.0).0, rising-front ms m r.1)

rising-last : (ms : List Mark) (m : Mark) → AreRising (ms ++ m ∷ []) → AllByRecursion (λ x. x.1 ≤ m.1) ms
rising-last [] m r = tt
rising-last (x ∷ ms) m r = ((all-front (λ later. x.1 ≤ later.1) ms m r.0).1, rising-last ms m r.1)

rising-filter : (test : Mark → Bool) (ms : List Mark) → AreRising ms → AreRising (filter test ms)
rising-filter test [] r = tt
rising-filter test (x ∷ ms) r = elim (test x) as (λ b. AreRising (cond b (x ∷ filter test ms) (filter test ms))) [
  | true ↦ (all-filter (λ later. x.1 ≤ later.1) test ms r.0, rising-filter test ms r.1)
  | false ↦ rising-filter test ms r.1
]

rising-remove_entry : (test : List ℕ → Bool) (ms : List Mark) → AreRising ms → AreRising (remove_entry test ms)
rising-remove_entry test [] r = tt
rising-remove_entry test (x ∷ ms) r = elim (test x.0) as (λ b. AreRising (cond b ms (x ∷ remove_entry test ms))) [
  | true ↦ r.1
  | false ↦ (all-remove_entry (λ later. x.1 ≤ later.1) test ms r.0, rising-remove_entry test ms r.1)
]

-- a mark of this place goes last
pub AreMarks-with_mark : (ms : List Mark) (depth : ℕ) (name : List ℕ) → AreMarks ms depth → AreMarks (with_mark name depth ms) depth
AreMarks-with_mark ms depth name ok =
    let others = all-remove_entry (λ (x : Mark). x.1 ≤ depth) (bytes_eq name) ms ok.within in
    record {
      rising = rising-push (remove_entry (bytes_eq name) ms) (name, depth) (rising-remove_entry (bytes_eq name) ms ok.rising) others;
      within = all-push (λ (x : Mark). x.1 ≤ depth) (remove_entry (bytes_eq name) ms) (name, depth) others (omega arith);
    }

-- one more record is open
pub AreMarks-more : (ms : List Mark) (depth more : ℕ) → depth ≤ more → AreMarks ms depth → AreMarks ms more
AreMarks-more ms depth more le ok = record {
  rising = ok.rising;
  within = all-follows (λ (x : Mark). x.1 ≤ depth) (λ x. x.1 ≤ more) (λ x h. omega arith) ms ok.within;
}

module _ (left : ℕ) where
  abbrev stays : Mark → Bool
  stays mark = leb mark.1 left

  -- the marks that are left when those above a number go
  pub AreMarks-trimmed : (ms : List Mark) → AreRising ms → AreMarks (filter stays ms) left
  AreMarks-trimmed ms r = record { rising = rising-filter stays ms r; within = below ms }
    where
      below : (ms : List Mark) → AllByRecursion (λ x. x.1 ≤ left) (filter stays ms)
      below [] = tt
      below (m ∷ ms) = (elim (leb m.1 left) as (λ b. leb m.1 left ≡ b → AllByRecursion (λ x. x.1 ≤ left) (cond b (m ∷ filter stays ms) (filter stays ms))) [
        | true ↦ λ t. (leb-true m.1 left t, below ms)
        | false ↦ λ t. below ms
      ]) refl

  pub filter-within : (ms : List Mark) → AllByRecursion (λ x. x.1 ≤ left) ms → filter stays ms ≡ ms
  filter-within [] a = refl
  filter-within (m ∷ ms) a = ap (λ b. cond b (m ∷ filter stays ms) (filter stays ms)) (le-leb m.1 left a.0) ∙ ap (λ l. m ∷ l) (filter-within ms a.1)

  filter-push : (ms : List Mark) (m : Mark) → stays m ≡ false → filter stays (ms ++ m ∷ []) ≡ filter stays ms
  filter-push [] m goes = ap (λ b. cond b (m ∷ []) []) goes
  filter-push (x ∷ ms) m goes = elim (stays x) as (λ b. cond b (x ∷ filter stays (ms ++ m ∷ [])) (filter stays (ms ++ m ∷ [])) ≡ cond b (x ∷ filter stays ms) (filter stays ms)) [
    | true ↦ ap (λ l. x ∷ l) (filter-push ms m goes)
    | false ↦ filter-push ms m goes
  ]

  at_end : (ms : List Mark) (m : Mark) → slice_get (ms ++ m ∷ []) (length ms) ≡ Some m
  at_end [] m = refl
  at_end (x ∷ ms) m = at_end ms m

  ends_above-push : (ms : List Mark) (m : Mark) → ends_above left (ms ++ m ∷ []) ≡ nat_lt left m.1
  ends_above-push ms m =
      let place : length (ms ++ m ∷ []) - 1 ≡ length ms = omega (arith, length-append ms (m ∷ [])) in
      ap (λ o. option_map_or (λ (mark : Mark). nat_lt left mark.1) o false) (ap (slice_get (ms ++ m ∷ [])) place ∙ at_end ms m)

  above : (n : ℕ) → nat_lt left n ≡ true → leb n left ≡ false
  above n t = elim (leb_tells n left) [
    | inl p ↦ let over = leb-true (suc left) n t in absurd (omega (arith, p.1))
    | inr p ↦ p.0
  ]

  not_above : (n : ℕ) → nat_lt left n ≡ false → n ≤ left
  not_above n f = elim (leb_tells (suc left) n) [
    | inl p ↦ let bad : true ≡ false = sym p.0 ∙ f in cc
    | inr p ↦ omega (arith, p.1)
  ]

  split_last : (m : Mark) (ms : List Mark) → (front : List Mark) × (last : Mark) × (m ∷ ms ≡ front ++ last ∷ [])
  split_last m [] = ([], m, refl)
  split_last m (x ∷ ms) = let rest = split_last x ms in (m ∷ rest.0, rest.1, ap (λ l. m ∷ l) rest.2)

  -- where the last mark stays, all stay
  pub filter-not_above : (ms : List Mark) → AreRising ms → ends_above left ms ≡ false → filter stays ms ≡ ms
  filter-not_above [] r e = refl
  filter-not_above (m ∷ ms) r e =
      let s = split_last m ms in
      let low : s.1.1 ≤ left = not_above s.1.1 (sym (ap (ends_above left) s.2 ∙ ends_above-push s.0 s.1) ∙ e) in
      let front = all-follows (λ (x : Mark). x.1 ≤ s.1.1) (λ x. x.1 ≤ left) (λ x h. omega arith) s.0 (rising-last s.0 s.1 (subst AreRising s.2 r)) in
      filter-within (m ∷ ms) (subst (AllByRecursion (λ (x : Mark). x.1 ≤ left)) (sym s.2) (all-push (λ (x : Mark). x.1 ≤ left) s.0 s.1 front low))

-- ---- marks under the keys of a map

-- the last of a list is found, where no other has its key
lookup-push : {K X : Type 0} (test : K → Bool) (es : List (K × X)) (k : K) (x : X) → lookup test es ≡ None → test k ≡ true
    → lookup test (es ++ (k, x) ∷ []) ≡ Some x
lookup-push test [] k x none here = rw here refl
lookup-push {K} {X} test (e ∷ es) k x none here = by (test e.0) (lookup-push test es k x) none
  where
    by : (b : Bool) → (lookup test es ≡ None → test k ≡ true → lookup test (es ++ (k, x) ∷ []) ≡ Some x)
        → cond {A = Option X} b (Some e.1) (lookup test es) ≡ None
        → cond {A = Option X} b (Some e.1) (lookup test (es ++ (k, x) ∷ [])) ≡ Some x
    by true later off = absurd (cc)
    by false later off = later off here

module _ {K : Type 0} (bytes : K → List ℕ) where
  module _ (left : ℕ) where
    abbrev pub kept : List (K × ℕ) → List Mark
    kept es = filter (stays left) (named bytes es)

    pub record Trims (old new : List (K × ℕ)) : Type 0 where
      pub rising : AreRising (named bytes new)
      pub same : kept new ≡ kept old
      pub shorter : length new < length old

    some_above : (es : List (K × ℕ)) → ends_above left (named bytes es) ≡ true → 0 < length es
    some_above [] a = cc
    some_above (e ∷ es) a = omega arith

    -- a mark above the number is taken from the end
    pub Trims-pop : (old new : List (K × ℕ)) (r : Option (K × ℕ)) → old ≡ new ++ option_to_list r → (0 < length old → is_some r ≡ true)
        → ends_above left (named bytes old) ≡ true → AreRising (named bytes old) → Trims old new
    Trims-pop old new None e found a rising = let bad : false ≡ true = found (some_above old a) in cc
    Trims-pop old new (Some x) e found a rising =
        let m : Mark = (bytes x.0, x.1) in
        let split : named bytes old ≡ named bytes new ++ m ∷ [] = ap (named bytes) e ∙ map-append (λ (y : K × ℕ). (bytes y.0, y.1)) new (x ∷ []) in
        let goes : stays left m ≡ false = above left x.1 (sym (ap (ends_above left) split ∙ ends_above-push left (named bytes new) m) ∙ a) in
        record {
          rising = rising-front (named bytes new) m (subst AreRising split rising);
          same = sym (ap (filter (stays left)) split ∙ filter-push left (named bytes new) m goes);
          shorter = let one = ap length e in omega (arith, length-append new (x ∷ []));
        }

  module _ (name : List ℕ) where
    -- the key has these bytes
    abbrev pub is_named : K → Bool
    is_named k = bytes_eq name (bytes k)

    pub lookup-named : (es : List (K × ℕ)) → lookup is_named es ≡ lookup (bytes_eq name) (named bytes es)
    lookup-named [] = refl
    lookup-named (e ∷ es) = ap (λ r. cond (is_named e.0) (Some e.1) r) (lookup-named es)

    pub named-remove_entry : (es : List (K × ℕ)) → named bytes (remove_entry is_named es) ≡ remove_entry (bytes_eq name) (named bytes es)
    named-remove_entry [] = refl
    named-remove_entry (e ∷ es) = elim (is_named e.0) as (λ b. named bytes (cond b es (e ∷ remove_entry is_named es)) ≡ cond b (named bytes es) ((bytes e.0, e.1) ∷ remove_entry (bytes_eq name) (named bytes es))) [
      | true ↦ refl
      | false ↦ ap (λ l. (bytes e.0, e.1) ∷ l) (named-remove_entry es)
    ]

  -- ---- as `put_mark` leaves them

  named-push : (es : List (K × ℕ)) (k : K) (n : ℕ) → named bytes (es ++ (k, n) ∷ []) ≡ named bytes es ++ (bytes k, n) ∷ []
  named-push es k n = map-append (λ (y : K × ℕ). (bytes y.0, y.1)) es ((k, n) ∷ [])

  pub named-with_mark : (old out new : List (K × ℕ)) (k : K) (n : ℕ) → out ≡ remove_entry (is_named (bytes k)) old → new ≡ out ++ (k, n) ∷ []
      → named bytes new ≡ with_mark (bytes k) n (named bytes old)
  named-with_mark old out new k n o e = ap (named bytes) e ∙ named-push out k n ∙ ap (λ l. l ++ (bytes k, n) ∷ []) (ap (named bytes) o ∙ named-remove_entry (bytes k) old)

  -- under a name that stood there no more the new mark is found
  pub number-pushed : (out new : List (K × ℕ)) (k : K) (n : ℕ) → lookup (is_named (bytes k)) out ≡ None → new ≡ out ++ (k, n) ∷ []
      → lookup (bytes_eq (bytes k)) (named bytes new) ≡ Some n
  number-pushed out new k n absent e = ap (λ (es : List (K × ℕ)). lookup (bytes_eq (bytes k)) (named bytes es)) e
      ∙ ap (lookup (bytes_eq (bytes k))) (named-push out k n)
      ∙ lookup-push (bytes_eq (bytes k)) (named bytes out) (bytes k) n (sym (lookup-named (bytes k) out) ∙ absent)
      ((bytes_eq-Decides (bytes k) (bytes k)).1 refl)
