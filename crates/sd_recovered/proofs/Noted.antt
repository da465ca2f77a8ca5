-- The LSN of each page's first change that is redone. It serves the goals of redoing.rt and merging.rt.
use Rattle.std.proofs.Common.{◌≡◌, ◌≢◌, ⊎_elim, ℕ, ◌+◌, ◌<◌, ◌≤◌, Bool, true, false, cond, eqb, ltb, ◌||◌, List, [], ◌∷◌, ◌++◌, Option, None, Some, length, map, take, get_or, set, refl, sym, ap, ap₂, ◌∙◌, subst, arith, eq-eqb, get_or-set_same, get_or-set_other, ltb-true, ltb-false, unwrap_or}
use Rattle.std.specs.Prelude.{All, IsPermutation, option_map, slice_get}
use Rattle.std.specs.List.{list_any}
use Rattle.std.proofs.lemmas.Bool.{cases_eq}
use Rattle.std.proofs.lemmas.List.{append-nil, length-set, take_more}
use Rattle.std.proofs.lemmas.List.Elements.{All-cons, All-nil}
use Rattle.std.proofs.lemmas.List.Sorted.{All-permutation, IsPermutation-sym, list_any-IsPermutation}
use Rattle.std.proofs.lemmas.Option.{get_or_from_slice_get, slice_get-get_or, slice_get-map, slice_get_within}
use Rattle.sd_base.proofs.Lists.{stands_at}
use Rattle.sd_logrec.specs.View.{Rec}
use Rattle.sd_page.specs.Page.{Page, empty_page}
use Rattle.sd_chain.specs.Storage.{inserted, sorted}
use Rattle.sd_chain.specs.Records.{Each}
use Rattle.sd_chain.proofs.Lists.{Each-sorted, Each-weaker}
use Rattle.sd_chain.proofs.Sorts.{Each-from_all, Slow}
use Rattle.sd_redo.specs.declared.change.Change.{Change}
use Rattle.sd_redo.specs.Changes.{IsChange, chain_of, redone_of}
use Rattle.sd_recovered.specs.FirstAbove.{IsFirstAbove}
use Rattle.sd_recovered.specs.Redone.{IsNoted, first_above, noted}
use Rattle.sd_recovered.proofs.RedoSteps.{chain_here, chain_of-append, chain_there, disk_lsn_is}

-- ---- one change further

first_above-push : (floor : ℕ) (xs : List Rec) (x : Rec) → first_above floor (xs ++ x ∷ []) ≡ noted floor (first_above floor xs) x
first_above-push floor [] x = refl
first_above-push floor (y ∷ ys) x = go (ltb floor y.lsn) (ltb floor x.lsn) (first_above-push floor ys x)
  where
    go : (b c : Bool) → first_above floor (ys ++ x ∷ []) ≡ cond c (Some (unwrap_or (first_above floor ys) x.lsn)) (first_above floor ys)
        → cond b (Some y.lsn) (first_above floor (ys ++ x ∷ []))
        ≡ cond c (Some (unwrap_or (cond b (Some y.lsn) (first_above floor ys)) x.lsn)) (cond b (Some y.lsn) (first_above floor ys))
    go true true ih = refl
    go true false ih = refl
    go false c ih = ih

-- before the first change
abbrev pub no_lsn : Page → Option ℕ
no_lsn page = None

pub none_at : (pages : List Page) (p : ℕ) → p < length pages → slice_get (map no_lsn pages) p ≡ Some None
none_at pages p lt =
    let there = stands_at pages p lt in
    slice_get-map no_lsn pages p ∙ ap (option_map no_lsn) there.1

pub none_noted : (p : ℕ) (old : List Page) (firsts : List (Option ℕ)) → p < length old → slice_get firsts p ≡ Some None
    → IsNoted p [] old firsts
none_noted p old firsts lt none = record {
  page = get_or old p (empty_page p);
  before = slice_get-get_or old p (empty_page p) lt;
  first = none;
}

-- a change that is noted where it is redone
pub record Notes (c : Change) (old : List Page) (lsns : List ℕ) (firsts : List (Option ℕ)) (first after : Option ℕ) : Type 0 where
  pub is : IsChange c
  pub within : c.page < length firsts
  pub lsns_are : lsns ≡ map (λ page. page.lsn) old
  pub first_is : first ≡ get_or firsts c.page first
  pub noted_is : after ≡ noted (get_or lsns c.page 0) first (redone_of c)

module _ (c : Change) (old : List Page) (lsns : List ℕ) (firsts : List (Option ℕ)) (first after : Option ℕ)
    (notes : Notes c old lsns firsts first after) (xs : List Change) where
  len : length (set firsts c.page after) ≡ length firsts
  len = length-set firsts c.page after

  noted_other : (p : ℕ) → c.page ≢ p → IsNoted p xs old firsts → IsNoted p (xs ++ c ∷ []) old (set firsts c.page after)
  noted_other p ne n =
      let same : chain_of p (xs ++ c ∷ []) ≡ chain_of p xs = chain_of-append p xs (c ∷ [])
      ∙ ap (λ l. chain_of p xs ++ l) (chain_there c p notes.is ne) ∙ append-nil (chain_of p xs) in
      let lt : p < length firsts = slice_get_within firsts p _ n.first in
      let long = len in
      let other : p ≢ c.page = λ e. ne (sym e) in record {
        page = n.page;
        before = n.before;
        first = slice_get-get_or (set firsts c.page after) p first (omega arith)
            ∙ ap (λ q. Some q) (get_or-set_other firsts c.page p after first other)
            ∙ sym (slice_get-get_or firsts p first lt) ∙ n.first ∙ ap (λ l. Some (first_above n.page.lsn l)) (sym same);
      }

  noted_here : IsNoted c.page xs old firsts → IsNoted c.page (xs ++ c ∷ []) old (set firsts c.page after)
  noted_here n =
      let p : ℕ = c.page in
      let chain : List Rec = chain_of p xs in
      let one : chain_of p (xs ++ c ∷ []) ≡ chain ++ redone_of c ∷ [] = chain_of-append p xs (c ∷ [])
      ∙ ap (λ l. chain ++ l) (chain_here c notes.is) in
      let low : get_or lsns p 0 ≡ n.page.lsn = disk_lsn_is old lsns p n.page notes.lsns_are n.before in
      let found : first ≡ first_above n.page.lsn chain = notes.first_is
      ∙ get_or_from_slice_get firsts p (first_above n.page.lsn chain) first n.first in
      let long = len in
      let lt : p < length firsts = notes.within in record {
        page = n.page;
        before = n.before;
        first = slice_get-get_or (set firsts p after) p first (omega arith)
            ∙ ap (λ q. Some q) (get_or-set_same firsts p after first lt ∙ notes.noted_is
            ∙ ap₂ (λ (f : ℕ) (o : Option ℕ). noted f o (redone_of c)) low found ∙ sym (first_above-push n.page.lsn chain (redone_of c))
            ∙ ap (first_above n.page.lsn) (sym one));
      }

  noted_next : (p : ℕ) → IsNoted p xs old firsts → IsNoted p (xs ++ c ∷ []) old (set firsts c.page after)
  noted_next p n = ⊎_elim
      (λ e. subst (λ q. IsNoted q (xs ++ c ∷ []) old (set firsts c.page after)) e
      (noted_here (subst (λ q. IsNoted q xs old firsts) (sym e) n)))
      (λ ne. noted_other p ne n)
      (cases_eq c.page p)

pub noted_more : (xs : List Change) (i : ℕ) (c : Change) (old : List Page) (lsns : List ℕ)
    (firsts : List (Option ℕ)) (first after : Option ℕ)
    → i < length xs → c ≡ get_or xs i c → Notes c old lsns firsts first after
    → (p : ℕ) → IsNoted p (take i xs) old firsts → IsNoted p (take (i + 1) xs) old (set firsts c.page after)
noted_more xs i c old lsns firsts first after lt is notes p n =
    subst (λ l. IsNoted p l old (set firsts c.page after)) (ap (λ d. take i xs ++ d ∷ []) is ∙ sym (take_more xs i c lt))
    (noted_next c old lsns firsts first after notes (take i xs) p n)

-- ---- of a chain

test_lsn : ℕ → Rec → Bool
test_lsn l x = eqb x.lsn l

below_stays : (floor : ℕ) (x : Rec) (xs : List Rec) (o : Option ℕ) → x.lsn ≤ floor
    → IsFirstAbove xs floor o → IsFirstAbove (x ∷ xs) floor o
below_stays floor x xs None le a = (le, a)
below_stays floor x xs (Some l) le a = record {
  above = a.above;
  there = or_right (eqb x.lsn l) (list_any (λ z. eqb z.lsn l) xs) a.there;
  least = (λ up. absurd (omega arith), a.least);
}
  where
    or_right : (b c : Bool) → c ≡ true → (b || c) ≡ true
    or_right true c e = refl
    or_right false c e = e

-- where LSNs don't fall, it is the least one
first_least : (floor : ℕ) (xs : List Rec) → Slow xs → IsFirstAbove xs floor (first_above floor xs)
first_least floor [] s = tt
first_least floor (x ∷ xs) s = go (ltb floor x.lsn) refl (first_least floor xs s.1)
  where
    go : (b : Bool) → ltb floor x.lsn ≡ b → IsFirstAbove xs floor (first_above floor xs)
        → IsFirstAbove (x ∷ xs) floor (cond b (Some x.lsn) (first_above floor xs))
    go true is ih = record {
      above = ltb-true floor x.lsn is;
      there = ap (λ b. b || list_any (λ z. eqb z.lsn x.lsn) xs) (eq-eqb x.lsn x.lsn refl);
      least = (λ up. omega arith, Each-weaker (λ z. x.lsn ≤ z.lsn) (λ z. floor < z.lsn → x.lsn ≤ z.lsn) (λ z le up. le) xs s.0);
    }
    go false is ih = below_stays floor x xs (first_above floor xs) (ltb-false floor x.lsn is) ih

-- and so of the same records in another order
All-from_each : (P : Rec → Type 0) (xs : List Rec) → Each P xs → All P xs
All-from_each P [] a = All-nil P
All-from_each P (x ∷ xs) a = All-cons P x xs a.0 (All-from_each P xs a.1)

or_swap : (a b c : Bool) → (a || (b || c)) ≡ (b || (a || c))
or_swap true true c = refl
or_swap true false c = refl
or_swap false b c = refl

list_any-inserted : (t : Rec → Bool) (x : Rec) (xs : List Rec) → list_any t (inserted x xs) ≡ (t x || list_any t xs)
list_any-inserted t x [] = refl
list_any-inserted t x (y ∷ ys) = go (ltb x.lsn y.lsn) (list_any-inserted t x ys)
  where
    go : (b : Bool) → list_any t (inserted x ys) ≡ (t x || list_any t ys)
        → list_any t (cond b (x ∷ y ∷ ys) (y ∷ inserted x ys)) ≡ (t x || (t y || list_any t ys))
    go true ih = refl
    go false ih = ap (λ b. t y || b) ih ∙ or_swap (t y) (t x) (list_any t ys)

list_any-sorted : (t : Rec → Bool) (xs : List Rec) → list_any t (sorted xs) ≡ list_any t xs
list_any-sorted t [] = refl
list_any-sorted t (x ∷ xs) = list_any-inserted t x (sorted xs) ∙ ap (λ b. t x || b) (list_any-sorted t xs)

module _ (recs merged : List Rec) (same : IsPermutation recs merged) where
  each_sorted : (P : Rec → Type 0) → Each P merged → Each P (sorted recs)
  each_sorted P a = Each-sorted P recs (Each-from_all P recs
      (All-permutation P merged recs (IsPermutation-sym recs merged same) (All-from_each P merged a)))

  any_sorted : (t : Rec → Bool) → list_any t merged ≡ list_any t (sorted recs)
  any_sorted t = sym (list_any-IsPermutation t recs merged same) ∙ sym (list_any-sorted t recs)

  in_order : (floor : ℕ) (o : Option ℕ) → IsFirstAbove merged floor o → IsFirstAbove (sorted recs) floor o
  in_order floor None a = each_sorted (λ x. x.lsn ≤ floor) a
  in_order floor (Some l) a = record {
    above = a.above;
    there = sym (any_sorted (λ x. eqb x.lsn l)) ∙ a.there;
    least = each_sorted (λ x. floor < x.lsn → l ≤ x.lsn) a.least;
  }

  pub first_sorted : (floor : ℕ) → Slow merged → IsFirstAbove (sorted recs) floor (first_above floor merged)
  first_sorted floor slow = in_order floor (first_above floor merged) (first_least floor merged slow)
