-- The record that closes a transaction, and what one record more shows. It serves the goals of table.rt.
use Rattle.std.proofs.Common.{◌≡◌, ◌≢◌, ◌⊎◌, inl, inr, ⊎_elim, ℕ, zero, suc, ◌<◌, ◌≤◌, Bool, true, false, cond, ◌&&◌, List, [], ◌∷◌, ◌++◌, length, take, Option, None, Some, slice_get, refl, sym, ap, ◌∙◌, subst, arith}
use Rattle.std.proofs.lemmas.Bool.{cases_Bool, cases_eq, cases_lt}
use Rattle.std.proofs.lemmas.List.{take-append-le, take_at}
use Rattle.std.proofs.lemmas.Option.{slice_get_within}
use Rattle.sd_base.specs.declared.ids.TxnId.{TxnId}
use Rattle.sd_base.specs.Ids.{same_txn}
use Rattle.sd_logrec.specs.View.{Rec, Kind}
use Rattle.sd_logrec.specs.View.Kind.{Update, Clr, Commit, End, Plain}
use Rattle.sd_chain.specs.Records.{ends, IsOpen}
use Rattle.sd_chain.specs.Order.{speaks, of_txn, none_yet, after_all, first_prev, UndoesTop}
use Rattle.sd_chain.specs.Faults.{LeavesOpen, Skips, UndoesOther}
use Rattle.sd_chain.proofs.Lists.{Each-append}
use Rattle.sd_recovered.specs.Faults.{MayCome}
use Rattle.sd_recovered.specs.Misplaced.{Finds, IsOff}
use Rattle.sd_recovered.specs.Seen.{EndsAt, IsFirstEnd, Judged, closed_by}
use Rattle.sd_recovered.proofs.Misplaced.{any_behind, dec_empty, dec_top, front_get, mid_get}
use Rattle.sd_chain.proofs.Whose.{both, ends-off, own_is}
use Rattle.sd_recovered.proofs.MisplacedSteps.{IsWrongHere, Shuts, shown}
use Rattle.sd_base.proofs.SameIds.{eq-same}

-- ---- records that close nothing

open_at : (t : TxnId) (xs : List Rec) (k : ℕ) (x : Rec) → IsOpen t xs → slice_get xs k ≡ Some x → (ends x.kind && same_txn x.txn t) ≡ false
open_at t [] k x o e = absurd (cc)
open_at t (y ∷ ys) zero x o e = let same : y ≡ x = cc in subst (λ (z : Rec). (ends z.kind && same_txn z.txn t) ≡ false) same o.0
open_at t (y ∷ ys) (suc k) x o e = open_at t ys k x o.1 e

-- so none of them closes it
pub open_shuts : (t : TxnId) (xs : List Rec) (k : ℕ) (y : Rec) → IsOpen t xs → slice_get xs k ≡ Some y → ends y.kind ≡ true → y.txn ≡ t → ⊥
open_shuts t xs k y o there closes named =
    let closed : (ends y.kind && same_txn y.txn t) ≡ true = let e = eq-same y.txn t named in rw (closes, e) refl in
    let open_ : (ends y.kind && same_txn y.txn t) ≡ false = open_at t xs k y o there in
    let c = sym open_ ∙ closed in absurd (cc)

get_take : (xs : List Rec) (j k : ℕ) → j < k → slice_get (take k xs) j ≡ slice_get xs j
get_take [] zero zero lt = refl
get_take [] zero (suc k) lt = refl
get_take [] (suc j) zero lt = refl
get_take [] (suc j) (suc k) lt = refl
get_take (x ∷ xs) j zero lt = absurd (omega arith)
get_take (x ∷ xs) zero (suc k) lt = refl
get_take (x ∷ xs) (suc j) (suc k) lt = get_take xs j k (omega arith)

-- ---- with one record more

pub ends_still : (t : TxnId) (xs : List Rec) (x : Rec) (k : ℕ) → IsFirstEnd xs t k → IsFirstEnd (xs ++ x ∷ []) t k
ends_still t xs x k e =
    let lt : k < length xs = slice_get_within xs k e.here e.there in
    record {
      here = e.here;
      there = front_get xs (x ∷ []) k lt ∙ e.there;
      own = e.own;
      closes = e.closes;
      before = subst (IsOpen t) (sym (take-append-le k xs (x ∷ []) (omega arith))) e.before;
    }

pub ends_off : (t : TxnId) (xs : List Rec) (x : Rec) (closed : Option ℕ) → of_txn t x ≡ false → EndsAt xs t closed → EndsAt (xs ++ x ∷ []) t closed
ends_off t xs x None off o = Each-append (λ (z : Rec). (ends z.kind && same_txn z.txn t) ≡ false) xs (x ∷ []) o (ends-off t x off, tt)
ends_off t xs x (Some k) off e = ends_still t xs x k e

pub ends_own : (xs : List Rec) (x : Rec) (closed : Option ℕ) → of_txn x.txn x ≡ true → EndsAt xs x.txn closed → EndsAt (xs ++ x ∷ []) x.txn (closed_by (length xs) x closed)
ends_own xs x None own o = ⊎_elim
    (λ is. subst (λ (b : Bool). EndsAt (xs ++ x ∷ []) x.txn (cond b (Some (length xs)) None)) (sym is) (record {
      here = x;
      there = mid_get xs [] x;
      own = own;
      closes = is;
      before = subst (IsOpen x.txn) (sym (take_at xs (x ∷ []) (length xs) refl)) o;
    }))
    (λ no. subst (λ (b : Bool). EndsAt (xs ++ x ∷ []) x.txn (cond b (Some (length xs)) None)) (sym no)
    (Each-append (λ (z : Rec). (ends z.kind && same_txn z.txn x.txn) ≡ false) xs (x ∷ []) o (ap (λ b. b && same_txn x.txn x.txn) no, tt)))
    (cases_Bool (ends x.kind))
ends_own xs x (Some k) own e = ends_still x.txn xs x k e

-- ---- what it shows

dec_clr : (x : Rec) → (x.kind ≡ Clr) ⊎ (x.kind ≢ Clr)
dec_clr x = go x.kind refl
  where
    go : (k : Kind) → x.kind ≡ k → (x.kind ≡ Clr) ⊎ (x.kind ≢ Clr)
    go Clr e = inl e
    go Update e = inr (λ f. let c = sym e ∙ f in absurd (cc))
    go Commit e = inr (λ f. let c = sym e ∙ f in absurd (cc))
    go End e = inr (λ f. let c = sym e ∙ f in absurd (cc))
    go Plain e = inr (λ f. let c = sym e ∙ f in absurd (cc))

dec_end : (x : Rec) → (x.kind ≡ End) ⊎ (x.kind ≢ End)
dec_end x = go x.kind refl
  where
    go : (k : Kind) → x.kind ≡ k → (x.kind ≡ End) ⊎ (x.kind ≢ End)
    go End e = inl e
    go Update e = inr (λ f. let c = sym e ∙ f in absurd (cc))
    go Clr e = inr (λ f. let c = sym e ∙ f in absurd (cc))
    go Commit e = inr (λ f. let c = sym e ∙ f in absurd (cc))
    go Plain e = inr (λ f. let c = sym e ∙ f in absurd (cc))

-- a record that may not come
wrong_of : (xs : List Rec) (x : Rec) (prev : ℕ) → prev ≡ first_prev x.txn (xs ++ x ∷ []) → (MayCome (after_all x.txn none_yet xs) prev x → ⊥) → IsWrongHere xs x
wrong_of xs x prev first bad = go (cases_eq (after_all x.txn none_yet xs).last 0) (cases_eq x.prev (after_all x.txn none_yet xs).last)
  where
    undo : (x.kind ≡ End → (after_all x.txn none_yet xs).open_ones ≡ []) → ((after_all x.txn none_yet xs).last ≢ 0 → x.prev ≡ (after_all x.txn none_yet xs).last) → IsWrongHere xs x
    undo ended named = pick (dec_clr x) (cases_eq prev 0) (dec_top x (after_all x.txn none_yet xs).open_ones)
      where
        pick : ((x.kind ≡ Clr) ⊎ (x.kind ≢ Clr)) → ((prev ≡ 0) ⊎ (prev ≢ 0)) → (UndoesTop x (after_all x.txn none_yet xs).open_ones ⊎ (UndoesTop x (after_all x.txn none_yet xs).open_ones → ⊥)) → IsWrongHere xs x
        pick (inl k) (inl z) (inr never) = inr (inr (k, sym first ∙ z, never))
        pick (inr k) z u = absurd (bad record { next = record { prev = named; done = ended }; undo = λ e is. absurd (k is) })
        pick (inl k) (inr z) u = absurd (bad record { next = record { prev = named; done = ended }; undo = λ e is. absurd (z e) })
        pick (inl k) (inl z) (inl u) = absurd (bad record { next = record { prev = named; done = ended }; undo = λ e is. u })

    end : ((after_all x.txn none_yet xs).last ≢ 0 → x.prev ≡ (after_all x.txn none_yet xs).last) → IsWrongHere xs x
    end named = pick (dec_end x) (dec_empty (after_all x.txn none_yet xs).open_ones)
      where
        pick : ((x.kind ≡ End) ⊎ (x.kind ≢ End)) → (((after_all x.txn none_yet xs).open_ones ≡ []) ⊎ ((after_all x.txn none_yet xs).open_ones ≢ [])) → IsWrongHere xs x
        pick (inl k) (inr some) = inr (inl (k, some))
        pick (inl k) (inl none) = undo (λ e. none) named
        pick (inr k) o = undo (λ e. absurd (k e)) named

    go : (((after_all x.txn none_yet xs).last ≡ 0) ⊎ ((after_all x.txn none_yet xs).last ≢ 0)) → ((x.prev ≡ (after_all x.txn none_yet xs).last) ⊎ (x.prev ≢ (after_all x.txn none_yet xs).last)) → IsWrongHere xs x
    go (inr some) (inr ne) = inl (some, ne)
    go (inl none) p = end (λ some. absurd (some none))
    go (inr some) (inl e) = end (λ _. e)

-- one that may is right
right_of : (xs : List Rec) (x : Rec) (prev : ℕ) → prev ≡ first_prev x.txn (xs ++ x ∷ []) → MayCome (after_all x.txn none_yet xs) prev x → IsWrongHere xs x → ⊥
right_of xs x prev first may (inl s) = s.1 (may.next.prev s.0)
right_of xs x prev first may (inr (inl e)) = e.1 (may.next.done e.0)
right_of xs x prev first may (inr (inr u)) = u.2 (may.undo (first ∙ u.1) u.0)

off_at : (xs : List Rec) (x : Rec) → of_txn x.txn x ≡ true → IsWrongHere xs x → IsOff (xs ++ x ∷ []) (length xs)
off_at xs x own w = record {
  here = x;
  there = mid_get xs [] x;
  own = (both (speaks x.kind) (same_txn x.txn x.txn) own).0;
  wrong = inr (subst (λ (l : List Rec). Skips (after_all x.txn none_yet l) x ⊎ (LeavesOpen (after_all x.txn none_yet l) x ⊎ UndoesOther (xs ++ x ∷ []) (after_all x.txn none_yet l) x)) (sym (take_at xs (x ∷ []) (length xs) refl)) w);
}

-- the record that closed the transaction
off_before : (xs : List Rec) (x : Rec) (k : ℕ) → of_txn x.txn x ≡ true → IsFirstEnd xs x.txn k → IsOff (xs ++ x ∷ []) k
off_before xs x k own e =
    let lt : k < length xs = slice_get_within xs k e.here e.there in
    let named : e.here.txn ≡ x.txn = own_is x.txn e.here e.own in
    record {
      here = e.here;
      there = front_get xs (x ∷ []) k lt ∙ e.there;
      own = (both (speaks e.here.kind) (same_txn e.here.txn x.txn) e.own).0;
      wrong = inl (e.closes, any_behind (of_txn e.here.txn) (xs ++ x ∷ []) k (length xs) x lt (mid_get xs [] x) (ap (λ (u : TxnId). of_txn u x) named ∙ own));
    }

-- a transaction that runs
finds_open : (xs : List Rec) (x : Rec) (found : Option ℕ) (prev : ℕ) → of_txn x.txn x ≡ true → prev ≡ first_prev x.txn (xs ++ x ∷ []) → IsOpen x.txn xs → Judged (length xs) (MayCome (after_all x.txn none_yet xs) prev x) found
    → Finds xs (xs ++ x ∷ []) found
finds_open xs x None prev own first runs may = record {
  hit = tt;
  others = λ j off. ⊎_elim (λ old. inl old) (λ new. absurd (⊎_elim (λ h. right_of xs x prev first may h.2) (λ s. open_shuts x.txn xs j s.here runs s.there s.closes (sym (own_is s.here.txn x s.same))) new)) (shown xs x j off);
}
finds_open xs x (Some k) prev own first runs judged = record {
  hit = subst (IsOff (xs ++ x ∷ [])) (sym judged.0) (off_at xs x own (wrong_of xs x prev first judged.1));
  others = λ j off. ⊎_elim (λ old. inl old) (λ new. ⊎_elim (λ h. inr (let at = h.0 in let is = judged.0 in omega arith)) (λ s. absurd (open_shuts x.txn xs j s.here runs s.there s.closes (sym (own_is s.here.txn x s.same)))) new) (shown xs x j off);
}

-- one that was closed
pub finds_shut : (xs : List Rec) (x : Rec) (k : ℕ) → of_txn x.txn x ≡ true → IsFirstEnd xs x.txn k → Finds xs (xs ++ x ∷ []) (Some k)
finds_shut xs x k own e = record {
  hit = off_before xs x k own e;
  others = λ j off. ⊎_elim (λ old. inl old) (λ new. inr (⊎_elim (λ h. let at = h.0 in let lt = slice_get_within xs k e.here e.there in omega arith) (behind j) new)) (shown xs x j off);
}
  where
    behind : (j : ℕ) → Shuts xs j x → k ≤ j
    behind j s = ⊎_elim
        (λ lt. absurd (open_shuts x.txn (take k xs) j s.here e.before (get_take xs j k lt ∙ s.there) s.closes (sym (own_is s.here.txn x s.same))))
        (λ le. le) (cases_lt j k)

pub finds_next : (xs : List Rec) (x : Rec) (closed found : Option ℕ) (prev : ℕ) → of_txn x.txn x ≡ true → prev ≡ first_prev x.txn (xs ++ x ∷ []) → EndsAt xs x.txn closed → ((k : ℕ) → closed ≡ Some k → found ≡ Some k)
    → (closed ≡ None → Judged (length xs) (MayCome (after_all x.txn none_yet xs) prev x) found) → Finds xs (xs ++ x ∷ []) found
finds_next xs x None found prev own first runs shut next = finds_open xs x found prev own first runs (next refl)
finds_next xs x (Some k) found prev own first e shut next = subst (Finds xs (xs ++ x ∷ [])) (sym (shut k refl)) (finds_shut xs x k own e)

-- a record of no transaction
pub finds_silent : (xs : List Rec) (x : Rec) → speaks x.kind ≡ false → Finds xs (xs ++ x ∷ []) None
finds_silent xs x silent = record {
  hit = tt;
  others = λ j off. ⊎_elim (λ old. inl old) (λ new. absurd (⊎_elim (λ h. let c = sym silent ∙ h.1 in absurd (cc)) (λ s. let c = sym silent ∙ (both (speaks x.kind) _ s.same).0 in absurd (cc)) new)) (shown xs x j off);
}
