-- What one record more shows to be misplaced. It serves the goals of table.rt.
use Rattle.std.proofs.Common.{◌≡◌, ◌⊎◌, inl, inr, ⊎_elim, ℕ, zero, suc, ◌+◌, ◌<◌, Bool, true, false, List, [], ◌∷◌, ◌++◌, length, take, drop, Option, None, Some, slice_get, refl, sym, ap, ◌∙◌, subst, arith, length-append}
use Rattle.std.specs.List.{list_any}
use Rattle.std.specs.Prelude.{◌||◌, IfSome}
use Rattle.std.proofs.lemmas.Bool.{cases_Bool}
use Rattle.std.proofs.Math.ListN.{drop_of_length-le}
use Rattle.std.proofs.lemmas.List.{drop-append-le, take-append-le, take_at}
use Rattle.std.proofs.lemmas.List.Folds.{list_any-append}
use Rattle.std.proofs.lemmas.Option.{slice_get_within}
use Rattle.sd_logrec.specs.View.{Rec}
use Rattle.sd_chain.specs.Records.{ends}
use Rattle.sd_chain.specs.Order.{speaks, of_txn, none_yet, after_all}
use Rattle.sd_chain.specs.Faults.{LeavesOpen, Skips, UndoesOther}
use Rattle.sd_recovered.specs.Misplaced.{Covers, Finds, IsLeast, IsOff, IsWrongYet}
use Rattle.sd_recovered.proofs.Misplaced.{any_at, front_get}
use Rattle.sd_chain.proofs.Whose.{own_of, first_prev-there}

where_is : (xs : List Rec) (x : Rec) (j : ℕ) (y : Rec) → slice_get (xs ++ x ∷ []) j ≡ Some y → ((j < length xs) × (slice_get xs j ≡ Some y)) ⊎ ((j ≡ length xs) × (y ≡ x))
where_is [] x zero y e = inr (refl, cc)
where_is [] x (suc j) y e = absurd (cc)
where_is (z ∷ xs) x zero y e = inl (omega arith, e)
where_is (z ∷ xs) x (suc j) y e = elim (where_is xs x j y e) [ inl h ↦ inl (omega (arith, h.0), h.1) | inr h ↦ inr (omega (arith, h.0), h.1) ]

-- a record that closes the transaction of this one, among those before it
pub record Shuts (xs : List Rec) (j : ℕ) (x : Rec) : Type 0 where
  pub here : Rec
  pub there : slice_get xs j ≡ Some here
  pub own : speaks here.kind ≡ true
  pub closes : ends here.kind ≡ true
  pub same : of_txn here.txn x ≡ true

-- what is wrong with the record itself
abbrev pub IsWrongHere : List Rec → Rec → Type 0
IsWrongHere xs x =
    Skips (after_all x.txn none_yet xs) x ⊎ (LeavesOpen (after_all x.txn none_yet xs) x ⊎ UndoesOther (xs ++ x ∷ []) (after_all x.txn none_yet xs) x)

or_either : (a b : Bool) → (a || b) ≡ true → (a ≡ true) ⊎ (b ≡ true)
or_either true b e = inl refl
or_either false b e = inr e

one_any : (p : Rec → Bool) (x : Rec) → list_any p (x ∷ []) ≡ true → p x ≡ true
one_any p x e = ⊎_elim (λ is. is) (λ off. let c = rw off at e in absurd (cc)) (cases_Bool (p x))

-- one that is off with the record is off without it, or the record shows it
pub shown : (xs : List Rec) (x : Rec) (j : ℕ) → IsOff (xs ++ x ∷ []) j → IsOff xs j ⊎ (((j ≡ length xs) × (speaks x.kind ≡ true) × IsWrongHere xs x) ⊎ Shuts xs j x)
shown xs x j off = ⊎_elim front (λ h. inr (inl (h.0, subst (λ (r : Rec). speaks r.kind ≡ true) h.1 off.own, last h.0 h.1))) (where_is xs x j off.here off.there)
  where
    front : ((j < length xs) × (slice_get xs j ≡ Some off.here)) → IsOff xs j ⊎ (((j ≡ length xs) × (speaks x.kind ≡ true) × IsWrongHere xs x) ⊎ Shuts xs j x)
    front h = go (subst (λ (l : List Rec). IsWrongYet (xs ++ x ∷ []) j (after_all off.here.txn none_yet l) off.here) (take-append-le j xs (x ∷ []) (omega (arith, h.0))) off.wrong)
      where
        still : IsWrongYet xs j (after_all off.here.txn none_yet (take j xs)) off.here → IsOff xs j
        still w = record { here = off.here; there = h.1; own = off.own; wrong = w }

        go : IsWrongYet (xs ++ x ∷ []) j (after_all off.here.txn none_yet (take j xs)) off.here → IsOff xs j ⊎ (((j ≡ length xs) × (speaks x.kind ≡ true) × IsWrongHere xs x) ⊎ Shuts xs j x)
        go (inl g) =
            let split : list_any (of_txn off.here.txn) (drop (j + 1) (xs ++ x ∷ [])) ≡ (list_any (of_txn off.here.txn) (drop (j + 1) xs) || list_any (of_txn off.here.txn) (x ∷ [])) =
            ap (list_any (of_txn off.here.txn)) (drop-append-le (j + 1) xs (x ∷ []) (omega (arith, h.0))) ∙ list_any-append (of_txn off.here.txn) (drop (j + 1) xs) (x ∷ []) in
            ⊎_elim (λ in_front. inl (still (inl (g.0, in_front))))
            (λ at_end. inr (inr (record { here = off.here; there = h.1; own = off.own; closes = g.0; same = one_any (of_txn off.here.txn) x at_end })))
            (or_either _ _ (sym split ∙ g.1))
        go (inr (inl s)) = inl (still (inr (inl s)))
        go (inr (inr (inl e))) = inl (still (inr (inr (inl e))))
        go (inr (inr (inr u))) =
            let there : list_any (of_txn off.here.txn) xs ≡ true = any_at (of_txn off.here.txn) xs j off.here h.1 (own_of off.here off.own) in
            inl (still (inr (inr (inr (u.0, sym (first_prev-there off.here.txn xs (x ∷ []) there) ∙ u.1, u.2)))))

    last : j ≡ length xs → off.here ≡ x → IsWrongHere xs x
    last at is =
        let before : take j (xs ++ x ∷ []) ≡ xs = take_at xs (x ∷ []) j (sym at) in
        go (subst (λ (r : Rec). IsWrongYet (xs ++ x ∷ []) j (after_all r.txn none_yet xs) r) is
        (subst (λ (l : List Rec). IsWrongYet (xs ++ x ∷ []) j (after_all off.here.txn none_yet l) off.here) before off.wrong))
      where
        nothing : drop (j + 1) (xs ++ x ∷ []) ≡ []
        nothing = drop_of_length-le (xs ++ x ∷ []) {i = j + 1} (omega (arith, at, length-append xs (x ∷ [])))

        go : IsWrongYet (xs ++ x ∷ []) j (after_all x.txn none_yet xs) x → IsWrongHere xs x
        go (inl g) = let c = sym g.1 ∙ ap (list_any (of_txn x.txn)) nothing in absurd (cc)
        go (inr w) = w

-- and one that is off stays off
pub stays_off : (xs : List Rec) (x : Rec) (j : ℕ) → IsOff xs j → IsOff (xs ++ x ∷ []) j
stays_off xs x j off = record {
  here = off.here;
  there = front_get xs (x ∷ []) j lt ∙ off.there;
  own = off.own;
  wrong = subst (λ (l : List Rec). IsWrongYet (xs ++ x ∷ []) j (after_all off.here.txn none_yet l) off.here) (sym (take-append-le j xs (x ∷ []) (omega (arith, lt)))) (go off.wrong);
}
  where
    lt : j < length xs
    lt = slice_get_within xs j off.here off.there

    go : IsWrongYet xs j (after_all off.here.txn none_yet (take j xs)) off.here → IsWrongYet (xs ++ x ∷ []) j (after_all off.here.txn none_yet (take j xs)) off.here
    go (inl g) = inl (g.0, ap (list_any (of_txn off.here.txn)) (drop-append-le (j + 1) xs (x ∷ []) (omega (arith, lt))) ∙ list_any-append (of_txn off.here.txn) (drop (j + 1) xs) (x ∷ []) ∙ ap (λ b. b || list_any (of_txn off.here.txn) (x ∷ [])) g.1)
    go (inr (inl s)) = inr (inl s)
    go (inr (inr (inl e))) = inr (inr (inl e))
    go (inr (inr (inr u))) =
        let there : list_any (of_txn off.here.txn) xs ≡ true = any_at (of_txn off.here.txn) xs j off.here off.there (own_of off.here off.own) in
        inr (inr (inr (u.0, first_prev-there off.here.txn xs (x ∷ []) there ∙ u.1, u.2)))

-- ---- the least index

pub if_some : {A : Type 0} (o : Option A) (P Q : A → Type 0) → ((a : A) → P a → Q a) → IfSome o P → IfSome o Q
if_some None P Q f h = tt
if_some (Some a) P Q f h = f a h

pub least_more : (xs : List Rec) (x : Rec) (before found least : Option ℕ) → IsLeast xs before → Finds xs (xs ++ x ∷ []) found → ((least ≡ before) ⊎ (least ≡ found))
    → ((j : ℕ) → Covers before j ⊎ Covers found j → Covers least j) → IsLeast (xs ++ x ∷ []) least
least_more xs x before found least h f either covers = record {
  hit = ⊎_elim (λ e. subst (λ (o : Option ℕ). IfSome o (IsOff (xs ++ x ∷ []))) (sym e) (if_some before (IsOff xs) (IsOff (xs ++ x ∷ [])) (λ j off. stays_off xs x j off) h.hit))
      (λ e. subst (λ (o : Option ℕ). IfSome o (IsOff (xs ++ x ∷ []))) (sym e) f.hit) either;
  covers = λ j off. covers j (⊎_elim (λ old. inl (h.covers j old)) (λ new. inr new) (f.others j off));
}
