-- The order of a transaction's records, with one more or from a later place.
use Rattle.std.proofs.Common.{◌≡◌, ◌⊎◌, inl, inr, ⊎_elim, ℕ, ◌<◌, Bool, true, false, cond, ◌&&◌, List, [], ◌∷◌, ◌++◌, refl, sym, ap, ◌∙◌, subst, arith, append-nil}
use Rattle.std.proofs.lemmas.Bool.{cases_Bool}
use Rattle.sd_logrec.specs.View.{Rec, Kind}
use Rattle.sd_base.specs.declared.ids.TxnId.{TxnId}
use Rattle.sd_base.specs.Ids.{same_txn}
use Rattle.sd_chain.specs.Records.{ends, Each, step, stack, stack_from, moved, rest, IsOpen}
use Rattle.sd_logrec.specs.View.Kind.{Update, Clr, Commit, End, Plain}
use Rattle.sd_chain.proofs.Lists.{Each-append, Each-front, Each-weaker, cond_both}
use Rattle.sd_chain.specs.Order.{speaks, of_txn, Sofar, none_yet, with_own, advance, after_all, ComesNext, InOrder, Undoes, UndoesTop, first_prev, Tidy, MayFollow}
use Rattle.sd_chain.proofs.Stacks.{step-own, step-other}
use Rattle.sd_chain.proofs.Whose.{advance-off, advance-own, after_all-none, ends-off, first_prev-behind, none_of, other_of, open_ones-is, InOrder-back, Undoes-back}
use Rattle.sd_base.proofs.SameIds.{cases_txn, eq-same}

InOrder-append : (t : TxnId) (sofar : Sofar) (xs ys : List Rec) → InOrder t sofar xs → InOrder t (after_all t sofar xs) ys
    → InOrder t sofar (xs ++ ys)
InOrder-append t sofar [] ys a b = b
InOrder-append t sofar (x ∷ xs) ys a b = (a.0, InOrder-append t (advance t sofar x) xs ys a.1 b)

Undoes-append : (t : TxnId) (stk xs ys : List Rec) → Undoes t stk xs → Undoes t (stack_from t stk xs) ys → Undoes t stk (xs ++ ys)
Undoes-append t stk [] ys a b = b
Undoes-append t stk (x ∷ xs) ys a b = (a.0, Undoes-append t (step t stk x) xs ys a.1 b)

-- an open transaction isn't shut
shut_open : (t : TxnId) (sofar : Sofar) (xs : List Rec) → sofar.shut ≡ false → IsOpen t xs → (after_all t sofar xs).shut ≡ false
shut_open t sofar [] s o = s
shut_open t sofar (x ∷ xs) s o =
    shut_open t (advance t sofar x) xs
    (cond_both (λ (q : Sofar). q.shut ≡ false) (of_txn t x) (with_own t x sofar) sofar
    (λ is. go (ends x.kind) (speaks x.kind) (same_txn x.txn t) o.0 is) (λ is. s)) o.1
  where
    go : (a b c : Bool) → (a && c) ≡ false → (b && c) ≡ true → a ≡ false
    go true true c e f = sym f ∙ e
    go true false c e f = absurd (cc)
    go false b c e f = refl

-- no record yet, or the first one's prev stays
last_up : (t : TxnId) (sofar : Sofar) (xs : List Rec) → Each (λ x. 0 < x.lsn) xs → 0 < sofar.last
    → 0 < (after_all t sofar xs).last
last_up t sofar [] pos lt = lt
last_up t sofar (x ∷ xs) pos lt =
    last_up t (advance t sofar x) xs pos.1
    (cond_both (λ (q : Sofar). 0 < q.last) (of_txn t x) (with_own t x sofar) sofar (λ is. pos.0) (λ is. lt))

off_first_prev : (t : TxnId) (xs ys : List Rec) → Each (λ x. of_txn t x ≡ false) xs → first_prev t (xs ++ ys) ≡ first_prev t ys
off_first_prev t xs ys a = first_prev-behind t xs ys (none_of (of_txn t) xs a)

-- either none is the transaction's, or the last LSN is above 0 and the first prev stays
some_or_none : (t : TxnId) (xs ys : List Rec) → Each (λ x. 0 < x.lsn) xs
    → Each (λ x. of_txn t x ≡ false) xs ⊎ ((0 < (after_all t none_yet xs).last) × (first_prev t (xs ++ ys) ≡ first_prev t xs))
some_or_none t [] ys pos = inl tt
some_or_none t (x ∷ xs) ys pos = go (some_or_none t xs ys pos.1) (cases_Bool (of_txn t x))
  where
    go : Each (λ x. of_txn t x ≡ false) xs ⊎ ((0 < (after_all t none_yet xs).last) × (first_prev t (xs ++ ys) ≡ first_prev t xs))
        → (of_txn t x ≡ true) ⊎ (of_txn t x ≡ false)
        → Each (λ x. of_txn t x ≡ false) (x ∷ xs)
        ⊎ ((0 < (after_all t none_yet (x ∷ xs)).last) × (first_prev t (x ∷ xs ++ ys) ≡ first_prev t (x ∷ xs)))
    go ih (inl is) = inr (
      subst (λ (q : Sofar). 0 < (after_all t q xs).last) (sym (advance-own t none_yet x is))
          (last_up t (with_own t x none_yet) xs pos.1 pos.0),
      rw is refl,
    )
    go (inl none) (inr off) = inl (off, none)
    go (inr some) (inr off) = inr (
      subst (λ (q : Sofar). 0 < (after_all t q xs).last) (sym (advance-off t none_yet x off)) some.0,
      rw off some.1,
    )

after_off : (t : TxnId) (sofar : Sofar) (xs : List Rec) → Each (λ x. of_txn t x ≡ false) xs → after_all t sofar xs ≡ sofar
after_off t sofar xs a = after_all-none t sofar xs (none_of (of_txn t) xs a)

Undoes-none : (t : TxnId) (stk xs : List Rec) → Each (λ x. of_txn t x ≡ false) xs → Undoes t stk xs
Undoes-none t stk [] a = tt
Undoes-none t stk (x ∷ xs) a = ((λ k own. absurd (go x k own a.0)), Undoes-none t (step t stk x) xs a.1)
  where
    go : (x : Rec) → x.kind ≡ Clr → x.txn ≡ t → of_txn t x ≡ false → ⊥
    go x k own off = let e : speaks x.kind ≡ true = ap speaks k in let f = eq-same x.txn t own in
        let g : (speaks x.kind && same_txn x.txn t) ≡ true = rw (e, f) refl in cc

-- a record that isn't the transaction's
pub tidy-other : (t : TxnId) (log : List Rec) (y : Rec) → of_txn t y ≡ false → Each (λ x. 0 < x.lsn) log → Tidy t log
    → Tidy t (log ++ y ∷ [])
tidy-other t log y off pos tidy = record {
  order = InOrder-append t none_yet log (y ∷ []) tidy.order ((λ is. let c = sym is ∙ off in absurd (cc)), tt);
  first = λ o. same ∙ tidy.first (Each-front (λ x. (ends x.kind && same_txn x.txn t) ≡ false) log (y ∷ []) o);
  undo = λ e. Undoes-append t [] log (y ∷ []) (tidy.undo (sym same ∙ e)) (Undoes-none t (stack_from t [] log) (y ∷ []) (off, tt));
}
  where
    same : first_prev t (log ++ y ∷ []) ≡ first_prev t log
    same = ⊎_elim
        (λ none. off_first_prev t log (y ∷ []) none ∙ ap (λ (b : Bool). cond b y.prev 0) off ∙ sym (off_first_prev t log [] none)
        ∙ ap (first_prev t) (append-nil log))
        (λ some. some.1)
        (some_or_none t log (y ∷ []) pos)

-- the transaction's own
tidy-own : (log : List Rec) (y : Rec) → Each (λ x. 0 < x.lsn) log → Tidy y.txn log → MayFollow log y → Tidy y.txn (log ++ y ∷ [])
tidy-own log y pos tidy may = record {
  order = InOrder-append y.txn none_yet log (y ∷ []) tidy.order (
    (λ is. record {
      alive = shut_open y.txn none_yet log refl may.alive;
      prev = λ ne. may.prev;
      done = λ k. open_ones-is y.txn none_yet log ∙ may.done k;
    }),
    tt,
  );
  first = λ o. was_none;
  undo = λ e. Undoes-append y.txn [] log (y ∷ []) (tidy.undo (tidy.first may.alive)) ((λ k own. may.undo k), tt);
}
  where
    was_none : first_prev y.txn (log ++ y ∷ []) ≡ 0
    was_none = ⊎_elim
        (λ none. off_first_prev y.txn log (y ∷ []) none
        ∙ cond_both (λ (n : ℕ). n ≡ 0) (of_txn y.txn y) y.prev 0
        (λ b. may.prev ∙ ap (λ (q : Sofar). q.last) (after_off y.txn none_yet log none)) (λ b. refl))
        (λ some. some.1 ∙ tidy.first may.alive)
        (some_or_none y.txn log (y ∷ []) pos)

pub tidy-push : (log : List Rec) (y : Rec) → Each (λ x. 0 < x.lsn) log → ((t : TxnId) → Tidy t log) → MayFollow log y
    → (t : TxnId) → Tidy t (log ++ y ∷ [])
tidy-push log y pos tidy may t =
    ⊎_elim (λ e. subst (λ (k : TxnId). Tidy k (log ++ y ∷ [])) e (tidy-own log y pos (tidy y.txn) may))
    (λ ne. tidy-other t log y (other_of t y ne) pos (tidy t)) (cases_txn y.txn t)

-- an undo that follows is of the top
pub undoes-top : (log : List Rec) (y top : Rec) (below : List Rec) → y.kind ≡ Clr → MayFollow log y
    → stack y.txn log ≡ top ∷ below → UndoesTop y (top ∷ below)
undoes-top log y top below clr follows is = subst (UndoesTop y) is (follows.undo clr)

-- The records left when a log is read from a later place.
record Weaker (b a : Sofar) : Type 0 where
  lower : List Rec
  parts : a.open_ones ≡ b.open_ones ++ lower
  last : (b.last ≡ a.last) ⊎ (b.last ≡ 0)
  shut : (b.shut ≡ a.shut) ⊎ (b.shut ≡ false)

rest_parts : (xs lower : List Rec) → (m : List Rec) × (rest (xs ++ lower) ≡ rest xs ++ m)
rest_parts [] lower = (rest lower, refl)
rest_parts (x ∷ xs) lower = (lower, refl)

moved_parts : (k : Kind) (x : Rec) (xs lower : List Rec) → (m : List Rec) × (moved k x (xs ++ lower) ≡ moved k x xs ++ m)
moved_parts Update x xs lower = (lower, refl)
moved_parts Clr x xs lower = rest_parts xs lower
moved_parts Commit x xs lower = (lower, refl)
moved_parts End x xs lower = (lower, refl)
moved_parts Plain x xs lower = (lower, refl)

step_parts : (t : TxnId) (x : Rec) (xs lower : List Rec) → (m : List Rec) × (step t (xs ++ lower) x ≡ step t xs x ++ m)
step_parts t x xs lower = ⊎_elim
    (λ e. let p = moved_parts x.kind x xs lower in
    (p.0, step-own t (xs ++ lower) x e ∙ p.1 ∙ ap (λ (l : List Rec). l ++ p.0) (sym (step-own t xs x e))))
    (λ ne. (lower, step-other t (xs ++ lower) x ne ∙ ap (λ (l : List Rec). l ++ lower) (sym (step-other t xs x ne))))
    (cases_txn x.txn t)

advance_weaker : (t : TxnId) (x : Rec) (b a : Sofar) → Weaker b a → Weaker (advance t b x) (advance t a x)
advance_weaker t x b a w = go (of_txn t x)
  where
    go : (c : Bool) → Weaker (cond c (with_own t x b) b) (cond c (with_own t x a) a)
    go true =
        let p = step_parts t x b.open_ones w.lower in
        record { lower = p.0; parts = ap (λ (l : List Rec). step t l x) w.parts ∙ p.1; last = inl refl; shut = inl refl }
    go false = w

none_front : (xs ys : List Rec) → xs ++ ys ≡ [] → xs ≡ []
none_front [] ys e = refl
none_front (x ∷ xs) ys e = absurd (cc)

next_weaker : (x : Rec) (b a : Sofar) → Weaker b a → ComesNext a x → ComesNext b x
next_weaker x b a w n = record {
  alive = ⊎_elim (λ e. e ∙ n.alive) (λ e. e) w.shut;
  prev = λ ne. ⊎_elim (λ e. n.prev (λ f. ne (e ∙ f)) ∙ sym e) (λ e. absurd (ne e)) w.last;
  done = λ k. none_front b.open_ones w.lower (sym w.parts ∙ n.done k);
}

InOrder-weaker : (t : TxnId) (b a : Sofar) (xs : List Rec) → Weaker b a → InOrder t a xs → InOrder t b xs
InOrder-weaker t b a [] w o = tt
InOrder-weaker t b a (x ∷ xs) w o =
    ((λ is. next_weaker x b a w (o.0 is)), InOrder-weaker t (advance t b x) (advance t a x) xs (advance_weaker t x b a w) o.1)

-- none of its records, or a first one with a former one
first_some : (t : TxnId) (sofar : Sofar) (xs : List Rec) → 0 < sofar.last → InOrder t sofar xs
    → Each (λ x. of_txn t x ≡ false) xs ⊎ (0 < first_prev t xs)
first_some t sofar [] lt o = inl tt
first_some t sofar (x ∷ xs) lt o =
    go (cases_Bool (of_txn t x))
    (λ off. first_some t sofar xs lt (subst (λ (q : Sofar). InOrder t q xs) (advance-off t sofar x off) o.1))
  where
    go : (of_txn t x ≡ true) ⊎ (of_txn t x ≡ false)
        → (of_txn t x ≡ false → Each (λ x. of_txn t x ≡ false) xs ⊎ (0 < first_prev t xs))
        → Each (λ x. of_txn t x ≡ false) (x ∷ xs) ⊎ (0 < first_prev t (x ∷ xs))
    go (inl is) ih = inr (rw is (let e = (o.0 is).prev (λ e. absurd (omega arith)) in omega arith))
    go (inr off) ih = ⊎_elim (λ none. inl (off, none)) (λ some. inr (rw off some)) (ih off)

pub tidy-later : (t : TxnId) (gone log : List Rec) → Each (λ x. 0 < x.lsn) gone → Tidy t (gone ++ log)
    → Each (λ x. of_txn t x ≡ false) gone ⊎ ((IsOpen t log → ⊥) ⊎ Each (λ x. of_txn t x ≡ false) log) → Tidy t log
tidy-later t gone log pos tidy closed = record {
  order = InOrder-weaker t none_yet (after_all t none_yet gone) log
      (record { lower = (after_all t none_yet gone).open_ones; parts = refl; last = inr refl; shut = inr refl })
      (InOrder-back t none_yet gone log tidy.order);
  first = λ o. ⊎_elim
      (λ none. let off = none in sym (off_first_prev t gone log off)
      ∙ tidy.first (Each-append (λ x. (ends x.kind && same_txn x.txn t) ≡ false) gone log
      (Each-weaker (λ x. of_txn t x ≡ false) (λ x. (ends x.kind && same_txn x.txn t) ≡ false)
      (λ x off. ends-off t x off) gone none) o))
      (λ c. ⊎_elim (λ shut. absurd (shut o)) (λ none. sym (ap (first_prev t) (append-nil log)) ∙ off_first_prev t log [] none) c)
      closed;
  undo = λ e. ⊎_elim
      (λ off. subst (λ (l : List Rec). Undoes t l log)
      (sym (open_ones-is t none_yet gone) ∙ ap (λ (q : Sofar). q.open_ones) (after_off t none_yet gone off))
      (Undoes-back t [] gone log (tidy.undo (off_first_prev t gone log off ∙ e))))
      (λ some. ⊎_elim (λ none. Undoes-none t [] log none) (λ up. absurd (omega (arith, up, e)))
      (first_some t (after_all t none_yet gone) log some.0 (InOrder-back t none_yet gone log tidy.order)))
      (some_or_none t gone log pos);
}
