-- A log is in order exactly where no record is misplaced. It serves the goals of losers.rt.
use Rattle.std.proofs.Common.{◌≡◌, ◌≢◌, ◌⊎◌, inl, inr, ⊎_elim, ℕ, zero, suc, ◌+◌, ◌<◌, Bool, true, cond, List, [], ◌∷◌, ◌++◌, length, take, drop, Option, None, Some, slice_get, refl, sym, ap, ◌∙◌, subst, arith}
use Rattle.std.specs.List.{list_any}
use Rattle.std.proofs.lemmas.Bool.{cases_Bool, cases_eq}
use Rattle.sd_base.specs.declared.ids.TxnId.{TxnId}
use Rattle.sd_logrec.specs.View.{Rec}
use Rattle.sd_chain.specs.Order.{of_txn, Sofar, none_yet, advance, after_all, InOrder, Undoes, UndoesTop, first_prev, Tidy}
use Rattle.sd_chain.specs.Faults.{IsMisplaced, IsWrong}
use Rattle.sd_chain.proofs.Whose.{own_of, advance-off, advance-own, InOrder-back, Undoes-back, open_ones-is, first_prev-behind}

-- ---- places of a list

pub front_get : (xs ys : List Rec) (j : ℕ) → j < length xs → slice_get (xs ++ ys) j ≡ slice_get xs j
front_get [] ys j lt = absurd (omega arith)
front_get (x ∷ xs) ys zero lt = refl
front_get (x ∷ xs) ys (suc j) lt = front_get xs ys j (omega arith)

pub mid_get : (xs ys : List Rec) (y : Rec) → slice_get (xs ++ y ∷ ys) (length xs) ≡ Some y
mid_get [] ys y = refl
mid_get (x ∷ xs) ys y = mid_get xs ys y

pub any_at : (p : Rec → Bool) (xs : List Rec) (k : ℕ) (x : Rec) → slice_get xs k ≡ Some x → p x ≡ true → list_any p xs ≡ true
any_at p [] k x e t = absurd (cc)
any_at p (y ∷ ys) zero x e t = let same : p y ≡ true = cc in rw same refl
any_at p (y ∷ ys) (suc k) x e t = ⊎_elim (λ is. rw is refl) (λ off. rw off (any_at p ys k x e t)) (cases_Bool (p y))

pub any_before : (p : Rec → Bool) (xs : List Rec) (j k : ℕ) (x : Rec) → j < k → slice_get xs j ≡ Some x → p x ≡ true → list_any p (take k xs) ≡ true
any_before p [] j k x lt e t = absurd (cc)
any_before p (y ∷ ys) j zero x lt e t = absurd (omega arith)
any_before p (y ∷ ys) zero (suc k) x lt e t = let same : p y ≡ true = cc in rw same refl
any_before p (y ∷ ys) (suc j) (suc k) x lt e t = ⊎_elim (λ is. rw is refl) (λ off. rw off (any_before p ys j k x (omega arith) e t)) (cases_Bool (p y))

any_drop : (p : Rec → Bool) (xs : List Rec) (j k : ℕ) (x : Rec) → j < k → slice_get xs k ≡ Some x → p x ≡ true → list_any p (drop (suc j) xs) ≡ true
any_drop p [] j k x lt e t = absurd (cc)
any_drop p (y ∷ ys) j zero x lt e t = absurd (omega arith)
any_drop p (y ∷ ys) zero (suc k) x lt e t = any_at p ys k x e t
any_drop p (y ∷ ys) (suc j) (suc k) x lt e t = any_drop p ys j k x (omega arith) e t

pub any_behind : (p : Rec → Bool) (xs : List Rec) (j k : ℕ) (x : Rec) → j < k → slice_get xs k ≡ Some x → p x ≡ true → list_any p (drop (j + 1) xs) ≡ true
any_behind p xs j k x lt e t = let one : suc j ≡ j + 1 = omega arith in ap (λ i. list_any p (drop i xs)) (sym one) ∙ any_drop p xs j k x lt e t

pub parts_at : (xs : List Rec) (k : ℕ) (x : Rec) → slice_get xs k ≡ Some x → xs ≡ take k xs ++ x ∷ drop (suc k) xs
parts_at [] k x e = absurd (cc)
parts_at (y ∷ ys) zero x e = let same : y ≡ x = cc in ap (λ z. z ∷ ys) same
parts_at (y ∷ ys) (suc k) x e = ap (λ (l : List Rec). y ∷ l) (parts_at ys k x e)

-- ---- what can be told

dec_list : (a b : List ℕ) → (a ≡ b) ⊎ (a ≢ b)
dec_list [] [] = inl refl
dec_list [] (y ∷ b) = inr (λ e. absurd (cc))
dec_list (x ∷ a) [] = inr (λ e. absurd (cc))
dec_list (x ∷ a) (y ∷ b) = go (cases_eq x y) (dec_list a b)
  where
    go : ((x ≡ y) ⊎ (x ≢ y)) → ((a ≡ b) ⊎ (a ≢ b)) → ((x ∷ a) ≡ (y ∷ b)) ⊎ ((x ∷ a) ≢ (y ∷ b))
    go (inl e) (inl f) = inl (cc)
    go (inl e) (inr f) = inr (λ g. let same : a ≡ b = cc in f same)
    go (inr e) f = inr (λ g. let same : x ≡ y = cc in e same)

dec_value : (a b : Option (List ℕ)) → (a ≡ b) ⊎ (a ≢ b)
dec_value None None = inl refl
dec_value None (Some b) = inr (λ e. absurd (cc))
dec_value (Some a) None = inr (λ e. absurd (cc))
dec_value (Some a) (Some b) = ⊎_elim (λ e. inl (ap (λ (l : List ℕ). Some l) e)) (λ ne. inr (λ e. let same : a ≡ b = cc in ne same)) (dec_list a b)

pub dec_top : (x : Rec) (open_ones : List Rec) → UndoesTop x open_ones ⊎ (UndoesTop x open_ones → ⊥)
dec_top x [] = inr (λ u. u)
dec_top x (top ∷ below) = go (cases_eq x.page top.page) (cases_eq x.slot top.slot) (dec_value x.after top.before) (cases_eq x.next top.prev)
  where
    go : ((x.page ≡ top.page) ⊎ (x.page ≢ top.page)) → ((x.slot ≡ top.slot) ⊎ (x.slot ≢ top.slot)) → ((x.after ≡ top.before) ⊎ (x.after ≢ top.before)) → ((x.next ≡ top.prev) ⊎ (x.next ≢ top.prev))
        → UndoesTop x (top ∷ below) ⊎ (UndoesTop x (top ∷ below) → ⊥)
    go (inl a) (inl b) (inl c) (inl d) = inl (a, b, c, d)
    go (inr a) b c d = inr (λ u. a u.0)
    go (inl a) (inr b) c d = inr (λ u. b u.1)
    go (inl a) (inl b) (inr c) d = inr (λ u. c u.2)
    go (inl a) (inl b) (inl c) (inr d) = inr (λ u. d u.3)

pub dec_empty : (l : List Rec) → (l ≡ []) ⊎ (l ≢ [])
dec_empty [] = inl refl
dec_empty (x ∷ l) = inr (λ e. absurd (cc))

-- ---- in order, none is misplaced

shut_behind : (t : TxnId) (sofar : Sofar) (ys : List Rec) → sofar.shut ≡ true → InOrder t sofar ys → list_any (of_txn t) ys ≡ true → ⊥
shut_behind t sofar [] s o e = absurd (cc)
shut_behind t sofar (y ∷ ys) s o e = ⊎_elim
    (λ is. let c = sym s ∙ (o.0 is).alive in absurd (cc))
    (λ off. shut_behind t (advance t sofar y) ys (ap (λ (q : Sofar). q.shut) (advance-off t sofar y off) ∙ s) o.1 (rw off at e))
    (cases_Bool (of_txn t y))

pub tidy_not : (log : List Rec) (k : ℕ) → ((t : TxnId) → Tidy t log) → IsMisplaced log k → ⊥
tidy_not log k tidy m = go m.wrong
  where
    parts : log ≡ take k log ++ m.here ∷ drop (suc k) log
    parts = parts_at log k m.here m.there

    own : of_txn m.here.txn m.here ≡ true
    own = own_of m.here m.own

    order : InOrder m.here.txn (after_all m.here.txn none_yet (take k log)) (m.here ∷ drop (suc k) log)
    order = InOrder-back m.here.txn none_yet (take k log) (m.here ∷ drop (suc k) log) (subst (InOrder m.here.txn none_yet) parts (tidy m.here.txn).order)

    go : IsWrong log k (after_all m.here.txn none_yet (take k log)) m.here → ⊥
    go (inl g) =
        let one : k + 1 ≡ suc k = omega arith in
        shut_behind m.here.txn (advance m.here.txn (after_all m.here.txn none_yet (take k log)) m.here) (drop (suc k) log)
        (ap (λ (q : Sofar). q.shut) (advance-own m.here.txn (after_all m.here.txn none_yet (take k log)) m.here own) ∙ g.0) order.1 (sym (ap (λ i. list_any (of_txn m.here.txn) (drop i log)) one) ∙ g.1)
    go (inr (inl late)) =
        late.1 (sym (ap (first_prev m.here.txn) parts ∙ first_prev-behind m.here.txn (take k log) (m.here ∷ drop (suc k) log) late.0 ∙ ap (λ b. cond b m.here.prev (first_prev m.here.txn (drop (suc k) log))) own) ∙ (tidy m.here.txn).first late.2)
    go (inr (inr (inl s))) = s.1 ((order.0 own).prev s.0)
    go (inr (inr (inr (inl e)))) = e.1 ((order.0 own).done e.0)
    go (inr (inr (inr (inr u)))) =
        u.2 (subst (UndoesTop m.here) (sym (open_ones-is m.here.txn none_yet (take k log)))
        ((Undoes-back m.here.txn [] (take k log) (m.here ∷ drop (suc k) log) (subst (Undoes m.here.txn []) parts ((tidy m.here.txn).undo u.1))).0 u.0 refl))
