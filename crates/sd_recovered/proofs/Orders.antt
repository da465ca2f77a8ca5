-- A log of which no record is misplaced is in order. It serves the goals of losers.rt.
use Rattle.std.proofs.Common.{◌≡◌, ◌≢◌, ◌⊎◌, inl, inr, ⊎_elim, ℕ, suc, ◌<◌, true, false, cond, List, [], ◌∷◌, ◌++◌, length, take, Some, slice_get, refl, sym, ap, ◌∙◌, subst, append_assoc}
use Rattle.std.specs.List.{list_any}
use Rattle.std.specs.Prelude.{◌||◌}
use Rattle.std.proofs.lemmas.Bool.{cases_Bool, cases_eq}
use Rattle.std.proofs.lemmas.List.{take_at}
use Rattle.std.proofs.lemmas.Option.{slice_get_within}
use Rattle.sd_base.specs.declared.ids.TxnId.{TxnId}
use Rattle.sd_logrec.specs.View.{Rec}
use Rattle.sd_chain.specs.Records.{ends, stack_from, IsOpen}
use Rattle.sd_chain.specs.Order.{speaks, of_txn, Sofar, none_yet, advance, after_all, ComesNext, InOrder, Undoes, UndoesTop, first_prev, Tidy}
use Rattle.sd_chain.specs.Faults.{IsMisplaced, IsWrong}
use Rattle.sd_chain.proofs.Whose.{both, clr_speaks, own_is, advance-off, advance-own, after_all-append, open_ones-is}
use Rattle.sd_chain.proofs.Stacks.{stack_from-append}
use Rattle.sd_recovered.proofs.Misplaced.{any_behind, dec_empty, dec_top, front_get, mid_get}

-- a record that closes its transaction
record Closer (t : TxnId) (xs : List Rec) : Type 0 where
  pub at : ℕ
  pub rec : Rec
  pub there : slice_get xs at ≡ Some rec
  pub own : of_txn t rec ≡ true
  pub closes : ends rec.kind ≡ true

closer_in : (t : TxnId) (sofar : Sofar) (xs : List Rec) → (after_all t sofar xs).shut ≡ true → (sofar.shut ≡ true) ⊎ Closer t xs
closer_in t sofar [] s = inl s
closer_in t sofar (x ∷ xs) s = go (closer_in t (advance t sofar x) xs s) (cases_Bool (of_txn t x))
  where
    go : ((advance t sofar x).shut ≡ true) ⊎ Closer t xs → (of_txn t x ≡ true) ⊎ (of_txn t x ≡ false) → (sofar.shut ≡ true) ⊎ Closer t (x ∷ xs)
    go (inr c) d = inr (record { at = suc c.at; rec = c.rec; there = c.there; own = c.own; closes = c.closes })
    go (inl f) (inl is) = inr (record { at = 0; rec = x; there = refl; own = is; closes = sym (ap (λ (q : Sofar). q.shut) (advance-own t sofar x is)) ∙ f })
    go (inl f) (inr off) = inl (sym (ap (λ (q : Sofar). q.shut) (advance-off t sofar x off)) ∙ f)

speaks_of : (t : TxnId) (x : Rec) → of_txn t x ≡ true → speaks x.kind ≡ true
speaks_of t x own = (both (speaks x.kind) _ own).0

-- what is wrong where one stands
misplaced_at : (log xs ys : List Rec) (t : TxnId) (y : Rec) → log ≡ xs ++ y ∷ ys → of_txn t y ≡ true → IsWrong log (length xs) (after_all t none_yet xs) y → IsMisplaced log (length xs)
misplaced_at log xs ys t y e own wrong =
    let front : take (length xs) log ≡ xs = ap (take (length xs)) e ∙ take_at xs (y ∷ ys) (length xs) refl in
    record {
      here = y;
      there = ap (λ (l : List Rec). slice_get l (length xs)) e ∙ mid_get xs ys y;
      own = speaks_of t y own;
      wrong = subst (λ (u : TxnId). IsWrong log (length xs) (after_all u none_yet (take (length xs) log)) y) (sym (own_is t y own))
          (subst (λ (l : List Rec). IsWrong log (length xs) (after_all t none_yet l) y) (sym front) wrong);
    }

-- one behind which its transaction goes on
goes_on : (log xs ys : List Rec) (t : TxnId) (y : Rec) → log ≡ xs ++ y ∷ ys → of_txn t y ≡ true → (c : Closer t xs) → IsMisplaced log c.at
goes_on log xs ys t y e own c =
    let lt : c.at < length xs = slice_get_within xs c.at c.rec c.there in
    let named : c.rec.txn ≡ t = own_is t c.rec c.own in
    let here : slice_get log (length xs) ≡ Some y = ap (λ (l : List Rec). slice_get l (length xs)) e ∙ mid_get xs ys y in
    record {
      here = c.rec;
      there = ap (λ (l : List Rec). slice_get l c.at) e ∙ front_get xs (y ∷ ys) c.at lt ∙ c.there;
      own = speaks_of t c.rec c.own;
      wrong = inl (c.closes, any_behind (of_txn c.rec.txn) log c.at (length xs) y lt here (ap (λ (u : TxnId). of_txn u y) named ∙ own));
    }

comes_next : (log xs ys : List Rec) (t : TxnId) (y : Rec) → ((k : ℕ) → IsMisplaced log k → ⊥) → log ≡ xs ++ y ∷ ys → of_txn t y ≡ true → ComesNext (after_all t none_yet xs) y
comes_next log xs ys t y none e own = record {
  alive = ⊎_elim (λ s. absurd (shut (closer_in t none_yet xs s))) (λ off. off) (cases_Bool (after_all t none_yet xs).shut);
  prev = λ some. ⊎_elim (λ is. is) (λ ne. absurd (none (length xs) (misplaced_at log xs ys t y e own (inr (inr (inl (some, ne))))))) (cases_eq y.prev (after_all t none_yet xs).last);
  done = λ ended. ⊎_elim (λ is. is) (λ ne. absurd (none (length xs) (misplaced_at log xs ys t y e own (inr (inr (inr (inl (ended, ne)))))))) (dec_empty (after_all t none_yet xs).open_ones);
}
  where
    shut : (false ≡ true) ⊎ Closer t xs → ⊥
    shut (inl f) = absurd (cc)
    shut (inr c) = none c.at (goes_on log xs ys t y e own c)

more_front : (xs ys : List Rec) (y : Rec) (log : List Rec) → log ≡ xs ++ y ∷ ys → log ≡ (xs ++ y ∷ []) ++ ys
more_front xs ys y log e = e ∙ sym (append_assoc xs (y ∷ []) ys)

order_from : (log xs ys : List Rec) (t : TxnId) → ((k : ℕ) → IsMisplaced log k → ⊥) → log ≡ xs ++ ys → InOrder t (after_all t none_yet xs) ys
order_from log xs [] t none e = tt
order_from log xs (y ∷ ys) t none e = (
  λ own. comes_next log xs ys t y none e own,
  subst (λ (q : Sofar). InOrder t q ys) (after_all-append t none_yet xs (y ∷ [])) (order_from log (xs ++ y ∷ []) ys t none (more_front xs ys y log e)),
)

undo_from : (log xs ys : List Rec) (t : TxnId) → ((k : ℕ) → IsMisplaced log k → ⊥) → first_prev t log ≡ 0 → log ≡ xs ++ ys → Undoes t (stack_from t [] xs) ys
undo_from log xs [] t none first e = tt
undo_from log xs (y ∷ ys) t none first e = (
  λ k named. ⊎_elim (λ u. subst (UndoesTop y) (open_ones-is t none_yet xs) u)
      (λ bad. absurd (none (length xs) (misplaced_at log xs ys t y e (clr_speaks t y k named)
      (inr (inr (inr (inr (k, ap (λ (u : TxnId). first_prev u log) named ∙ first, bad)))))))) (dec_top y (after_all t none_yet xs).open_ones),
  subst (λ (l : List Rec). Undoes t l ys) (stack_from-append t [] xs (y ∷ [])) (undo_from log (xs ++ y ∷ []) ys t none first (more_front xs ys y log e)),
)

-- the first record of a transaction
record First (t : TxnId) (xs : List Rec) : Type 0 where
  pub front : List Rec
  pub rec : Rec
  pub behind : List Rec
  pub parts : xs ≡ front ++ rec ∷ behind
  pub own : of_txn t rec ≡ true
  pub none : list_any (of_txn t) front ≡ false
  pub prev : first_prev t xs ≡ rec.prev

first_in : (t : TxnId) (xs : List Rec) → first_prev t xs ≢ 0 → First t xs
first_in t [] ne = absurd (ne refl)
first_in t (x ∷ xs) ne = go (cases_Bool (of_txn t x)) (λ z. first_in t xs z)
  where
    go : (of_txn t x ≡ true) ⊎ (of_txn t x ≡ false) → (first_prev t xs ≢ 0 → First t xs) → First t (x ∷ xs)
    go (inl is) behind = record { front = []; rec = x; behind = xs; parts = refl; own = is; none = refl; prev = ap (λ b. cond b x.prev (first_prev t xs)) is }
    go (inr off) behind =
        let skip : first_prev t (x ∷ xs) ≡ first_prev t xs = ap (λ b. cond b x.prev (first_prev t xs)) off in
        let f = behind (λ z. ne (skip ∙ z)) in
        record { front = x ∷ f.front; rec = f.rec; behind = f.behind; parts = ap (λ (l : List Rec). x ∷ l) f.parts; own = f.own; none = ap (λ b. b || list_any (of_txn t) f.front) off ∙ f.none; prev = skip ∙ f.prev }

first_of : (log : List Rec) (t : TxnId) → ((k : ℕ) → IsMisplaced log k → ⊥) → IsOpen t log → first_prev t log ≡ 0
first_of log t none runs = ⊎_elim (λ is. is) (λ ne. absurd (late (first_in t log ne) ne)) (cases_eq (first_prev t log) 0)
  where
    late : First t log → first_prev t log ≢ 0 → ⊥
    late f ne =
        let named : f.rec.txn ≡ t = own_is t f.rec f.own in
        let front : take (length f.front) log ≡ f.front = ap (take (length f.front)) f.parts ∙ take_at f.front (f.rec ∷ f.behind) (length f.front) refl in
        none (length f.front) (misplaced_at log f.front f.behind t f.rec f.parts f.own (inr (inl (
          ap (λ (u : TxnId). list_any (of_txn u) (take (length f.front) log)) named ∙ ap (list_any (of_txn t)) front ∙ f.none,
          (λ z. ne (f.prev ∙ z)),
          subst (λ (u : TxnId). IsOpen u log) (sym named) runs,
        ))))

pub none_tidy : (log : List Rec) → ((k : ℕ) → IsMisplaced log k → ⊥) → (t : TxnId) → Tidy t log
none_tidy log none t = record {
  order = order_from log [] log t none refl;
  first = λ runs. first_of log t none runs;
  undo = λ first. undo_from log [] log t none first refl;
}
