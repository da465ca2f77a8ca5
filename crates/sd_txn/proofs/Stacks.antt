-- Undo stacks: what `push` puts on, what `pop` takes off and leaves. For the goals of `Txn` and of the table, and for the laws.
use Rattle.std.proofs.Common.{◌≡◌, ◌+◌, ◌-◌, ◌≤◌, List, [], ◌∷◌, ◌++◌, length, take, filter, leb, None, Some, slice_get, sum_by, refl, sym, ap, subst, ◌∙◌, arith, length-append}
use Rattle.std.proofs.lemmas.List.{length-take-le}
use Rattle.std.proofs.lemmas.List.Sums.{sum_by_push}
use Rattle.sd_txn.specs.declared.state.OpenRec.{OpenRec}
use Rattle.sd_txn.specs.Marked.{AreMarks}
use Rattle.sd_txn.specs.Kept.{undo_of}
use Rattle.sd_txn.specs.Owing.{undo_len}
use Rattle.sd_txn.specs.Transactions.{Transaction, depth, popped, pushed, top}
use Rattle.sd_txn.proofs.Marks.{filter-within, all-follows, AreMarks-trimmed}

pub empty-length : {X : Type 0} (xs : List X) → length xs ≡ 0 → xs ≡ []
empty-length [] e = refl
empty-length (x ∷ xs) e = absurd (omega (arith, e))

module _ {X : Type 0} where
  get-end : (xs : List X) (x : X) → slice_get (xs ++ x ∷ []) (length xs) ≡ Some x
  get-end [] x = refl
  get-end (y ∷ xs) x = get-end xs x

  take-front : (xs : List X) (x : X) → take (length xs) (xs ++ x ∷ []) ≡ xs
  take-front [] x = refl
  take-front (y ∷ xs) x = ap (λ l. y ∷ l) (take-front xs x)

  length-front : (xs : List X) (x : X) → length (xs ++ x ∷ []) - 1 ≡ length xs
  length-front xs x = omega (arith, length-append xs (x ∷ []))

  split_last : (x : X) (xs : List X) → (front : List X) × (last : X) × (x ∷ xs ≡ front ++ last ∷ [])
  split_last x [] = ([], x, refl)
  split_last x (y ∷ xs) = let rest = split_last y xs in (x ∷ rest.0, rest.1, ap (λ l. x ∷ l) rest.2)

  last-is : (xs front : List X) (x : X) → xs ≡ front ++ x ∷ [] → slice_get xs (length xs - 1) ≡ Some x
  last-is xs front x is = (λ i. slice_get (is i) ((ap (λ l. length l - 1) is ∙ length-front front x) i)) ∙ get-end front x

  -- what stands at the end is split off
  pub split-top : (xs : List X) (x : X) → slice_get xs (length xs - 1) ≡ Some x → (front : List X) × (xs ≡ front ++ x ∷ [])
  split-top [] x h = cc
  split-top (y ∷ xs) x h =
      let s = split_last y xs in
      let at : Some s.1 ≡ Some x = sym (last-is (y ∷ xs) s.0 s.1 s.2) ∙ h in
      let same : s.1 ≡ x = cc in
      (s.0, s.2 ∙ ap (λ (e : X). s.0 ++ e ∷ []) same)

  -- and nothing does where the list is empty
  pub none-empty : (xs : List X) → slice_get xs (length xs - 1) ≡ None → xs ≡ []
  none-empty [] h = refl
  none-empty (y ∷ xs) h =
      let s = split_last y xs in
      let at : Some s.1 ≡ None = sym (last-is (y ∷ xs) s.0 s.1 s.2) ∙ h in
      cc

module _ (x : Transaction) where
  module _ (front : List OpenRec) (o : OpenRec) (is : x.stack ≡ front ++ o ∷ []) where
    left : length x.stack - 1 ≡ length front
    left = ap (λ l. length l - 1) is ∙ length-front front o

    pub top-push : top x ≡ Some o
    top-push = (λ i. slice_get (is i) (left i)) ∙ get-end front o

    pub popped-push : popped x ≡ record { state = x.state; marks = filter (λ mark. leb mark.1 (length front)) x.marks; stack = front; span = x.span }
    popped-push = λ i. record { state = x.state; marks = filter (λ mark. leb mark.1 (left i)) x.marks; stack = ((λ j. take (left j) (is j)) ∙ take-front front o) i; span = x.span }

  module _ (empty : x.stack ≡ []) where
    pub top-empty : top x ≡ None
    top-empty = ap (λ l. slice_get l (length l - 1)) empty

    -- without open records each mark is 0, so it stays
    pub popped-empty : AreMarks x.marks (length x.stack) → popped x ≡ x
    popped-empty ok = λ i. record { state = x.state; marks = same i; stack = (ap (λ l. take (length l - 1) l) empty ∙ sym empty) i; span = x.span }
      where
        none : length x.stack ≡ 0
        none = ap length empty

        same : filter (λ mark. leb mark.1 (length x.stack - 1)) x.marks ≡ x.marks
        same = filter-within (length x.stack - 1) x.marks (all-follows (λ mark. mark.1 ≤ length x.stack) (λ mark. mark.1 ≤ length x.stack - 1) (λ mark h. omega (arith, none)) x.marks ok.within)

-- ---- the sums of a transaction, and its marks

module _ (x : Transaction) where
  module _ (rec : OpenRec) where
    pub undo_of-pushed : undo_of (pushed rec x) ≡ undo_of x + undo_len rec
    undo_of-pushed = sum_by_push undo_len x.stack rec

    pub depth-pushed : depth (pushed rec x) ≡ depth x + 1
    depth-pushed = length-append x.stack (rec ∷ [])

    -- a push that is popped leaves nothing
    pub popped-pushed : AreMarks x.marks (depth x) → popped (pushed rec x) ≡ x
    popped-pushed ok = popped-push (pushed rec x) x.stack rec refl
        ∙ (λ i. record { state = x.state; marks = filter-within (length x.stack) x.marks ok.within i; stack = x.stack; span = x.span })

    module _ (at : top x ≡ Some rec) where
      left_is : (front : List OpenRec) × (x.stack ≡ front ++ rec ∷ [])
      left_is = split-top x.stack rec at

      pub undo_of-popped : undo_of (popped x) + undo_len rec ≡ undo_of x
      undo_of-popped = ap (λ y. undo_of y + undo_len rec) (popped-push x left_is.0 rec left_is.1) ∙ sym (sum_by_push undo_len left_is.0 rec) ∙ ap (sum_by undo_len) (sym left_is.1)

      pub depth-popped : depth (popped x) + 1 ≡ depth x
      depth-popped = ap (λ y. depth y + 1) (popped-push x left_is.0 rec left_is.1) ∙ sym (length-append left_is.0 (rec ∷ [])) ∙ ap length (sym left_is.1)

  module _ (none : top x ≡ None) where
    empty : x.stack ≡ []
    empty = none-empty x.stack none

    stays : (popped x).stack ≡ x.stack
    stays = ap (λ l. take (length l - 1) l) empty ∙ sym empty

    pub undo_of-popped_none : undo_of (popped x) ≡ undo_of x
    undo_of-popped_none = ap (sum_by undo_len) stays

    pub depth-popped_none : depth (popped x) ≡ depth x
    depth-popped_none = ap length stays

  pub AreMarks-popped : AreMarks x.marks (depth x) → AreMarks (popped x).marks (depth (popped x))
  AreMarks-popped ok = subst (λ n. AreMarks (popped x).marks n) (sym (length-take-le (length x.stack - 1) x.stack (omega arith))) (AreMarks-trimmed (length x.stack - 1) x.marks ok.rising)
