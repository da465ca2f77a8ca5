-- What an undo makes of a transaction's row, its marks and its live puts: for the law `undo`.
use Rattle.std.proofs.Common.{◌≡◌, ⊎_elim, ℕ, ◌≤◌, Bool, true, false, cond, leb, List, [], ◌∷◌, ◌++◌, filter, map, refl, sym, ap, ◌∙◌, subst, arith}
use Rattle.std.specs.Prelude.{Option, None, Some, is_some, ◌||◌}
use Rattle.std.specs.List.{AllByRecursion, list_any}
use Rattle.std.specs.Map.{lookup}
use Rattle.std.specs.Option.{option_map_or}
use Rattle.std.proofs.lemmas.Bool.{cases_Bool}
use Rattle.sd_base.specs.declared.ids.TxnId.{TxnId}
use Rattle.sd_logrec.specs.View.{Rec}
use Rattle.sd_model.specs.Acts.{live, undone}
use Rattle.sd_model.specs.Changes.{mark_of}
use Rattle.sd_model.specs.Words.{same_word}
use Rattle.sd_model.specs.declared.act.Act.{Act}
use Rattle.sd_model.proofs.Acts.{live_from-append}
use Rattle.sd_txn.specs.Marked.{AreRising}
use Rattle.sd_txn.specs.declared.state.OpenRec.{OpenRec}
use Rattle.sd_chain.specs.Order.{Sofar, advance, after_all, none_yet, of_txn, span_from, span_of, spanned}
use Rattle.sd_state.specs.Tables.{NamedOnce}
use Rattle.sd_state.specs.Values.{open_of}
use Rattle.sd_state.proofs.Words.{word-is}

-- ---- the span of a transaction's records

abbrev last_of : Option (ℕ × ℕ) → ℕ
last_of span = option_map_or (λ s. s.1) span 0

last-from : (t : TxnId) (span : Option (ℕ × ℕ)) (sofar : Sofar) (log : List Rec) → last_of span ≡ sofar.last
    → last_of (span_from t span log) ≡ (after_all t sofar log).last
last-from t span sofar [] e = e
last-from t span sofar (x ∷ xs) e = last-from t (spanned t span x) (advance t sofar x) xs (by (of_txn t x) refl)
  where
    by : (b : Bool) → of_txn t x ≡ b → last_of (spanned t span x) ≡ (advance t sofar x).last
    by true is = rw is refl
    by false is = rw is e

-- its last is the LSN of the last record
pub last-is : (t : TxnId) (log : List Rec) → last_of (span_of t log) ≡ (after_all t none_yet log).last
last-is t log = last-from t None none_yet log refl

span-push-from : (t : TxnId) (span : Option (ℕ × ℕ)) (log : List Rec) (y : Rec)
    → span_from t span (log ++ y ∷ []) ≡ spanned t (span_from t span log) y
span-push-from t span [] y = refl
span-push-from t span (x ∷ xs) y = span-push-from t (spanned t span x) xs y

pub span-push : (t : TxnId) (log : List Rec) (y : Rec) → span_of t (log ++ y ∷ []) ≡ spanned t (span_of t log) y
span-push t log y = span-push-from t None log y

stays-some : (t : TxnId) (span : Option (ℕ × ℕ)) (log : List Rec) → is_some span ≡ true → is_some (span_from t span log) ≡ true
stays-some t span [] e = e
stays-some t span (x ∷ xs) e = stays-some t (spanned t span x) xs (by (of_txn t x) refl)
  where
    by : (b : Bool) → of_txn t x ≡ b → is_some (spanned t span x) ≡ true
    by true is = rw is refl
    by false is = rw is e

some-from : (t : TxnId) (span : Option (ℕ × ℕ)) (log : List Rec) → list_any (of_txn t) log ≡ true
    → is_some (span_from t span log) ≡ true
some-from t span [] e = absurd (cc)
some-from t span (x ∷ xs) e = by (some-from t (spanned t span x) xs) (of_txn t x) refl
  where
    by : (list_any (of_txn t) xs ≡ true → is_some (span_from t (spanned t span x) xs) ≡ true) → (b : Bool) → of_txn t x ≡ b
        → is_some (span_from t (spanned t span x) xs) ≡ true
    by later true is = stays-some t (spanned t span x) xs (rw is refl)
    by later false is = later (sym (ap (λ (b : Bool). b || list_any (of_txn t) xs) is) ∙ e)

-- one with a record has a span
pub span-there : (t : TxnId) (log : List Rec) → list_any (of_txn t) log ≡ true → is_some (span_of t log) ≡ true
span-there t log e = some-from t None log e

-- ---- the stack

-- the top of what is open
pub record IsTop (o : OpenRec) (rest : List OpenRec) (xs : List Rec) : Type 0 where
  pub top : Rec
  pub below : List Rec
  pub is : xs ≡ top ∷ below
  pub first : open_of top ≡ o
  pub others : map open_of below ≡ rest

pub top-of : (o : OpenRec) (rest : List OpenRec) (xs : List Rec) → map open_of xs ≡ o ∷ rest → IsTop o rest xs
top-of o rest [] e = absurd (cc)
top-of o rest (x ∷ xs) e = record { top = x; below = xs; is = refl; first = cc; others = cc }

-- ---- live puts

pub live-undone : (acts : List Act) → live (acts ++ Act.Undo ∷ []) ≡ undone (live acts)
live-undone acts = live_from-append [] acts (Act.Undo ∷ [])

-- ---- marks

-- a number that isn't above this one
abbrev pub within : ℕ → Option ℕ → Option ℕ
within n None = None
within n (Some k) = cond {A = Option ℕ} (leb k n) (Some k) None

abbrev Marks : Type 0
Marks = List (List ℕ × ℕ)

abbrev low_ones : ℕ → Marks → Marks
low_ones n marks = filter (λ (x : List ℕ × ℕ). leb x.1 n) marks

above-not : (a b n : ℕ) → a ≤ b → leb a n ≡ false → leb b n ≡ false
above-not a b n le e = ⊎_elim (λ is. absurd (grind (arith, le, e, is))) (λ is. is) (cases_Bool (leb b n))

none-low : (n low : ℕ) (marks : Marks) → leb low n ≡ false → AllByRecursion (λ (later : List ℕ × ℕ). low ≤ later.1) marks
    → low_ones n marks ≡ []
none-low n low [] e all = refl
none-low n low (x ∷ marks) e all = let off = above-not low x.1 n all.0 e in rw off (none-low n low marks e all.1)

-- of marks that don't fall,
pub rising-within : (test : List ℕ → Bool) (n : ℕ) (marks : Marks) → AreRising marks
    → lookup test (low_ones n marks) ≡ within n (lookup test marks)
rising-within test n [] rising = refl
rising-within test n (x ∷ marks) rising = go (rising-within test n marks rising.1) (leb x.1 n) refl (test x.0) refl
  where
    go : lookup test (low_ones n marks) ≡ within n (lookup test marks) → (b : Bool) → leb x.1 n ≡ b → (hit : Bool)
        → test x.0 ≡ hit
        → lookup test (low_ones n (x ∷ marks)) ≡ within n (lookup test (x ∷ marks))
    go later true is true hit = rw (is, hit) (rw is refl)
    go later true is false hit = rw (is, hit) later
    go later false is true hit = rw (is, hit) (rw (none-low n x.1 marks is rising.0, is) refl)
    go later false is false hit = rw (is, hit) later

none-left : (k : List ℕ) (n : ℕ) (marks : Marks) → mark_of k marks ≡ None → mark_of k (low_ones n marks) ≡ None
none-left k n [] e = refl
none-left k n (x ∷ marks) e = go (none-left k n marks) (same_word k x.0) refl (leb x.1 n) refl
  where
    go : (mark_of k marks ≡ None → mark_of k (low_ones n marks) ≡ None) → (hit : Bool) → same_word k x.0 ≡ hit → (b : Bool)
        → leb x.1 n ≡ b
        → mark_of k (low_ones n (x ∷ marks)) ≡ None
    go later true hit b is = let c = rw hit at e in absurd (cc)
    go later false hit true is = rw (is, hit) (later (rw hit at e))
    go later false hit false is = rw is (later (rw hit at e))

-- and of marks each of which has a name of its own, those that aren't above a number have the numbers that they had
pub once-within : (k : List ℕ) (n : ℕ) (marks : Marks) → NamedOnce marks
    → mark_of k (low_ones n marks) ≡ within n (mark_of k marks)
once-within k n [] once = refl
once-within k n (x ∷ marks) once = go (once-within k n marks once.1) (leb x.1 n) refl (same_word k x.0) refl
  where
    go : mark_of k (low_ones n marks) ≡ within n (mark_of k marks) → (b : Bool) → leb x.1 n ≡ b → (hit : Bool)
        → same_word k x.0 ≡ hit
        → mark_of k (low_ones n (x ∷ marks)) ≡ within n (mark_of k (x ∷ marks))
    go later true is true hit = rw (is, hit) (rw is refl)
    go later true is false hit = rw (is, hit) later
    go later false is true hit =
        rw (is, hit) (none-left k n marks (subst (λ (w : List ℕ). mark_of w marks ≡ None) (sym (word-is k x.0 hit)) once.0)
        ∙ (rw is refl))
    go later false is false hit = rw (is, hit) later

-- and each name is once among them
pub once-left : (n : ℕ) (marks : Marks) → NamedOnce marks → NamedOnce (low_ones n marks)
once-left n [] once = tt
once-left n (x ∷ marks) once = go (once-left n marks once.1) (leb x.1 n) refl
  where
    go : NamedOnce (low_ones n marks) → (b : Bool) → leb x.1 n ≡ b → NamedOnce (low_ones n (x ∷ marks))
    go later true is = rw is (none-left x.0 n marks once.0, later)
    go later false is = rw is later
