-- A mark is set in a transaction's row and in the serial table. For `save` of working.rt.
use Rattle.std.proofs.Common.{◌≡◌, ◌≢◌, ⊎_elim, ℕ, Bool, true, false, cond, List, [], ◌∷◌, ◌++◌, refl, sym, ap, ◌∙◌, subst}
use Rattle.std.specs.Prelude.{Option, None, Some, ◌&&◌}
use Rattle.std.specs.Cmp.{nat_eq_equiv}
use Rattle.std.specs.Map.{lookup, remove_entry}
use Rattle.std.specs.Str.{bytes_eq}
use Rattle.std.proofs.lemmas.Bool.{cases_Bool}
use Rattle.std.proofs.lemmas.Slice.Eq.{bytes_eq-Decides}
use Rattle.sd_model.specs.Changes.{mark_of, with_mark}
use Rattle.sd_model.specs.Words.{same_word}
use Rattle.sd_txn.specs.Transactions as txns
use Rattle.sd_state.specs.Tables.{NamedOnce}
use Rattle.sd_state.proofs.Words.{word-is}

abbrev pub Marks : Type 0
Marks = List (List ℕ × ℕ)

word-same : (k : List ℕ) → same_word k k ≡ true
word-same [] = refl
word-same (x ∷ k) = λ i. nat_eq_equiv.refl x i && word-same k i

word-other : (q k : List ℕ) → q ≢ k → same_word q k ≡ false
word-other q k ne = ⊎_elim (λ is. absurd (ne (word-is q k is))) (λ not. not) (cases_Bool (same_word q k))

bytes-other : (q k : List ℕ) → q ≢ k → bytes_eq q k ≡ false
bytes-other q k ne = ⊎_elim (λ is. absurd (ne ((bytes_eq-Decides q k).0 is))) (λ not. not) (cases_Bool (bytes_eq q k))

-- ---- in the row: the other names have what they had

pushed-else : (q k : List ℕ) (n : ℕ) (marks : Marks) → q ≢ k → lookup (bytes_eq q) (marks ++ (k, n) ∷ []) ≡ lookup (bytes_eq q) marks
pushed-else q k n [] ne = rw (bytes-other q k ne) refl
pushed-else q k n (x ∷ marks) ne =
    ap (λ (o : Option ℕ). cond {A = Option ℕ} (bytes_eq q x.0) (Some x.1) o) (pushed-else q k n marks ne)

removed-else : (q k : List ℕ) (marks : Marks) → q ≢ k → lookup (bytes_eq q) (remove_entry (bytes_eq k) marks) ≡ lookup (bytes_eq q) marks
removed-else q k [] ne = refl
removed-else q k (x ∷ marks) ne = by (removed-else q k marks ne) (bytes_eq k x.0) refl
  where
    by : lookup (bytes_eq q) (remove_entry (bytes_eq k) marks) ≡ lookup (bytes_eq q) marks → (b : Bool) → bytes_eq k x.0 ≡ b
        → lookup (bytes_eq q) (cond {A = Marks} b marks (x ∷ remove_entry (bytes_eq k) marks)) ≡ lookup (bytes_eq q) (x ∷ marks)
    by later true is = sym (ap (λ (b : Bool). cond {A = Option ℕ} b (Some x.1) (lookup (bytes_eq q) marks))
        (bytes-other q x.0 (λ e. ne (e ∙ sym ((bytes_eq-Decides k x.0).0 is)))))
    by later false is = ap (λ (o : Option ℕ). cond {A = Option ℕ} (bytes_eq q x.0) (Some x.1) o) later

row-else : (q k : List ℕ) (n : ℕ) (marks : Marks) → q ≢ k → lookup (bytes_eq q) (txns.with_mark k n marks) ≡ lookup (bytes_eq q) marks
row-else q k n marks ne = pushed-else q k n (remove_entry (bytes_eq k) marks) ne ∙ removed-else q k marks ne

-- ---- in the serial table

marked-here : (k : List ℕ) (n : ℕ) (marks : Marks) → mark_of k (with_mark k n marks) ≡ Some n
marked-here k n [] = rw (word-same k) refl
marked-here k n (x ∷ marks) = by (marked-here k n marks) (same_word k x.0) refl
  where
    by : mark_of k (with_mark k n marks) ≡ Some n → (b : Bool) → same_word k x.0 ≡ b → mark_of k (cond {A = Marks} b ((k, n) ∷ marks) (x ∷ with_mark k n marks)) ≡ Some n
    by later true is = rw (word-same k) refl
    by later false is = rw is later

marked-else : (q k : List ℕ) (n : ℕ) (marks : Marks) → q ≢ k → mark_of q (with_mark k n marks) ≡ mark_of q marks
marked-else q k n [] ne = rw (word-other q k ne) refl
marked-else q k n (x ∷ marks) ne = by (marked-else q k n marks ne) (same_word k x.0) refl
  where
    by : mark_of q (with_mark k n marks) ≡ mark_of q marks → (b : Bool) → same_word k x.0 ≡ b
        → mark_of q (cond {A = Marks} b ((k, n) ∷ marks) (x ∷ with_mark k n marks)) ≡ mark_of q (x ∷ marks)
    by later true is =
        ap (λ (b : Bool). cond {A = Option ℕ} b (Some n) (mark_of q marks)) (word-other q k ne)
        ∙ sym (ap (λ (b : Bool). cond {A = Option ℕ} b (Some x.1) (mark_of q marks)) (word-other q x.0 (λ e. ne (e ∙ sym (word-is k x.0 is)))))
    by later false is = ap (λ (o : Option ℕ). cond {A = Option ℕ} (same_word q x.0) (Some x.1) o) later

-- no name stands twice then
pub once-marked : (k : List ℕ) (n : ℕ) (marks : Marks) → NamedOnce marks → NamedOnce (with_mark k n marks)
once-marked k n [] once = (refl, tt)
once-marked k n (x ∷ marks) once = by (once-marked k n marks once.1) (same_word k x.0) refl
  where
    by : NamedOnce (with_mark k n marks) → (b : Bool) → same_word k x.0 ≡ b → NamedOnce (cond {A = Marks} b ((k, n) ∷ marks) (x ∷ with_mark k n marks))
    by later true is = (subst (λ (w : List ℕ). mark_of w marks ≡ None) (sym (word-is k x.0 is)) once.0, once.1)
    by later false is = (
      marked-else x.0 k n marks (λ e. let clash = sym is ∙ ap (same_word k) e ∙ word-same k in absurd (cc)) ∙ once.0,
      later,
    )

-- each name has the same number in both, where it had so before, and the row has the new one
pub same-marks : (k : List ℕ) (n : ℕ) (row part : Marks) → ((q : List ℕ) → lookup (bytes_eq q) row ≡ mark_of q part)
    → lookup (bytes_eq k) (txns.with_mark k n row) ≡ Some n
    → (q : List ℕ) → lookup (bytes_eq q) (txns.with_mark k n row) ≡ mark_of q (with_mark k n part)
same-marks k n row part same here q = ⊎_elim
    (λ is. subst (λ (w : List ℕ). lookup (bytes_eq w) (txns.with_mark k n row) ≡ mark_of w (with_mark k n part))
    (sym ((bytes_eq-Decides q k).0 is)) (here ∙ sym (marked-here k n part)))
    (λ not. let ne : q ≢ k = λ e. let clash = sym not ∙ (bytes_eq-Decides q k).1 e in absurd (cc) in
    row-else q k n row ne ∙ same q ∙ sym (marked-else q k n part ne))
    (cases_Bool (bytes_eq q k))
