-- The LSNs of a transaction's first and last record, by the index of its first one: for the goals of `losers_of`.
use Rattle.std.proofs.Common.{◌≡◌, ⊎_elim, ℕ, suc, Bool, true, false, cond, List, [], ◌∷◌, ◌++◌, take, drop, Option, None, Some, slice_get, refl, sym, ap, ◌∙◌}
use Rattle.std.specs.List.{list_any}
use Rattle.std.specs.Option.{option_map_or}
use Rattle.std.proofs.lemmas.Bool.{cases_Bool}
use Rattle.sd_base.specs.declared.ids.TxnId.{TxnId}
use Rattle.sd_logrec.specs.View.{Rec}
use Rattle.sd_chain.specs.Order.{of_txn, spanned, span_from, span_of, Sofar, none_yet, advance, after_all}
use Rattle.sd_chain.proofs.Whose.{advance-off, advance-own, after_all-append, after_all-none}
use Rattle.sd_recovered.proofs.Misplaced.{parts_at}

span_from-append : (t : TxnId) (span : Option (ℕ × ℕ)) (xs ys : List Rec) → span_from t span (xs ++ ys) ≡ span_from t (span_from t span xs) ys
span_from-append t span [] ys = refl
span_from-append t span (x ∷ xs) ys = span_from-append t (spanned t span x) xs ys

spanned-own : (t : TxnId) (span : Option (ℕ × ℕ)) (x : Rec) → of_txn t x ≡ true
    → spanned t span x ≡ Some (option_map_or (λ s. s.0) span x.lsn, x.lsn)
spanned-own t span x own = ap (λ (b : Bool). cond {A = Option (ℕ × ℕ)} b (Some (option_map_or (λ s. s.0) span x.lsn, x.lsn)) span) own

spanned-off : (t : TxnId) (span : Option (ℕ × ℕ)) (x : Rec) → of_txn t x ≡ false → spanned t span x ≡ span
spanned-off t span x off = ap (λ (b : Bool). cond {A = Option (ℕ × ℕ)} b (Some (option_map_or (λ s. s.0) span x.lsn, x.lsn)) span) off

-- records of others leave it
span_from-none : (t : TxnId) (span : Option (ℕ × ℕ)) (xs : List Rec) → list_any (of_txn t) xs ≡ false → span_from t span xs ≡ span
span_from-none t span [] e = refl
span_from-none t span (x ∷ xs) e = ⊎_elim (λ is. let c = rw is at e in absurd (cc))
    (λ off. ap (λ (s : Option (ℕ × ℕ)). span_from t s xs) (spanned-off t span x off) ∙ span_from-none t span xs (rw off at e))
    (cases_Bool (of_txn t x))

-- behind the first record the first LSN stays, and the last one is what is so far
span_from-known : (t : TxnId) (first : ℕ) (sofar : Sofar) (xs : List Rec)
    → span_from t (Some (first, sofar.last)) xs ≡ Some (first, (after_all t sofar xs).last)
span_from-known t first sofar [] = refl
span_from-known t first sofar (x ∷ xs) = ⊎_elim
    (λ own. ap (λ (s : Option (ℕ × ℕ)). span_from t s xs) (spanned-own t (Some (first, sofar.last)) x own
    ∙ ap (λ (q : Sofar). Some (first, q.last)) (sym (advance-own t sofar x own)))
    ∙ span_from-known t first (advance t sofar x) xs)
    (λ off. ap (λ (s : Option (ℕ × ℕ)). span_from t s xs) (spanned-off t (Some (first, sofar.last)) x off
    ∙ ap (λ (q : Sofar). Some (first, q.last)) (sym (advance-off t sofar x off)))
    ∙ span_from-known t first (advance t sofar x) xs)
    (cases_Bool (of_txn t x))

-- the span of a transaction whose first record has this index
pub span-is : (t : TxnId) (xs : List Rec) (at : ℕ) (x : Rec) → slice_get xs at ≡ Some x → of_txn t x ≡ true
    → list_any (of_txn t) (take at xs) ≡ false
    → span_of t xs ≡ Some (x.lsn, (after_all t none_yet xs).last)
span-is t xs at x there own none =
    let front = take at xs in
    let behind = drop (suc at) xs in
    let parts : xs ≡ front ++ x ∷ behind = parts_at xs at x there in
    let started : span_from t (span_from t None front) (x ∷ behind) ≡ span_from t (Some (x.lsn, (advance t none_yet x).last)) behind =
    ap (λ (s : Option (ℕ × ℕ)). span_from t s behind) (ap (λ (s : Option (ℕ × ℕ)). spanned t s x) (span_from-none t None front none)
    ∙ spanned-own t None x own ∙ ap (λ (q : Sofar). Some (x.lsn, q.last)) (sym (advance-own t none_yet x own))) in
    let last : (after_all t (advance t none_yet x) behind).last ≡ (after_all t none_yet xs).last =
    ap (λ (q : Sofar). q.last) (ap (λ (q : Sofar). after_all t q (x ∷ behind)) (sym (after_all-none t none_yet front none))
    ∙ sym (after_all-append t none_yet front (x ∷ behind)) ∙ ap (after_all t none_yet) (sym parts)) in
    ap (span_of t) parts ∙ span_from-append t None front (x ∷ behind) ∙ started ∙ span_from-known t x.lsn (advance t none_yet x) behind
    ∙ ap (λ (n : ℕ). Some (x.lsn, n)) last
