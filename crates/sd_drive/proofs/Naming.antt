-- Transactions by the ordinals of their begin lines, and by their names. It serves the goals of driver.rt.
use Rattle.std.proofs.Common.{◌≡◌, ℕ, zero, suc, ◌+◌, ◌<◌, Bool, true, false, cond, List, [], ◌∷◌, ◌++◌, length, take, drop, get_or, refl, sym, ap, ◌∙◌, arith, ⊎_elim}
use Rattle.std.specs.Prelude.{Option, None, Some, slice_get}
use Rattle.std.specs.Str.{bytes_eq}
use Rattle.std.proofs.lemmas.Bool.{cases_Bool}
use Rattle.std.proofs.lemmas.List.{append-nil, drop_more, take_more}
use Rattle.std.proofs.lemmas.List.Concat.{flat_map-cons}
use Rattle.std.proofs.lemmas.Grind.{flat_map-append}
use Rattle.std.proofs.lemmas.Option.{slice_get-get_or, slice_get_within}
use Rattle.sd_base.specs.declared.ids.TxnId.{TxnId}
use Rattle.sd_script.specs.declared.line.Line.{Line}
use Rattle.sd_script.specs.Order.{begun, begun_by, has_name, ordinal_of}
use Rattle.sd_script.proofs.Ordinals.{named_at, no_ordinal, ordinal_push}
use Rattle.sd_drive.specs.Reaching.{at_ordinal, named}

-- ---- the n-th line

line-of : (lines : List Line) (n : ℕ) (line : Line) → slice_get lines n ≡ Some line → line ≡ get_or lines n line
line-of lines n line is = ap got (sym is ∙ slice_get-get_or lines n line (slice_get_within lines n line is))
  where
    got : Option Line → Line
    got None = line
    got (Some x) = x

pub drop-at : (lines : List Line) (n : ℕ) (line : Line) → slice_get lines n ≡ Some line → drop n lines ≡ line ∷ drop (n + 1) lines
drop-at lines n line is =
    drop_more lines n line (slice_get_within lines n line is) ∙ ap (λ (x : Line). x ∷ drop (n + 1) lines) (sym (line-of lines n line is))

take-at : (lines : List Line) (n : ℕ) (line : Line) → slice_get lines n ≡ Some line → take (n + 1) lines ≡ take n lines ++ line ∷ []
take-at lines n line is =
    take_more lines n line (slice_get_within lines n line is) ∙ ap (λ (x : Line). take n lines ++ x ∷ []) (sym (line-of lines n line is))

pub begun-more : (lines : List Line) (n : ℕ) (line : Line) → slice_get lines n ≡ Some line
    → begun (take (n + 1) lines) ≡ begun (take n lines) ++ begun_by line.form
begun-more lines n line is = ap begun (take-at lines n line is)
    ∙ flat_map-append (λ (l : Line). begun_by l.form) (take n lines) (line ∷ [])
    ∙ ap (λ l. begun (take n lines) ++ l) (flat_map-cons (λ (l : Line). begun_by l.form) line [] ∙ append-nil (begun_by line.form))

-- ---- a transaction more

-- a list with one more has the others as before
before-last : (txns : List (Option TxnId)) (o : Option TxnId) (k : ℕ) → k < length txns → get_or (txns ++ o ∷ []) k None ≡ get_or txns k None
before-last [] o k lt = absurd (omega (arith, lt))
before-last (x ∷ txns) o zero lt = refl
before-last (x ∷ txns) o (suc k) lt = before-last txns o k (omega (arith, lt))

the-last : (txns : List (Option TxnId)) (o : Option TxnId) → get_or (txns ++ o ∷ []) (length txns) None ≡ o
the-last [] o = refl
the-last (x ∷ txns) o = the-last txns o

earlier : (txns : List (Option TxnId)) (o : Option TxnId) (k : Option ℕ) → ((j : ℕ) → k ≡ Some j → j < length txns)
    → at_ordinal (txns ++ o ∷ []) k ≡ at_ordinal txns k
earlier txns o None within = refl
earlier txns o (Some k) within = before-last txns o k (within k refl)

-- one name more has one transaction more
pub named-push : (names : List (List ℕ)) (txns : List (Option TxnId)) (new q : List ℕ) (o : Option TxnId) → has_name names new ≡ false
    → length txns ≡ length names → named (names ++ new ∷ []) (txns ++ o ∷ []) q ≡ cond (bytes_eq new q) o (named names txns q)
named-push names txns new q o fresh count =
    ap (at_ordinal (txns ++ o ∷ [])) (ordinal_push names new q fresh) ∙ ⊎_elim
    (λ (same : bytes_eq new q ≡ true).
    ap (λ (b : Bool). at_ordinal (txns ++ o ∷ []) (cond b (Some (length names)) (ordinal_of names q))) same
    ∙ ap (λ (k : ℕ). get_or (txns ++ o ∷ []) k None) (sym count) ∙ the-last txns o
    ∙ sym (ap (λ (b : Bool). cond b o (named names txns q)) same))
    (λ (differ : bytes_eq new q ≡ false).
    ap (λ (b : Bool). at_ordinal (txns ++ o ∷ []) (cond b (Some (length names)) (ordinal_of names q))) differ
    ∙ earlier txns o (ordinal_of names q) (λ k is. omega (arith, count, slice_get_within names k q (named_at names q k is)))
    ∙ sym (ap (λ (b : Bool). cond b o (named names txns q)) differ))
    (cases_Bool (bytes_eq new q))

-- a name that wasn't begun has none
pub named-none : (names : List (List ℕ)) (txns : List (Option TxnId)) (q : List ℕ) → has_name names q ≡ false → named names txns q ≡ None
named-none names txns q fresh = ap (at_ordinal txns) (no_ordinal names q fresh)

-- an ordinal is that of a transaction that is known
pub ordinal-within : (names : List (List ℕ)) (name : List ℕ) (k n : ℕ) → ordinal_of names name ≡ Some k → n ≡ length names → k < n
ordinal-within names name k n is count = omega (arith, count, slice_get_within names k name (named_at names name k is))
