-- Sums over transactions, and how they move: for the goals of the calls of `TxnTable`, and for the laws.
use Rattle.std.proofs.Common.{◌≡◌, ℕ, ◌+◌, ◌*◌, ◌≤◌, Bool, true, false, cond, List, [], ◌∷◌, ◌++◌, length, is_some, IsSome, option_and_then, Option, None, Some, sum_by, refl, ap, ◌∙◌, arith}
use Rattle.std.proofs.lemmas.List.Sums.{sum_by-cons, sum_by_push}
use Rattle.std.specs.Map.{lookup, remove_entry, set_value}
use Rattle.sd_base.specs.declared.ids.TxnId.{TxnId}
use Rattle.sd_txn.specs.declared.state.OpenRec.{OpenRec}
use Rattle.sd_txn.specs.Kept.{total, undo_of, spans_of}
use Rattle.sd_txn.specs.Owing.{bytes_owed, records_owed, undo_len}
use Rattle.sd_txn.specs.Transactions.{Transaction, depth}

abbrev Txns : Type 0
Txns = List (TxnId × Transaction)

module _ (f : Transaction → ℕ) where
  total-cons : (e : TxnId × Transaction) (es : Txns) → total f (e ∷ es) ≡ f e.1 + total f es
  total-cons e es = sum_by-cons (λ (e : TxnId × Transaction). f e.1) e es

  pub total-push : (es : Txns) (t : TxnId) (x : Transaction) → total f (es ++ (t, x) ∷ []) ≡ total f es + f x
  total-push es t x = sum_by_push (λ (e : TxnId × Transaction). f e.1) es (t, x)

  module _ (test : TxnId → Bool) (y : Transaction) where
    -- a part is at most the sum
    pub total-part : (es : Txns) → lookup test es ≡ Some y → f y ≤ total f es
    total-part [] h = cc
    total-part (e ∷ es) h = (elim (test e.0) as (λ b. cond b (Some e.1) (lookup test es) ≡ Some y → f y ≤ total f (e ∷ es)) [
      | true ↦ λ h. let is : e.1 ≡ y = cc in omega (arith, total-cons e es, ap f is)
      | false ↦ λ h. omega (arith, total-cons e es, total-part es h)
    ]) h

    -- one part is written anew
    pub total-set_value : (x : Transaction) (es : Txns) → lookup test es ≡ Some y → total f (set_value test es x) + f y ≡ total f es + f x
    total-set_value x [] h = cc
    total-set_value x (e ∷ es) h = (elim (test e.0) as (λ b. cond b (Some e.1) (lookup test es) ≡ Some y → total f (cond b ((e.0, x) ∷ es) (e ∷ set_value test es x)) + f y ≡ total f (e ∷ es) + f x) [
      | true ↦ λ h. let is : e.1 ≡ y = cc in omega (arith, total-cons e es, total-cons (e.0, x) es, ap f is)
      | false ↦ λ h. omega (arith, total-cons e es, total-cons e (set_value test es x), total-set_value x es h)
    ]) h

    -- one is taken out
    pub total-remove_entry : (es : Txns) → lookup test es ≡ Some y → total f (remove_entry test es) + f y ≡ total f es
    total-remove_entry [] h = cc
    total-remove_entry (e ∷ es) h = (elim (test e.0) as (λ b. cond b (Some e.1) (lookup test es) ≡ Some y → total f (cond b es (e ∷ remove_entry test es)) + f y ≡ total f (e ∷ es)) [
      | true ↦ λ h. let is : e.1 ≡ y = cc in omega (arith, total-cons e es, ap f is)
      | false ↦ λ h. omega (arith, total-cons e es, total-cons e (remove_entry test es), total-remove_entry es h)
    ]) h

-- ---- what the ends take, as two sums

bytes_owed-is : (x : Transaction) → bytes_owed x ≡ 31 * spans_of x + undo_of x
bytes_owed-is x = elim (is_some x.span) as (λ b. cond b 31 0 + undo_of x ≡ 31 * cond b 1 0 + undo_of x) [ true ↦ omega arith | false ↦ omega arith ]

pub reserve-is : (es : Txns) → total bytes_owed es ≡ 31 * total spans_of es + total undo_of es
reserve-is [] = refl
reserve-is (e ∷ es) = omega (arith, total-cons bytes_owed e es, total-cons spans_of e es, total-cons undo_of e es, bytes_owed-is e.1, reserve-is es)

pub owed-is : (es : Txns) → total records_owed es ≡ total spans_of es + total depth es
owed-is [] = refl
owed-is (e ∷ es) = omega (arith, total-cons records_owed e es, total-cons spans_of e es, total-cons depth e es, owed-is es)

-- each undo has a byte and more
depth-le : (stack : List OpenRec) → length stack ≤ sum_by undo_len stack
depth-le [] = omega arith
depth-le (o ∷ stack) = omega (arith, sum_by-cons undo_len o stack, depth-le stack)

pub records-le : (es : Txns) → total depth es ≤ total undo_of es
records-le [] = omega arith
records-le (e ∷ es) = omega (arith, total-cons depth e es, total-cons undo_of e es, depth-le e.1.stack, records-le es)

spans_of-le : (x : Transaction) → spans_of x ≤ 1
spans_of-le x = elim (is_some x.span) as (λ b. cond b 1 0 ≤ 1) [ true ↦ omega arith | false ↦ omega arith ]

spans-le : (es : Txns) → total spans_of es ≤ length es
spans-le [] = omega arith
spans-le (e ∷ es) = omega (arith, total-cons spans_of e es, spans_of-le e.1, spans-le es)

-- there is room for the first record of one that has none
spans-room : (test : TxnId → Bool) (y : Transaction) (es : Txns) → lookup test es ≡ Some y → total spans_of es + cond (is_some y.span) 0 1 ≤ length es
spans-room test y [] h = cc
spans-room test y (e ∷ es) h = (elim (test e.0) as (λ b. cond b (Some e.1) (lookup test es) ≡ Some y → total spans_of (e ∷ es) + cond (is_some y.span) 0 1 ≤ length (e ∷ es)) [
  | true ↦ λ h. let is : e.1 ≡ y = cc in
      let one : spans_of e.1 + cond (is_some y.span) 0 1 ≡ 1 = ap (λ (x : Transaction). spans_of x + cond (is_some y.span) 0 1) is ∙ either (is_some y.span) in
      omega (arith, total-cons spans_of e es, spans-le es, one)
  | false ↦ λ h. omega (arith, total-cons spans_of e es, spans_of-le e.1, spans-room test y es h)
]) h
  where
    either : (b : Bool) → cond b 1 0 + cond b 0 1 ≡ 1
    either true = refl
    either false = refl

pub spans-first : (test : TxnId → Bool) (es : Txns) → IsSome (lookup test es) → total spans_of es + cond (is_some (option_and_then (λ (x : Transaction). x.span) (lookup test es))) 0 1 ≤ length es
spans-first test es there = by (lookup test es) refl there
  where
    by : (o : Option Transaction) → lookup test es ≡ o → IsSome o → total spans_of es + cond (is_some (option_and_then (λ (x : Transaction). x.span) o)) 0 1 ≤ length es
    by None h there = cc
    by (Some y) h there = spans-room test y es h
