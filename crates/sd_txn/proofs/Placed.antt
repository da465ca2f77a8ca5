-- A transaction at its place in a list, and a write there. It serves the goals of list.rt.
use Rattle.std.proofs.Common.{◌≡◌, ℕ, zero, suc, Bool, true, false, List, [], ◌∷◌, Some, is_some, unwrap_or, refl, sym, ap, ◌∙◌}
use Rattle.std.proofs.lemmas.Bool.{cond-true, cond-false, true≢false}
use Rattle.std.proofs.lemmas.Map.Keys.{IsDistinct-head, IsDistinct-tail}
use Rattle.std.specs.List.{AllByRecursion, IsDistinct, slice_get}
use Rattle.std.specs.Map.{keys_of, values_of, set_value}
use Rattle.indexmap.specs.Layout.{set_value_at}
use Rattle.sd_base.specs.declared.ids.TxnId.{TxnId}
use Rattle.sd_base.specs.Ids.{same_txn}
use Rattle.sd_txn.proofs.Keyed.{same_txn-is, same_txn-self}

module _ {X : Type 0} (t : TxnId) where
  pub value-at : (x : X) (es : List (TxnId × X)) (i : ℕ) → slice_get es i ≡ Some (t, x) → slice_get (values_of es) i ≡ Some x
  value-at x [] i at = absurd (true≢false (sym (ap is_some at)))
  value-at x (e ∷ es) zero at = ap (λ o. Some (unwrap_or o e).1) at
  value-at x (e ∷ es) (suc i) at = value-at x es i at

  apart_at : (u : TxnId) (x : X) (es : List (TxnId × X)) (i : ℕ) → AllByRecursion (λ y. same_txn u y ≡ false) (keys_of es) → slice_get es i ≡ Some (t, x) → same_txn u t ≡ false
  apart_at u x [] i all at = absurd (true≢false (sym (ap is_some at)))
  apart_at u x (e ∷ es) zero all at = ap (λ o. same_txn u (unwrap_or o e).0) (sym at) ∙ all.0
  apart_at u x (e ∷ es) (suc i) all at = apart_at u x es i all.1 at

  -- the first of distinct transactions is another one than a later one
  other : (x : X) (e : TxnId × X) (es : List (TxnId × X)) (i : ℕ) → IsDistinct same_txn (keys_of (e ∷ es)) → slice_get es i ≡ Some (t, x) → same_txn t e.0 ≡ false
  other x e es i once at = by (same_txn t e.0) refl
    where
      by : (b : Bool) → same_txn t e.0 ≡ b → same_txn t e.0 ≡ false
      by true is = absurd (true≢false (sym (ap (λ u. same_txn u t) (sym (same_txn-is t e.0 is)) ∙ same_txn-self t) ∙ apart_at e.0 x es i (IsDistinct-head same_txn e.0 (keys_of es) once) at))
      by false is = is

  -- a write at the place of a transaction is a write by its number
  pub set-at : (x w : X) (es : List (TxnId × X)) (i : ℕ) → IsDistinct same_txn (keys_of es) → slice_get es i ≡ Some (t, x) → set_value_at es i w ≡ set_value (same_txn t) es w
  set-at x w [] i once at = refl
  set-at x w (e ∷ es) zero once at =
      sym (cond-true (same_txn t e.0) ((e.0, w) ∷ es) (e ∷ set_value (same_txn t) es w) (ap (λ o. same_txn t (unwrap_or o e).0) at ∙ same_txn-self t))
  set-at x w (e ∷ es) (suc i) once at =
      ap (λ l. e ∷ l) (set-at x w es i (IsDistinct-tail same_txn e.0 (keys_of es) once) at)
      ∙ sym (cond-false (same_txn t e.0) ((e.0, w) ∷ es) (e ∷ set_value (same_txn t) es w) (other x e es i once at))
