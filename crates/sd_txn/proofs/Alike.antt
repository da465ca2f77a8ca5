-- Lists of transactions that tell the same of each are the same: for the laws.
use Rattle.std.proofs.Common.{◌≡◌, ◌≢◌, true, false, cond, List, [], ◌∷◌, ◌++◌, None, Some, is_some, refl, sym, ap, subst, ◌∙◌}
use Rattle.std.specs.List.{AllByRecursion, IsDistinct}
use Rattle.std.specs.Map.{keys_of, lookup, set_value}
use Rattle.indexmap.specs.IndexMap.{insert_entry}
use Rattle.sd_base.specs.Ids.{same_txn}
use Rattle.sd_base.specs.declared.ids.TxnId.{TxnId}
use Rattle.sd_txn.specs.Transactions.{Transaction, Transactions, ids, txn_at, OthersStay, Replaces}
use Rattle.sd_txn.proofs.Keyed.{insert_entry-absent, keys-insert_entry, keys-set_value, lookup-insert_entry, lookup-insert_entry_other, lookup-set_value, lookup-set_value_other, same_txn-is, same_txn-self}

abbrev Txns : Type 0
Txns = List (TxnId × Transaction)

-- a number that no entry has isn't found
absent : (k : TxnId) (es : Txns) → AllByRecursion (λ y. same_txn k y ≡ false) (keys_of es) → lookup (same_txn k) es ≡ None
absent k [] a = refl
absent k (e ∷ es) a = ap (λ b. cond b (Some e.1) (lookup (same_txn k) es)) a.0 ∙ absent k es a.1

pub alike : (es gs : Txns) → keys_of es ≡ keys_of gs → IsDistinct same_txn (keys_of es) → ((u : TxnId) → lookup (same_txn u) es ≡ lookup (same_txn u) gs) → es ≡ gs
unfolding IsDistinct
alike [] [] k d l = refl
alike [] (g ∷ gs) k d l = cc
alike (e ∷ es) [] k d l = cc
alike (e ∷ es) (g ∷ gs) k d l =
    let key : e.0 ≡ g.0 = cc in
    let keys : keys_of es ≡ keys_of gs = cc in
    let found : Some e.1 ≡ Some g.1 = sym (ap (λ v. cond v (Some e.1) (lookup (same_txn e.0) es)) (same_txn-self e.0)) ∙ l e.0
    ∙ ap (λ (q : TxnId). cond (same_txn q g.0) (Some g.1) (lookup (same_txn e.0) gs)) key ∙ ap (λ v. cond v (Some g.1) (lookup (same_txn e.0) gs)) (same_txn-self g.0) in
    let value : e.1 ≡ g.1 = cc in
    let none = absent e.0 es d.0 in
    let none' = absent e.0 gs (subst (AllByRecursion (λ y. same_txn e.0 y ≡ false)) keys d.0) in
    let rest : (u : TxnId) → lookup (same_txn u) es ≡ lookup (same_txn u) gs = λ u.
    (elim (same_txn u e.0) as (λ v. same_txn u e.0 ≡ v → lookup (same_txn u) es ≡ lookup (same_txn u) gs) [
      | true ↦ λ is. subst (λ (q : TxnId). lookup (same_txn q) es ≡ lookup (same_txn q) gs) (sym (same_txn-is u e.0 is)) (none ∙ sym none')
      | false ↦ λ is. sym (ap (λ v. cond v (Some e.1) (lookup (same_txn u) es)) is) ∙ l u
          ∙ ap (λ v. cond v (Some g.1) (lookup (same_txn u) gs)) (ap (same_txn u) (sym key) ∙ is)
    ]) refl in
    λ i. (key i, value i) ∷ alike es gs keys d.1 rest i

-- a number is another or the same
other_or_same : (P : TxnId → Type 0) (t : TxnId) → P t → ((u : TxnId) → u ≢ t → P u) → (u : TxnId) → P u
other_or_same P t here there u = (elim (same_txn u t) as (λ v. same_txn u t ≡ v → P u) [
  | true ↦ λ is. subst P (sym (same_txn-is u t is)) here
  | false ↦ λ is. there u (λ e. let bad : true ≡ false = sym (same_txn-self t) ∙ ap (λ (q : TxnId). same_txn q t) (sym e) ∙ is in cc)
]) refl

-- one part is written anew
pub Replaces-set_value : (old new : Transactions) (t : TxnId) (x y : Transaction) → IsDistinct same_txn (ids old) → Replaces old new t x y
    → new.unresolved ≡ set_value (same_txn t) old.unresolved y
Replaces-set_value old new t x y once r =
    let written = set_value (same_txn t) old.unresolved y in
    alike new.unresolved written (r.order.same_ids ∙ sym (keys-set_value t y old.unresolved)) (subst (IsDistinct same_txn) (sym r.order.same_ids) once)
    (other_or_same (λ u. lookup (same_txn u) new.unresolved ≡ lookup (same_txn u) written) t
    (r.now ∙ sym (lookup-set_value t y old.unresolved (ap is_some r.was)))
    (λ u apart. r.others u apart ∙ sym (lookup-set_value_other t y u apart old.unresolved)))

-- one stands at the end
pub begun-push : (old new : Transactions) (t : TxnId) (x : Transaction) → IsDistinct same_txn (ids new) → txn_at old t ≡ None → txn_at new t ≡ Some x → OthersStay old new t
    → ids new ≡ ids old ++ t ∷ [] → new.unresolved ≡ old.unresolved ++ (t, x) ∷ []
begun-push old new t x once none now others order =
    let begun = insert_entry same_txn old.unresolved t x in
    alike new.unresolved begun (order ∙ sym (keys-insert_entry t x old.unresolved none)) once
    (other_or_same (λ u. lookup (same_txn u) new.unresolved ≡ lookup (same_txn u) begun) t
    (now ∙ sym (lookup-insert_entry t x old.unresolved))
    (λ u apart. others u apart ∙ sym (lookup-insert_entry_other t x u apart old.unresolved)))
    ∙ insert_entry-absent t x old.unresolved none
