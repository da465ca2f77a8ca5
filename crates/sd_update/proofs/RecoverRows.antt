-- The rows of a table that end one after another: for `end_rows`.
use Rattle.std.proofs.Common.{◌≡◌, ◌≢◌, ⊎_elim, ℕ, suc, ◌+◌, ◌<◌, Bool, true, false, cond, not, ◌&&◌, List, [], ◌∷◌, length, get_or, refl, sym, ap, ◌∙◌, arith}
use Rattle.std.specs.Prelude.{Option, None, Some, is_some}
use Rattle.std.specs.Map.{keys_of, lookup, remove_entry}
use Rattle.sd_base.specs.declared.ids.TxnId.{TxnId}
use Rattle.sd_base.specs.declared.ids.Rid.{Rid}
use Rattle.sd_base.specs.declared.place.Mode.{Mode}
use Rattle.sd_base.specs.Ids.{same_txn}
use Rattle.sd_base.specs.Waits.{Wait}
use Rattle.sd_base.proofs.SameIds.{cases_txn, eq-same, ne-same}
use Rattle.sd_reclock.specs.Locks.{LockTable, held, waits}
use Rattle.sd_txn.specs.Transactions.{OthersStay, Transaction, Transactions, ids, txn_at, without}
use Rattle.sd_state.specs.Recovering.{without_rows}

-- the transaction was there, and isn't now
abbrev pub has_gone : Transactions → Transactions → TxnId → Bool
has_gone old now t = is_some (txn_at old t) && not (is_some (txn_at now t))

-- So many rows of a table have ended, and theirs are the locks and the waits that went.
pub record HaveEnded (n : ℕ) (old now : Transactions) (before after : LockTable) : Type 0 where
  pub inst : now.inst ≡ old.inst
  pub epoch : now.epoch ≡ old.epoch
  pub begins : now.begins ≡ old.begins
  pub left : n + length now.unresolved ≡ length old.unresolved
  pub was : (t : TxnId) → is_some (txn_at now t) ≡ true → is_some (txn_at old t) ≡ true
  pub locks : (t : TxnId) (r : Rid) → held after t r ≡ cond (has_gone old now t) None (held before t r)
  pub waits : (t : TxnId) → waits after t ≡ cond (has_gone old now t) None (waits before t)

stays : (o : Option Transaction) → (is_some o && not (is_some o)) ≡ false
stays None = refl
stays (Some x) = refl

pub none-ended : (table : Transactions) (locks : LockTable) → HaveEnded 0 table table locks locks
none-ended table locks = record {
  inst = refl;
  epoch = refl;
  begins = refl;
  left = omega arith;
  was = λ t e. e;
  locks = λ t r. sym (ap (λ (b : Bool). cond {A = Option Mode} b None (held locks t r)) (stays (txn_at table t)));
  waits = λ t. sym (ap (λ (b : Bool). cond {A = Option Wait} b None (waits locks t)) (stays (txn_at table t)));
}

-- the first row is found, and the others are left
first-found : (t : TxnId) (es : List (TxnId × Transaction)) → 0 < length es → t ≡ get_or (keys_of es) 0 t
    → is_some (lookup (same_txn t) es) ≡ true
first-found t [] some is = absurd (omega (arith, some))
first-found t (e ∷ es) some is = ap (λ (b : Bool). is_some (cond {A = Option Transaction} b (Some e.1)
    (lookup (same_txn t) es))) (eq-same t e.0 is)

first-gone : (t : TxnId) (es : List (TxnId × Transaction)) → 0 < length es → t ≡ get_or (keys_of es) 0 t
    → suc (length (remove_entry (same_txn t) es)) ≡ length es
first-gone t [] some is = absurd (omega (arith, some))
first-gone t (e ∷ es) some is =
    ap (λ (b : Bool). suc (length (cond {A = List (TxnId × Transaction)} b es (e ∷ remove_entry (same_txn t) es))))
    (eq-same t e.0 is)

module _ (n : ℕ) (old now new : Transactions) (before after later : LockTable) (t : TxnId) (h : HaveEnded n old now before after)
    (some : 0 < length now.unresolved) (first : t ≡ get_or (ids now) 0 t)
    (rest : new ≡ without now t) (gone : txn_at new t ≡ None) (others : OthersStay now new t)
    (locks : (u : TxnId) (q : Rid) → held later u q ≡ cond (same_txn t u) None (held after u q))
    (waiting : (u : TxnId) → waits later u ≡ cond (same_txn t u) None (waits after u)) where
  gone-here : has_gone old new t ≡ true
  gone-here = ap (λ (b : Bool). b && not (is_some (txn_at new t))) (h.was t (first-found t now.unresolved some first))
      ∙ ap (λ (o : Option Transaction). not (is_some o)) gone

  gone-else : (u : TxnId) → u ≢ t → has_gone old new u ≡ has_gone old now u
  gone-else u ne = ap (λ (o : Option Transaction). is_some (txn_at old u) && not (is_some o)) (others u ne)

  still-was : (u : TxnId) → is_some (txn_at new u) ≡ true → is_some (txn_at old u) ≡ true
  still-was u e = ⊎_elim
      (λ same. let clash : false ≡ true = sym (ap is_some (ap (txn_at new) same ∙ gone)) ∙ e in absurd (cc))
      (λ ne. h.was u (sym (ap is_some (others u ne)) ∙ e))
      (cases_txn u t)

  taken : {X : Type 0} (got had was : TxnId → Option X) → ((u : TxnId) → got u ≡ cond (same_txn t u) None (had u))
      → ((u : TxnId) → had u ≡ cond (has_gone old now u) None (was u)) → (u : TxnId)
      → got u ≡ cond (has_gone old new u) None (was u)
  taken {X = X} got had was step all u = ⊎_elim
      (λ same. step u ∙ ap (λ (b : Bool). cond {A = Option X} b None (had u)) (eq-same t u (sym same))
      ∙ sym (ap (λ (b : Bool). cond {A = Option X} b None (was u)) (ap (has_gone old new) same ∙ gone-here)))
      (λ ne. step u ∙ ap (λ (b : Bool). cond {A = Option X} b None (had u)) (ne-same t u (λ e. ne (sym e)))
      ∙ all u ∙ sym (ap (λ (b : Bool). cond {A = Option X} b None (was u)) (gone-else u ne)))
      (cases_txn u t)

  pub one-ended : HaveEnded (n + 1) old new before later
  one-ended = record {
    inst = ap (λ (tb : Transactions). tb.inst) rest ∙ h.inst;
    epoch = ap (λ (tb : Transactions). tb.epoch) rest ∙ h.epoch;
    begins = ap (λ (tb : Transactions). tb.begins) rest ∙ h.begins;
    left = let less = first-gone t now.unresolved some first in
        let is = ap (λ (tb : Transactions). length tb.unresolved) rest in
        let left = h.left in omega (arith, less, is, left);
    was = still-was;
    locks = λ u r. taken (λ v. held later v r) (λ v. held after v r) (λ v. held before v r) (λ v. locks v r) (λ v. h.locks v r) u;
    waits = λ u. taken (waits later) (waits after) (waits before) waiting h.waits u;
  }

-- once all have ended no row is left
nil-of : {A : Type 0} (xs : List A) → length xs ≡ 0 → xs ≡ []
nil-of [] e = refl
nil-of (x ∷ xs) e = absurd (omega (arith, e))

module _ (n : ℕ) (old now : Transactions) (before after : LockTable) (h : HaveEnded n old now before after)
    (all : n ≡ length old.unresolved) where
  none-left : now.unresolved ≡ []
  none-left = let left = h.left in nil-of now.unresolved (omega (arith, left, all))

  pub rows-ended : now ≡ without_rows old
  rows-ended = λ k. record { inst = h.inst k; epoch = h.epoch k; begins = h.begins k; unresolved = none-left k }

  gone-all : (t : TxnId) → has_gone old now t ≡ is_some (txn_at old t)
  gone-all t = ap (λ (es : List (TxnId × Transaction)). is_some (txn_at old t) && not
      (is_some (lookup (same_txn t) es))) none-left
      ∙ by (is_some (txn_at old t))
    where
      by : (b : Bool) → (b && true) ≡ b
      by true = refl
      by false = refl

  pub locks-ended : (t : TxnId) (r : Rid) → held after t r ≡ cond (is_some (txn_at old t)) None (held before t r)
  locks-ended t r = h.locks t r ∙ ap (λ (b : Bool). cond {A = Option Mode} b None (held before t r)) (gone-all t)

  pub waits-ended : (t : TxnId) → waits after t ≡ cond (is_some (txn_at old t)) None (waits before t)
  waits-ended t = h.waits t ∙ ap (λ (b : Bool). cond {A = Option Wait} b None (waits before t)) (gone-all t)
