-- The rows of a table whose transactions are lost, one after another, and what they name then. For the falls of src/crash.rt.
use Rattle.std.proofs.Common.{◌≡◌, ◌≢◌, ◌⊎◌, inl, inr, ⊎_elim, ℕ, suc, ◌+◌, ◌<◌, List, [], ◌∷◌, length, get_or, refl, sym, ap, ◌∙◌, subst, arith}
use Rattle.std.specs.Prelude.{Option, None, Some, option_map}
use Rattle.std.proofs.lemmas.Bool.{cases_eq}
use Rattle.std.proofs.lemmas.List.{get_or_default}
use Rattle.sd_base.specs.declared.ids.TxnId.{TxnId}
use Rattle.sd_base.proofs.SameIds.{cases_txn}
use Rattle.sd_model.specs.Listed.{IsAmong}
use Rattle.sd_txn.specs.Transactions.{OthersStay, SameOrder, Transaction, Transactions, ids, txn_at, with_state}
use Rattle.sd_txn.specs.declared.state.TxnState.{TxnState}
use Rattle.sd_state.proofs.RecoverDone.{found-among}
use Rattle.sd_moves.specs.Falling.{AreCut, AreLost, lost_row, lost_state}

-- who is in a list has a place there
pub place-among : (t : TxnId) (xs : List TxnId) → IsAmong t xs → (k : ℕ) × (k < length xs) × (t ≡ get_or xs k t)
place-among t [] a = absurd a
place-among t (x ∷ xs) (inl same) = (0, omega arith, same)
place-among t (x ∷ xs) (inr rest) = let at = place-among t xs rest in (suc at.0, (let lt = at.1 in omega (arith, lt)), at.2)

lost-twice : (o : Option Transaction) → option_map lost_row (option_map lost_row o) ≡ option_map lost_row o
lost-twice None = refl
lost-twice (Some x) = ap (λ (s : TxnState). Some (with_state s x)) (by x.state)
  where
    by : (s : TxnState) → lost_state (lost_state s) ≡ lost_state s
    by TxnState.Running = refl
    by (TxnState.Rolling to) = refl
    by TxnState.Retained = refl
    by TxnState.Doubt = refl
    by TxnState.Committed = refl

-- what stands at a place doesn't hang on what stands for none
same-place : (xs : List TxnId) (k z : ℕ) (t v : TxnId) → k ≡ z → z < length xs → get_or xs k t ≡ get_or xs z v
same-place xs k z t v e lt = ap (λ (j : ℕ). get_or xs j t) e ∙ get_or_default xs z t v lt

-- The first n rows are lost, and each row is as it was or lost.
pub record HaveLost (n : ℕ) (old now : Transactions) : Type 0 where
  pub order : SameOrder old now
  pub either : (t : TxnId) → (txn_at now t ≡ txn_at old t) ⊎ (txn_at now t ≡ option_map lost_row (txn_at old t))
  pub done : (k : ℕ) → k < n → (t : TxnId) → t ≡ get_or (ids old) k t → txn_at now t ≡ option_map lost_row (txn_at old t)

pub none-lost : (old : Transactions) → HaveLost 0 old old
none-lost old = record {
  order = record { same_ids = refl; same_inst = refl; same_epoch = refl; same_begins = refl };
  either = λ t. inl refl;
  done = λ k lt t is. absurd (omega (arith, lt));
}

module _ (n : ℕ) (old now next : Transactions) (u : TxnId) (h : HaveLost n old now) (small : n < length (ids now))
    (at : u ≡ get_or (ids now) n u)
    (row : txn_at next u ≡ option_map lost_row (txn_at now u)) (others : OthersStay now next u) (order : SameOrder now next) where
  lost-here : txn_at next u ≡ option_map lost_row (txn_at old u)
  lost-here = row ∙ ⊎_elim
      (λ same. ap (option_map lost_row) same)
      (λ lost. ap (option_map lost_row) lost ∙ lost-twice (txn_at old u))
      (h.either u)

  pub one-lost : HaveLost (n + 1) old next
  one-lost = record {
    order = record {
      same_ids = order.same_ids ∙ h.order.same_ids;
      same_inst = order.same_inst ∙ h.order.same_inst;
      same_epoch = order.same_epoch ∙ h.order.same_epoch;
      same_begins = order.same_begins ∙ h.order.same_begins;
    };
    either = λ t. ⊎_elim
        (λ e. inr (subst (λ (v : TxnId). txn_at next v ≡ option_map lost_row (txn_at old v)) (sym e) lost-here))
        (λ ne. ⊎_elim (λ same. inl (others t ne ∙ same)) (λ lost. inr (others t ne ∙ lost)) (h.either t))
        (cases_txn t u);
    done = λ k lt t is. ⊎_elim
        (λ e. subst (λ (v : TxnId). txn_at next v ≡ option_map lost_row (txn_at old v)) (sym e) lost-here)
        (λ ne. others t ne ∙ h.done k (before k lt t is ne) t is)
        (cases_txn t u);
  }
    where
      before : (k : ℕ) → k < n + 1 → (t : TxnId) → t ≡ get_or (ids old) k t → t ≢ u → k < n
      before k lt t is ne = ⊎_elim
          (λ e. absurd (ne (is ∙ same-place (ids old) k n t u e (subst (λ (xs : List TxnId). n < length xs) h.order.same_ids small)
          ∙ sym (at ∙ ap (λ (xs : List TxnId). get_or xs n u) h.order.same_ids))))
          (λ ne. omega (arith, lt, ne))
          (cases_eq k n)

pub all-lost : (old now : Transactions) → HaveLost (length (ids old)) old now → AreLost old now
all-lost old now h = record {
  rows = λ t. by t (txn_at old t) refl;
  order = h.order;
}
  where
    by : (t : TxnId) (o : Option Transaction) → txn_at old t ≡ o → txn_at now t ≡ option_map lost_row (txn_at old t)
    by t None e = ⊎_elim (λ same. same ∙ e ∙ sym (ap (option_map lost_row) e)) (λ lost. lost) (h.either t)
    by t (Some x) e = let at = place-among t (ids old) (found-among t x old.unresolved e) in h.done at.0 at.1 t at.2

-- a row that is in doubt, and then lost, is in doubt
pub doubt-lost : (t : TxnId) (old mid now : Transactions)
    → txn_at mid t ≡ option_map (with_state TxnState.Doubt) (txn_at old t) → OthersStay old mid t → SameOrder old mid → AreLost mid now
    → AreCut t old now
doubt-lost t old mid now row others order lost = record {
  row = lost.rows t ∙ ap (option_map lost_row) row ∙ still (txn_at old t);
  rows = λ u ne. lost.rows u ∙ ap (option_map lost_row) (others u ne);
  order = record {
    same_ids = lost.order.same_ids ∙ order.same_ids;
    same_inst = lost.order.same_inst ∙ order.same_inst;
    same_epoch = lost.order.same_epoch ∙ order.same_epoch;
    same_begins = lost.order.same_begins ∙ order.same_begins;
  };
}
  where
    still : (o : Option Transaction) → option_map lost_row (option_map (with_state TxnState.Doubt) o) ≡ option_map (with_state TxnState.Doubt) o
    still None = refl
    still (Some x) = refl
