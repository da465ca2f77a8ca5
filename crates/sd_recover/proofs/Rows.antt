-- What the rows of a recovered instance say of its next task: for the tasks of a recovery.
use Rattle.std.proofs.Common.{◌≡◌, ◌⊎◌, inl, inr, ⊎_elim, ℕ, Bool, true, false, cond, List, [], ◌∷◌, refl, sym, ap, ◌∙◌, subst}
use Rattle.std.specs.Prelude.{Option, None, Some, IsSome, find, fold, option_and_then, option_map}
use Rattle.std.specs.Map.{keys_of, lookup}
use Rattle.sd_base.specs.Ids.{same_txn}
use Rattle.sd_base.specs.declared.ids.TxnId.{TxnId}
use Rattle.sd_base.proofs.SameIds.{cases_txn, ne-same}
use Rattle.sd_txn.specs.Transactions.{Transaction, Transactions, state_at, top_at}
use Rattle.sd_txn.specs.declared.state.OpenRec.{OpenRec}
use Rattle.sd_txn.specs.declared.state.TxnState.{TxnState}
use Rattle.sd_recover.specs.Tasks.{is_later, is_loser, later, open_lsn, row_is_doubt}

-- by the two ways in which a test comes out
pub two : {P : Type 0} (b : Bool) → (b ≡ true → P) → (b ≡ false → P) → P
two true on off = on refl
two false on off = off refl

inside : {A : Type 0} {x y : A} → Some x ≡ Some y → x ≡ y
inside e = cc

itself : (t u : TxnId) → same_txn t u ≡ true → t ≡ u
itself t u is = ⊎_elim (λ e. e) (λ ne. let clash = sym is ∙ ne-same t u ne in absurd (cc)) (cases_txn t u)

-- ---- the first that passes

pub found-passes : (p : TxnId → Bool) (ts : List TxnId) (t : TxnId) → find p ts ≡ Some t → p t ≡ true
found-passes p [] t e = absurd (cc)
found-passes p (u ∷ us) t e = two (p u)
    (λ on. subst (λ (v : TxnId). p v ≡ true) (inside (sym (ap (λ (b : Bool). cond {A = Option TxnId} b (Some u) (find p us)) on) ∙ e)) on)
    (λ off. found-passes p us t (sym (ap (λ (b : Bool). cond {A = Option TxnId} b (Some u) (find p us)) off) ∙ e))

-- where none passes, no row does
pub none-passes : (p : TxnId → Bool) (es : List (TxnId × Transaction)) (t : TxnId) (x : Transaction) → find p (keys_of es) ≡ None
    → lookup (same_txn t) es ≡ Some x → p t ≡ false
none-passes p [] t x none row = absurd (cc)
none-passes p (e ∷ es) t x none row = two (p e.0)
    (λ on. let clash = sym (ap (λ (b : Bool). cond {A = Option TxnId} b (Some e.0) (find p (keys_of es))) on) ∙ none in absurd (cc))
    (λ off. two (same_txn t e.0)
    (λ is. ap p (itself t e.0 is) ∙ off)
    (λ apart. none-passes p es t x
    (sym (ap (λ (b : Bool). cond {A = Option TxnId} b (Some e.0) (find p (keys_of es))) off) ∙ none)
    (sym (ap (λ (b : Bool). cond {A = Option Transaction} b (Some e.1) (lookup (same_txn t) es)) apart) ∙ row)))

-- ---- the last open record

none-later : (first second : Option ℕ) → is_later first second ≡ true → IsSome second
none-later None None e = absurd (cc)
none-later (Some low) None e = absurd (cc)
none-later None (Some lsn) e = refl
none-later (Some low) (Some lsn) e = refl

alone-later : (second : Option ℕ) → is_later None second ≡ false → second ≡ None
alone-later None e = refl
alone-later (Some lsn) e = absurd (cc)

module _ (table : Transactions) where
  never-none : (ts : List TxnId) (v : TxnId) → fold (later table) (Some v) ts ≡ None → ⊥
  never-none [] v e = absurd (cc)
  never-none (u ∷ us) v e = two (is_later (open_lsn table v) (open_lsn table u))
      (λ on. never-none us u
      (sym (ap (λ (b : Bool). fold (later table) (cond {A = Option TxnId} b (Some u) (Some v)) us) on) ∙ e))
      (λ off. never-none us v
      (sym (ap (λ (b : Bool). fold (later table) (cond {A = Option TxnId} b (Some u) (Some v)) us) off) ∙ e))

  -- where no loser has an open record, no row has one
  pub none-open : (es : List (TxnId × Transaction)) (t : TxnId) (x : Transaction) → fold (later table) None (keys_of es) ≡ None
      → lookup (same_txn t) es ≡ Some x → open_lsn table t ≡ None
  none-open [] t x none row = absurd (cc)
  none-open (e ∷ es) t x none row = two (is_later None (open_lsn table e.0))
      (λ on. absurd (never-none (keys_of es) e.0
      (sym (ap (λ (b : Bool). fold (later table) (cond {A = Option TxnId} b (Some e.0) None) (keys_of es)) on) ∙ none)))
      (λ off. two (same_txn t e.0)
      (λ is. ap (open_lsn table) (itself t e.0 is) ∙ alone-later (open_lsn table e.0) off)
      (λ apart. none-open es t x
      (sym (ap (λ (b : Bool). fold (later table) (cond {A = Option TxnId} b (Some e.0) None) (keys_of es)) off) ∙ none)
      (sym (ap (λ (b : Bool). cond {A = Option Transaction} b (Some e.1) (lookup (same_txn t) es)) apart) ∙ row)))

  found-open : (ts : List TxnId) (best : Option TxnId) (t : TxnId) → fold (later table) best ts ≡ Some t
      → (best ≡ Some t) ⊎ IsSome (open_lsn table t)
  found-open [] best t e = inl e
  found-open (u ∷ us) best t e = ⊎_elim
      (λ is. by (is_later (option_and_then (open_lsn table) best) (open_lsn table u)) refl is)
      (λ some. inr some)
      (found-open us (later table best u) t e)
    where
      by : (b : Bool) → is_later (option_and_then (open_lsn table) best) (open_lsn table u) ≡ b
          → cond {A = Option TxnId} b (Some u) best ≡ Some t → (best ≡ Some t) ⊎ IsSome (open_lsn table t)
      by true on is = inr (subst (λ (v : TxnId). IsSome (open_lsn table v)) (inside is) (none-later _ _ on))
      by false off is = inl is

  -- who has the last open record is a loser, and has an open record
  pub last-open : (ts : List TxnId) (t : TxnId) → fold (later table) None ts ≡ Some t → IsSome (open_lsn table t)
  last-open ts t e = ⊎_elim (λ none. absurd (cc)) (λ some. some) (found-open ts None t e)

-- ---- states

pub doubt-is : (s : Option TxnState) → row_is_doubt s ≡ true → s ≡ Some TxnState.Doubt
doubt-is None e = absurd (cc)
doubt-is (Some TxnState.Running) e = absurd (cc)
doubt-is (Some (TxnState.Rolling to)) e = absurd (cc)
doubt-is (Some TxnState.Retained) e = absurd (cc)
doubt-is (Some TxnState.Doubt) e = refl
doubt-is (Some TxnState.Committed) e = absurd (cc)

pub loser-is : (s : Option TxnState) → is_loser s ≡ true → s ≡ Some TxnState.Retained
loser-is None e = absurd (cc)
loser-is (Some TxnState.Running) e = absurd (cc)
loser-is (Some (TxnState.Rolling to)) e = absurd (cc)
loser-is (Some TxnState.Retained) e = refl
loser-is (Some TxnState.Doubt) e = absurd (cc)
loser-is (Some TxnState.Committed) e = absurd (cc)

-- a loser's open record
pub open-is : (table : Transactions) (t : TxnId) → IsSome (open_lsn table t)
    → (state_at table t ≡ Some TxnState.Retained) × IsSome (top_at table t)
open-is table t some = by (is_loser (state_at table t)) (top_at table t) refl some
  where
    by : (b : Bool) (o : Option OpenRec) → is_loser (state_at table t) ≡ b
        → IsSome (cond {A = Option ℕ} b (option_map (λ (r : OpenRec). r.lsn) o) None)
        → (state_at table t ≡ Some TxnState.Retained) × IsSome o
    by true (Some r) e s = (loser-is (state_at table t) e, refl)
    by true None e s = absurd (cc)
    by false o e s = absurd (cc)
