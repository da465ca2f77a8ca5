-- The rows of which nothing is left to do, and what the serial table makes of them as a recovery ends: for `end_recovery`.
use Rattle.std.proofs.Common.{◌≡◌, ◌≢◌, ◌⊎◌, inl, inr, ⊎_elim, ℕ, ◌+◌, Bool, true, false, cond, List, [], ◌∷◌, ◌++◌, ◌&&◌, length, map, refl, sym, ap, ap₂, ◌∙◌, arith}
use Rattle.std.specs.Prelude.{Option, None, Some, filter, is_some, sum_by, if◌then◌else◌}
use Rattle.std.specs.List.{AllByRecursion, IsDistinct}
use Rattle.std.specs.Map.{keys_of, lookup}
use Rattle.std.proofs.lemmas.List.Sums.{sum_by-cons}
use Rattle.sd_base.specs.declared.ids.TxnId.{TxnId}
use Rattle.sd_base.specs.Ids.{same_txn}
use Rattle.sd_base.specs.declared.place.Status.TheVariants as S
use Rattle.sd_base.proofs.SameIds.{cases_txn, eq-same, ne-same}
use Rattle.sd_logrec.specs.View.{Rec}
use Rattle.sd_model.specs.Acts.{after}
use Rattle.sd_model.specs.Apart.{dones}
use Rattle.sd_model.specs.Changes.{AreOf, commit_all, is_swept}
use Rattle.sd_model.specs.Finishing as finishing
use Rattle.sd_model.specs.Listed.{IsAmong}
use Rattle.sd_model.specs.Lives.{SuitsStatus}
use Rattle.sd_model.specs.State.{State, Part, committed, gone}
use Rattle.sd_model.specs.declared.act.Cut.TheVariants as cuts
use Rattle.sd_model.specs.declared.act.Done.{Done}
use Rattle.sd_model.specs.declared.act.Life.{Life}
use Rattle.sd_txn.specs.Owing.{bytes_owed, records_owed, undo_len}
use Rattle.sd_txn.specs.Transactions.{Transaction}
use Rattle.sd_txn.specs.declared.state.OpenRec.{OpenRec}
use Rattle.sd_txn.specs.declared.state.TxnState.{TxnState}
use Rattle.sd_chain.specs.Records.{Each}
use Rattle.sd_state.specs.Recovering.{IsDone, is_found}
use Rattle.sd_state.specs.Tables.{IsInDoubt}
use Rattle.sd_state.specs.Values.{Pending, as_done, is_committed, is_doubt, values}

-- ---- lists

pub found-is : (o : Option TxnState) → is_found o ≡ true → o ≡ Some TxnState.Committed
found-is None e = absurd (cc)
found-is (Some TxnState.Running) e = absurd (cc)
found-is (Some (TxnState.Rolling to)) e = absurd (cc)
found-is (Some TxnState.Retained) e = absurd (cc)
found-is (Some TxnState.Doubt) e = absurd (cc)
found-is (Some TxnState.Committed) e = refl

-- none passes a test that takes none
pub none-passes : (f : TxnId → Bool) (u : TxnId) (xs : List TxnId) → IsAmong u xs → f u ≡ true → filter f xs ≡ [] → ⊥
none-passes f u [] a e none = absurd a
none-passes f u (x ∷ xs) a e none = by (f x) refl (none-passes f u xs) a none
  where
    by : (b : Bool) → f x ≡ b → (IsAmong u xs → f u ≡ true → filter f xs ≡ [] → ⊥) → (u ≡ x) ⊎ IsAmong u xs
        → cond b (x ∷ filter f xs) (filter f xs) ≡ [] → ⊥
    by true is ih a none = absurd (cc)
    by false is ih (inl same) none = let clash : true ≡ false = sym e ∙ ap f same ∙ is in absurd (cc)
    by false is ih (inr rest) none = ih rest e none

-- what a test takes
pub each-taken : (f : TxnId → Bool) (i : ℕ) (xs : List TxnId) → ((u : TxnId) → f u ≡ true → u.inst ≡ i) → AreOf i (filter f xs)
each-taken f i [] own = tt
each-taken f i (x ∷ xs) own = by (f x) refl (each-taken f i xs own)
  where
    by : (b : Bool) → f x ≡ b → AreOf i (filter f xs) → AreOf i (cond b (x ∷ filter f xs) (filter f xs))
    by true is ih = (own x is, ih)
    by false is ih = ih

-- a test that only one passes takes none or that one
abbrev pub TakesOne : (TxnId → Bool) → List TxnId → Type 0
TakesOne f xs = (filter f xs ≡ []) ⊎ ((t : TxnId) × (filter f xs ≡ t ∷ []) × (f t ≡ true))

none-else : (f : TxnId → Bool) (x : TxnId) (xs : List TxnId) → AllByRecursion (λ y. same_txn x y ≡ false) xs
    → ((u : TxnId) → f u ≡ true → x ≡ u) → filter f xs ≡ []
none-else f x [] a one = refl
none-else f x (y ∷ ys) a one = by (f y) refl (none-else f x ys a.1 one)
  where
    by : (b : Bool) → f y ≡ b → filter f ys ≡ [] → cond b (y ∷ filter f ys) (filter f ys) ≡ []
    by true is ih = let clash : true ≡ false = sym (eq-same x y (one y is)) ∙ a.0 in absurd (cc)
    by false is ih = ih

pub takes-one : (f : TxnId → Bool) (xs : List TxnId) → IsDistinct same_txn xs → ((u v : TxnId) → f u ≡ true → f v ≡ true → u ≡ v)
    → TakesOne f xs
unfolding IsDistinct
takes-one f [] d one = inl refl
takes-one f (x ∷ xs) d one = by (f x) refl (takes-one f xs d.1 one)
  where
    by : (b : Bool) → f x ≡ b → TakesOne f xs
        → (cond b (x ∷ filter f xs) (filter f xs) ≡ []) ⊎ ((t : TxnId) × (cond b (x ∷ filter f xs) (filter f xs)
        ≡ t ∷ []) × (f t ≡ true))
    by true is ih = inr (x, ap (λ (l : List TxnId). x ∷ l) (none-else f x xs d.0 (λ u e. one x u is e)), is)
    by false is ih = ih

-- ---- rows that are looked up

abbrev Rows : Type 0
Rows = List (TxnId × Transaction)

pub found-among : (t : TxnId) (x : Transaction) (es : Rows) → lookup (same_txn t) es ≡ Some x → IsAmong t (keys_of es)
found-among t x [] is = absurd (cc)
found-among t x (e ∷ es) is = ⊎_elim (λ same. inl same)
    (λ ne. inr (found-among t x es (sym (ap (λ (b : Bool). cond {A = Option Transaction} b (Some e.1) (lookup (same_txn t) es))
    (ne-same t e.0 ne)) ∙ is)))
    (cases_txn t e.0)

absent : (t : TxnId) (es : Rows) → AllByRecursion (λ y. same_txn t y ≡ false) (keys_of es) → lookup (same_txn t) es ≡ None
absent t [] a = refl
absent t (e ∷ es) a = ap (λ (b : Bool). cond {A = Option Transaction} b (Some e.1) (lookup (same_txn t) es)) a.0 ∙ absent t es a.1

-- what holds of each row that is found holds of each row
each-found : (P : Transaction → Type 0) (es : Rows) → IsDistinct same_txn (keys_of es)
    → ((t : TxnId) (x : Transaction) → lookup (same_txn t) es ≡ Some x → P x) → Each (λ e. P e.1) es
unfolding IsDistinct
each-found P [] d f = tt
each-found P (e ∷ es) d f = (
  f e.0 e.1 (ap (λ (b : Bool). cond {A = Option Transaction} b (Some e.1) (lookup (same_txn e.0) es)) (eq-same e.0 e.0 refl)),
  each-found P es d.1 (λ t x is. f t x (ap (λ (b : Bool). cond {A = Option Transaction} b (Some e.1) (lookup (same_txn t) es))
      (ne-same t e.0 (λ same.
      let clash : None ≡ Some x = sym (absent e.0 es d.0) ∙ ap (λ (u : TxnId). lookup (same_txn u) es) (sym same)
      ∙ is in absurd (cc))) ∙ is)),
)

none-summed : (f : Transaction → ℕ) (es : Rows) → Each (λ e. f e.1 ≡ 0) es → sum_by (λ e. f e.1) es ≡ 0
none-summed f [] a = refl
none-summed f (e ∷ es) a = let rest = none-summed f es a.1 in let here = a.0 in
    sum_by-cons (λ (e : TxnId × Transaction). f e.1) e es ∙ omega (arith, rest, here)

records-none : (i : ℕ) (t : TxnId) (x : Transaction) → IsDone i t x → records_owed x ≡ 0
records-none i t x d = ap₂ (λ (s : Option (ℕ × ℕ)) (k : List OpenRec). (if is_some s then 1 else 0) + length k) d.span d.emptied

bytes-none : (i : ℕ) (t : TxnId) (x : Transaction) → IsDone i t x → bytes_owed x ≡ 0
bytes-none i t x d = ap₂ (λ (s : Option (ℕ × ℕ)) (k : List OpenRec).
    (if is_some s then 31 else 0) + sum_by undo_len k) d.span d.emptied

module _ (i : ℕ) (es : Rows) (d : IsDistinct same_txn (keys_of es))
    (rows : (t : TxnId) (x : Transaction) → lookup (same_txn t) es ≡ Some x → IsDone i t x) where
  -- nothing is owed
  pub no-records : sum_by (λ e. records_owed e.1) es ≡ 0
  no-records = none-summed records_owed es (each-found (λ x. records_owed x ≡ 0) es d
      (λ t x is. records-none i t x (rows t x is)))

  pub no-bytes : sum_by (λ e. bytes_owed e.1) es ≡ 0
  no-bytes = none-summed bytes_owed es (each-found (λ x. bytes_owed x ≡ 0) es d (λ t x is. bytes-none i t x (rows t x is)))

-- ---- the serial table

-- a failure cuts a commit alone
pub doubt-cut : (life : Life) → IsInDoubt life → life ≡ Life.Doubt cuts.Committing
doubt-cut Life.Gone d = absurd d
doubt-cut Life.Running d = absurd d
doubt-cut Life.Retained d = absurd d
doubt-cut (Life.Rolling to) d = absurd d
doubt-cut (Life.Doubt cuts.Committing) d = refl

-- whoever stands while its instance is recovered is swept
pub swept-life : (life : Life) (by : ℕ) → SuitsStatus life (S.Recovering by) → is_swept life ≡ true
swept-life Life.Gone by s = refl
swept-life Life.Running by s = absurd s
swept-life Life.Retained by s = refl
swept-life (Life.Rolling to) by s = absurd s
swept-life (Life.Doubt cut) by s = refl

pub mid-swept : (ks : List TxnId) (m : State) (t : TxnId) → is_swept (m.part t).life ≡ true
    → is_swept ((commit_all ks m).part t).life ≡ true
mid-swept [] m t e = e
mid-swept (k ∷ ks) m t e = mid-swept ks (committed k m) t (by (same_txn k t))
  where
    by : (b : Bool) → is_swept (cond {A = Part} b gone (m.part t)).life ≡ true
    by true = refl
    by false = e

pub mid-else : (i : ℕ) (ks : List TxnId) (m : State) → AreOf i ks → (t : TxnId) → t.inst ≢ i → (commit_all ks m).part t ≡ m.part t
mid-else i [] m own t ne = refl
mid-else i (k ∷ ks) m own t ne = mid-else i ks (committed k m) own.1 t ne
    ∙ ap (λ (b : Bool). cond {A = Part} b gone (m.part t)) (ne-same k t (λ e. ne (ap (λ (u : TxnId). u.inst) (sym e) ∙ own.0)))

doubt-same : (life : Life) → is_doubt life ≡ finishing.is_doubt life
doubt-same Life.Gone = refl
doubt-same Life.Running = refl
doubt-same Life.Retained = refl
doubt-same (Life.Rolling to) = refl
doubt-same (Life.Doubt cut) = refl

decided-dones : (m : State) (f : TxnId → Bool) (xs : List TxnId)
    → map (as_done m) (filter f (filter (λ t. is_doubt (m.part t).life) xs ++ [])) ≡ dones m (filter (finishing.picks m f) xs)
decided-dones m f [] = refl
decided-dones m f (x ∷ xs) = by (is_doubt (m.part x).life) (f x) refl (decided-dones m f xs)
    ∙ ap (λ (b : Bool). dones m (cond {A = List TxnId} (b && f x) (x ∷ picked) picked)) (doubt-same (m.part x).life)
  where
    found : List TxnId
    found = filter (λ t. is_doubt (m.part t).life) xs ++ []

    picked : List TxnId
    picked = filter (finishing.picks m f) xs

    by : (b c : Bool) → f x ≡ c → map (as_done m) (filter f found) ≡ dones m picked
        → map (as_done m) (filter f (cond {A = List TxnId} b (x ∷ filter (λ t. is_doubt (m.part t).life) xs)
        (filter (λ t. is_doubt (m.part t).life) xs) ++ []))
        ≡ dones m (cond {A = List TxnId} (b && f x) (x ∷ picked) picked)
    by true true e ih = ap (λ (b : Bool). map (as_done m) (cond {A = List TxnId} b (x ∷ filter f found) (filter f found))) e
        ∙ ap (λ (ds : List Done). as_done m x ∷ ds) ih ∙ sym (ap
        (λ (b : Bool). dones m (cond {A = List TxnId} b (x ∷ picked) picked)) e)
    by true false e ih = ap (λ (b : Bool). map (as_done m) (cond {A = List TxnId} b (x ∷ filter f found) (filter f found))) e
        ∙ ih ∙ sym (ap (λ (b : Bool). dones m (cond {A = List TxnId} b (x ∷ picked) picked)) e)
    by false c e ih = ih

-- the table that an image stands for is the one that stands once those in doubt are decided
pub values-standing : (m : State) (logs : ℕ → List Rec) (p s : ℕ)
    → values m Pending.Idle logs p s ≡ finishing.standing m (is_committed logs) (record { page = p; slot = s })
values-standing m logs p s =
    ap (λ (ds : List Done). after m.start (m.done ++ ds) (record { page = p; slot = s }))
    (decided-dones m (is_committed logs) m.cuts)
