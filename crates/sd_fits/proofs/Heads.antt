-- What the heads of calls see of the serial table: how an instance stands, who is there, and how many. For the calls of events.
use Rattle.std.proofs.Common.{◌≡◌, ◌≢◌, ◌⊎◌, ◌↔◌, inl, inr, ⊎_elim, ℕ, ◌≤◌, Bool, true, false, cond, List, [], ◌∷◌, length, refl, sym, ◌∙◌, subst, arith}
use Rattle.std.specs.Prelude.{Option, None, Some, IsSome, option_map}
use Rattle.std.proofs.lemmas.Bool.{cases_eq}
use Rattle.std.specs.List.{AllByRecursion, IsDistinct}
use Rattle.std.specs.Map.{keys_of, lookup}
use Rattle.sd_base.specs.Ids.{same_txn}
use Rattle.sd_base.specs.declared.ids.TxnId.{TxnId}
use Rattle.sd_base.specs.declared.place.Status.{Status}
use Rattle.sd_base.specs.declared.place.Status.TheVariants as S
use Rattle.sd_base.proofs.SameIds.{cases_txn, eq-same, ne-same}
use Rattle.sd_model.specs.Applies.{TakesChecks, count_of}
use Rattle.sd_model.specs.Few.{Few}
use Rattle.sd_model.specs.Listed.{IsAmong, NoneTwice}
use Rattle.sd_model.specs.Lives.{SuitsStatus}
use Rattle.sd_model.specs.State.{State}
use Rattle.sd_model.specs.StepLaws.{IsUp, MayAct}
use Rattle.sd_model.specs.declared.act.Life.{Life}
use Rattle.sd_model.proofs.Counting.{count-true}
use Rattle.sd_rig.specs.Devices as rig
use Rattle.sd_txn.specs.Transactions.{Transaction, ids, state_at, txn_at}
use Rattle.sd_txn.specs.declared.state.TxnState.{TxnState}
use Rattle.sd_chain.specs.Fates.{Fate, fate}
use Rattle.sd_chain.specs.Records.{home}
use Rattle.sd_chain.specs.Logs.{Outcomes, all_at, base_at}
use Rattle.sd_state.specs.Good.{Good}
use Rattle.sd_state.specs.Parts.{Parts, log_at, status_at, txns_at}
use Rattle.sd_state.specs.Tables.{IsInDoubt, NamesLife, StandsAs}
use Rattle.sd_state.specs.Values.{Pending}

-- ---- rows and their keys

same-is : (t u : TxnId) → same_txn t u ≡ true → t ≡ u
same-is t u is = ⊎_elim (λ e. e) (λ ne. let clash = sym is ∙ ne-same t u ne in absurd (cc)) (cases_txn t u)

-- a key stands among the keys exactly where its row is found
key-found : (rows : List (TxnId × Transaction)) (t : TxnId) → IsAmong t (keys_of rows) → IsSome (lookup (same_txn t) rows)
key-found [] t a = absurd a
key-found (row ∷ rows) t (inl e) = subst (λ (b : Bool). IsSome (cond {A = Option Transaction} b (Some row.1) (lookup (same_txn t) rows)))
    (sym (eq-same t row.0 e)) refl
key-found (row ∷ rows) t (inr a) = go (same_txn t row.0) (key-found rows t a)
  where
    go : (b : Bool) → IsSome (lookup (same_txn t) rows)
        → IsSome (cond {A = Option Transaction} b (Some row.1) (lookup (same_txn t) rows))
    go true found = refl
    go false found = found

found-key : (rows : List (TxnId × Transaction)) (t : TxnId) → IsSome (lookup (same_txn t) rows) → IsAmong t (keys_of rows)
found-key [] t found = absurd (cc)
found-key (row ∷ rows) t found = go (same_txn t row.0) refl (λ f. found-key rows t f) found
  where
    go : (b : Bool) → same_txn t row.0 ≡ b → (IsSome (lookup (same_txn t) rows) → IsAmong t (keys_of rows))
        → IsSome (cond {A = Option Transaction} b (Some row.1) (lookup (same_txn t) rows)) → IsAmong t (keys_of (row ∷ rows))
    go true is rest f = inl (same-is t row.0 is)
    go false is rest f = inr (rest f)

apart-none : (t : TxnId) (us : List TxnId) → AllByRecursion (λ u. same_txn t u ≡ false) us → IsAmong t us → ⊥
apart-none t [] apart a = a
apart-none t (u ∷ us) apart (inl e) = let clash = sym (eq-same t u e) ∙ apart.0 in absurd (cc)
apart-none t (u ∷ us) apart (inr a) = apart-none t us apart.1 a

distinct-once : (us : List TxnId) → IsDistinct same_txn us → NoneTwice us
unfolding IsDistinct
distinct-once [] d = tt
distinct-once (u ∷ us) d = (apart-none u us d.0, distinct-once us d.1)

keys-count : (rows : List (TxnId × Transaction)) → length (keys_of rows) ≡ length rows
keys-count [] = refl
keys-count (row ∷ rows) = let ih = keys-count rows in omega (arith, ih)

-- ---- a state in a table, and the life that it tells

-- whom a table names is there
named-there : (o : Option Transaction) (life : Life) (forced whole : Fate) → NamesLife o life forced whole → IsSome o → life ≢ Life.Gone
named-there None life forced whole n some = absurd (cc)
named-there (Some x) life forced whole n some = λ gone. stands x.state (subst (λ (l : Life). StandsAs x.state l forced whole) gone n)
  where
    stands : (s : TxnState) → StandsAs s Life.Gone forced whole → ⊥
    stands TxnState.Running h = cc
    stands (TxnState.Rolling to) h = cc
    stands TxnState.Retained (inl h) = cc
    stands TxnState.Retained (inr h) = h.0
    stands TxnState.Doubt h = h
    stands TxnState.Committed h = h.0

there-named : (o : Option Transaction) (life : Life) (forced whole : Fate) → NamesLife o life forced whole → life ≢ Life.Gone → IsSome o
there-named None life forced whole n ne = absurd (ne n)
there-named (Some x) life forced whole n ne = refl

stood : (o : Option Transaction) (s : TxnState) (life : Life) (forced whole : Fate) → NamesLife o life forced whole
    → option_map (λ (x : Transaction). x.state) o ≡ Some s → StandsAs s life forced whole
stood None s life forced whole n is = absurd (cc)
stood (Some x) s life forced whole n is = let same : x.state ≡ s = cc in subst (λ (v : TxnState). StandsAs v life forced whole) same n

unstood : (o : Option Transaction) (life : Life) (forced whole : Fate) → NamesLife o life forced whole
    → option_map (λ (x : Transaction). x.state) o ≡ None → life ≡ Life.Gone
unstood None life forced whole n is = n
unstood (Some x) life forced whole n is = absurd (cc)

doubtful : (life : Life) → IsInDoubt life → SuitsStatus life S.Up → ⊥
doubtful Life.Gone d placed = d
doubtful Life.Running d placed = d
doubtful Life.Retained d placed = d
doubtful (Life.Rolling to) d placed = d
doubtful (Life.Doubt cut) d placed = placed

retained : (life : Life) → life ≡ Life.Retained → SuitsStatus life S.Up → ⊥
retained life e placed = subst (λ (l : Life). SuitsStatus l S.Up) e placed

-- at an instance that is up whoever is there is at work
works-up : (s : TxnState) (life : Life) (forced whole : Fate) → StandsAs s life forced whole → SuitsStatus life S.Up
    → (s ≡ TxnState.Running) ⊎ ((to : Option ℕ) × (s ≡ TxnState.Rolling to))
works-up TxnState.Running life forced whole h placed = inl refl
works-up (TxnState.Rolling to) life forced whole h placed = inr (to, refl)
works-up TxnState.Retained life forced whole (inl h) placed = absurd (retained life h placed)
works-up TxnState.Retained life forced whole (inr h) placed = absurd (doubtful life h.0 placed)
works-up TxnState.Doubt life forced whole h placed = absurd (doubtful life h placed)
works-up TxnState.Committed life forced whole h placed = absurd (doubtful life h.0 placed)

-- ---- what is seen of a complex

module _ (seen : rig.DeviceImages) (leaves : Outcomes) (pend : Pending) (c : Parts) (m : State) (g : Good seen leaves pend c m) where
  -- an instance is up exactly where the complex says so
  pub is-up : (i : ℕ) → 1 ≤ i → i ≤ 8 → status_at c i ≡ S.Up → IsUp m i
  is-up i low high up = record { up = sym (g.instances i low high).status ∙ up; opened = g.not_closed }

  pub not-up : (i : ℕ) → 1 ≤ i → i ≤ 8 → (status_at c i ≡ S.Up → ⊥) → (m.inst i).status ≡ S.Up → ⊥
  not-up i low high down up = down ((g.instances i low high).status ∙ up)

  -- whom the table of its instance hasn't is gone
  pub none-gone : (t : TxnId) → 1 ≤ home t → home t ≤ 8 → state_at (txns_at c (home t)) t ≡ None → (m.part t).life ≡ Life.Gone
  none-gone t low high none = unstood (txn_at (txns_at c (home t)) t) (m.part t).life _ _ ((g.instances (home t) low high).names t refl) none

  -- and whom it has stands so
  pub stands-as : (t : TxnId) (s : TxnState) → 1 ≤ home t → home t ≤ 8 → state_at (txns_at c (home t)) t ≡ Some s
      → StandsAs s (m.part t).life (fate t (base_at (log_at c (home t)))) (fate t (all_at (log_at c (home t))))
  stands-as t s low high is = stood (txn_at (txns_at c (home t)) t) s (m.part t).life _ _ ((g.instances (home t) low high).names t refl) is

  pub some-there : (t : TxnId) (s : TxnState) → 1 ≤ home t → home t ≤ 8 → state_at (txns_at c (home t)) t ≡ Some s → (m.part t).life ≢ Life.Gone
  some-there t s low high is = named-there (Some (record { state = s; marks = []; stack = []; span = None })) (m.part t).life _ _
      (stands-as t s low high is) refl

  -- of an instance that is up, whoever is there runs or rolls back
  pub up-works : (t : TxnId) (s : TxnState) → 1 ≤ home t → home t ≤ 8 → status_at c (home t) ≡ S.Up
      → state_at (txns_at c (home t)) t ≡ Some s → (s ≡ TxnState.Running) ⊎ ((to : Option ℕ) × (s ≡ TxnState.Rolling to))
  up-works t s low high up is = works-up s (m.part t).life _ _ (stands-as t s low high is)
      (subst (λ (v : Status). SuitsStatus (m.part t).life v) (is-up (home t) low high up).up (g.placed.stands t))

  pub is-ready : (t : TxnId) → 1 ≤ home t → home t ≤ 8 → status_at c (home t) ≡ S.Up
      → state_at (txns_at c (home t)) t ≡ Some TxnState.Running → MayAct m t
  is-ready t low high up runs = record { runs = stands-as t TxnState.Running low high runs; at = is-up (home t) low high up }

  -- The instance has as many unresolved transactions as its table has rows.
  pub count-is : (i : ℕ) → 1 ≤ i → i ≤ 8 → IsDistinct same_txn (ids (txns_at c i)) → count_of m i ≡ length (txns_at c i).unresolved
  count-is i low high once = count-true m i (ids (txns_at c i)) g.listed (distinct-once (ids (txns_at c i)) once) same
      ∙ keys-count (txns_at c i).unresolved
    where
      own : (t : TxnId) → IsSome (txn_at (txns_at c i) t) → home t ≡ i
      own t some = ⊎_elim (λ e. e) (λ ne. absurd (gone (txn_at (txns_at c i) t) ((g.instances i low high).own t ne) some)) (cases_eq (home t) i)
        where
          gone : (o : Option Transaction) → o ≡ None → IsSome o → ⊥
          gone None e f = cc
          gone (Some x) e f = cc

      same : (t : TxnId) → IsAmong t (ids (txns_at c i)) ↔ ((t.inst ≡ i) × ((m.part t).life ≢ Life.Gone))
      same t = (
        (λ a.
            let some = key-found (txns_at c i).unresolved t a in
            let here = own t some in (
              here,
              named-there (txn_at (txns_at c i) t) (m.part t).life _ _ ((g.instances i low high).names t here) some,
            )),
        (λ h. found-key (txns_at c i).unresolved t
            (there-named (txn_at (txns_at c i) t) (m.part t).life _ _ ((g.instances i low high).names t h.0) h.1)),
      )

  -- So one that may take a checkpoint has at most 64, where the serial table has no more of it.
  pub few-rows : Few m → (i : ℕ) → 1 ≤ i → i ≤ 8 → TakesChecks (status_at c i) → IsDistinct same_txn (ids (txns_at c i))
      → length (txns_at c i).unresolved ≤ 64
  few-rows few i low high takes once =
      let count = count-is i low high once in
      let most = few i (subst TakesChecks (g.instances i low high).status takes) in
      omega (arith, count, most)
