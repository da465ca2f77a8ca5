-- The complex behind a fall is good, of plain values: for `down` and `cut` of src/crash.rt.
use Rattle.std.proofs.Common.{◌≡◌, ◌≢◌, ◌⊎◌, inl, inr, ⊎_elim, ℕ, ◌≤◌, Bool, true, cond, refl, sym, ap, ◌∙◌, subst, eq-eqb}
use Rattle.std.specs.Prelude.{Option, None, Some, IsSome, option_map}
use Rattle.sd_base.specs.declared.ids.TxnId.{TxnId}
use Rattle.sd_base.proofs.SameIds.{cases_txn, eq-same, ne-same}
use Rattle.sd_model.specs.Refusing.{counted}
use Rattle.sd_model.specs.State.{State, cut_commit, fall, lost, lost_part}
use Rattle.sd_model.specs.declared.act.Cut.TheVariants as cuts
use Rattle.sd_model.specs.declared.act.Life.{Life}
use Rattle.sd_model.specs.declared.event.Event.TheVariants.{Join}
use Rattle.sd_model.proofs.Moves.{doubted, in_doubt}
use Rattle.sd_rig.specs.Devices as rig
use Rattle.sd_txn.specs.Transactions.{IsUnresolved, Transaction, Transactions, txn_at, with_state, state_at}
use Rattle.sd_txn.specs.declared.state.TxnState.{TxnState}
use Rattle.sd_chain.specs.Fates.{Fate, fate}
use Rattle.sd_chain.specs.Records.{home}
use Rattle.sd_chain.specs.Logs.{Outcomes, all_at, base_at}
use Rattle.sd_state.specs.Good.{Good, IsPending, IsStarting}
use Rattle.sd_state.specs.Parts.{Parts, is_loose, log_at, txns_at}
use Rattle.sd_state.specs.Tables.{NamesLife}
use Rattle.sd_state.specs.Values.{Pending}
use Rattle.sd_moves.specs.Falling.{AreCut, AreLost, IsLeft, lost_row, with_lost, lost_state}
use Rattle.sd_moves.proofs.FallCuts.{cut-falls}
use Rattle.sd_moves.proofs.FallGood.{fallen-good}
use Rattle.sd_moves.proofs.FallModel.{fall-is, start-falls}
use Rattle.sd_moves.proofs.FallStatus.{names-lost}

-- a row that is lost was found committed, where it is so
was-found : (o : Option Transaction) → option_map (λ x. x.state) (option_map lost_row o) ≡ Some TxnState.Committed
    → option_map (λ x. x.state) o ≡ Some TxnState.Committed
was-found None e = e
was-found (Some x) e = ap (λ (s : TxnState). Some s) (by x.state (let f : lost_state x.state ≡ TxnState.Committed = cc in f))
  where
    by : (s : TxnState) → lost_state s ≡ TxnState.Committed → s ≡ TxnState.Committed
    by TxnState.Running e = absurd (cc)
    by (TxnState.Rolling to) e = absurd (cc)
    by TxnState.Retained e = e
    by TxnState.Doubt e = e
    by TxnState.Committed e = e

-- no fall is due but that of i, by a log that isn't settled
abbrev pub IsDueOf : ℕ → Parts → Type 0
IsDueOf i c = (c.due ≡ None) ⊎ ((j : ℕ) × (c.due ≡ Some (i, j)) × (is_loose c j ≡ true))

module _ (i : ℕ) (table : Transactions) (n c : Parts) (seen : rig.DeviceImages) (leaves : Outcomes) (m : State)
    (low : 1 ≤ i) (high : i ≤ 8) (due : IsDueOf i c) (f : IsLeft i c n) (lost_rows : AreLost (txns_at c i) table) where
  -- the rows name who is lost
  names-there : (pend : Pending) → Good seen leaves pend c m → (t : TxnId) → home t ≡ i
      → NamesLife (txn_at table t) ((fall i m).part t).life (fate t (base_at (log_at c i))) (fate t (all_at (log_at c i)))
  names-there pend g t own =
      let was = (g.instances i low high).names t own in
      let life : ((fall i m).part t).life ≡ lost (m.part t).life =
      ap (λ (b : Bool). (cond b (lost_part (m.part t)) (m.part t)).life) (eq-eqb i t.inst (sym own)) in
      subst (λ (l : Life). NamesLife (txn_at table t) l (fate t (base_at (log_at c i))) (fate t (all_at (log_at c i)))) (sym life)
      (subst (λ (o : Option Transaction). NamesLife o (lost (m.part t).life) (fate t (base_at (log_at c i))) (fate t (all_at (log_at c i))))
      (sym (lost_rows.rows t)) (names-lost (txn_at (txns_at c i) t) (m.part t).life (fate t (base_at (log_at c i)))
      (fate t (all_at (log_at c i))) was))

  found-there : (t : TxnId) → state_at table t ≡ Some TxnState.Committed → state_at (txns_at c i) t ≡ Some TxnState.Committed
  found-there t is = was-found (txn_at (txns_at c i) t) (sym (ap (option_map (λ x. x.state)) (lost_rows.rows t)) ∙ is)

  none-else : (pend : Pending) → Good seen leaves pend c m → (t : TxnId) → home t ≢ i → txn_at table t ≡ None
  none-else pend g t off = lost_rows.rows t ∙ ap (option_map lost_row) ((g.instances i low high).own t off)

  pub down-good : Good seen leaves Pending.Idle c m → Good seen leaves Pending.Idle (with_lost i table n c) (fall i m)
  down-good g = fallen-good i table n c seen leaves Pending.Idle m (fall i m) low high g due (λ t e. absurd (cc)) f
      (fall-is i m g.not_closed g.kept g.placed g.listed g.marked g.recoverers) lost_rows.order.same_inst lost_rows.order.same_epoch
      (none-else Pending.Idle g) found-there (names-there Pending.Idle g)

  pub started-good : Good seen leaves (Pending.Starts i) c m
      → Good seen leaves Pending.Idle (with_lost i table n c) (fall i (counted (Join i) m))
  started-good g =
      let start : IsStarting c m i = g.pending in
      let is = sym (g.instances i low high).status in
      fallen-good i table n c seen leaves (Pending.Starts i) m (fall i (counted (Join i) m)) low high g due (λ t e. absurd (cc)) f
      (start-falls i m g.not_closed (⊎_elim (λ e. inl (is ∙ e)) (λ e. inr (is ∙ e)) start.waits)
      g.kept g.placed g.listed g.marked g.recoverers) lost_rows.order.same_inst lost_rows.order.same_epoch
      (none-else (Pending.Starts i) g) found-there (names-there (Pending.Starts i) g)

-- who runs has a row
pub runs-unresolved : (seen : rig.DeviceImages) (leaves : Outcomes) (c : Parts) (m : State) (t : TxnId) → 1 ≤ home t → home t ≤ 8
    → Good seen leaves (Pending.Commits t) c m → IsUnresolved (txns_at c (home t)) t
runs-unresolved seen leaves c m t low high g = by (txn_at (txns_at c (home t)) t) ((g.instances (home t) low high).names t refl)
  where
    under : IsPending c m t
    under = g.pending

    by : (o : Option Transaction)
        → NamesLife o (m.part t).life (fate t (base_at (log_at c (home t)))) (fate t (all_at (log_at c (home t)))) → IsSome o
    by None names = let clash : Life.Running ≡ Life.Gone = sym under.runs ∙ names in absurd (cc)
    by (Some x) names = refl

module _ (t : TxnId) (table : Transactions) (n c : Parts) (seen : rig.DeviceImages) (leaves : Outcomes) (m : State)
    (low : 1 ≤ home t) (high : home t ≤ 8) (due : IsDueOf (home t) c) (f : IsLeft (home t) c n)
    (rows : AreCut t (txns_at c (home t)) table) (g : Good seen leaves (Pending.Commits t) c m) where
  abbrev i : ℕ
  i = home t

  abbrev forced_fate : TxnId → Fate
  forced_fate u = fate u (base_at (log_at c i))

  abbrev whole_fate : TxnId → Fate
  whole_fate u = fate u (all_at (log_at c i))

  under : IsPending c m t
  under = g.pending

  -- how one of the instance stands then
  life-is : (u : TxnId) → home u ≡ i → ((cut_commit t m).part u).life ≡ lost ((doubted t m).part u).life
  life-is u own = ap (λ (b : Bool). (cond b (lost_part ((doubted t m).part u)) ((doubted t m).part u)).life) (eq-eqb i u.inst (sym own))

  life-here : ((cut_commit t m).part t).life ≡ Life.Doubt cuts.Committing
  life-here = life-is t refl ∙ ap (λ (b : Bool). lost (cond b (in_doubt (m.part t)) (m.part t)).life) (eq-same t t refl)

  names-here : NamesLife (txn_at table t) ((cut_commit t m).part t).life (forced_fate t) (whole_fate t)
  names-here = subst (λ (l : Life). NamesLife (txn_at table t) l (forced_fate t) (whole_fate t)) (sym life-here)
      (subst (λ (o : Option Transaction). NamesLife o (Life.Doubt cuts.Committing) (forced_fate t) (whole_fate t)) (sym rows.row)
      (by (txn_at (txns_at c i) t) ((g.instances i low high).names t refl)))
    where
      by : (o : Option Transaction) → NamesLife o (m.part t).life (forced_fate t) (whole_fate t)
          → NamesLife (option_map (with_state TxnState.Doubt) o) (Life.Doubt cuts.Committing) (forced_fate t) (whole_fate t)
      by None names = let clash : Life.Running ≡ Life.Gone = sym under.runs ∙ names in absurd (cc)
      by (Some x) names = tt

  names-else : (u : TxnId) → home u ≡ i → u ≢ t
      → NamesLife (txn_at table u) ((cut_commit t m).part u).life (forced_fate u) (whole_fate u)
  names-else u own ne =
      let life : ((cut_commit t m).part u).life ≡ lost (m.part u).life = life-is u own
      ∙ ap (λ (b : Bool). lost (cond b (in_doubt (m.part t)) (m.part u)).life) (ne-same t u (λ e. ne (sym e))) in
      subst (λ (l : Life). NamesLife (txn_at table u) l (forced_fate u) (whole_fate u)) (sym life)
      (subst (λ (o : Option Transaction). NamesLife o (lost (m.part u).life) (forced_fate u) (whole_fate u)) (sym (rows.rows u ne))
      (names-lost (txn_at (txns_at c i) u) (m.part u).life (forced_fate u) (whole_fate u) ((g.instances i low high).names u own)))

  cut-found : (u : TxnId) → state_at table u ≡ Some TxnState.Committed → state_at (txns_at c i) u ≡ Some TxnState.Committed
  cut-found u is = ⊎_elim
      (λ e. absurd (doubt-isnt (txn_at (txns_at c i) t) (sym (ap (option_map (λ x. x.state)) rows.row)
      ∙ subst (λ (v : TxnId). state_at table v ≡ Some TxnState.Committed) e is)))
      (λ ne. was-found (txn_at (txns_at c i) u) (sym (ap (option_map (λ x. x.state)) (rows.rows u ne)) ∙ is))
      (cases_txn u t)
    where
      doubt-isnt : (o : Option Transaction) → option_map (λ x. x.state) (option_map (with_state TxnState.Doubt) o) ≡ Some TxnState.Committed → ⊥
      doubt-isnt None e = absurd (cc)
      doubt-isnt (Some x) e = absurd (cc)

  pub cut-good : Good seen leaves Pending.Idle (with_lost i table n c) (cut_commit t m)
  cut-good = fallen-good i table n c seen leaves (Pending.Commits t) m (cut_commit t m) low high g due
      (λ u e. let same : t ≡ u = cc in ap home (sym same)) f
      (cut-falls t m under.runs g.not_closed g.kept g.placed g.listed g.marked g.recoverers) rows.order.same_inst rows.order.same_epoch
      (λ u off. rows.rows u (λ e. off (ap home e)) ∙ ap (option_map lost_row) ((g.instances i low high).own u off)) cut-found
      (λ u own. ⊎_elim (λ e. subst (λ (v : TxnId). NamesLife (txn_at table v) ((cut_commit t m).part v).life (forced_fate v) (whole_fate v))
      (sym e) names-here) (λ ne. names-else u own ne) (cases_txn u t))
