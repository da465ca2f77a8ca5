-- An instance that comes up: what held of the complex holds of it then.
use Rattle.std.proofs.Common.{◌≡◌, ◌≢◌, ◌⊎◌, inl, inr, ℕ, ◌+◌, ◌-◌, ◌≤◌, Bool, true, false, cond, List, [], ◌∷◌, sum_by, refl, sym, ap, ◌∙◌, subst, arith, ⊎_elim, eq-eqb, ne_eqb}
use Rattle.std.specs.Prelude.{Option, None, Some}
use Rattle.std.proofs.lemmas.Bool.{cases_eq}
use Rattle.std.proofs.lemmas.List.{length-set}
use Rattle.sd_base.specs.declared.ids.TxnId.{TxnId}
use Rattle.sd_base.specs.declared.place.Status.{Status}
use Rattle.sd_base.specs.declared.place.Status.TheVariants as S
use Rattle.sd_logrec.specs.Kept.{master}
use Rattle.sd_logrec.specs.View.{Rec}
use Rattle.sd_log.specs.Logs.{LogState, forced}
use Rattle.sd_model.specs.Lives.{MayRun, SuitsStatus}
use Rattle.sd_model.specs.State.{Part, State, joined}
use Rattle.sd_model.specs.StepLaws.{MayJoin}
use Rattle.sd_model.specs.Step.{Step}
use Rattle.sd_model.specs.declared.act.Inst.{Inst}
use Rattle.sd_model.specs.declared.act.Life.{Life}
use Rattle.sd_model.specs.declared.event.Event.TheVariants.{Join}
use Rattle.sd_model.specs.declared.event.Reply.TheVariants.{Joined}
use Rattle.sd_model.proofs.Listed.{step-listed}
use Rattle.sd_model.proofs.MarksRun.{step-marked}
use Rattle.sd_model.proofs.PlacedRun.{step-placed}
use Rattle.sd_model.proofs.Recoverers.{step-recoverers}
use Rattle.sd_model.proofs.Steps.{join-step}
use Rattle.sd_pagelock.specs.Directory.{asks_at}
use Rattle.sd_rig.specs.Devices as rig
use Rattle.sd_txn.specs.Transactions.{Transaction, begins_in, txn_at}
use Rattle.sd_txn.specs.declared.state.TxnState.{TxnState}
use Rattle.sd_chain.specs.Checks.{open_in, reserve, reserve_for}
use Rattle.sd_chain.specs.Fates.{Fate}
use Rattle.sd_chain.specs.Images.{Keeps}
use Rattle.sd_chain.specs.Records.{Each, home}
use Rattle.sd_chain.specs.Undoing.{Member}
use Rattle.sd_chain.proofs.Fates.{open-fate}
use Rattle.sd_chain.proofs.Lists.{Each-weaker}
use Rattle.sd_chain.proofs.Members.{open_in-is}
use Rattle.sd_chain.specs.Coherent.{Coherent}
use Rattle.sd_chain.proofs.Statuses.{status-keeps}
use Rattle.sd_chain.specs.Logs.{Outcomes, all_at, may_of, past_at}
use Rattle.sd_chain.specs.Soundly.{LogIsSound}
use Rattle.sd_chain.proofs.Kept.{forced-idle}
use Rattle.sd_chain.proofs.Next.{own-begun}
use Rattle.sd_state.specs.Good.{IsOlder, IsStarting, Good, Half, RowsAreLive, IsInstance, IsOfBegun, IsTold, base_of, dir_of}
use Rattle.sd_state.specs.Images.{IsEpochOf, leaves_by, log_by}
use Rattle.sd_state.specs.Joining.{with_joined}
use Rattle.sd_state.specs.Parts.{Parts, epoch_at, is_active, is_loose, is_up, log_at, status_at, txns_at, up_as}
use Rattle.sd_base.specs.Standing.{active_as}
use Rattle.sd_state.specs.Tables.{GoesOn, NamesLife, RowIsLive, RowIsLogged, StandsAs, tells_log}
use Rattle.sd_state.specs.Values.{Pending, starts_of}
use Rattle.sd_state.proofs.Items.{item-kept, item-set}
use Rattle.sd_state.proofs.Standing.{no-place, one-place}

-- ---- nobody is there

-- who runs, is lost or in doubt isn't of an instance that joins
gone-at : (life : Life) (s : Status) → SuitsStatus life s → (s ≡ S.Clean) ⊎ (s ≡ S.Restarting) → life ≡ Life.Gone
gone-at Life.Gone s h e = refl
gone-at Life.Running s h e = absurd (⊎_elim (λ is. subst MayRun is h) (λ is. subst MayRun is h) e)
gone-at Life.Retained s h e =
    absurd (⊎_elim (λ is. subst (SuitsStatus Life.Retained) is h) (λ is. subst (SuitsStatus Life.Retained) is h) e)
gone-at (Life.Rolling to) s h e = absurd (⊎_elim (λ is. subst MayRun is h) (λ is. subst MayRun is h) e)
gone-at (Life.Doubt cut) s h e =
    absurd (⊎_elim (λ is. subst (SuitsStatus (Life.Doubt cut)) is h) (λ is. subst (SuitsStatus (Life.Doubt cut)) is h) e)

-- nobody stands as one that is gone
no-state : (state : TxnState) (f w : Fate) → StandsAs state Life.Gone f w → ⊥
no-state TxnState.Running f w h = absurd (cc)
no-state (TxnState.Rolling to) f w h = absurd (cc)
no-state TxnState.Retained f w h = ⊎_elim (λ e. absurd (cc)) (λ d. d.0) h
no-state TxnState.Doubt f w h = h
no-state TxnState.Committed f w h = h.0

-- so the table has no row of it
no-row : (o : Option Transaction) (life : Life) (f w : Fate) → NamesLife o life f w → life ≡ Life.Gone → o ≡ None
no-row None life f w names gone = refl
no-row (Some x) life f w names gone = absurd (no-state x.state f w (subst (λ (l : Life). StandsAs x.state l f w) gone names))

nobody-in : (xs : List TxnId) → ((t : TxnId) → Member t xs → ⊥) → xs ≡ []
nobody-in [] none = refl
nobody-in (x ∷ xs) none = absurd (none x (inl refl))

-- a log that leaves nobody open reserves nothing
none-reserved : (log : List Rec) → open_in log ≡ [] → reserve log ≡ 0
none-reserved log none = ap (λ (ts : List TxnId). sum_by (reserve_for log) ts) none

-- who may have further records may, whatever starts
going-still : (i : ℕ) (t : TxnId) (p : Part) → GoesOn Pending.Idle t p → GoesOn (Pending.Starts i) t p
going-still i t p h = by p.life h
  where
    by : (life : Life) → GoesOn Pending.Idle t (record p { life = life }) → GoesOn (Pending.Starts i) t (record p { life = life })
    by Life.Gone h = h
    by Life.Running h = λ e. absurd (cc)
    by Life.Retained h = h
    by (Life.Rolling None) h = h
    by (Life.Rolling (Some n)) h = h
    by (Life.Doubt cut) h = h

-- ---- the instance comes up

module _ (i : ℕ) (seen : rig.DeviceImages) (leaves : Outcomes) (c : Parts) (m : State) (low : 1 ≤ i) (high : i ≤ 8)
    (g : Good seen leaves (Pending.Starts i) c m) (settled : is_loose c i ≡ false)
    (bare : (log_at c i).tail ≡ []) where
  abbrev new : Parts
  new = with_joined i c

  abbrev epoch : ℕ
  epoch = epoch_at c i

  abbrev then : State
  then = joined i epoch m

  abbrev inst : Inst
  inst = record { status = S.Up; epoch = epoch; begins = 0; failed = 0 }

  start : IsStarting c m i
  start = g.pending

  status-was : (status_at c i ≡ S.Clean) ⊎ (status_at c i ≡ S.Restarting)
  status-was = start.waits

  stood : ((m.inst i).status ≡ S.Clean) ⊎ ((m.inst i).status ≡ S.Restarting)
  stood = let is = sym (g.instances i low high).status in ⊎_elim (λ e. inl (is ∙ e)) (λ e. inr (is ∙ e)) status-was

  told-was : tells_log (status_at c i) ≡ true
  told-was = ⊎_elim (λ e. ap tells_log e) (λ e. ap tells_log e) status-was

  -- ---- the epoch

  only : (bytes : List ℕ) → leaves i bytes → bytes ≡ seen i
  only bytes left = ((g.settled i low high settled).only bytes).0 left

  left-here : leaves i (seen i)
  left-here = ((g.settled i low high settled).only (seen i)).1 refl

  abbrev one : Keeps
  one j = false

  left-once : leaves_by c one leaves i (seen i)
  left-once = (left-here, no-place _ _ (g.settled i low high settled).one_place)

  near : epoch ≤ (m.inst i).epoch + 1 + (m.inst i).failed
  near = let h = ((g.half one).epochs i low high (seen i) left-once).1.high in
      let is = (g.settled i low high settled).epoch in
      let starts : starts_of (Pending.Starts i) i ≡ 1 = ap (λ (b : Bool). cond b 1 0) (eq-eqb i i refl) in
      omega (arith, h, is, starts)

  pub may-join : MayJoin m i epoch
  may-join = record { status = stood; above = start.above; near = near }

  step : Step m (Join i) (Joined epoch) then
  step = join-step m i epoch g.not_closed may-join

  -- ---- statuses

  status-here : status_at new i ≡ S.Up
  status-here = item-set S.Closed c.statuses i S.Up low high g.shape.statuses

  status-else : (j : ℕ) → j ≢ i → status_at new j ≡ status_at c j
  status-else = item-kept S.Closed c.statuses i S.Up low

  inst-here : then.inst i ≡ inst
  inst-here = ap (λ (b : Bool). cond b inst (m.inst i)) (eq-eqb i i refl)

  inst-else : (j : ℕ) → j ≢ i → then.inst j ≡ m.inst j
  inst-else j ne = ap (λ (b : Bool). cond b inst (m.inst j)) (ne_eqb i j (λ e. ne (sym e)))

  still-active : (j : ℕ) → is_active c j ≡ true → is_active new j ≡ true
  still-active j active = ⊎_elim
      (λ e. ap (is_active new) e ∙ ap (active_as i) status-here)
      (λ ne. ap (active_as j) (status-else j ne) ∙ active)
      (cases_eq j i)

  was-up : (j : ℕ) → is_up new j ≡ true → is_up c j ≡ true
  was-up j up = ⊎_elim
      (λ e. ap (is_up c) e ∙ ⊎_elim (λ is. ap up_as is) (λ is. ap up_as is) status-was)
      (λ ne. sym (ap up_as (status-else j ne)) ∙ up)
      (cases_eq j i)

  -- ---- wherever logs begin

  module _ (moved : Keeps) where
    abbrev leaves' : Outcomes
    leaves' = leaves_by c moved leaves

    h : Half seen leaves' (log_by c moved) (Pending.Starts i) c m
    h = g.half moved

    coherent : Coherent (base_of seen leaves' (log_by c moved) new) (dir_of c)
    coherent = status-keeps (may_of leaves') (base_of seen leaves' (log_by c moved) c) (dir_of c) (is_active new) (is_up new)
        h.coherent (λ j active. inl (still-active j active)) (λ j lo up. inl (was-up j up))

    abbrev Both : ℕ → List ℕ → Type 0
    Both j bytes = IsEpochOf then Pending.Idle j (past_at (master bytes) (log_by c moved j)).epoch
        × IsEpochOf then Pending.Idle j (past_at (master bytes) (forced (log_by c moved j))).epoch

    own-epoch : (e : ℕ) → e ≡ epoch → IsEpochOf then Pending.Idle i e
    own-epoch e is = let n = ap (λ (x : Inst). x.epoch) inst-here in let f = ap (λ (x : Inst). x.failed) inst-here in
        record { low = omega (arith, n, is); high = omega (arith, n, f, is) }

    epochs-here : (bytes : List ℕ) → leaves' i bytes → Both i bytes
    epochs-here bytes left =
        let s = g.settled i low high settled in
        let is : (past_at (master (seen i)) (forced (log_at c i))).epoch ≡ epoch = s.epoch in
        let idle : (past_at (master (seen i)) (log_at c i)).epoch ≡ epoch =
        ap (λ (l : LogState). (past_at (master (seen i)) l).epoch) (sym (forced-idle (log_at c i) bare)) ∙ is in
        subst (λ (l : LogState). IsEpochOf then Pending.Idle i (past_at (master bytes) l).epoch
        × IsEpochOf then Pending.Idle i (past_at (master bytes) (forced l)).epoch) (sym (one-place c moved i s.one_place))
        (subst (λ (b : List ℕ). IsEpochOf then Pending.Idle i (past_at (master b) (log_at c i)).epoch
        × IsEpochOf then Pending.Idle i (past_at (master b) (forced (log_at c i))).epoch) (sym (only bytes left.0))
        (own-epoch _ idle, own-epoch _ is))

    epoch-else : (j e : ℕ) → j ≢ i → IsEpochOf m (Pending.Starts i) j e → IsEpochOf then Pending.Idle j e
    epoch-else j e ne was =
        let n = ap (λ (x : Inst). x.epoch) (inst-else j ne) in let f = ap (λ (x : Inst). x.failed) (inst-else j ne) in
        let starts : starts_of (Pending.Starts i) j ≡ 0 = ap (λ (b : Bool). cond b 1 0) (ne_eqb j i ne) in
        let lo = was.low in let hi = was.high in record { low = omega (arith, n, lo); high = omega (arith, n, f, hi, starts) }

    half-there : Half seen leaves' (log_by c moved) Pending.Idle new then
    half-there = record {
      coherent = coherent;
      soundly = h.soundly;
      gives = h.gives;
      claimed = λ keeps t opens. let old = h.claimed keeps t opens in record { there = old.there; claims = old.claims };
      held = h.held;
      epochs = λ j lo hi bytes left. ⊎_elim
          (λ e. subst (λ (k : ℕ). Both k bytes) (sym e) (epochs-here bytes (subst (λ (k : ℕ). leaves' k bytes) e left)))
          (λ ne. let old = h.epochs j lo hi bytes left in (epoch-else j _ ne old.0, epoch-else j _ ne old.1))
          (cases_eq j i);
      checks = h.checks;
    }

  -- ---- its transactions

  gone : (t : TxnId) → home t ≡ i → (m.part t).life ≡ Life.Gone
  gone t own = gone-at (m.part t).life (m.inst i).status
      (subst (λ (k : ℕ). SuitsStatus (m.part t).life (m.inst k).status) own (g.placed.stands t)) stood

  rowless : (t : TxnId) → home t ≡ i → txn_at (txns_at c i) t ≡ None
  rowless t own = no-row (txn_at (txns_at c i) t) (m.part t).life _ _ ((g.instances i low high).names t own) (gone t own)

  told : IsTold c m i
  told = g.told i low high told-was settled

  sound : LogIsSound i (seen i) (forced (log_by c one i))
  sound = ((g.half one).soundly.ready i low high (seen i) left-once).sound_forced

  -- its log leaves nobody open
  nobody : open_in (all_at (log_at c i)) ≡ []
  nobody = nobody-in (open_in (all_at (log_at c i))) (λ t there.
      let o = open_in-is t (all_at (log_at c i)) there in
      let own : home t ≡ i = (own-begun i (seen i) (log_at c i) t sound o.1).0 in
      (subst (λ (x : Option Transaction). RowIsLogged x t (all_at (log_at c i))) (rowless t own) (told.rows t own))
      (open-fate t (all_at (log_at c i)) o.0 o.1))

  instance-there : (k : ℕ) → 1 ≤ k → k ≤ 8 → IsInstance new then k
  instance-there k lo hi = let old = g.instances k lo hi in ⊎_elim
      (λ same. subst (IsInstance new then) (sym same) (let here = g.instances i low high in record {
        status = status-here ∙ sym (ap (λ (x : Inst). x.status) inst-here);
        epoch = λ up. sym (ap (λ (x : Inst). x.epoch) inst-here);
        begins = λ up. ap (λ (x : Inst). begins_in (txns_at c i) x.epoch) inst-here ∙ unbegun
            ∙ sym (ap (λ (x : Inst). x.begins) inst-here);
        table = let e = ap (λ (x : Inst). x.epoch) inst-here in let o = here.table in let a = start.above in
            omega (arith, e, o, a);
        first = λ up. let e = ap (λ (x : Inst). x.epoch) inst-here in let a = start.above in omega (arith, e, a);
        own = here.own;
        names = here.names;
      }))
      (λ ne. record {
        status = status-else k ne ∙ old.status ∙ sym (ap (λ (x : Inst). x.status) (inst-else k ne));
        epoch = λ up. old.epoch (sym (status-else k ne) ∙ up) ∙ sym (ap (λ (x : Inst). x.epoch) (inst-else k ne));
        begins = λ up. ap (λ (x : Inst). begins_in (txns_at c k) x.epoch) (inst-else k ne)
            ∙ old.begins (sym (status-else k ne) ∙ up) ∙ sym (ap (λ (x : Inst). x.begins) (inst-else k ne));
        table = let e = ap (λ (x : Inst). x.epoch) (inst-else k ne) in let o = old.table in omega (arith, e, o);
        first = λ up. let one = old.first (sym (status-else k ne) ∙ up) in let e = ap (λ (x : Inst). x.epoch) (inst-else k ne) in
            omega (arith, one, e);
        own = old.own;
        names = old.names;
      })
      (cases_eq k i)
    where
      unbegun : begins_in (txns_at c i) epoch ≡ 0
      unbegun = let le = (g.instances i low high).table in let lt = start.above in
          ap (λ (b : Bool). cond b (txns_at c i).begins 0) (ne_eqb (txns_at c i).epoch epoch (λ e. omega (arith, le, lt, e)))

  told-there : (k : ℕ) → 1 ≤ k → k ≤ 8 → tells_log (status_at new k) ≡ true → is_loose c k ≡ false → IsTold new then k
  told-there k lo hi tells e = ⊎_elim
      (λ same. subst (IsTold new then) (sym same) (let none = none-reserved (all_at (log_at c i)) nobody in
      record { rows = told.rows; owes = told.owes; reserves = told.reserves; spare = λ up. omega (arith, none) }))
      (λ ne. let old = g.told k lo hi (sym (ap tells_log (status-else k ne)) ∙ tells) e in
      record { rows = old.rows; owes = old.owes; reserves = old.reserves; spare = λ up. old.spare (sym (status-else k ne) ∙ up) })
      (cases_eq k i)

  at_rest-there : (k : ℕ) → 1 ≤ k → k ≤ 8 → tells_log (status_at new k) ≡ false → is_loose c k ≡ false → (log_at c k).tail ≡ []
  at_rest-there k lo hi off e = ⊎_elim
      (λ same. ap (λ (j : ℕ). (log_at c j).tail) same ∙ bare)
      (λ ne. g.at_rest k lo hi (sym (ap tells_log (status-else k ne)) ∙ off) e)
      (cases_eq k i)

  begun-there : (k : ℕ) → 1 ≤ k → k ≤ 8 → status_at new k ≡ S.Up → Each (IsOfBegun (then.inst k)) (all_at (log_at c k))
  begun-there k lo hi up = ⊎_elim
      (λ same. subst (λ (j : ℕ). Each (IsOfBegun (then.inst j)) (all_at (log_at c j))) (sym same)
      (subst (λ (x : Inst). Each (IsOfBegun x) (all_at (log_at c i))) (sym inst-here)
      (Each-weaker (IsOlder epoch) (IsOfBegun inst) (λ x older spoken is. let lt = older spoken in absurd (omega (arith, lt, is)))
      (all_at (log_at c i)) start.older)))
      (λ ne. subst (λ (x : Inst). Each (IsOfBegun x) (all_at (log_at c k))) (sym (inst-else k ne))
      (g.begun k lo hi (sym (status-else k ne) ∙ up)))
      (cases_eq k i)

  at_work-there : (k : ℕ) → 1 ≤ k → k ≤ 8 → status_at new k ≡ S.Up → RowsAreLive Pending.Idle new then k
  at_work-there k lo hi up t own never = ⊎_elim
      (λ same. subst (λ (o : Option Transaction). RowIsLive o t (m.part t) (all_at (log_at c k)))
      (sym (ap (λ (j : ℕ). txn_at (txns_at c j) t) same ∙ rowless t (own ∙ same))) tt)
      (λ ne. g.at_work k lo hi (sym (status-else k ne) ∙ up) t own (λ e. absurd (cc)))
      (cases_eq k i)

  pub joined-good : Good seen leaves Pending.Idle new then
  joined-good = record {
    shape = record {
      logs = g.shape.logs;
      pools = g.shape.pools;
      txns = g.shape.txns;
      statuses = length-set c.statuses (i - 1) S.Up ∙ g.shape.statuses;
      epochs = g.shape.epochs;
      masters = g.shape.masters;
      checks = g.shape.checks;
      others = g.shape.others;
      owed = g.shape.owed;
      loose = g.shape.loose;
      own_log = g.shape.own_log;
      own_txns = g.shape.own_txns;
    };
    half = half-there;
    places = g.places;
    others = g.others;
    settled = λ j lo hi e. let s = g.settled j lo hi e in
        record { only = s.only; stands = s.stands; one_place = s.one_place; counted = s.counted; epoch = s.epoch };
    disk_settled = g.disk_settled;
    disk_lsns = g.disk_lsns;
    last = g.last;
    owed = g.owed;
    owed_loose = g.owed_loose;
    kept = record { serial = g.kept.serial; reads = g.kept.reads; covered = g.kept.covered; apart = g.kept.apart };
    placed = step-placed m (Join i) (Joined epoch) then step g.placed;
    listed = step-listed m (Join i) (Joined epoch) then step g.listed;
    marked = step-marked m (Join i) (Joined epoch) then step g.marked;
    named = g.named;
    numbered = g.numbered;
    recoverers = step-recoverers m (Join i) (Joined epoch) then step g.recoverers;
    not_closed = λ closed. ⊎_elim
        (λ e. let clash = sym (ap (λ (x : Inst). x.status) (ap then.inst e ∙ inst-here)) ∙ closed in absurd (cc))
        (λ ne. g.not_closed (sym (ap (λ (x : Inst). x.status) (inst-else 1 ne)) ∙ closed))
        (cases_eq 1 i);
    instances = instance-there;
    told = told-there;
    at_rest = at_rest-there;
    begun = begun-there;
    at_work = at_work-there;
    going = λ t lo hi goes. g.going t lo hi (going-still i t (m.part t) goes);
    pending = tt;
    locks = g.locks;
    gone = g.gone;
    asks = λ p. Each-weaker _ _ (λ ask a. (still-active ask.by a.0, a.1)) (asks_at c.directory p) (g.asks p);
    checking = λ k b is. let old = g.checking k b is in
        record {
          takes = ⊎_elim (λ e. inl (ap (status_at new) e ∙ status-here))
              (λ ne. ⊎_elim (λ up. inl (status-else k ne ∙ up)) (λ re. inr (status-else k ne ∙ re)) old.takes) (cases_eq k i);
          spelled = old.spelled;
          begun = old.begun;
        };
  }
