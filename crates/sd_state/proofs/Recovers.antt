-- A recovery that begins: what held of the complex holds of it then.
use Rattle.std.proofs.Common.{◌≡◌, ◌≢◌, ◌⊎◌, inl, inr, ℕ, zero, suc, ◌-◌, ◌≤◌, Bool, true, false, cond, eqb, List, map, ◌++◌, length, slice_set, append-nil, refl, sym, ap, ◌∙◌, subst, arith, ⊎_elim, eq-eqb, ne_eqb}
use Rattle.std.specs.Prelude.{None}
use Rattle.std.proofs.lemmas.Bool.{cases_Bool, cases_eq, cases_lt}
use Rattle.std.proofs.lemmas.List.{get_or_past, get_or-set_other, get_or-set_same, length-set}
use Rattle.sd_base.specs.declared.place.Status.TheVariants as S
use Rattle.sd_logrec.specs.View.{flat}
use Rattle.sd_logrec.specs.declared.record.Record.{Record}
use Rattle.sd_model.specs.declared.act.Inst.{Inst}
use Rattle.sd_model.specs.declared.event.Event.TheVariants.{RecoverBegin}
use Rattle.sd_model.specs.declared.event.Reply.TheVariants.{Did}
use Rattle.sd_model.specs.State.{State, with_status}
use Rattle.sd_model.specs.Step.{Step}
use Rattle.sd_model.proofs.PlacedRun.{step-placed}
use Rattle.sd_model.proofs.Listed.{step-listed}
use Rattle.sd_model.proofs.MarksRun.{step-marked}
use Rattle.sd_model.proofs.Recoverers.{step-recoverers}
use Rattle.sd_pagelock.specs.Directory.{asks_at}
use Rattle.sd_rig.specs.Devices as rig
use Rattle.sd_chain.specs.Checks.{owed}
use Rattle.sd_chain.specs.Images.{Keeps}
use Rattle.sd_chain.proofs.Lists.{Each-weaker}
use Rattle.sd_chain.specs.Records.{Each}
use Rattle.sd_chain.specs.AppendedRecords as changes_law
use Rattle.sd_chain.specs.Coherent.{Coherent}
use Rattle.sd_chain.specs.Falls.{begun}
use Rattle.sd_chain.specs.World.{Base, put_at}
use Rattle.sd_chain.proofs.Changes.{rest-keeps}
use Rattle.sd_chain.proofs.Falls.{begin-keeps}
use Rattle.sd_chain.specs.Logs.{all_at, Outcomes, base_at, may_of}
use Rattle.sd_state.specs.Good.{IsOfBegun, Good, Half, IsInstance, OwesAtMost, base_of, dir_of}
use Rattle.sd_state.specs.Images.{IsEpochOf, leaves_by, log_by}
use Rattle.sd_state.specs.Tables.{tells_log}
use Rattle.sd_txn.specs.Transactions.{begins_in}
use Rattle.sd_state.specs.Parts.{Parts, is_active, is_loose, is_up, log_at, owed_at, status_at, txns_at, up_as}
use Rattle.sd_base.specs.Standing.{active_as}
use Rattle.sd_state.specs.Recovering.{recovers, with_recovering}
use Rattle.sd_state.specs.Values.{Pending}
use Rattle.sd_state.proofs.Items.{item-kept, item-set}
use Rattle.sd_state.proofs.Standing.{one-place}

module _ (i by : ℕ) (seen : rig.DeviceImages) (leaves : Outcomes) (c : Parts) (m : State) (low : 1 ≤ i) (high : i ≤ 8)
    (g : Good seen leaves Pending.Idle c m) (idle : c.due ≡ None) (down : status_at c i ≡ S.Down)
    (may : (by ≡ i) ⊎ ((m.inst by).status ≡ S.Up)) where
  abbrev new : Parts
  new = with_recovering i by c

  abbrev then : State
  then = recovers i by m

  is-down : (m.inst i).status ≡ S.Down
  is-down = sym (g.instances i low high).status ∙ down

  step : Step m (RecoverBegin i by) Did then
  step = ((λ shut. g.not_closed shut, (λ other. other is-down, (λ refused. refused may, tt))), refl)

  -- ---- statuses and marks

  status-here : status_at new i ≡ S.Recovering by
  status-here = item-set S.Closed c.statuses i (S.Recovering by) low high g.shape.statuses

  status-else : (j : ℕ) → j ≢ i → status_at new j ≡ status_at c j
  status-else = item-kept S.Closed c.statuses i (S.Recovering by) low

  inst-here : then.inst i ≡ with_status (S.Recovering by) (m.inst i)
  inst-here = ap (λ (b : Bool). cond b (with_status (S.Recovering by) (m.inst i)) (m.inst i)) (eq-eqb i i refl)

  inst-else : (j : ℕ) → j ≢ i → then.inst j ≡ m.inst j
  inst-else j ne = ap (λ (b : Bool). cond b (with_status (S.Recovering by) (m.inst i)) (m.inst j)) (ne_eqb i j (λ e. ne (sym e)))

  loose-here : is_loose new i ≡ true
  loose-here = get_or-set_same (slice_set c.loose 0 true) i true true (omega (arith, high, length-set c.loose 0 true, g.shape.loose))

  loose-disk : is_loose new 0 ≡ true
  loose-disk = get_or-set_other (slice_set c.loose 0 true) i 0 true true (λ e. omega (arith, low, e))
      ∙ get_or-set_same c.loose 0 true true (omega (arith, g.shape.loose))

  loose-else : (j : ℕ) → 1 ≤ j → j ≢ i → is_loose new j ≡ is_loose c j
  loose-else j lo ne = get_or-set_other (slice_set c.loose 0 true) i j true true ne
      ∙ get_or-set_other c.loose 0 j true true (λ e. omega (arith, lo, e))

  -- who was active is, and so is i where it recovers itself
  active-is : (j : ℕ) → is_active new j ≡ (cond (eqb by i) (put_at i true (is_active c)) (is_active c)) j
  active-is j = ⊎_elim
      (λ e. subst (λ (k : ℕ). is_active new k ≡ (cond (eqb by i) (put_at i true (is_active c)) (is_active c)) k) (sym e)
      (ap (active_as i) status-here ∙ own (eqb by i)))
      (λ ne. ap (active_as j) (status-else j ne) ∙ other j ne (eqb by i))
      (cases_eq j i)
    where
      own : (b : Bool) → b ≡ (cond b (put_at i true (is_active c)) (is_active c)) i
      own true = sym (ap (λ (b : Bool). cond b true (is_active c i)) (eq-eqb i i refl))
      own false = sym (ap (active_as i) down)

      other : (j : ℕ) → j ≢ i → (b : Bool) → is_active c j ≡ (cond b (put_at i true (is_active c)) (is_active c)) j
      other j ne true = sym (ap (λ (b : Bool). cond b true (is_active c j)) (ne_eqb j i ne))
      other j ne false = refl

  -- nobody is up more or less
  up-is : (j : ℕ) → is_up new j ≡ is_up c j
  up-is j = ⊎_elim
      (λ e. subst (λ (k : ℕ). is_up new k ≡ is_up c k) (sym e) (ap up_as status-here ∙ sym (ap up_as down)))
      (λ ne. ap up_as (status-else j ne))
      (cases_eq j i)

  still-active : (j : ℕ) → is_active c j ≡ true → is_active new j ≡ true
  still-active j active = active-is j ∙ by-itself (eqb by i)
    where
      by-itself : (b : Bool) → (cond b (put_at i true (is_active c)) (is_active c)) j ≡ true
      by-itself true = ⊎_elim
          (λ e. ap (λ (b : Bool). cond b true (is_active c j)) (eq-eqb j i e))
          (λ ne. ap (λ (b : Bool). cond b true (is_active c j)) (ne_eqb j i ne) ∙ active)
          (cases_eq j i)
      by-itself false = active

  -- ---- wherever logs begin

  module _ (moved : Keeps) where
    abbrev leaves' : Outcomes
    leaves' = leaves_by c moved leaves

    h : Half seen leaves' (log_by c moved) Pending.Idle c m
    h = g.half moved

    abbrev old_base : Base (may_of leaves')
    old_base = base_of seen leaves' (log_by c moved) c

    marked : (j : ℕ) → 1 ≤ j → is_loose new j ≡ put_at i true (is_loose c) j
    marked j lo = ⊎_elim
        (λ e. subst (λ (k : ℕ). is_loose new k ≡ put_at i true (is_loose c) k) (sym e)
        (loose-here ∙ sym (ap (λ (b : Bool). cond b true (is_loose c i)) (eq-eqb i i refl))))
        (λ ne. loose-else j lo ne ∙ sym (ap (λ (b : Bool). cond b true (is_loose c j)) (ne_eqb j i ne)))
        (cases_eq j i)

    rests : changes_law.Rests (begun i (eqb by i) old_base) (base_of seen leaves' (log_by c moved) new)
    rests = record {
      bases = λ j. refl;
      tails = λ j. refl;
      version = λ keeps p. refl;
      safe = h.coherent.safe;
      reads = h.coherent.reads;
      rec_lsn = λ p. refl;
      stays = record {
        less = λ p x may. may;
        disk = λ p. refl;
        loose = marked;
        loose_disk = loose-disk;
        active = active-is;
        up = up-is;
        due = refl;
      };
    }

    coherent : Coherent (base_of seen leaves' (log_by c moved) new) (dir_of c)
    coherent = rest-keeps (may_of leaves') (may_of leaves') (begun i (eqb by i) old_base) (base_of seen leaves' (log_by c moved) new) (dir_of c)
        (begin-keeps (may_of leaves') i (eqb by i) old_base (dir_of c) h.coherent idle (ap (active_as i) down) (ap up_as down)) rests

    epoch-same : (j epoch : ℕ) → IsEpochOf m Pending.Idle j epoch → IsEpochOf then Pending.Idle j epoch
    epoch-same j epoch e = ⊎_elim
        (λ same. subst (λ (k : ℕ). IsEpochOf then Pending.Idle k epoch) (sym same)
        (let old = subst (λ (k : ℕ). IsEpochOf m Pending.Idle k epoch) same e in
        let n = ap (λ (x : Inst). x.epoch) inst-here in let f = ap (λ (x : Inst). x.failed) inst-here in
        let lo = old.low in let hi = old.high in record { low = omega (arith, n, lo); high = omega (arith, n, f, hi) }))
        (λ ne. let n = ap (λ (x : Inst). x.epoch) (inst-else j ne) in let f = ap (λ (x : Inst). x.failed) (inst-else j ne) in
        let lo = e.low in let hi = e.high in record { low = omega (arith, n, lo); high = omega (arith, n, f, hi) })
        (cases_eq j i)

    half-there : Half seen leaves' (log_by c moved) Pending.Idle new then
    half-there = record {
      coherent = coherent;
      soundly = h.soundly;
      gives = h.gives;
      claimed = λ keeps t opens. let old = h.claimed keeps t opens in record { there = old.there; claims = old.claims };
      held = h.held;
      epochs = λ j lo hi bytes left. let old = h.epochs j lo hi bytes left in (epoch-same j _ old.0, epoch-same j _ old.1);
      checks = h.checks;
    }

  -- a settled device now is another, and was
  was-settled : (j : ℕ) → 1 ≤ j → is_loose new j ≡ false → (j ≢ i) × (is_loose c j ≡ false)
  was-settled j lo e = ⊎_elim
      (λ same. let clash = sym loose-here ∙ ap (is_loose new) (sym same) ∙ e in absurd (cc))
      (λ ne. (ne, sym (loose-else j lo ne) ∙ e))
      (cases_eq j i)

  instance-there : (k : ℕ) → 1 ≤ k → k ≤ 8 → IsInstance new then k
  instance-there k lo hi = let old = g.instances k lo hi in ⊎_elim
      (λ same. subst (IsInstance new then) (sym same) (let here = g.instances i low high in record {
        status = status-here ∙ sym (ap (λ (x : Inst). x.status) inst-here);
        epoch = λ up. let clash = sym status-here ∙ up in absurd (cc);
        begins = λ up. let clash = sym status-here ∙ up in absurd (cc);
        table = let e = ap (λ (x : Inst). x.epoch) inst-here in let o = here.table in omega (arith, e, o);
        first = λ up. let clash = sym status-here ∙ up in absurd (cc);
        own = here.own;
        names = here.names;
      }))
      (λ ne. record {
        status = status-else k ne ∙ old.status ∙ sym (ap (λ (x : Inst). x.status) (inst-else k ne));
        epoch = λ up. old.epoch (sym (status-else k ne) ∙ up) ∙ sym (ap (λ (x : Inst). x.epoch) (inst-else k ne));
        begins = λ up. ap (λ (x : Inst). begins_in (txns_at c k) x.epoch) (inst-else k ne) ∙ old.begins (sym (status-else k ne) ∙ up)
            ∙ sym (ap (λ (x : Inst). x.begins) (inst-else k ne));
        table = let e = ap (λ (x : Inst). x.epoch) (inst-else k ne) in let o = old.table in omega (arith, e, o);
        first = λ up. let one = old.first (sym (status-else k ne) ∙ up) in let e = ap (λ (x : Inst). x.epoch) (inst-else k ne) in
            omega (arith, one, e);
        own = old.own;
        names = old.names;
      })
      (cases_eq k i)

  not-up : (k : ℕ) → status_at new k ≡ S.Up → k ≢ i
  not-up k up e = let clash = sym status-here ∙ ap (status_at new) (sym e) ∙ up in absurd (cc)

  -- Log i, where it was settled, has no tail, so it owes the same either way.
  owes-here : (moved : Keeps) → OwesAtMost (owed_at c i) (log_by c moved i)
  owes-here moved = ⊎_elim (λ e. g.owed_loose moved i low high e)
      (λ e.
      let base = g.owed i low high e in
      let all = ap (λ (tail : List Record). owed (base_at (log_at c i) ++ map flat tail)) (g.at_rest i low high (ap tells_log down) e)
      ∙ ap owed (append-nil (base_at (log_at c i))) in
      subst (OwesAtMost (owed_at c i)) (sym (one-place c moved i (g.settled i low high e).one_place)) (omega (arith, base), omega (arith, base, all)))
      (cases_Bool (is_loose c i))

  owed-loose : (moved : Keeps) (j : ℕ) → 1 ≤ j → j ≤ 8 → is_loose new j ≡ true → OwesAtMost (owed_at c j) (log_by c moved j)
  owed-loose moved j lo hi e = ⊎_elim
      (λ same. subst (λ (k : ℕ). OwesAtMost (owed_at c k) (log_by c moved k)) (sym same) (owes-here moved))
      (λ ne. g.owed_loose moved j lo hi (sym (loose-else j lo ne) ∙ e))
      (cases_eq j i)

  pub recovering-good : Good seen leaves Pending.Idle new then
  recovering-good = record {
    shape = record {
      logs = g.shape.logs;
      pools = g.shape.pools;
      txns = g.shape.txns;
      statuses = length-set c.statuses (i - 1) (S.Recovering by) ∙ g.shape.statuses;
      epochs = g.shape.epochs;
      masters = g.shape.masters;
      checks = g.shape.checks;
      others = g.shape.others;
      owed = g.shape.owed;
      loose = length-set (slice_set c.loose 0 true) i true ∙ length-set c.loose 0 true ∙ g.shape.loose;
      own_log = g.shape.own_log;
      own_txns = g.shape.own_txns;
    };
    half = half-there;
    places = g.places;
    others = g.others;
    settled = λ j lo hi e. let s = g.settled j lo hi (was-settled j lo e).1 in
        record { only = s.only; stands = s.stands; one_place = s.one_place; counted = s.counted; epoch = s.epoch };
    disk_settled = λ e. let clash = sym loose-disk ∙ e in absurd (cc);
    disk_lsns = g.disk_lsns;
    last = g.last;
    owed = λ j lo hi e. g.owed j lo hi (was-settled j lo e).1;
    owed_loose = owed-loose;
    kept = record { serial = g.kept.serial; reads = g.kept.reads; covered = g.kept.covered; apart = g.kept.apart };
    placed = step-placed m (RecoverBegin i by) Did then step g.placed;
    listed = step-listed m (RecoverBegin i by) Did then step g.listed;
    marked = step-marked m (RecoverBegin i by) Did then step g.marked;
    named = g.named;
    numbered = g.numbered;
    recoverers = step-recoverers m (RecoverBegin i by) Did then step g.recoverers;
    not_closed = λ closed. ⊎_elim
        (λ e. let clash = sym (ap (λ (x : Inst). x.status) (ap then.inst e ∙ inst-here)) ∙ closed in absurd (cc))
        (λ ne. g.not_closed (sym (ap (λ (x : Inst). x.status) (inst-else 1 ne)) ∙ closed))
        (cases_eq 1 i);
    instances = instance-there;
    told = λ k lo hi tells e. let w = was-settled k lo e in
        let old = g.told k lo hi (sym (ap tells_log (status-else k w.0)) ∙ tells) w.1 in
        record { rows = old.rows; owes = old.owes; reserves = old.reserves; spare = λ up. old.spare (sym (status-else k w.0) ∙ up) };
    at_rest = λ k lo hi tells e. let w = was-settled k lo e in g.at_rest k lo hi (sym (ap tells_log (status-else k w.0)) ∙ tells) w.1;
    begun = λ k lo hi up. subst (λ (x : Inst). Each (IsOfBegun x) (all_at (log_at c k))) (sym (inst-else k (not-up k up)))
        (g.begun k lo hi (sym (status-else k (not-up k up)) ∙ up));
    at_work = λ k lo hi up. g.at_work k lo hi (sym (status-else k (not-up k up)) ∙ up);
    going = g.going;
    pending = tt;
    locks = g.locks;
    gone = g.gone;
    asks = λ p. Each-weaker _ _ (λ ask a. (still-active ask.by a.0, a.1)) (asks_at c.directory p) (g.asks p);
    checking = λ k b is. let old = g.checking k b is in
        record {
          takes = ⊎_elim
              (λ up. inl (status-else k (λ e. let clash = sym down ∙ ap (status_at c) (sym e) ∙ up in absurd (cc)) ∙ up))
              (λ re. inr (status-else k (λ e. let clash = sym down ∙ ap (status_at c) (sym e) ∙ re in absurd (cc)) ∙ re))
              old.takes;
          spelled = old.spelled;
          begun = old.begun;
        };
  }

-- an instance that is up is one of the eight
pub up-there : (c : Parts) → length c.statuses ≡ 8 → (k : ℕ) → status_at c k ≡ S.Up → (1 ≤ k) × (k ≤ 8)
up-there c eight zero up = absurd (cc)
up-there c eight (suc j) up = ⊎_elim
    (λ lt. (omega arith, omega (arith, lt)))
    (λ ge. let clash = sym (get_or_past c.statuses j S.Closed (omega (arith, eight, ge))) ∙ up in absurd (cc))
    (cases_lt j 8)

-- who may recover by the complex may by the serial table
pub may-recover : (seen : rig.DeviceImages) (leaves : Outcomes) (c : Parts) (m : State) (i by : ℕ) → Good seen leaves Pending.Idle c m
    → (by ≡ i) ⊎ (status_at c by ≡ S.Up) → (by ≡ i) ⊎ ((m.inst by).status ≡ S.Up)
may-recover seen leaves c m i by g may = ⊎_elim (λ e. inl e)
    (λ up. let r = up-there c g.shape.statuses by up in inr (sym (g.instances by r.0 r.1).status ∙ up)) may
