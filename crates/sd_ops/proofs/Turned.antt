-- A rollback begins, or is refused: for `back_to`.
use Rattle.std.proofs.Common.{◌≡◌, ◌≢◌, ◌⊎◌, inl, inr, ⊎_elim, ℕ, ◌≤◌, cond, List, refl, sym, ap, ◌∙◌, subst}
use Rattle.std.specs.Prelude.{Option, None, Some, IsSome, option_and_then, option_map}
use Rattle.sd_base.specs.Ids.{same_txn}
use Rattle.sd_base.specs.Waits.{Wait, with_wait}
use Rattle.sd_base.specs.declared.ids.TxnId.{TxnId}
use Rattle.sd_base.specs.declared.place.Status.TheVariants as S
use Rattle.sd_base.specs.declared.refusal.Refusal.{Refusal}
use Rattle.sd_base.specs.declared.refusal.Refusal.TheVariants as R
use Rattle.sd_model.specs.Applies.{IsRolling}
use Rattle.sd_model.specs.Causes.{order}
use Rattle.sd_model.specs.Changes.{mark_of}
use Rattle.sd_model.specs.Listed.{IsAtWork}
use Rattle.sd_model.specs.State.{State, turned, with_life}
use Rattle.sd_model.specs.Step.{Step}
use Rattle.sd_model.specs.declared.act.Life.{Life}
use Rattle.sd_model.specs.declared.cause.Cause.{Cause}
use Rattle.sd_model.specs.declared.event.Event.TheVariants.{Back}
use Rattle.sd_model.specs.declared.event.Reply.TheVariants as reply
use Rattle.sd_reclock.specs.Locks.{Held, LockTable, held_in, waits}
use Rattle.sd_rig.specs.Devices.{DeviceImages, Leaves}
use Rattle.sd_txn.specs.Transactions as txns
use Rattle.sd_txn.specs.Transactions.{IsUnresolved, OthersStay, Transaction, Transactions, span_at, state_at, txn_at, with_state}
use Rattle.sd_txn.specs.declared.state.TxnState.{TxnState}
use Rattle.sd_chain.specs.Records.{IsOpen, home}
use Rattle.sd_chain.specs.Logs.{Outcomes, all_at}
use Rattle.sd_world.specs.Bounds.{bounds_after}
use Rattle.sd_world.specs.PageCauses.{NoneSays}
use Rattle.sd_world.specs.Serving.{Core, Serves, Telling, refused}
use Rattle.sd_state.specs.Complexes.{parts}
use Rattle.sd_state.specs.Good.{Good}
use Rattle.sd_state.specs.Parts.{Parts, log_at, status_at, txns_at}
use Rattle.sd_state.specs.Tables.{RowIsLive}
use Rattle.sd_state.specs.Values.{Pending}
use Rattle.sd_state.specs.Working.{with_txns, with_working}
use Rattle.sd_state.specs.declared.complex.Complex.{Complex}
use Rattle.sd_fits.specs.Fits.{Fits}
use Rattle.sd_fits.specs.Serving.{Serving, fits_by, stands_for}
use Rattle.sd_fits.proofs.Heads.{is-up, some-there, stands-as, up-works}
use Rattle.sd_fits.proofs.Served.{bounds-stay, relocked-good}
use Rattle.sd_fits.proofs.Turning.{ended-asks, turned-fits, turned_core}
use Rattle.sd_fits.proofs.Undoing.{rolling-open}
use Rattle.sd_fits.proofs.Values.{running-open}
use Rattle.sd_ops.specs.Rolling.{IsGoal, MayRoll, StaysPut}
use Rattle.sd_ops.proofs.Calms.{IsCalmed, calm-serves, no-wait, turn-serves}
use Rattle.sd_ops.proofs.Outs.{IsCause, down-cause, of-back, refused-answer, unknown-cause}

module _ (t : TxnId) (seen : DeviceImages) (leaves : Outcomes) (c : Parts) (low : 1 ≤ home t) (high : home t ≤ 8) (w : Core) (f : Fits seen leaves c w)
  where
    abbrev m : State
    m = w.scene.state

    -- who is there, at an instance that is up, is refused neither as unknown nor as down
    head : (state : TxnState) → status_at c (home t) ≡ S.Up → state_at (txns_at c (home t)) t ≡ Some state
        → ((m.part t).life ≢ Life.Gone) × ((((m.inst (home t)).status ≡ S.Up) → ⊥) → ⊥)
    head state up stands = (
      some-there seen leaves Pending.Idle c m f.good t state low high stands,
      λ no. no (is-up seen leaves Pending.Idle c m f.good (home t) low high up).up,
    )

    -- at an instance that is up whoever doesn't run rolls back
    rolling-else : (state : TxnState) → status_at c (home t) ≡ S.Up → state_at (txns_at c (home t)) t ≡ Some state → state ≢ TxnState.Running
        → IsRolling (m.part t).life
    rolling-else state up stands off = ⊎_elim
        (λ runs. absurd (off runs))
        (λ rolls. (
          rolls.0,
          stands-as seen leaves Pending.Idle c m f.good t (TxnState.Rolling rolls.0) low high
              (stands ∙ ap (λ (s : TxnState). Some s) rolls.1),
        ))
        (up-works seen leaves Pending.Idle c m f.good t state low high up stands)

    runs-there : state_at (txns_at c (home t)) t ≡ Some TxnState.Running → (m.part t).life ≡ Life.Running
    runs-there runs = stands-as seen leaves Pending.Idle c m f.good t TxnState.Running low high runs

    -- a mark of its row is one of the serial table
    marked-there : status_at c (home t) ≡ S.Up → (state : TxnState) → state_at (txns_at c (home t)) t ≡ Some state → (name : List ℕ)
        → mark_of name (m.part t).marks ≡ txns.mark_at (txns_at c (home t)) t name
    marked-there up state stands name = by (txn_at (txns_at c (home t)) t) stands
        (f.good.at_work (home t) low high up t refl (λ e. let clash = e in absurd (cc)))
      where
        by : (o : Option Transaction) → option_map (λ (x : Transaction). x.state) o ≡ Some state → RowIsLive o t (m.part t) (all_at (log_at c (home t)))
            → mark_of name (m.part t).marks ≡ option_and_then (txns.mark_of name) o
        by None is live = absurd (cc)
        by (Some x) is live = sym (live.marks name)

    busy-cause : (name : List ℕ) (state : TxnState) → status_at c (home t) ≡ S.Up → state_at (txns_at c (home t)) t ≡ Some state
        → state ≢ TxnState.Running → IsCause w (Back t (Some name)) (R.Busy t) Cause.Busy
    busy-cause name state up stands off = let h = head state up stands in record {
      names = refl;
      tells = refl;
      first = (refl, (f.good.not_closed, (h.0, (h.1, tt))), rolling-else state up stands off);
      refuses = refl;
      whom = tt;
      unused = tt;
      passes = (tt, (tt, (tt, tt)));
      says = λ b. absurd (cc);
      place = tt;
      left = refl;
      allows = tt;
    }

    unmarked-cause : (name : List ℕ) → status_at c (home t) ≡ S.Up → state_at (txns_at c (home t)) t ≡ Some TxnState.Running
        → txns.mark_at (txns_at c (home t)) t name ≡ None → IsCause w (Back t (Some name)) R.NoSavepoint Cause.NoMark
    unmarked-cause name up runs none = let h = head TxnState.Running up runs in record {
      names = refl;
      tells = tt;
      first = (
        refl,
        (f.good.not_closed, (h.0, (h.1, ((λ rolls. let clash = sym (runs-there runs) ∙ rolls.1 in absurd (cc)), tt)))),
        marked-there up TxnState.Running runs name ∙ none,
      );
      refuses = refl;
      whom = tt;
      unused = tt;
      passes = (tt, (tt, (tt, (tt, tt))));
      says = λ b. absurd (cc);
      place = tt;
      left = refl;
      allows = tt;
    }

    busy-by : (mark : Option (List ℕ)) → IsSome mark → (state : TxnState) → status_at c (home t) ≡ S.Up
        → state_at (txns_at c (home t)) t ≡ Some state → state ≢ TxnState.Running → IsCause w (Back t mark) (R.Busy t) Cause.Busy
    busy-by None some state up stands off = absurd (cc)
    busy-by (Some name) some state up stands off = busy-cause name state up stands off

    pub back-refused : (mark : Option (List ℕ)) (n : Refusal) → StaysPut t mark c n → (cause : Cause) × IsCause w (Back t mark) n cause
    back-refused mark R.NoTxn h = (Cause.NoTxn, unknown-cause (Back t mark) t (of-back t mark) seen leaves c low high w f h)
    back-refused mark R.Down h = (Cause.Down, down-cause (Back t mark) t (of-back t mark) seen leaves c low high w f h.0 h.1)
    back-refused mark (R.Busy by) h = (
      Cause.Busy,
      subst (λ (u : TxnId). IsCause w (Back t mark) (R.Busy u) Cause.Busy) (sym h.0) (busy-by mark h.1 h.3 h.2 h.4 h.5),
    )
    back-refused mark R.NoSavepoint h = (
      Cause.NoMark,
      subst (λ (k : Option (List ℕ)). IsCause w (Back t k) R.NoSavepoint Cause.NoMark) (sym h.1) (unmarked-cause h.0 h.2 h.3 h.4),
    )
    back-refused mark n h = elim h [ ]

    -- ---- it turns back

    pub may-roll : (mark : Option (List ℕ)) (to : Option ℕ) → status_at c (home t) ≡ S.Up → IsGoal t mark to c → MayRoll t to c
    may-roll None to up h = subst (λ (o : Option ℕ). MayRoll t o c) (sym h.0) (⊎_elim
        (λ runs. inl (h.2 ∙ ap (λ (s : TxnState). Some s) runs))
        (λ rolls. inr (rolls.0, h.2 ∙ ap (λ (s : TxnState). Some s) rolls.1))
        (up-works seen leaves Pending.Idle c m f.good t h.1 low high up h.2))
    may-roll (Some name) to up h = subst (λ (o : Option ℕ). MayRoll t o c) (sym h.1) (h.2, (name, h.3))

    -- what it does until then
    at-work : (to : Option ℕ) → MayRoll t to c → ((m.part t).life ≡ Life.Running) ⊎ IsRolling (m.part t).life
    at-work None (inl runs) = inl (runs-there runs)
    at-work None (inr rolls) = inr (rolls.0, stands-as seen leaves Pending.Idle c m f.good t (TxnState.Rolling rolls.0) low high rolls.1)
    at-work (Some n) may = inl (runs-there may.0)

    works : ((m.part t).life ≡ Life.Running) ⊎ IsRolling (m.part t).life → IsAtWork (m.part t).life
    works (inl runs) = subst IsAtWork (sym runs) tt
    works (inr rolls) = subst IsAtWork (sym rolls.1) tt

    opens : status_at c (home t) ≡ S.Up → ((m.part t).life ≡ Life.Running) ⊎ IsRolling (m.part t).life → IsOpen t (all_at (log_at c (home t)))
    opens up (inl runs) = running-open seen leaves c m t f.good up runs
    opens up (inr rolls) = rolling-open t rolls.0 seen leaves c w f rolls.1 low high up

    back-step : (mark : Option (List ℕ)) (to : Option ℕ) → status_at c (home t) ≡ S.Up → IsGoal t mark to c
        → Step m (Back t mark) reply.Did (turned t (Life.Rolling to) m)
    back-step None to up h = let head = head h.1 up h.2 in
        subst (λ (o : Option ℕ). Step m (Back t None) reply.Did (turned t (Life.Rolling o) m)) (sym h.0)
        ((f.good.not_closed, (head.0, (head.1, tt))), (at-work None (may-roll None None up (refl, h.1, h.2)), refl))
    back-step (Some name) to up h = let head = head TxnState.Running up h.2 in
        subst (λ (o : Option ℕ). Step m (Back t (Some name)) reply.Did (turned t (Life.Rolling o) m)) (sym h.1) (
          (
            f.good.not_closed,
            (
              head.0,
              (
                head.1,
                (
                  (λ rolls. let clash = sym (runs-there h.2) ∙ rolls.1 in absurd (cc)),
                  (
                    (λ none. let clash = sym h.3
                        ∙ sym (marked-there up TxnState.Running h.2 name) ∙ none in absurd (cc)),
                    tt,
                  ),
                ),
              ),
            ),
          ),
          (h.0, runs-there h.2, marked-there up TxnState.Running h.2 name ∙ h.3, refl),
        )

-- where it stands is no matter of its records
pub same-span : (state : TxnState) (o : Option Transaction)
    → option_and_then (λ (x : Transaction). x.span) (option_map (with_state state) o) ≡ option_and_then (λ (x : Transaction). x.span) o
same-span state None = refl
same-span state (Some x) = refl

-- What turning back, and the end of the wait, make of a complex.
pub record HasRolled (t : TxnId) (to : Option ℕ) (table : Transactions) (locks : LockTable) (old : Parts) : Type 0 where
  pub row : txn_at table t ≡ option_map (with_state (TxnState.Rolling to)) (txn_at (txns_at old (home t)) t)
  pub others : OthersStay (txns_at old (home t)) table t
  pub same_locks : locks.locks ≡ old.locks.locks
  pub waits : (u : TxnId) → waits locks u ≡ with_wait t None (waits old.locks) u

module _ {G : Type 0} (tell : Telling G) (t : TxnId) (mark : Option (List ℕ)) (old new : Complex G) (same : new.rig ≡ old.rig)
    (now : (img : DeviceImages) → tell.since old.rig (tell.moment old.rig) img → Leaves (tell.leaves old.rig) img)
    (low : 1 ≤ home t) (high : home t ≤ 8) where
  each : (n : Refusal) → StaysPut t mark (parts old) n → IsCalmed t (parts old) (parts new) → (w : Core) → fits_by tell.seen tell.leaves old w
      → (w' : Core) × Serves {C = Complex G} tell stands_for (λ c. c.rig) (fits_by tell.seen tell.leaves) (Back t mark) (reply.Refused n) old new w w'
  each n stays calm w f =
      let cause = back-refused t (tell.seen old.rig) (tell.leaves old.rig) (parts old) low high w f mark n stays in
      calm-serves tell t (Back t mark) (reply.Refused n) old new same now refl (no-wait (reply.Refused n)) tt w f calm
      (refused-answer w (Back t mark) n cause.0 cause.1)

  pub back-out : (n : Refusal) → StaysPut t mark (parts old) n → IsCalmed t (parts old) (parts new)
      → Serving tell (Back t mark) (refused n) old new
  back-out R.NoTxn stays calm = (each R.NoTxn stays calm, ap tell.faults same)
  back-out R.Down stays calm = (each R.Down stays calm, ap tell.faults same)
  back-out (R.Busy by) stays calm = (each (R.Busy by) stays calm, ap tell.faults same)
  back-out R.NoSavepoint stays calm = (each R.NoSavepoint stays calm, ap tell.faults same)
  back-out n stays calm = elim stays [ ]

  pub back-served : (to : Option ℕ) (table : Transactions) → status_at (parts old) (home t) ≡ S.Up → IsGoal t mark to (parts old)
      → parts new ≡ with_working (home t) table (parts new).locks (parts old) → HasRolled t to table (parts new).locks (parts old)
      → ((m : State) → Good (tell.seen old.rig) (tell.leaves old.rig) Pending.Idle (parts old) m
      → Good (tell.seen old.rig) (tell.leaves old.rig) Pending.Idle (with_txns (home t) table (parts old)) (turned t (Life.Rolling to) m))
      → Serving tell (Back t mark) (Some reply.Did) old new
  back-served to table up goal is h good = (
    λ w f.
        let m : State = w.scene.state in
        let c : Parts = parts old in
        let seen = tell.seen old.rig in
        let leaves = tell.leaves old.rig in
        let work = at-work t seen leaves c low high w f to (may-roll t seen leaves c low high w f mark to up goal) in
        let then : Good seen leaves Pending.Idle (with_working (home t) table (parts new).locks c) (turned t (Life.Rolling to) m) =
        relocked-good (parts new).locks seen leaves Pending.Idle (with_txns (home t) table c) (turned t (Life.Rolling to) m) (good m f.good)
        (λ u q. ap (λ (l : Held). held_in l u q) h.same_locks) in
        let fits = turned-fits t (with_life (Life.Rolling to) (m.part t)) table (parts new).locks (with_wait t None w.scene.waits)
        (bounds_after w.bounds (Back t mark) reply.Did)
        seen leaves c w f (record {
          low = low;
          high = high;
          up = up;
          span = ap (option_and_then (λ (x : Transaction). x.span)) h.row ∙ same-span (TxnState.Rolling to) (txn_at (txns_at c (home t)) t);
          others = h.others;
          acts = refl;
          works = works t seen leaves c low high w f work;
          sure = refl;
          rolls = λ e. opens t seen leaves c low high w f up work;
          waits = λ u. h.waits u ∙ ap (λ (o : Option Wait). cond {A = Option Wait} (same_txn t u) None o) (f.waits u);
          waiting = ended-asks t (with_life (Life.Rolling to) (m.part t)) seen leaves c w f;
        }) then (bounds-stay seen c w.bounds (Back t mark) reply.Did tt f.bounds) in
        turn-serves tell t (with_life (Life.Rolling to) (m.part t)) (Back t mark) reply.Did old new same now refl refl w f
        (subst (λ (q : Parts). Fits seen leaves q (turned_core t (with_life (Life.Rolling to) (m.part t)) (with_wait t None w.scene.waits)
        (bounds_after w.bounds (Back t mark) reply.Did) w))
        (sym is) fits)
        (back-step t seen leaves c low high w f mark to up goal) tt tt (none-says w mark, refl) tt,
    ap tell.faults same,
  )
    where
      none-says : (w : Core) (k : Option (List ℕ)) → NoneSays w.scene.state w.pages (Back t k) (order (Back t k))
      none-says w None = (tt, (tt, (tt, tt)))
      none-says w (Some name) = (tt, (tt, (tt, (tt, (tt, tt)))))
