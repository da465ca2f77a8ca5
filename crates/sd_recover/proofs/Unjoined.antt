-- A join that is refused serves its event: for the goals of `join`.
use Rattle.std.proofs.Common.{◌≡◌, ◌⊎◌, inl, inr, ⊎_elim, ℕ, ◌+◌, ◌≤◌, false, refl, sym, ap, ◌∙◌, subst, arith}
use Rattle.std.specs.Prelude.{None, Some}
use Rattle.sd_base.specs.declared.place.Status.{Status}
use Rattle.sd_base.specs.declared.place.Status.TheVariants as S
use Rattle.sd_base.specs.declared.refusal.Refusal.{Refusal}
use Rattle.sd_base.specs.declared.refusal.Refusal.TheVariants as R
use Rattle.sd_logrec.specs.Kept.{master}
use Rattle.sd_log.specs.Logs.{forced}
use Rattle.sd_rig.specs.Devices.{DeviceImages, Leaves}
use Rattle.sd_model.specs.Applies.{IsNotDown, IsNotRecovered, IsRecovering}
use Rattle.sd_model.specs.State.{State}
use Rattle.sd_model.specs.declared.cause.Cause.{Cause}
use Rattle.sd_model.specs.declared.event.Event.{Event}
use Rattle.sd_model.specs.declared.event.Event.TheVariants.{Join}
use Rattle.sd_model.specs.declared.event.Reply.TheVariants as reply
use Rattle.sd_chain.specs.Logs.{Outcomes, past_at}
use Rattle.sd_world.specs.Serving.{Core, Serves, Telling, refused}
use Rattle.sd_state.specs.Complexes.{parts}
use Rattle.sd_state.specs.Parts.{Parts, epoch_at, is_loose, log_at, status_at, up_as}
use Rattle.sd_update.specs.Sealing.{NoLsnLeft, NoRoomFor}
use Rattle.sd_state.specs.Tables.{tells_log}
use Rattle.sd_state.specs.Values.{Pending}
use Rattle.sd_state.specs.declared.complex.Complex.{Complex}
use Rattle.sd_update.proofs.SealedCalls.{settled-up}
use Rattle.sd_state.proofs.Standing.{no-place}
use Rattle.sd_fits.specs.Fits.{Fits}
use Rattle.sd_fits.specs.Serving.{Serving, fits_by, stands_for}
use Rattle.sd_fits.proofs.NoRoom.{no-lsn, no-room}
use Rattle.sd_fits.proofs.Served.{passed}
use Rattle.sd_fits.proofs.Still.{kept-serves, kept-spares}
use Rattle.sd_fits.proofs.Refused.{IsFor, refused-turns}
use Rattle.sd_recover.specs.Joining.{IsUnrecovered, MayStart, StaysOut}

-- ---- statuses

start-not_up : (s : Status) → MayStart s → s ≡ S.Up → ⊥
start-not_up s (inl clean) up = let clash = sym clean ∙ up in absurd (cc)
start-not_up s (inr again) up = let clash = sym again ∙ up in absurd (cc)

start-recovered : (s : Status) → MayStart s → (s ≡ S.Down) ⊎ IsRecovering s → ⊥
start-recovered s (inl clean) (inl down) = let clash = sym clean ∙ down in absurd (cc)
start-recovered s (inr again) (inl down) = let clash = sym again ∙ down in absurd (cc)
start-recovered s (inl clean) (inr by) = let clash = sym clean ∙ by.1 in absurd (cc)
start-recovered s (inr again) (inr by) = let clash = sym again ∙ by.1 in absurd (cc)

unrecovered-is : (s : Status) → IsUnrecovered s → (s ≡ S.Closed → ⊥) → (s ≡ S.Down) ⊎ IsRecovering s
unrecovered-is S.Up h opened = absurd h
unrecovered-is S.Down h opened = inl refl
unrecovered-is (S.Recovering by) h opened = inr (by, refl)
unrecovered-is S.Clean h opened = absurd h
unrecovered-is S.Restarting h opened = absurd h
unrecovered-is S.Closed h opened = absurd (opened refl)

unrecovered-not_up : (s : Status) → IsUnrecovered s → s ≡ S.Up → ⊥
unrecovered-not_up s h up = subst IsUnrecovered up h

-- ---- what the world says of it

module _ (i : ℕ) (seen : DeviceImages) (leaves : Outcomes) (c : Parts) (w : Core) (f : Fits seen leaves c w) (low : 1 ≤ i)
    (high : i ≤ 8) where
  abbrev m : State
  m = w.scene.state

  abbrev event : Event
  event = Join i

  status-is : status_at c i ≡ (m.inst i).status
  status-is = (f.good.instances i low high).status

  pub not-up : MayStart (status_at c i) → IsNotDown m event → ⊥
  not-up waits up = start-not_up (status_at c i) waits (status-is ∙ up)

  pub recovered : MayStart (status_at c i) → IsNotRecovered m event → ⊥
  recovered waits none = start-recovered (status_at c i) waits
      (subst (λ (s : Status). (s ≡ S.Down) ⊎ IsRecovering s) (sym status-is) none)

  settled : MayStart (status_at c i) → is_loose c i ≡ false
  settled waits = settled-up seen leaves Pending.Idle c m i low high f.good f.idle
      (⊎_elim (λ e. ap up_as e) (λ e. ap up_as e) waits)

  up : (status : Status) → StaysOut c i (R.NotDown status) → IsFor m w event (R.NotDown status) Cause.NotDown
  up status why = record {
    waits = refl;
    whom = tt;
    unused = tt;
    allowed = tt;
    names = refl;
    tells = why.0 ∙ status-is;
    first = (refl, (f.good.not_closed, tt), sym status-is ∙ why.1);
    refuses = refl;
    passes = (tt, tt);
    says = λ never. absurd (cc);
    place = tt;
    left = refl;
  }

  unrecovered : (status : Status) → StaysOut c i (R.NotRecovered status)
      → IsFor m w event (R.NotRecovered status) Cause.NotRecovered
  unrecovered status why = record {
    waits = refl;
    whom = tt;
    unused = tt;
    allowed = tt;
    names = refl;
    tells = why.0 ∙ status-is;
    first = (
      refl,
      (f.good.not_closed, (λ up. unrecovered-not_up (status_at c i) why.1 (status-is ∙ up), tt)),
      subst (λ (s : Status). (s ≡ S.Down) ⊎ IsRecovering s) status-is (unrecovered-is (status_at c i) why.1 opened),
    );
    refuses = refl;
    passes = (tt, (tt, tt));
    says = λ never. absurd (cc);
    place = tt;
    left = refl;
  }
    where
      opened : status_at c i ≡ S.Closed → ⊥
      opened closed = f.good.not_closed (f.good.placed.shut i (sym status-is ∙ closed))

  full : MayStart (status_at c i) → NoRoomFor i 13 c → IsFor m w event R.LogFull Cause.Log
  full waits none = record {
    waits = refl;
    whom = tt;
    unused = tt;
    allowed = let room = no-room i seen leaves Pending.Idle c m w.bounds f.good f.bounds low high (settled waits)
        (⊎_elim (λ e. ap tells_log e) (λ e. ap tells_log e) waits) 13 none in omega (arith, room);
    names = refl;
    tells = tt;
    first = (refl, (f.good.not_closed, (not-up waits, (recovered waits, tt))), tt);
    refuses = refl;
    passes = (tt, (tt, (tt, tt)));
    says = λ never. absurd (cc);
    place = tt;
    left = refl;
  }

  at-end : MayStart (status_at c i) → NoLsnLeft i c ⊎ (epoch_at c i ≡ 4294967295) → IsFor m w event R.LsnEnd Cause.Lsn
  at-end waits none = record {
    waits = refl;
    whom = tt;
    unused = tt;
    allowed = ⊎_elim
        (λ lsns. inl (let out = no-lsn i seen leaves Pending.Idle c m w.bounds f.good f.bounds low high (settled waits)
        (⊎_elim (λ e. ap tells_log e) (λ e. ap tells_log e) waits) lsns in omega (arith, out)))
        (λ last. inr (omega (arith, last, most)))
        none;
    names = refl;
    tells = tt;
    first = (refl, (f.good.not_closed, (not-up waits, (recovered waits, (tt, tt)))), tt);
    refuses = refl;
    passes = (tt, (tt, (tt, (tt, tt))));
    says = λ never. absurd (cc);
    place = tt;
    left = refl;
  }
    where
      -- its epoch is at most the one that its joins that failed began last
      most : epoch_at c i ≤ (m.inst i).epoch + (m.inst i).failed
      most =
          let at = f.good.settled i low high (settled waits) in
          let top = ((f.good.half (λ j. false)).epochs i low high (seen i)
          ((at.only (seen i)).1 refl, no-place _ _ at.one_place)).1.high in
          let is : (past_at (master (seen i)) (forced (log_at c i))).epoch ≡ epoch_at c i = at.epoch in
          omega (arith, top, is)

-- ---- a refusal leaves all

module _ {G : Type 0} (tell : Telling G) (c new : Complex G) (i : ℕ) (low : 1 ≤ i) (high : i ≤ 8) (same : new.rig ≡ c.rig)
    (stays : parts new ≡ parts c)
    (now : (img : DeviceImages) → tell.since c.rig (tell.moment c.rig) img → Leaves (tell.leaves c.rig) img) where
  abbrev Refuses : Refusal → Type 0
  Refuses n = Serving tell (Join i) (Some (reply.Refused n)) c new

  refuses : (n : Refusal) (cause : Cause)
      → ((w : Core) (f : fits_by tell.seen tell.leaves c w) → IsFor w.scene.state w (Join i) n cause) → (w : Core)
      → fits_by tell.seen tell.leaves c w → (w' : Core)
      × Serves {C = Complex G} tell stands_for (λ k. k.rig) (fits_by tell.seen tell.leaves) (Join i) (reply.Refused n) c new w w'
  refuses n cause is w f = (
    passed w w.scene.waits (Join i) (reply.Refused n),
    kept-serves tell c new same stays now w f (Join i) (reply.Refused n) tt
        (refused-turns (tell.seen c.rig) (tell.leaves c.rig) (parts c) w f (Join i) n cause (is w f)),
  )

  -- for how the instance stands,
  pub stays-out : (n : Refusal) → StaysOut (parts c) i n → Serving tell (Join i) (refused n) c new
  stays-out (R.NotDown status) why = (
    refuses (R.NotDown status) Cause.NotDown
        (λ w f. up i (tell.seen c.rig) (tell.leaves c.rig) (parts c) w f low high status why),
    ap tell.faults same,
  )
  stays-out (R.NotRecovered status) why = (
    refuses (R.NotRecovered status) Cause.NotRecovered
        (λ w f. unrecovered i (tell.seen c.rig) (tell.leaves c.rig) (parts c) w f low high status why),
    ap tell.faults same,
  )
  stays-out n why = absurd why

  -- for want of memory,
  pub no-memory : Serving tell (Join i) None c new
  no-memory = (λ w f. kept-spares tell c new same stays now w f, ap tell.faults same)

  module _ (waits : MayStart (status_at (parts c) i)) where
    -- for want of room,
    pub log-full : NoRoomFor i 13 (parts c) → Refuses R.LogFull
    log-full none = (
      refuses R.LogFull Cause.Log (λ w f. full i (tell.seen c.rig) (tell.leaves c.rig) (parts c) w f low high waits none),
      ap tell.faults same,
    )

    -- and for want of an LSN or an epoch
    pub lsn-end : NoLsnLeft i (parts c) ⊎ (epoch_at (parts c) i ≡ 4294967295) → Refuses R.LsnEnd
    lsn-end none = (
      refuses R.LsnEnd Cause.Lsn (λ w f. at-end i (tell.seen c.rig) (tell.leaves c.rig) (parts c) w f low high waits none),
      ap tell.faults same,
    )

    -- as the Start's call tells
    pub seal-refused : (n : Refusal) → (n ≡ R.LogFull) ⊎ ((n ≡ R.LsnEnd) ⊎ (n ≡ R.Memory))
        → (n ≡ R.LogFull → NoRoomFor i 13 (parts c))
        → (n ≡ R.LsnEnd → NoLsnLeft i (parts c) ⊎ (epoch_at (parts c) i ≡ 4294967295))
        → Serving tell (Join i) (refused n) c new
    seal-refused n which room lsns = ⊎_elim
        (λ e. subst (λ (r : Refusal). Serving tell (Join i) (refused r) c new) (sym e) (log-full (room e)))
        (λ rest. ⊎_elim
        (λ e. subst (λ (r : Refusal). Serving tell (Join i) (refused r) c new) (sym e) (lsn-end (lsns e)))
        (λ e. subst (λ (r : Refusal). Serving tell (Join i) (refused r) c new) (sym e) no-memory)
        rest)
        which
