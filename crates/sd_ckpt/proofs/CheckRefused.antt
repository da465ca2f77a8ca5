-- A begin of a checkpoint that is refused, or done, serves its event. For `check_begin`.
use Rattle.std.proofs.Common.{◌≡◌, ◌⊎◌, ⊎_elim, ℕ, ◌≤◌, false, refl, sym, ap, subst, arith}
use Rattle.std.specs.Prelude.{None}
use Rattle.sd_base.specs.declared.refusal.Refusal.{Refusal}
use Rattle.sd_base.specs.declared.refusal.Refusal.TheVariants as R
use Rattle.sd_rig.specs.Devices.{DeviceImages, Leaves}
use Rattle.sd_model.specs.Applies.{MayServe}
use Rattle.sd_model.specs.State.{State}
use Rattle.sd_model.specs.declared.cause.Cause.{Cause}
use Rattle.sd_model.specs.declared.event.Event.{Event}
use Rattle.sd_model.specs.declared.event.Event.TheVariants.{CheckBegin}
use Rattle.sd_model.specs.declared.event.Reply.TheVariants as reply
use Rattle.sd_chain.specs.Logs.{Outcomes}
use Rattle.sd_state.specs.Complexes.{parts}
use Rattle.sd_state.specs.Good.{TakesCheck}
use Rattle.sd_state.specs.Parts.{Parts, is_loose, status_at, up_as}
use Rattle.sd_state.specs.Tables.{tells_log}
use Rattle.sd_state.specs.Values.{Pending}
use Rattle.sd_state.specs.declared.complex.Complex.{Complex}
use Rattle.sd_update.specs.Sealing.{NoLsnLeft, NoRoomFor}
use Rattle.sd_update.proofs.SealedCalls.{settled-up}
use Rattle.sd_world.specs.Serving.{Core, Serves, Telling, refused}
use Rattle.sd_fits.specs.Fits.{Fits}
use Rattle.sd_fits.specs.Serving.{Serving, fits_by, stands_for}
use Rattle.sd_fits.proofs.NoRoom.{no-lsn, no-room}
use Rattle.sd_fits.proofs.Refused.{IsFor, refused-turns}
use Rattle.sd_fits.proofs.Served.{passed}
use Rattle.sd_fits.proofs.Still.{kept-serves, kept-spares}

-- ---- what the world says of it

module _ (i : ℕ) (seen : DeviceImages) (leaves : Outcomes) (c : Parts) (w : Core) (f : Fits seen leaves c w) (low : 1 ≤ i)
    (high : i ≤ 8) where
  abbrev m : State
  m = w.scene.state

  abbrev event : Event
  event = CheckBegin i

  status-is : status_at c i ≡ (m.inst i).status
  status-is = (f.good.instances i low high).status

  down : (TakesCheck (status_at c i) → ⊥) → IsFor m w event R.Down Cause.Down
  down stays = record {
    waits = refl;
    whom = tt;
    unused = tt;
    allowed = tt;
    names = refl;
    tells = tt;
    first = (refl, (f.good.not_closed, tt), (λ serves. stays (subst TakesCheck (sym status-is) serves)));
    refuses = refl;
    passes = (tt, tt);
    says = λ never. absurd (cc);
    place = tt;
    left = refl;
  }

  module _ (takes : TakesCheck (status_at c i)) where
    settled : is_loose c i ≡ false
    settled = settled-up seen leaves Pending.Idle c m i low high f.good f.idle
        (⊎_elim (λ e. ap up_as e) (λ e. ap up_as e) takes)

    stands : (MayServe m event → ⊥) → ⊥
    stands none = none (subst TakesCheck status-is takes)

    full : NoRoomFor i 9 c → IsFor m w event R.LogFull Cause.Log
    full none = record {
      waits = refl;
      whom = tt;
      unused = tt;
      allowed = let room = no-room i seen leaves Pending.Idle c m w.bounds f.good f.bounds low high settled
          (⊎_elim (λ e. ap tells_log e) (λ e. ap tells_log e) takes) 9 none in omega (arith, room);
      names = refl;
      tells = tt;
      first = (refl, (f.good.not_closed, (stands, tt)), tt);
      refuses = refl;
      passes = (tt, (tt, tt));
      says = λ never. absurd (cc);
      place = tt;
      left = refl;
    }

    at-end : NoLsnLeft i c → IsFor m w event R.LsnEnd Cause.Lsn
    at-end none = record {
      waits = refl;
      whom = tt;
      unused = tt;
      allowed = let out = no-lsn i seen leaves Pending.Idle c m w.bounds f.good f.bounds low high settled
          (⊎_elim (λ e. ap tells_log e) (λ e. ap tells_log e) takes) none in omega (arith, out);
      names = refl;
      tells = tt;
      first = (refl, (f.good.not_closed, (stands, (tt, tt))), tt);
      refuses = refl;
      passes = (tt, (tt, (tt, tt)));
      says = λ never. absurd (cc);
      place = tt;
      left = refl;
    }

-- ---- a refusal leaves all

module _ {G : Type 0} (tell : Telling G) (c new : Complex G) (same : new.rig ≡ c.rig) (stays : parts new ≡ parts c)
    (now : (img : DeviceImages) → tell.since c.rig (tell.moment c.rig) img → Leaves (tell.leaves c.rig) img) (e : Event) where
  pub refuses : (n : Refusal) (cause : Cause)
      → ((w : Core) (f : fits_by tell.seen tell.leaves c w) → IsFor w.scene.state w e n cause) → (w : Core)
      → fits_by tell.seen tell.leaves c w → (w' : Core)
      × Serves {C = Complex G} tell stands_for (λ k. k.rig) (fits_by tell.seen tell.leaves) e (reply.Refused n) c new w w'
  refuses n cause is w f = (
    passed w w.scene.waits e (reply.Refused n),
    kept-serves tell c new same stays now w f e (reply.Refused n) tt
        (refused-turns (tell.seen c.rig) (tell.leaves c.rig) (parts c) w f e n cause (is w f)),
  )

  pub check-short : Serving tell e None c new
  check-short = (λ w f. kept-spares tell c new same stays now w f, ap tell.faults same)

module _ {G : Type 0} (tell : Telling G) (c new : Complex G) (i : ℕ) (low : 1 ≤ i) (high : i ≤ 8) (same : new.rig ≡ c.rig)
    (stays : parts new ≡ parts c)
    (now : (img : DeviceImages) → tell.since c.rig (tell.moment c.rig) img → Leaves (tell.leaves c.rig) img) where
  abbrev Refuses : Refusal → Type 0
  Refuses n = Serving tell (CheckBegin i) (refused n) c new

  -- one that is neither up nor restarting,
  pub check-down : (TakesCheck (status_at (parts c) i) → ⊥) → Refuses R.Down
  check-down out = (
    refuses tell c new same stays now (CheckBegin i) R.Down Cause.Down (λ w f. down i (tell.seen c.rig) (tell.leaves c.rig) (parts c) w f low high out),
    ap tell.faults same,
  )

  module _ (takes : TakesCheck (status_at (parts c) i)) where
    -- for want of room,
    check-full : NoRoomFor i 9 (parts c) → Refuses R.LogFull
    check-full none = (
      refuses tell c new same stays now (CheckBegin i) R.LogFull Cause.Log (λ w f. full i (tell.seen c.rig) (tell.leaves c.rig) (parts c) w f low high takes none),
      ap tell.faults same,
    )

    -- and for want of an LSN
    check-end : NoLsnLeft i (parts c) → Refuses R.LsnEnd
    check-end none = (
      refuses tell c new same stays now (CheckBegin i) R.LsnEnd Cause.Lsn (λ w f. at-end i (tell.seen c.rig) (tell.leaves c.rig) (parts c) w f low high takes none),
      ap tell.faults same,
    )

    -- as the record's call tells
    pub check-refused : (n : Refusal) → (n ≡ R.LogFull) ⊎ ((n ≡ R.LsnEnd) ⊎ (n ≡ R.Memory))
        → (n ≡ R.LogFull → NoRoomFor i 9 (parts c)) → (n ≡ R.LsnEnd → NoLsnLeft i (parts c)) → Refuses n
    check-refused n which room lsns = ⊎_elim
        (λ e. subst Refuses (sym e) (check-full (room e)))
        (λ rest. ⊎_elim (λ e. subst Refuses (sym e) (check-end (lsns e))) (λ e. subst Refuses (sym e) (check-short tell c new same stays now (CheckBegin i))) rest)
        which
