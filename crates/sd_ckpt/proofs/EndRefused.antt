-- An end of a checkpoint that is refused serves its event. For `check_end`.
use Rattle.std.proofs.Common.{◌≡◌, inl, inr, ⊎_elim, ℕ, ◌≤◌, true, false, refl, sym, ap, ◌∙◌, subst, arith}
use Rattle.std.specs.Prelude.{Option, None, Some, is_some}
use Rattle.sd_base.specs.declared.refusal.Refusal.{Refusal}
use Rattle.sd_base.specs.declared.refusal.Refusal.TheVariants as R
use Rattle.sd_rig.specs.Devices.{DeviceImages, Leaves}
use Rattle.sd_model.specs.Applies.{MayServe}
use Rattle.sd_model.specs.State.{State}
use Rattle.sd_model.specs.declared.cause.Cause.{Cause}
use Rattle.sd_model.specs.declared.event.Event.{Event}
use Rattle.sd_model.specs.declared.event.Event.TheVariants.{CheckEnd}
use Rattle.sd_chain.specs.Logs.{Outcomes}
use Rattle.sd_state.specs.Complexes.{parts}
use Rattle.sd_state.specs.Good.{TakesCheck}
use Rattle.sd_state.specs.Parts.{Begun, Parts, check_at, is_loose, status_at, up_as}
use Rattle.sd_state.specs.Tables.{tells_log}
use Rattle.sd_state.specs.Values.{Pending}
use Rattle.sd_state.specs.declared.complex.Complex.{Complex}
use Rattle.sd_update.specs.Sealing.{NoRoomFor}
use Rattle.sd_update.proofs.SealedCalls.{settled-up}
use Rattle.sd_world.specs.Serving.{Core, Telling, refused}
use Rattle.sd_fits.specs.Fits.{Fits}
use Rattle.sd_fits.specs.Serving.{Serving}
use Rattle.sd_fits.proofs.NoRoom.{no-lsn, no-room}
use Rattle.sd_fits.proofs.Refused.{IsFor}
use Rattle.sd_transfer.specs.Breaking.{BreaksBy}
use Rattle.sd_ckpt.specs.Endings.{NoneLeft, StaysUnended, end_len}
use Rattle.sd_ckpt.proofs.CheckRefused.{check-short, refuses}
use Rattle.sd_ckpt.proofs.EndSealed.{end-short}

-- ---- what the world says of it

module _ (i : ℕ) (seen : DeviceImages) (leaves : Outcomes) (c : Parts) (w : Core) (f : Fits seen leaves c w) (low : 1 ≤ i)
    (high : i ≤ 8) where
  abbrev m : State
  m = w.scene.state

  abbrev event : Event
  event = CheckEnd i

  status-is : status_at c i ≡ (m.inst i).status
  status-is = (f.good.instances i low high).status

  down : (TakesCheck (status_at c i) → ⊥) → IsFor m w event R.Down Cause.Down
  down stays = record {
    waits = refl;
    whom = tt;
    unused = tt;
    allowed = tt;
    names = refl;
    tells = tt;
    first = (refl, (f.good.not_closed, tt), (λ serves. stays (subst TakesCheck (sym status-is) serves)));
    refuses = refl;
    passes = (tt, tt);
    says = λ never. absurd (cc);
    place = tt;
    left = refl;
  }

  stands : TakesCheck (status_at c i) → (MayServe m event → ⊥) → ⊥
  stands takes none = none (subst TakesCheck status-is takes)

  no-check : TakesCheck (status_at c i) → check_at c i ≡ None → IsFor m w event R.NoCheck Cause.Check
  no-check takes none = record {
    waits = refl;
    whom = tt;
    unused = tt;
    allowed = tt;
    names = refl;
    tells = tt;
    first = (refl, (f.good.not_closed, (stands takes, tt)), tt);
    refuses = refl;
    passes = (tt, (tt, tt));
    says = λ here. f.pages.begun i ∙ ap (λ (o : Option Begun). is_some o) none;
    place = tt;
    left = refl;
  }

  module _ (k : Begun) (was : check_at c i ≡ Some k) where
    takes : TakesCheck (status_at c i)
    takes = (f.good.checking i k was).takes

    settled : is_loose c i ≡ false
    settled = settled-up seen leaves Pending.Idle c m i low high f.good f.idle
        (⊎_elim (λ e. ap up_as e) (λ e. ap up_as e) takes)

    tells : tells_log (status_at c i) ≡ true
    tells = ⊎_elim (λ e. ap tells_log e) (λ e. ap tells_log e) takes

    -- the world has the checkpoint
    begun : w.pages.begun i ≡ false → ⊥
    begun off = let clash : true ≡ false = sym (ap (λ (o : Option Begun). is_some o) was) ∙ sym (f.pages.begun i) ∙ off in
        absurd (cc)

    full : NoRoomFor i (end_len k) c → IsFor m w event R.LogFull Cause.Log
    full none = record {
      waits = refl;
      whom = tt;
      unused = tt;
      allowed = let room = no-room i seen leaves Pending.Idle c m w.bounds f.good f.bounds low high settled tells (end_len k) none in
          let spelled = (f.good.checking i k was).spelled in
          let short = end-short k spelled.1 spelled.2 in omega (arith, room, short);
      names = refl;
      tells = tt;
      first = (refl, (f.good.not_closed, (stands takes, (tt, tt))), tt);
      refuses = refl;
      passes = (tt, (tt, (begun, tt)));
      says = λ never. absurd (cc);
      place = tt;
      left = refl;
    }

    at-end : NoneLeft i c → IsFor m w event R.LsnEnd Cause.Lsn
    at-end none = record {
      waits = refl;
      whom = tt;
      unused = tt;
      allowed = ⊎_elim
          (λ lsns. inl (let out = no-lsn i seen leaves Pending.Idle c m w.bounds f.good f.bounds low high settled tells lsns in
          omega (arith, out)))
          (λ last. inr (let most = f.bounds.masters i low high in omega (arith, last, most)))
          none;
      names = refl;
      tells = tt;
      first = (refl, (f.good.not_closed, (stands takes, (tt, (tt, tt)))), tt);
      refuses = refl;
      passes = (tt, (tt, (begun, (tt, tt))));
      says = λ never. absurd (cc);
      place = tt;
      left = refl;
    }

    -- nothing refuses it before it comes to the devices, one of which fails
    pub end-breaks : BreaksBy i event w
    end-breaks = record {
      nobodys = refl;
      falls = refl;
      uncounted = refl;
      first = (refl, (f.good.not_closed, (stands takes, (tt, (tt, (tt, tt))))), tt);
      passes = (tt, (tt, (begun, (tt, (tt, tt)))));
      did = refl;
      unused = tt;
    }

-- ---- a refusal leaves all

module _ {G : Type 0} (tell : Telling G) (c new : Complex G) (i : ℕ) (low : 1 ≤ i) (high : i ≤ 8) (same : new.rig ≡ c.rig)
    (stays : parts new ≡ parts c)
    (now : (img : DeviceImages) → tell.since c.rig (tell.moment c.rig) img → Leaves (tell.leaves c.rig) img) where
  abbrev Refuses : Refusal → Type 0
  Refuses n = Serving tell (CheckEnd i) (refused n) c new

  -- one that is neither up nor restarting,
  pub end-down : (TakesCheck (status_at (parts c) i) → ⊥) → Refuses R.Down
  end-down out = (
    refuses tell c new same stays now (CheckEnd i) R.Down Cause.Down
        (λ w f. down i (tell.seen c.rig) (tell.leaves c.rig) (parts c) w f low high out),
    ap tell.faults same,
  )

  -- one that has begun none,
  end-none : TakesCheck (status_at (parts c) i) → check_at (parts c) i ≡ None → Refuses R.NoCheck
  end-none takes none = (
    refuses tell c new same stays now (CheckEnd i) R.NoCheck Cause.Check
        (λ w f. no-check i (tell.seen c.rig) (tell.leaves c.rig) (parts c) w f low high takes none),
    ap tell.faults same,
  )

  module _ (k : Begun) (was : check_at (parts c) i ≡ Some k) where
    -- for want of room,
    end-full : NoRoomFor i (end_len k) (parts c) → Refuses R.LogFull
    end-full none = (
      refuses tell c new same stays now (CheckEnd i) R.LogFull Cause.Log
          (λ w f. full i (tell.seen c.rig) (tell.leaves c.rig) (parts c) w f low high k was none),
      ap tell.faults same,
    )

    -- and for want of an LSN or of a count
    end-last : NoneLeft i (parts c) → Refuses R.LsnEnd
    end-last none = (
      refuses tell c new same stays now (CheckEnd i) R.LsnEnd Cause.Lsn
          (λ w f. at-end i (tell.seen c.rig) (tell.leaves c.rig) (parts c) w f low high k was none),
      ap tell.faults same,
    )

  -- as the test of it tells
  pub end-refused : TakesCheck (status_at (parts c) i) → (n : Refusal) → StaysUnended i (parts c) n → Refuses n
  end-refused up R.NoCheck why = end-none up why
  end-refused up R.LogFull why = end-full why.0 why.1 why.2
  end-refused up R.LsnEnd why = end-last why.0 why.1 why.3
  end-refused up R.Memory why = check-short tell c new same stays now (CheckEnd i)
  end-refused up n why = absurd why
