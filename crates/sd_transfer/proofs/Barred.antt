-- What bars an instance from any event of a page, and what doesn't: for the goals of all events of one page.
use Rattle.std.proofs.Common.{◌≡◌, ℕ, ◌≤◌, true, false, List, ◌∷◌, refl, sym, ap, ◌∙◌, subst}
use Rattle.std.specs.Prelude.{None, Some}
use Rattle.sd_base.specs.Waits.{with_wait}
use Rattle.sd_base.specs.declared.ids.TxnId.{TxnId}
use Rattle.sd_base.specs.declared.place.Place.{Place}
use Rattle.sd_base.specs.declared.refusal.Refusal.{Refusal}
use Rattle.sd_base.specs.declared.refusal.Refusal.TheVariants as R
use Rattle.sd_rig.specs.Devices.{DeviceImages, Leaves}
use Rattle.sd_model.specs.Applies.{First, HasPage, IsActive, MayServe, PassesAll, Says}
use Rattle.sd_model.specs.Causes.{before, has_cause, order}
use Rattle.sd_model.specs.Exact.{IsOfFreeSlot}
use Rattle.sd_model.specs.Fields.{nobody, txn_of}
use Rattle.sd_model.specs.State.{State}
use Rattle.sd_model.specs.declared.cause.Cause.{Cause}
use Rattle.sd_model.specs.declared.event.Event.{Event}
use Rattle.sd_model.specs.declared.event.Reply.{Reply}
use Rattle.sd_model.specs.declared.event.Reply.TheVariants as reply
use Rattle.sd_pagelock.specs.Directory.{entry_at}
use Rattle.sd_pagelock.specs.Places.{PageEntry, is_lost}
use Rattle.sd_world.specs.Answers.{NamesPlace}
use Rattle.sd_world.specs.PageCauses.{IsAway, IsLostFor, IsUnderWay, NoneSays}
use Rattle.sd_world.specs.Pages.{Pages}
use Rattle.sd_world.specs.Serving.{Core, FewFaults, Telling, refused}
use Rattle.sd_state.specs.Complexes.{parts}
use Rattle.sd_state.specs.Parts.{is_active}
use Rattle.sd_state.specs.declared.complex.Complex.{Complex}
use Rattle.sd_fits.specs.Serving.{Serving, fits_by}
use Rattle.sd_fits.proofs.Refused.{IsFor, active-serves, idle-refuses, refused-serves, unlike}
use Rattle.sd_transfer.specs.Barring.{IsBarred}

-- An event of page p, and of instance i alone: it is tried whether the complex is closed, then whether the instance is active, then
-- whether the page is lost, and then other causes.
pub record IsPaging (e : Event) (i p : ℕ) : Type 0 where
  pub rest : List Cause
  pub order : order e ≡ Cause.Shut ∷ Cause.Down ∷ Cause.Lost ∷ rest
  pub nobodys : txn_of e ≡ nobody
  pub serve : (m : State) → IsActive i (m.inst i).status → MayServe m e
  pub serves : (m : State) → MayServe m e → IsActive i (m.inst i).status
  pub page : (m : State) → HasPage m e
  pub lose : (m : State) (w : Pages) → is_lost (w.entry p) ≡ true → IsLostFor m w e
  pub loses : (m : State) (w : Pages) → IsLostFor m w e → is_lost (w.entry p) ≡ true
  pub unused : (m : State) (r : Reply) → IsOfFreeSlot m e None r
  pub quiet : (n : ℕ) → FewFaults e n n

-- By what the world says, the instance serves the event, and the page isn't lost.
pub record IsUnbarred (m : State) (w : Pages) (e : Event) : Type 0 where
  pub serves : (MayServe m e → ⊥) → ⊥
  pub found : IsLostFor m w e → ⊥

module _ {G : Type 0} {e : Event} {i p : ℕ} (k : IsPaging e i p) (tell : Telling G) (c : Complex G) (low : 1 ≤ i) (high : i ≤ 8) where
  abbrev here : PageEntry
  here = entry_at (parts c).directory p

  module _ (w : Core) (f : fits_by tell.seen tell.leaves c w) where
    abbrev m : State
    m = w.scene.state

    stands : is_active (parts c) i ≡ true → (MayServe m e → ⊥) → ⊥
    stands active none = none (k.serve m (active-serves (tell.seen c.rig) (tell.leaves c.rig) (parts c) w f i low high active))

    found : is_lost here ≡ false → IsLostFor m w.pages e → ⊥
    found is lost = unlike is (sym (ap is_lost (f.pages.entry p)) ∙ k.loses m w.pages lost)

    -- an active instance isn't barred from a page that isn't lost
    pub unbarred : is_active (parts c) i ≡ true → is_lost here ≡ false → IsUnbarred m w.pages e
    unbarred active not_lost = record { serves = stands active; found = found not_lost }

    -- ---- refusals, by what its order begins with

    first-of : (os : List Cause) → order e ≡ os → (cause : Cause)
        → (has_cause cause os ≡ true) × PassesAll m e (before cause os) × Says m e cause → First m e cause
    first-of os is cause h = subst (λ (cs : List Cause). (has_cause cause cs ≡ true) × PassesAll m e (before cause cs) × Says m e cause)
        (sym is) h

    passes-of : (os : List Cause) → order e ≡ os → (cause : Cause) → NoneSays m w.pages e (before cause os)
        → NoneSays m w.pages e (before cause (order e))
    passes-of os is cause h = subst (λ (cs : List Cause). NoneSays m w.pages e (before cause cs)) (sym is) h

    -- the instance isn't active,
    down : is_active (parts c) i ≡ false → IsFor m w e R.Down Cause.Down
    down idle = record {
      waits = ap (λ (t : TxnId). with_wait t None w.scene.waits) k.nobodys;
      whom = tt;
      unused = k.unused m (reply.Refused R.Down);
      allowed = tt;
      names = refl;
      tells = tt;
      first = first-of _ k.order Cause.Down (
        refl,
        (f.good.not_closed, tt),
        λ is. idle-refuses (tell.seen c.rig) (tell.leaves c.rig) (parts c) w f i low high idle (k.serves m is),
      );
      refuses = refl;
      passes = passes-of _ k.order Cause.Down (tt, tt);
      says = λ never. absurd (cc);
      place = tt;
      left = refl;
    }

    -- it is and the page is lost,
    lost : is_active (parts c) i ≡ true → is_lost here ≡ true → IsFor m w e R.Lost Cause.Lost
    lost active is = record {
      waits = ap (λ (t : TxnId). with_wait t None w.scene.waits) k.nobodys;
      whom = tt;
      unused = k.unused m (reply.Refused R.Lost);
      allowed = tt;
      names = refl;
      tells = tt;
      first = first-of _ k.order Cause.Lost (refl, (f.good.not_closed, (stands active, tt)), k.page m);
      refuses = refl;
      passes = passes-of _ k.order Cause.Lost (tt, (tt, tt));
      says = λ yes. k.lose m w.pages (ap is_lost (f.pages.entry p) ∙ is);
      place = tt;
      left = refl;
    }

    -- it isn't, but on its way, where that comes next,
    moving : (more : List Cause) → order e ≡ Cause.Shut ∷ Cause.Down ∷ Cause.Lost ∷ Cause.Moving ∷ more → (to : ℕ)
        → is_active (parts c) i ≡ true → is_lost here ≡ false → IsUnderWay w.pages e → NamesPlace m w.pages e (R.MovingTo to)
        → IsFor m w e (R.MovingTo to) Cause.Moving
    moving more next to active not_lost moves takes = record {
      waits = ap (λ (t : TxnId). with_wait t None w.scene.waits) k.nobodys;
      whom = tt;
      unused = k.unused m (reply.Refused (R.MovingTo to));
      allowed = tt;
      names = refl;
      tells = tt;
      first = first-of _ next Cause.Moving (refl, (f.good.not_closed, (stands active, (tt, tt))), tt);
      refuses = refl;
      passes = passes-of _ next Cause.Moving (tt, (tt, (found not_lost, tt)));
      says = λ yes. moves;
      place = takes;
      left = refl;
    }

    -- or the instance hasn't it as the event needs it, where that does
    away : (more : List Cause) → order e ≡ Cause.Shut ∷ Cause.Down ∷ Cause.Lost ∷ Cause.Away ∷ more → (place : Place)
        → is_active (parts c) i ≡ true → is_lost here ≡ false → IsAway m w.pages e → NamesPlace m w.pages e (R.NeedPage place)
        → IsFor m w e (R.NeedPage place) Cause.Away
    away more next place active not_lost lacks is = record {
      waits = ap (λ (t : TxnId). with_wait t None w.scene.waits) k.nobodys;
      whom = tt;
      unused = k.unused m (reply.Refused (R.NeedPage place));
      allowed = tt;
      names = refl;
      tells = tt;
      first = first-of _ next Cause.Away (refl, (f.good.not_closed, (stands active, (tt, tt))), k.page m);
      refuses = refl;
      passes = passes-of _ next Cause.Away (tt, (tt, (found not_lost, tt)));
      says = λ yes. lacks;
      place = is;
      left = refl;
    }

  module _ (now : (img : DeviceImages) → tell.since c.rig (tell.moment c.rig) img → Leaves (tell.leaves c.rig) img) where
    -- what bars the instance from the page refuses the event,
    pub barred-served : (n : Refusal) → IsBarred (parts c) i p n → Serving tell e (refused n) c c
    barred-served R.Down why =
        ((λ w f. refused-serves tell c now w f e R.Down Cause.Down (down w f why)), k.quiet (tell.faults c.rig))
    barred-served R.Lost why =
        ((λ w f. refused-serves tell c now w f e R.Lost Cause.Lost (lost w f why.0 why.1)), k.quiet (tell.faults c.rig))
    barred-served n why = absurd why

    -- and so does where the page is
    pub moving-served : {more : List Cause} → order e ≡ Cause.Shut ∷ Cause.Down ∷ Cause.Lost ∷ Cause.Moving ∷ more → (to : ℕ)
        → is_active (parts c) i ≡ true → is_lost here ≡ false → ((w : Core) → fits_by tell.seen tell.leaves c w
        → IsUnderWay w.pages e × NamesPlace w.scene.state w.pages e (R.MovingTo to)) → Serving tell e (Some (reply.Refused (R.MovingTo to))) c c
    moving-served {more} next to active not_lost moves = (
      (λ w f. refused-serves tell c now w f e (R.MovingTo to) Cause.Moving
          (moving w f more next to active not_lost (moves w f).0 (moves w f).1)),
      k.quiet (tell.faults c.rig),
    )

    pub away-served : {more : List Cause} → order e ≡ Cause.Shut ∷ Cause.Down ∷ Cause.Lost ∷ Cause.Away ∷ more → (place : Place)
        → is_active (parts c) i ≡ true → is_lost here ≡ false → ((w : Core) → fits_by tell.seen tell.leaves c w
        → IsAway w.scene.state w.pages e × NamesPlace w.scene.state w.pages e (R.NeedPage place))
        → Serving tell e (Some (reply.Refused (R.NeedPage place))) c c
    away-served {more} next place active not_lost lacks = (
      (λ w f. refused-serves tell c now w f e (R.NeedPage place) Cause.Away
          (away w f more next place active not_lost (lacks w f).0 (lacks w f).1)),
      k.quiet (tell.faults c.rig),
    )
