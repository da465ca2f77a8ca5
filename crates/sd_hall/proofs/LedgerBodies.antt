-- A hall's complex, open or closed: what fits it, and what a call makes of it. It serves the goals of ledger.rt, and of
-- hall.rt.
use Rattle.std.proofs.Common.{◌≡◌, ◌+◌, ◌≤◌, Option, None, Some, refl, sym, ap, ◌∙◌, subst}
use Rattle.sd_base.specs.declared.place.Status.TheVariants as S
use Rattle.sd_rig.specs.Devices.{DeviceImages, Leaves}
use Rattle.sd_model.specs.Listed.{Listed}
use Rattle.sd_model.specs.Lives.{LivesAreSound, SuitsStatus}
use Rattle.sd_model.specs.declared.act.Life.{Life}
use Rattle.sd_model.specs.declared.event.Event.{Event}
use Rattle.sd_model.specs.declared.event.Event.TheVariants as event
use Rattle.sd_model.specs.declared.event.Reply.{Reply}
use Rattle.sd_chain.specs.Logs.{Outcomes}
use Rattle.sd_world.specs.Serving.{Core, Telling, Turns}
use Rattle.sd_state.specs.Complexes.{parts}
use Rattle.sd_state.specs.declared.complex.Complex.{Complex}
use Rattle.sd_fits.specs.Closed.{FitsClosed}
use Rattle.sd_fits.specs.Serving.{fits_by}
use Rattle.sd_fits.specs.declared.body.Body.{Body}
use Rattle.sd_fits.proofs.Served.{fits-left, still-passes}
use Rattle.sd_hall.specs.Bodies.{IsDownAt, ServesIn, fits_in, open_in}
use Rattle.sd_hall.specs.Owed.{IsOwed}
use Rattle.sd_hall.specs.Ledger.{entries_owed}
use Rattle.sd_hall.proofs.Fallen.{fallen-so}
use Rattle.sd_hall.proofs.Paid.{HasFallen, turns-paid}

-- nothing is owed on a closed complex
pub closed-owes : (leaves : Outcomes) (w : Core) → FitsClosed leaves w → (e : Event) → IsOwed w e → ⊥
closed-owes leaves w f (event.Commit t) owed =
    subst (λ (life : Life). SuitsStatus life S.Closed) owed (subst (SuitsStatus (w.scene.state.part t).life) (f.closed t.inst) (f.placed.stands t))
closed-owes leaves w f (event.Undo t) owed =
    subst (λ (life : Life). SuitsStatus life S.Closed) owed.1 (subst (SuitsStatus (w.scene.state.part t).life) (f.closed t.inst) (f.placed.stands t))
closed-owes leaves w f (event.Fail i) owed = let clash = sym (f.closed i) ∙ owed.2 in absurd (cc)
closed-owes leaves w f e owed = owed

module _ {G : Type 0} (tell : Telling G) where
  pub open-fits : (body : Option (Body G)) (w : Core) → fits_in tell.seen tell.leaves body w → (c : Complex G) → open_in body ≡ Some c
      → fits_by tell.seen tell.leaves c w
  open-fits None w f c is = absurd f
  open-fits (Some (Body.Open x)) w f c is = subst (λ (y : Complex G). fits_by tell.seen tell.leaves y w) (same x c is) f
    where
      same : (x y : Complex G) → Some x ≡ Some y → x ≡ y
      same x y e = cc
  open-fits (Some (Body.Closed rig shape)) w f c is = absurd (cc)

  pub listed-in : (body : Option (Body G)) (w : Core) → fits_in tell.seen tell.leaves body w → Listed w.scene.state
  listed-in None w f = absurd f
  listed-in (Some (Body.Open c)) w f = f.good.listed
  listed-in (Some (Body.Closed rig shape)) w f = f.fits.listed

  pub placed-in : (body : Option (Body G)) (w : Core) → fits_in tell.seen tell.leaves body w → LivesAreSound w.scene.state
  placed-in None w f = absurd f
  placed-in (Some (Body.Open c)) w f = f.good.placed
  placed-in (Some (Body.Closed rig shape)) w f = f.fits.placed

  -- an event is served
  pub next-in : (e : Event) (r : Reply) (old new : Option (Body G)) (w : Core) → fits_in tell.seen tell.leaves old w
      → ServesIn tell e (Some r) old new → (w' : Core) × Turns w e r w' × fits_in tell.seen tell.leaves new w'
  next-in e r None new w f s = absurd f
  next-in e r (Some old) None w f s = absurd s
  next-in e r (Some old) (Some new) w f s = let k = s.0 w f in (k.0, k.1.turns, k.1.fits_then)

  -- there was no memory
  pub same-in : (e : Event) (old new : Option (Body G)) (w : Core) → fits_in tell.seen tell.leaves old w
      → ServesIn tell e None old new → fits_in tell.seen tell.leaves new w
  same-in e None new w f s = absurd f
  same-in e (Some old) None w f s = absurd s
  same-in e (Some old) (Some new) w f s = (s.0 w f).fits_still

  -- nothing was done
  pub spared-in : (e : Event) (old new : Option (Body G)) (w : Core) → fits_in tell.seen tell.leaves old w → old ≡ new
      → ((d : G) (img : DeviceImages) → tell.since d (tell.moment d) img → Leaves (tell.leaves d) img) → ServesIn tell e None old new
  spared-in e old new w f same now = subst (ServesIn tell e None old) same (idle old f)
    where
      idle : (body : Option (Body G)) → fits_in tell.seen tell.leaves body w → ServesIn tell e None body body
      idle None g = g
      idle (Some (Body.Open c)) g = (
        λ x h. record {
          fits_still = h;
          passes = still-passes tell c.rig x.scene.state x.scene.state (now c.rig)
              (fits-left (tell.seen c.rig) (tell.leaves c.rig) (parts c) x h);
        },
        refl,
      )
      idle (Some (Body.Closed rig shape)) g = (
        λ x h. record { fits_still = h; passes = still-passes tell rig x.scene.state x.scene.state (now rig) h.fits.stands },
        refl,
      )

  -- what was owed is paid
  pub paid-in : (body : Option (Body G)) (w w' : Core) → fits_in tell.seen tell.leaves body w → (e : Event) (r : Reply) → IsOwed w e
      → HasFallen e r w'.scene.state → Turns w e r w' → entries_owed w'.scene.state + 1 ≤ entries_owed w.scene.state
  paid-in None w w' f e r owed fell turns = absurd f
  paid-in (Some (Body.Open c)) w w' f e r owed fell turns =
      turns-paid w w' f.good.listed f.good.placed f.good.not_closed e r owed fell turns
  paid-in (Some (Body.Closed rig shape)) w w' f e r owed fell turns = absurd (closed-owes (tell.leaves rig) w f.fits e owed)

  pub fell-in : (body : Option (Body G)) (w : Core) → fits_in tell.seen tell.leaves body w → (e : Event) (r : Reply)
      → IsDownAt e (Some r) body → HasFallen e r w.scene.state
  fell-in None w f e r down = absurd f
  fell-in (Some (Body.Open c)) w f e r down = fallen-so tell c w f e r down
  fell-in (Some (Body.Closed rig shape)) w f e r down = λ t is failed. absurd (down t is (ap (λ (x : Reply). Some x) failed))
