-- A recovery waits for a page that its recoverer hasn't alone: for the goals of `undo_next`.
use Rattle.std.proofs.Common.{◌≡◌, ℕ, ◌≤◌, refl, sym, ap, ◌∙◌}
use Rattle.std.specs.Prelude.{Some}
use Rattle.sd_base.specs.declared.ids.TxnId.{TxnId}
use Rattle.sd_base.specs.declared.place.Place.{Place}
use Rattle.sd_base.specs.declared.place.Status.TheVariants as S
use Rattle.sd_base.specs.declared.refusal.Refusal.{Refusal}
use Rattle.sd_base.specs.declared.refusal.Refusal.TheVariants as R
use Rattle.sd_rig.specs.Devices.{DeviceImages, Leaves}
use Rattle.sd_txn.specs.Transactions.{state_at, top_at}
use Rattle.sd_txn.specs.declared.state.OpenRec.{OpenRec}
use Rattle.sd_txn.specs.declared.state.TxnState.{TxnState}
use Rattle.sd_chain.specs.Records.{home}
use Rattle.sd_model.specs.Applies.{HasPage}
use Rattle.sd_model.specs.State.{State}
use Rattle.sd_model.specs.declared.cause.Cause.{Cause}
use Rattle.sd_model.specs.declared.event.Event.TheVariants.{RecoverStep}
use Rattle.sd_pagelock.specs.Places.{PageEntry, is_lost, owns}
use Rattle.sd_chain.specs.Logs.{Outcomes}
use Rattle.sd_world.specs.PageCauses.{IsNeededPage}
use Rattle.sd_world.specs.Serving.{Core, Telling, refused}
use Rattle.sd_state.specs.Complexes.{parts}
use Rattle.sd_state.specs.Parts.{Parts, status_at, txns_at}
use Rattle.sd_state.specs.declared.complex.Complex.{Complex}
use Rattle.sd_fits.specs.Fits.{Fits}
use Rattle.sd_fits.specs.Serving.{Serving}
use Rattle.sd_fits.proofs.Recovering.{recovers-at}
use Rattle.sd_fits.proofs.Refused.{IsFor, refused-serves}
use Rattle.sd_recover.specs.Recovering.{IsAway}
use Rattle.sd_recover.specs.Tasks.{AreThere}
use Rattle.sd_recover.proofs.Awaited.{page-needed}

module _ (t : TxnId) (by : ℕ) (seen : DeviceImages) (leaves : Outcomes) (c : Parts) (w : Core) (f : Fits seen leaves c w) (low : 1 ≤ home t)
    (high : home t ≤ 8) (recovers : status_at c (home t) ≡ S.Recovering by) (there : AreThere c)
    (loser : state_at (txns_at c (home t)) t ≡ Some TxnState.Retained) (o : OpenRec) (last : top_at (txns_at c (home t)) t ≡ Some o) where
  abbrev m : State
  m = w.scene.state

  abbrev i : ℕ
  i = home t

  needed : IsNeededPage m i o.rid.page
  needed = page-needed t by seen leaves c w f low high recovers there loser o last

  has-page : HasPage m (RecoverStep i)
  has-page = (needed.0, (needed.1, needed.2, (o.rid.page, needed.3)))

  away : (place : Place) → IsAway by o.rid.page c (R.NeedPage place) → IsFor m w (RecoverStep i) (R.NeedPage place) Cause.Away
  away place h = record {
    waits = refl;
    whom = tt;
    unused = tt;
    allowed = tt;
    names = refl;
    tells = tt;
    first = (refl, (f.good.not_closed, (λ never. never (by, recovers-at i by seen leaves c w f low high recovers), tt)), has-page);
    refuses = refl;
    passes = (tt, (tt, tt));
    says = λ never. absurd (cc);
    place = (
      o.rid.page,
      by,
      recovers-at i by seen leaves c w f low high recovers,
      needed,
      h.1 ∙ sym (f.pages.entry o.rid.page),
      ap (λ (e : PageEntry). owns e by) (f.pages.entry o.rid.page) ∙ h.0,
      λ p. ap is_lost (f.pages.entry p) ∙ there.1 p,
    );
    left = refl;
  }

module _ {G : Type 0} (tell : Telling G) (t : TxnId) (by : ℕ) (c : Complex G)
    (now : (img : DeviceImages) → tell.since c.rig (tell.moment c.rig) img → Leaves (tell.leaves c.rig) img) (low : 1 ≤ home t)
    (high : home t ≤ 8) (recovers : status_at (parts c) (home t) ≡ S.Recovering by) (there : AreThere (parts c))
    (loser : state_at (txns_at (parts c) (home t)) t ≡ Some TxnState.Retained) (o : OpenRec)
    (last : top_at (txns_at (parts c) (home t)) t ≡ Some o) where
  pub page-away : (n : Refusal) → IsAway by o.rid.page (parts c) n → Serving tell (RecoverStep (home t)) (refused n) c c
  page-away (R.NeedPage place) h = (
    (λ w f. refused-serves tell c now w f (RecoverStep (home t)) (R.NeedPage place) Cause.Away
        (away t by (tell.seen c.rig) (tell.leaves c.rig) (parts c) w f low high recovers there loser o last place h)),
    refl,
  )
  page-away n h = elim h [ ]
