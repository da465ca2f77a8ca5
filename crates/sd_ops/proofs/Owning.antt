-- What a transaction that runs finds on a page that its instance has alone, of a record of which it may have the exclusive lock. For the
-- calls that change records.
use Rattle.std.proofs.Common.{◌≡◌, true, false, List, [], ◌∷◌, refl, sym, ap, ◌∙◌, subst}
use Rattle.sd_base.specs.declared.ids.Rid.{Rid}
use Rattle.sd_base.specs.declared.ids.TxnId.{TxnId}
use Rattle.sd_base.specs.declared.place.Mode.TheVariants as modes
use Rattle.sd_base.specs.declared.place.Status.TheVariants as S
use Rattle.sd_model.specs.State.{State, looked_at, view}
use Rattle.sd_model.specs.declared.act.Act.{Act}
use Rattle.sd_model.specs.declared.act.Claim.{Claim}
use Rattle.sd_model.specs.declared.act.Life.{Life}
use Rattle.sd_pagelock.specs.Directory.{entry_at}
use Rattle.sd_pagelock.specs.Places.{PageEntry, holds_as, is_lost, owns}
use Rattle.sd_reclock.specs.Answers.{IsFree}
use Rattle.sd_reclock.specs.Locks.{stands, wait_for, waits_in}
use Rattle.sd_reclock.specs.declared.wait.Asked.{Asked}
use Rattle.sd_rig.specs.Devices.{DeviceImages}
use Rattle.sd_chain.specs.Logs.{Outcomes}
use Rattle.sd_chain.specs.Pages.{value}
use Rattle.sd_chain.specs.Records.{home}
use Rattle.sd_world.specs.Bounds.{Bounds}
use Rattle.sd_world.specs.Serving.{Core}
use Rattle.sd_update.specs.Changing.{image_for}
use Rattle.sd_state.specs.Parts.{Parts, status_at}
use Rattle.sd_fits.specs.Fits.{Fits, FitsBounds}
use Rattle.sd_fits.proofs.Taking.{noted-good, taken-fits, took-on}
use Rattle.sd_fits.proofs.Values.{copy-seen}
use Rattle.sd_ops.specs.Puts.{IsGranted}
use Rattle.sd_ops.proofs.Held.{as-held}

module _ (t : TxnId) (r : Rid) (seen_by : DeviceImages) (leaves : Outcomes) (c : Parts) (up : status_at c (home t) ≡ S.Up)
    (free : IsFree (stands c.locks) t (wait_for r modes.Excl)) (mine : holds_as modes.Excl (entry_at c.directory r.page) (home t) ≡ true)
    (w : Core) (f : Fits seen_by leaves c w) (runs : (w.scene.state.part t).life ≡ Life.Running) where
  abbrev m : State
  m = w.scene.state

  -- it sees what the page has,
  pub sees : value (image_for t r.page c).slots r.slot ≡ view m t r
  sees = copy-seen seen_by leaves c m t r modes.Excl f.good up runs free (as-held modes.Excl (entry_at c.directory r.page) (home t) mine)

  pub owned-there : owns (w.pages.entry r.page) (home t) ≡ false → ⊥
  owned-there away = let clash = sym away ∙ ap (λ (e : PageEntry). owns e (home t)) (f.pages.entry r.page) ∙ mine in absurd (cc)

  pub not-lost : is_lost (w.pages.entry r.page) ≡ true → ⊥
  not-lost lost = by (w.pages.entry r.page) (ap (λ (e : PageEntry). owns e (home t)) (f.pages.entry r.page) ∙ mine) lost
    where
      by : (e : PageEntry) → owns e (home t) ≡ true → is_lost e ≡ true → ⊥
      by PageEntry.Free h l = cc
      by (PageEntry.Shared set writer) h l = cc
      by (PageEntry.Excl holder dirty) h l = cc
      by (PageEntry.Moving to mode left dirty) h l = cc
      by PageEntry.Lost h l = cc

  -- and once it has the lock, that is read.
  pub looked-fits : (b : Bounds) → FitsBounds seen_by leaves c b → (mid : Parts) → IsGranted t r modes.Excl c mid
      → Fits seen_by leaves mid (record { scene = record { state = looked_at t r (view m t r) m; waits = w.scene.waits }; pages = w.pages; bounds = b })
  looked-fits b bounds mid g = subst (λ (x : Parts). Fits seen_by leaves x (record {
    scene = record { state = looked_at t r (view m t r) m; waits = w.scene.waits };
    pages = w.pages;
    bounds = b;
  })) (sym g.rest)
      (taken-fits mid.locks w.scene.waits (looked_at t r (view m t r) m) b seen_by leaves c w f
      (noted-good seen_by leaves c m t r modes.Excl (view m t r) mid.locks f.good f.idle up runs free refl g.given)
      (took-on t r Claim.Excl (Act.Read r (view m t r) ∷ []) m runs) bounds
      (λ u. ap (λ (l : List (TxnId × Asked)). waits_in l u) g.waiting ∙ f.waits u) f.waiting)
