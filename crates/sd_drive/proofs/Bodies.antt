-- What a hall tells of its instances, pages and transactions is as the world says that its complex fits, open or closed.
use Rattle.std.proofs.Common.{◌≡◌, ℕ, ◌≤◌, length, refl, sym, ap, ◌∙◌, subst}
use Rattle.std.specs.Prelude.{Option, None, Some}
use Rattle.sd_base.specs.declared.ids.TxnId.{TxnId}
use Rattle.sd_base.specs.declared.place.Status.TheVariants as S
use Rattle.sd_model.specs.Acts.{live}
use Rattle.sd_model.specs.declared.event.Event.{Event}
use Rattle.sd_model.specs.declared.event.Reply.{Reply}
use Rattle.sd_state.specs.Complexes.{parts}
use Rattle.sd_state.specs.Parts.{IsShape}
use Rattle.sd_state.specs.declared.complex.Complex.{Complex}
use Rattle.sd_world.specs.Serving.{Core, Telling}
use Rattle.sd_fits.specs.Bodies.{ServingHall, fits_body}
use Rattle.sd_fits.specs.Serving.{fits_by}
use Rattle.sd_fits.specs.declared.body.Body.{Body}
use Rattle.sd_hall.specs.Bodies.{ServesIn, fits_in, open_in}
use Rattle.sd_hall.specs.declared.hall.Hall.{Hall}
use Rattle.sd_drive.specs.Bodies.{asks_in, depth_in, entry_in, status_in}
use Rattle.sd_drive.specs.Driven.{IsIn}
use Rattle.sd_drive.specs.Driving.{World}
use Rattle.sd_drive.specs.Standing.{GoesBack}
use Rattle.sd_drive.specs.Running.{Start}
use Rattle.sd_drive.proofs.Tops.{depth-live}

-- ---- a hall has a complex, open or closed

module _ {G : Type 0} (tell : Telling G) where
  -- what fits a world is there
  pub fits-some : (body : Option (Body G)) (w : Core) → fits_in tell.seen tell.leaves body w
      → (b : Body G) × (body ≡ Some b) × fits_body tell.seen tell.leaves b w
  fits-some None w f = absurd f
  fits-some (Some b) w f = (b, refl, f)

  -- so is what a call leaves of it
  pub serves-some : (e : Event) (answer : Option Reply) (b : Body G) (new : Option (Body G)) → ServesIn tell e answer (Some b) new
      → (b' : Body G) × (new ≡ Some b') × ServingHall tell e answer b b'
  serves-some e answer b None s = absurd s
  serves-some e answer b (Some b') s = (b', refl, s)

  pub fits-now : (start : Start G) (hall : Hall G) (w : World) → IsIn tell start hall w → fits_in tell.seen tell.leaves hall.body w.core
  fits-now start hall w i = subst (λ (b : Option (Body G)). fits_in tell.seen tell.leaves b w.core) (sym i.is) i.ran.fits

  -- ---- open or closed

  pub open-is : (body : Option (Body G)) (c : Complex G) → Some c ≡ open_in body → body ≡ Some (Body.Open c)
  open-is None c is = absurd (cc)
  open-is (Some (Body.Open d)) c is = ap (λ (o : Option (Complex G)). Some (Body.Open (got o))) (sym is)
    where
      got : Option (Complex G) → Complex G
      got None = d
      got (Some x) = x
  open-is (Some (Body.Closed rig shape)) c is = absurd (cc)

  pub open-fits : (body : Option (Body G)) (c : Complex G) → Some c ≡ open_in body → (w : Core) → fits_in tell.seen tell.leaves body w
      → fits_by tell.seen tell.leaves c w
  open-fits body c is w f = subst (λ (b : Option (Body G)). fits_in tell.seen tell.leaves b w) (open-is body c is) f

  pub open-shape : (body : Option (Body G)) (c : Complex G) → Some c ≡ open_in body → (w : Core) → fits_in tell.seen tell.leaves body w
      → IsShape (parts c)
  open-shape body c is w f = (open-fits body c is w f).good.shape

  -- where none is open all instances are closed
  pub shut-is : (body : Option (Body G)) → None ≡ open_in body → (w : Core) → fits_in tell.seen tell.leaves body w
      → (i : ℕ) → (w.scene.state.inst i).status ≡ S.Closed
  shut-is None is w f = absurd f
  shut-is (Some (Body.Open c)) is w f = absurd (cc)
  shut-is (Some (Body.Closed rig shape)) is w f = f.fits.closed

  pub shut-status : (body : Option (Body G)) → None ≡ open_in body → (i : ℕ) → S.Closed ≡ status_in body i
  shut-status None is i = refl
  shut-status (Some (Body.Open c)) is i = absurd (cc)
  shut-status (Some (Body.Closed rig shape)) is i = refl

  -- ---- as the world says

  pub status-is : (body : Option (Body G)) (w : Core) → fits_in tell.seen tell.leaves body w → (j : ℕ) → 1 ≤ j → j ≤ 8
      → status_in body j ≡ (w.scene.state.inst j).status
  status-is None w f j low high = absurd f
  status-is (Some (Body.Open c)) w f j low high = (f.good.instances j low high).status
  status-is (Some (Body.Closed rig shape)) w f j low high = sym (f.fits.closed j)

  pub entry-is : (body : Option (Body G)) (w : Core) → fits_in tell.seen tell.leaves body w → (p : ℕ) → w.pages.entry p ≡ entry_in body p
  entry-is None w f p = absurd f
  entry-is (Some (Body.Open c)) w f p = f.pages.entry p
  entry-is (Some (Body.Closed rig shape)) w f p = f.fits.pages.entry p

  pub asks-are : (body : Option (Body G)) (w : Core) → fits_in tell.seen tell.leaves body w → (p : ℕ) → w.pages.asks p ≡ asks_in body p
  asks-are None w f p = absurd f
  asks-are (Some (Body.Open c)) w f p = f.pages.asks p
  asks-are (Some (Body.Closed rig shape)) w f p = f.fits.pages.asks p

  -- one that rolls back has as many records open as puts are live
  pub depth-is : (body : Option (Body G)) (w : Core) → fits_in tell.seen tell.leaves body w → (t : TxnId) → 1 ≤ t.inst → t.inst ≤ 8
      → GoesBack w.scene.state t → depth_in body t ≡ length (live (w.scene.state.part t).acts)
  depth-is None w f t low high goes = absurd f
  depth-is (Some (Body.Open c)) w f t low high goes = depth-live (tell.seen c.rig) (tell.leaves c.rig) (parts c) w f t low high goes
  depth-is (Some (Body.Closed rig shape)) w f t low high goes =
      let up : S.Closed ≡ S.Up = sym (f.fits.closed t.inst) ∙ goes.up in absurd (cc)
