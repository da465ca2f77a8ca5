-- The list of a page: what it makes of the world. For `list_page`.
use Rattle.std.proofs.Common.{◌≡◌, ℕ, ◌-◌, ◌≤◌, Bool, true, false, List, length, slice_set, refl, sym, ap, ◌∙◌, subst}
use Rattle.std.specs.Prelude.{Option, None, Some}
use Rattle.std.specs.Option.{option_map_or}
use Rattle.sd_base.specs.declared.ids.Rid.{Rid}
use Rattle.sd_base.specs.declared.ids.TxnId.{TxnId}
use Rattle.sd_base.specs.declared.place.Mode.TheVariants as modes
use Rattle.sd_base.specs.declared.place.Place.{Place}
use Rattle.sd_base.specs.declared.place.Status.TheVariants as S
use Rattle.sd_base.specs.declared.refusal.Refusal.{Refusal}
use Rattle.sd_base.specs.declared.refusal.Refusal.TheVariants as R
use Rattle.sd_rig.specs.Devices.{DeviceImages, Leaves}
use Rattle.sd_model.specs.Applies.{Changes, PassesAll}
use Rattle.sd_model.specs.Causes.{before, order}
use Rattle.sd_model.specs.Claims.{Owns}
use Rattle.sd_model.specs.Listing.{AreRows}
use Rattle.sd_model.specs.Refusing.{IsLowestChanger}
use Rattle.sd_model.specs.State.{State, now}
use Rattle.sd_model.specs.StepLaws.{IsUp}
use Rattle.sd_model.specs.declared.act.Claim.{Claim}
use Rattle.sd_model.specs.declared.cause.Cause.{Cause}
use Rattle.sd_model.specs.declared.event.Event.TheVariants as event
use Rattle.sd_model.specs.declared.event.Reply.{Reply}
use Rattle.sd_model.specs.declared.event.Reply.TheVariants as reply
use Rattle.sd_model.proofs.Steps.{list-step}
use Rattle.sd_page.specs.Page.{Page}
use Rattle.sd_pagelock.specs.Directory.{entry_at}
use Rattle.sd_pagelock.specs.Places.{PageEntry, holds, is_lost, seen}
use Rattle.sd_pool.specs.Buffers.{Buffers, image_at, used, with_page}
use Rattle.sd_reclock.specs.Locks.{IsLowestOwner, OwnsIn, held}
use Rattle.sd_chain.specs.Logs.{Outcomes}
use Rattle.sd_chain.specs.Pages.{value}
use Rattle.sd_chain.proofs.Slots.{value-at}
use Rattle.sd_world.specs.Bounds.{TellsNoPlace, bounds_after}
use Rattle.sd_world.specs.Serving.{Core, Serves, Telling, Turns, refused}
use Rattle.sd_state.specs.Complexes.{parts}
use Rattle.sd_state.specs.Good.{Good}
use Rattle.sd_state.specs.Laws.{newest_of}
use Rattle.sd_state.specs.Locking.{with_place}
use Rattle.sd_state.specs.Parts.{Parts, pool_at, status_at}
use Rattle.sd_state.specs.Tables.{lock_of}
use Rattle.sd_state.specs.Values.{Pending}
use Rattle.sd_state.specs.declared.complex.Complex.{Complex}
use Rattle.sd_state.proofs.Standing.{each-copy-is-newest}
use Rattle.sd_fits.specs.Fits.{Fits}
use Rattle.sd_fits.specs.Serving.{Serving, fits_by, stands_for}
use Rattle.sd_fits.proofs.Heads.{is-up, not-up}
use Rattle.sd_fits.proofs.Places.{frames-kept, kept-pages, moved-fits}
use Rattle.sd_fits.proofs.Served.{bounds-stay, none-ended, passed, still-serves, turns-on}
use Rattle.sd_fits.proofs.Still.{kept-serves, kept-spares}
use Rattle.sd_fits.proofs.Unclaimed.{unclaimed-there}
use Rattle.sd_ops.specs.Listing.{IsListed, IsUnlisted, rows_below}
use Rattle.sd_ops.proofs.Rows.{rows-are}

-- a lock that is exclusive is an exclusive claim
excl-claim : (claim : Claim) → lock_of claim ≡ Some modes.Excl → claim ≡ Claim.Excl
excl-claim Claim.Free e = absurd (cc)
excl-claim Claim.Shared e = absurd (cc)
excl-claim Claim.Excl e = refl

claimed-excl : (claim : Claim) → Owns claim → claim ≡ Claim.Excl
claimed-excl Claim.Free owns = absurd owns
claimed-excl Claim.Shared owns = absurd owns
claimed-excl Claim.Excl owns = refl

-- a page that somebody holds isn't lost
held-there : (e : PageEntry) (i : ℕ) → holds e i ≡ true → is_lost e ≡ true → ⊥
held-there PageEntry.Free i held gone = cc
held-there (PageEntry.Shared set writer) i held gone = cc
held-there (PageEntry.Excl holder dirty) i held gone = cc
held-there (PageEntry.Moving to mode rest dirty) i held gone = cc
held-there PageEntry.Lost i held gone = cc

off-on : {A : Type 0} (b : Bool) → b ≡ false → b ≡ true → A
off-on b off on = let clash : false ≡ true = sym off ∙ on in absurd (cc)

module _ (i p : ℕ) (seen_by : DeviceImages) (leaves : Outcomes) (c : Parts) (w : Core) (f : Fits seen_by leaves c w) (low : 1 ≤ i) (high : i ≤ 8) where
  abbrev m : State
  m = w.scene.state

  down-turns : (status_at c i ≡ S.Up → ⊥) → Turns w (event.List i p) (reply.Refused R.Down) (passed w w.scene.waits (event.List i p) (reply.Refused R.Down))
  down-turns down =
      let off : (m.inst i).status ≡ S.Up → ⊥ = not-up seen_by leaves Pending.Idle c m f.good i low high down in
      turns-on w w.scene.waits (event.List i p) (reply.Refused R.Down)
      (Cause.Down, refl, tt, (refl, (f.good.not_closed, tt), off), refl)
      (λ t. sym (none-ended seen_by leaves c w f t)) tt tt
      (record {
        cause = Cause.Down;
        names = refl;
        first = (refl, (f.good.not_closed, tt), off);
        passes = (tt, tt);
        says = λ e. absurd (cc);
        place = tt;
        leaves = refl;
      })
      tt

  -- who has an exclusive claim on a record of the page
  changes-owns : (t : TxnId) → Changes m t p → OwnsIn c.locks.locks p t
  changes-owns t h = record {
    rid = record { page = p; slot = h.0 };
    inside = refl;
    owns = f.good.locks t (record { page = p; slot = h.0 }) ∙ ap lock_of h.1;
  }

  owns-changes : (t : TxnId) → OwnsIn c.locks.locks p t → Changes m t p
  owns-changes t h = (
    h.rid.slot,
    excl-claim ((m.part t).claims (record { page = p; slot = h.rid.slot }))
        (sym (f.good.locks t (record { page = p; slot = h.rid.slot }))
        ∙ subst (λ (q : ℕ). held c.locks t (record { page = q; slot = h.rid.slot }) ≡ Some modes.Excl) h.inside h.owns),
  )

  module _ (up : status_at c i ≡ S.Up) where
    serves : IsUp m i
    serves = is-up seen_by leaves Pending.Idle c m f.good i low high up

    place : w.pages.entry p ≡ entry_at c.directory p
    place = f.pages.entry p

    first-two : PassesAll m (event.List i p) (before Cause.Lost (order (event.List i p)))
    first-two = (f.good.not_closed, ((λ n. n serves.up), tt))

    first-three : PassesAll m (event.List i p) (before Cause.Away (order (event.List i p)))
    first-three = (f.good.not_closed, ((λ n. n serves.up), (tt, tt)))

    first-four : PassesAll m (event.List i p) (before Cause.Busy (order (event.List i p)))
    first-four = (f.good.not_closed, ((λ n. n serves.up), (tt, (tt, tt))))

    lost-turns : is_lost (entry_at c.directory p) ≡ true
        → Turns w (event.List i p) (reply.Refused R.Lost) (passed w w.scene.waits (event.List i p) (reply.Refused R.Lost))
    lost-turns lost = turns-on w w.scene.waits (event.List i p) (reply.Refused R.Lost)
        (Cause.Lost, refl, tt, (refl, first-two, tt), refl)
        (λ t. sym (none-ended seen_by leaves c w f t)) tt tt
        (record {
          cause = Cause.Lost;
          names = refl;
          first = (refl, first-two, tt);
          passes = (tt, (tt, tt));
          says = λ e. ap is_lost place ∙ lost;
          place = tt;
          leaves = refl;
        })
        tt

    away-turns : (at : Place) → is_lost (entry_at c.directory p) ≡ false → holds (entry_at c.directory p) i ≡ false
        → seen at ≡ entry_at c.directory p
        → Turns w (event.List i p) (reply.Refused (R.NeedPage at)) (passed w w.scene.waits (event.List i p) (reply.Refused (R.NeedPage at)))
    away-turns at there away is = turns-on w w.scene.waits (event.List i p) (reply.Refused (R.NeedPage at))
        (Cause.Away, refl, tt, (refl, first-three, tt), refl)
        (λ t. sym (none-ended seen_by leaves c w f t)) tt tt
        (record {
          cause = Cause.Away;
          names = refl;
          first = (refl, first-three, tt);
          passes = (tt, (tt, ((λ lost. off-on (is_lost (w.pages.entry p)) (ap is_lost place ∙ there) lost), tt)));
          says = λ e. ap (λ (x : PageEntry). holds x i) place ∙ away;
          place = is ∙ sym place;
          leaves = refl;
        })
        tt

    module _ (held_here : holds (entry_at c.directory p) i ≡ true) where
      holds_on : holds (w.pages.entry p) i ≡ true
      holds_on = ap (λ (x : PageEntry). holds x i) place ∙ held_here

      not-lost : is_lost (w.pages.entry p) ≡ true → ⊥
      not-lost lost = held-there (w.pages.entry p) i holds_on lost

      not-away : holds (w.pages.entry p) i ≡ false → ⊥
      not-away away = off-on (holds (w.pages.entry p) i) away holds_on

      busy-turns : (by : TxnId) → IsLowestOwner c.locks.locks p (Some by)
          → Turns w (event.List i p) (reply.Refused (R.Busy by)) (passed w w.scene.waits (event.List i p) (reply.Refused (R.Busy by)))
      busy-turns by lowest =
          let changer : IsLowestChanger m p by = (owns-changes by lowest.0, (λ t h. lowest.1 t (changes-owns t h))) in
          turns-on w w.scene.waits (event.List i p) (reply.Refused (R.Busy by))
          (Cause.Busy, refl, changer, (refl, first-four, (by, changer.0)), refl)
          (λ t. sym (none-ended seen_by leaves c w f t)) tt tt
          (record {
            cause = Cause.Busy;
            names = refl;
            first = (refl, first-four, (by, changer.0));
            passes = (tt, (tt, (not-lost, (not-away, tt))));
            says = λ e. absurd (cc);
            place = tt;
            leaves = refl;
          })
          tt

      rows-turns : (rows : List (Rid × List ℕ)) → IsListed i p c rows
          → Turns w (event.List i p) (reply.Rows rows) (passed w w.scene.waits (event.List i p) (reply.Rows rows))
      rows-turns rows l =
          let newest = (each-copy-is-newest leaves seen_by Pending.Idle c m f.good p i).1 l.image l.copy in
          let nobody-changes : (t : TxnId) → Changes m t p → ⊥ = λ t h. l.free t (changes-owns t h) in
          let are : AreRows p (now m) (rows_below p l.image.slots (length l.image.slots)) = rows-are p l.image.slots (now m)
          (λ r page. value-at l.image.slots r.slot
          ∙ subst (λ (x : Page). value x.slots r.slot ≡ now m r) (sym newest.1)
          (subst (λ (q : ℕ). value (newest_of seen_by leaves c q).slots r.slot ≡ now m r) page
          (unclaimed-there seen_by leaves c m r f.good
          (λ u owns. nobody-changes u (
            r.slot,
            subst (λ (q : ℕ). (m.part u).claims (record { page = q; slot = r.slot }) ≡ Claim.Excl) page
                (claimed-excl ((m.part u).claims r) owns),
          ))))) in
          turns-on w w.scene.waits (event.List i p) (reply.Rows rows)
          (list-step m i p rows serves nobody-changes (subst (AreRows p (now m)) (sym l.rows_are) are))
          (λ t. sym (none-ended seen_by leaves c w f t)) tt tt
          ((tt, (tt, (not-lost, (not-away, (tt, tt))))), refl)
          tt

-- ---- served

-- What is known where a page is to be listed at an instance that is up.
pub record Lists {G : Type 0} (tell : Telling G) (i : ℕ) (c : Complex G) : Type 0 where
  pub low : 1 ≤ i
  pub high : i ≤ 8
  pub now : (img : DeviceImages) → tell.since c.rig (tell.moment c.rig) img → Leaves (tell.leaves c.rig) img

-- a pool that is used has its frames
pub used-frames : (pool : Buffers) (p : ℕ) (copy : Option Page) → (option_map_or (with_page pool p) copy pool).frames ≡ pool.frames
used-frames pool p None = refl
used-frames pool p (Some image) = refl

module _ {G : Type 0} (tell : Telling G) (i p : ℕ) (c : Complex G) (b : Lists tell i c) where
  by-turns : (r : Reply) → TellsNoPlace r
      → ((w : Core) → Fits (tell.seen c.rig) (tell.leaves c.rig) (parts c) w
      → Turns w (event.List i p) r (passed w w.scene.waits (event.List i p) r)) → (w : Core) → Fits (tell.seen c.rig) (tell.leaves c.rig) (parts c) w
      → (w' : Core) × Serves {C = Complex G} tell stands_for (λ x. x.rig) (fits_by tell.seen tell.leaves) (event.List i p) r c c w w'
  by-turns r told turns w f = (passed w w.scene.waits (event.List i p) r, kept-serves tell c c refl refl b.now w f (event.List i p) r told (turns w f))

  pub list-down : (status_at (parts c) i ≡ S.Up → ⊥) → Serving tell (event.List i p) (refused R.Down) c c
  list-down down = (
    by-turns (reply.Refused R.Down) tt
        (λ w f. down-turns i p (tell.seen c.rig) (tell.leaves c.rig) (parts c) w f b.low b.high down),
    refl,
  )

  -- the rows are told, and the page is used
  pub list-rows : status_at (parts c) i ≡ S.Up → (rows : List (Rid × List ℕ)) → IsListed i p (parts c) rows → (new : Complex G)
      → new.rig ≡ c.rig → parts new ≡ with_place i (used (pool_at (parts c) i) p) (parts c).directory (parts c)
      → ((pend : Pending) (m : State) → Good (tell.seen c.rig) (tell.leaves c.rig) pend (parts c) m
      → Good (tell.seen new.rig) (tell.leaves new.rig) pend (parts new) m)
      → Serving tell (event.List i p) (Some (reply.Rows rows)) c new
  list-rows up rows l new same is good = (
    λ w f.
        let pool : Buffers = used (pool_at (parts c) i) p in
        let pools : List Buffers = slice_set (parts c).pools (i - 1) pool in
        let then : Core = passed w w.scene.waits (event.List i p) (reply.Rows rows) in (
          then,
          still-serves tell (event.List i p) (reply.Rows rows) c new w then (sym same) b.now f
              (rows-turns i p (tell.seen c.rig) (tell.leaves c.rig) (parts c) w f b.low b.high up l.held rows l)
              (moved-fits tell c new w f pools (parts c).directory same is (good Pending.Idle w.scene.state f.good) w.pages
              (bounds_after w.bounds (event.List i p) (reply.Rows rows))
              (kept-pages pools (parts c).directory (tell.seen c.rig) (tell.leaves c.rig) (parts c) w f
              (frames-kept (parts c) i pool (parts c).directory b.low b.high f.good.shape.pools
              (used-frames (pool_at (parts c) i) p (image_at (pool_at (parts c) i) p)))
              (λ q. refl) (λ q. refl))
              (bounds-stay (tell.seen c.rig) (parts c) w.bounds (event.List i p) (reply.Rows rows) tt f.bounds)),
        ),
    ap tell.faults same,
  )

  list-memory : Serving tell (event.List i p) None c c
  list-memory = ((λ w f. kept-spares tell c c refl refl b.now w f), refl)

  pub list-refused : status_at (parts c) i ≡ S.Up → (n : Refusal) → IsUnlisted i p (parts c) n → Serving tell (event.List i p) (refused n) c c
  list-refused up R.Lost lost = (
    by-turns (reply.Refused R.Lost) tt
        (λ w f. lost-turns i p (tell.seen c.rig) (tell.leaves c.rig) (parts c) w f b.low b.high up lost),
    refl,
  )
  list-refused up (R.NeedPage at) h = (
    by-turns (reply.Refused (R.NeedPage at)) tt
        (λ w f. away-turns i p (tell.seen c.rig) (tell.leaves c.rig) (parts c) w f b.low b.high up at h.0 h.1 h.2),
    refl,
  )
  list-refused up (R.Busy by) h = (
    by-turns (reply.Refused (R.Busy by)) tt
        (λ w f. busy-turns i p (tell.seen c.rig) (tell.leaves c.rig) (parts c) w f b.low b.high up h.0 by h.1),
    refl,
  )
  list-refused up R.Memory h = list-memory
  list-refused up n h = absurd h
