-- An ask serves its event: for the goals of asking.rt.
use Rattle.std.proofs.Common.{◌≡◌, ◌⊎◌, ⊎_elim, ℕ, ◌-◌, ◌≤◌, Bool, true, false, cond, List, refl, sym, ap, ◌∙◌, subst, slice_set}
use Rattle.std.specs.Prelude.{Option, None, Some}
use Rattle.sd_base.specs.Streams.{Rises}
use Rattle.sd_base.specs.declared.place.Mode.{Mode}
use Rattle.sd_base.specs.declared.refusal.Refusal.{Refusal}
use Rattle.sd_base.specs.declared.refusal.Refusal.TheVariants as R
use Rattle.sd_page.specs.Page.{Page}
use Rattle.sd_rig.specs.Devices.{DeviceImages, IsUnchanged, Leaves}
use Rattle.sd_model.specs.State.{State}
use Rattle.sd_model.specs.declared.cause.Cause.{Cause}
use Rattle.sd_model.specs.declared.event.Event.{Event}
use Rattle.sd_model.specs.declared.event.Event.TheVariants.{Ask}
use Rattle.sd_model.specs.declared.event.Reply.{Reply}
use Rattle.sd_model.specs.declared.event.Reply.TheVariants as reply
use Rattle.sd_pagelock.specs.Asks.{queued}
use Rattle.sd_pagelock.specs.Directory.{asks_at, entry_at}
use Rattle.sd_pagelock.specs.Places.{PageEntry, holds, holds_as, is_free, is_lost, passes, receives}
use Rattle.sd_pagelock.specs.Rows.{locked, may_raise, raised}
use Rattle.sd_pool.specs.Buffers as buffers
use Rattle.sd_pool.specs.Buffers.{Buffers, IsPool, with_page}
use Rattle.sd_world.specs.Bounds.{bounds_after}
use Rattle.sd_world.specs.PageCauses.{PoolIsFull}
use Rattle.sd_world.specs.Pages.{answerer, asked, page_placed}
use Rattle.sd_world.specs.Serving.{Core, Serves, Telling, refused}
use Rattle.sd_state.specs.Complexes.{parts}
use Rattle.sd_state.specs.Good.{Good}
use Rattle.sd_state.specs.Locking.{IsSet, with_place}
use Rattle.sd_state.specs.Parts.{Parts, pool_at}
use Rattle.sd_state.specs.Values.{Pending}
use Rattle.sd_state.specs.declared.complex.Complex.{Complex}
use Rattle.sd_fits.specs.Fits.{Fits}
use Rattle.sd_fits.specs.Serving.{Serving, fits_by, stands_for}
use Rattle.sd_fits.proofs.Frames.{frames-held, frames-left}
use Rattle.sd_transfer.proofs.PassFits.{kept-spared}
use Rattle.sd_fits.proofs.Places.{asked-pages, frames-kept, moved-fits, placed-pages, read-fits, read-serves, read-spares, repaged}
use Rattle.sd_fits.proofs.Served.{bounds-stay, nothing-fits, passed, still-serves}
use Rattle.sd_moves.specs.Places.{IsAsked, with_directory}
use Rattle.sd_transfer.specs.Asking.{IsUnserved, MayAsk}
use Rattle.sd_transfer.proofs.Asked
use Rattle.sd_transfer.proofs.Asked.{of-ask}
use Rattle.sd_transfer.proofs.Barred.{barred-served, moving-served}
use Rattle.sd_fits.proofs.Refused.{IsFor, refused-serves, refused-turns, unlike}

-- what was read of devices stays, also once more is done to the complex
pub unchanged-to : {G : Type 0} (tell : Telling G) (old mid new : G) → new ≡ mid
    → IsUnchanged (tell.seen old) (tell.seen mid) (tell.leaves old) (tell.leaves mid) (tell.moment old) (tell.moment mid)
    (tell.since old) (tell.since mid)
    → IsUnchanged (tell.seen old) (tell.seen new) (tell.leaves old) (tell.leaves new) (tell.moment old) (tell.moment new)
    (tell.since old) (tell.since new)
unchanged-to {G} tell old mid new same u = subst
    (λ (d : G). IsUnchanged (tell.seen old) (tell.seen d) (tell.leaves old) (tell.leaves d) (tell.moment old) (tell.moment d)
    (tell.since old) (tell.since d)) (sym same) u

pub unchanged-here : {G : Type 0} (tell : Telling G) (d : G)
    → IsUnchanged (tell.seen d) (tell.seen d) (tell.leaves d) (tell.leaves d) (tell.moment d) (tell.moment d) (tell.since d)
    (tell.since d)
unchanged-here tell d = record {
  reads = λ n. refl;
  outcomes = λ n c. ((λ left. left), (λ left. left));
  clock = refl;
  past = λ t img. ((λ s. s), (λ s. s));
}

-- who doesn't hold a page has no copy of it
pub not-copied : (x : Page) (o : Option Page) (b : Bool) → o ≡ cond b (Some x) None → b ≡ false → o ≡ None
not-copied x o b is lacks = is ∙ ap (λ (k : Bool). cond {A = Option Page} k (Some x) None) lacks

module _ {G : Type 0} (tell : Telling G) (c : Complex G) (i p : ℕ) (mode : Mode) (low : 1 ≤ i) (high : i ≤ 8)
    (now : (img : DeviceImages) → tell.since c.rig (tell.moment c.rig) img → Leaves (tell.leaves c.rig) img) where
  abbrev event : Event
  event = Ask i p mode

  abbrev here : PageEntry
  here = entry_at (parts c).directory p

  abbrev Answers : Complex G → Reply → Core → Type 0
  Answers new r w = (w' : Core) × Serves {C = Complex G} tell stands_for (λ k. k.rig)
      (fits_by tell.seen tell.leaves) event r c new w w'

  -- ---- nothing changes

  refused-so : (w : Core) (f : fits_by tell.seen tell.leaves c w) (n : Refusal) (cause : Cause)
      → IsFor w.scene.state w event n cause
      → Answers c (reply.Refused n) w
  refused-so w f n cause is = refused-serves tell c now w f event n cause is

  pub ask-refused : (n : Refusal) → IsUnserved (parts c) i p n → Serving tell event (refused n) c c
  ask-refused (R.MovingTo to) why = moving-served (of-ask i p mode) tell c low high now refl to why.0 why.1
      (λ w f. (ap passes (f.pages.entry p) ∙ why.2, ap (λ (e : PageEntry). receives e to) (f.pages.entry p) ∙ why.3))
  ask-refused n why = barred-served (of-ask i p mode) tell c low high now n why

  module _ (may : MayAsk (parts c) i p) where
    -- it has the page so
    pub has-served : holds_as mode here i ≡ true → Serving tell event (Some reply.Have) c c
    has-served has = (
      (λ w f.
          let there : holds_as mode (w.pages.entry p) i ≡ true = ap (λ (e : PageEntry). holds_as mode e i) (f.pages.entry p) ∙ has in
          let room : PoolIsFull w.pages event → ⊥ = λ lacks. Asked.has-pool mode (w.pages.entry p) i there lacks.0 in (
            passed w w.scene.waits event reply.Have,
            still-serves tell event reply.Have c c w (passed w w.scene.waits event reply.Have) refl now f
                (Asked.have-turns tell c i p mode low high w f may room w.pages
                (Asked.gets-held i p mode w.pages there))
                (nothing-fits (parts c).locks w.scene.waits event reply.Have (tell.seen c.rig) (tell.leaves c.rig) (parts c) w f tt),
          )),
      refl,
    )

    -- ---- a page that no pool has

    module _ (free : here ≡ PageEntry.Free) (pool : IsPool (pool_at (parts c) i))
        (past : (q : ℕ) → 1024 ≤ q → entry_at (parts c).directory q ≡ PageEntry.Free) where
      absent : (w : Core) (f : fits_by tell.seen tell.leaves c w) → is_free (w.pages.entry p) ≡ true
      absent w f = ap is_free (f.pages.entry p ∙ free)

      -- its pool has no frame for it
      pub full-served : buffers.LacksFrame (pool_at (parts c) i) p → Serving tell event (Some (reply.Refused R.PoolFull)) c c
      full-served lacks = (
        (λ w f. refused-so w f R.PoolFull Cause.Frame
            (Asked.full tell c i p mode low high w f may (ap is_free free)
            (frames-held (tell.seen c.rig) (tell.leaves c.rig) Pending.Idle
            (parts c) w.scene.state f.good w.pages f.pages i 1024 low high
            pool past lacks.1))),
        refl,
      )

      module _ (room : buffers.LacksFrame (pool_at (parts c) i) p → ⊥) where
        -- no pool has the page, so this one has no copy of it
        no-copy : (w : Core) (f : fits_by tell.seen tell.leaves c w) → buffers.image_at (pool_at (parts c) i) p ≡ None
        no-copy w f = not-copied _ _ (holds here i) ((f.good.half (λ j. false)).coherent.copies i p)
            (ap (λ (e : PageEntry). holds e i) free)

        roomy : (w : Core) (f : fits_by tell.seen tell.leaves c w) → PoolIsFull w.pages event → ⊥
        roomy w f lacks = frames-left (tell.seen c.rig) (tell.leaves c.rig) Pending.Idle
            (parts c) w.scene.state f.good w.pages f.pages
            i 1024 low high pool past (λ all. room (no-copy w f, all)) lacks.1

        module _ (read : Complex G)
            (u : IsUnchanged (tell.seen c.rig) (tell.seen read.rig) (tell.leaves c.rig) (tell.leaves read.rig) (tell.moment c.rig)
            (tell.moment read.rig) (tell.since c.rig) (tell.since read.rig))
            (same : parts read ≡ parts c)
            (good : (pend : Pending) (m : State) → Good (tell.seen c.rig) (tell.leaves c.rig) pend (parts c) m
            → Good (tell.seen read.rig) (tell.leaves read.rig) pend (parts read) m) where
          -- the complex that was read fits the same world
          fits-read : (w : Core) → fits_by tell.seen tell.leaves c w → fits_by tell.seen tell.leaves read w
          fits-read w f = subst (λ (k : Parts). Fits (tell.seen read.rig) (tell.leaves read.rig) k w) (sym same)
              (read-fits tell c.rig read.rig u now (parts c) w f
              (subst (λ (k : Parts). Good (tell.seen read.rig) (tell.leaves read.rig) Pending.Idle k w.scene.state) same
              (good Pending.Idle w.scene.state f.good)))

          -- there was no memory
          pub read-spared : tell.faults read.rig ≡ tell.faults c.rig → Serving tell event None c read
          read-spared quiet = ((λ w f. read-spares tell c read w u now f (fits-read w f)), quiet)

          -- the device failed
          pub read-failed : Rises (tell.faults c.rig) (tell.faults read.rig)
              → Serving tell event (Some (reply.Refused R.Failed)) c read
          read-failed rises = (
            (λ w f.
                let next : Core = passed w w.scene.waits event (reply.Refused R.Failed) in (
                  next,
                  read-serves tell event (reply.Refused R.Failed) c read w next u now f
                      (refused-turns (tell.seen c.rig) (tell.leaves c.rig) (parts c) w f event R.Failed Cause.Rig
                      (Asked.failed tell c i p mode low high w f may (roomy w f)))
                      (nothing-fits (parts read).locks w.scene.waits event (reply.Refused R.Failed) (tell.seen read.rig)
                      (tell.leaves read.rig)
                      (parts read) w (fits-read w f) tt),
                )),
            rises,
          )

          pub read-refused : (n : Refusal)
              → ((n ≡ R.Memory) × (tell.faults read.rig ≡ tell.faults c.rig))
              ⊎ ((n ≡ R.Failed) × Rises (tell.faults c.rig) (tell.faults read.rig))
              → Serving tell event (refused n) c read
          read-refused n why = ⊎_elim
              (λ w. subst (λ (r : Refusal). Serving tell event (refused r) c read) (sym w.0) (read-spared w.1))
              (λ w. subst (λ (r : Refusal). Serving tell event (refused r) c read) (sym w.0) (read-failed w.1))
              why

          -- and the page comes into the pool
          module _ (new : Complex G) (image : Page) (stays : new.rig ≡ read.rig)
              (is : parts new ≡ with_place i (with_page (pool_at (parts read) i) p image) (parts new).directory (parts read))
              (set : IsSet p (locked i mode) None (parts read).directory (parts new).directory)
              (locks : (pend : Pending) (m : State) → Good (tell.seen read.rig) (tell.leaves read.rig) pend (parts read) m
              → Good (tell.seen new.rig) (tell.leaves new.rig) pend (parts new) m)
              (quiet : tell.faults read.rig ≡ tell.faults c.rig) where
            fits-fetched : (w : Core) → fits_by tell.seen tell.leaves c w
                → fits_by tell.seen tell.leaves new (repaged w (page_placed p (locked i mode) w.pages) event reply.Have)
            fits-fetched w before =
                let f : fits_by tell.seen tell.leaves read w = fits-read w before in
                let pools : List Buffers = slice_set (parts read).pools (i - 1) (with_page (pool_at (parts read) i) p image) in
                moved-fits tell read new w f pools (parts new).directory stays is (locks Pending.Idle w.scene.state f.good)
                (page_placed p (locked i mode) w.pages) (bounds_after w.bounds event reply.Have)
                (placed-pages pools (parts new).directory (tell.seen read.rig) (tell.leaves read.rig) (parts read) w f
                (frames-kept (parts read) i (with_page (pool_at (parts read) i) p image) (parts new).directory low high
                f.good.shape.pools refl)
                p (locked i mode) None set (λ there. ap is_lost (before.pages.entry p ∙ free)))
                (bounds-stay (tell.seen read.rig) (parts read) w.bounds event reply.Have tt f.bounds)

            pub fetched : Serving tell event (Some reply.Have) c new
            fetched = (
              (λ w f.
                  let next : Core = repaged w (page_placed p (locked i mode) w.pages) event reply.Have in (
                    next,
                    read-serves tell event reply.Have c new w next (unchanged-to tell c.rig read.rig new.rig stays u) now f
                        (Asked.have-turns tell c i p mode low high w f may (roomy w f)
                        (page_placed p (locked i mode) w.pages) (Asked.gets-free i p mode w.pages (f.pages.entry p ∙ free)))
                        (fits-fetched w f),
                  )),
              ap tell.faults stays ∙ quiet,
            )

    -- ---- the only holder has it alone

    module _ (lacks : holds_as mode here i ≡ false) (pooled : is_free here ≡ false) where
      lacking : (w : Core) (f : fits_by tell.seen tell.leaves c w) → holds_as mode (w.pages.entry p) i ≡ false
      lacking w f = ap (λ (e : PageEntry). holds_as mode e i) (f.pages.entry p) ∙ lacks

      in-pool : (w : Core) (f : fits_by tell.seen tell.leaves c w) → is_free (w.pages.entry p) ≡ false
      in-pool w f = ap is_free (f.pages.entry p) ∙ pooled

      no-need : (w : Core) (f : fits_by tell.seen tell.leaves c w) → PoolIsFull w.pages event → ⊥
      no-need w f none = unlike (in-pool w f) none.0

      module _ (new : Complex G) (same : new.rig ≡ c.rig) (is : parts new ≡ with_directory (parts new).directory (parts c))
          (good : (pend : Pending) (m : State) → Good (tell.seen c.rig) (tell.leaves c.rig) pend (parts c) m
          → Good (tell.seen new.rig) (tell.leaves new.rig) pend (parts new) m) where
        module _ (may_raise_it : may_raise i here ≡ true)
            (set : IsSet p (raised i here) None (parts c).directory (parts new).directory) where
          pub raised-served : Serving tell event (Some reply.Have) c new
          raised-served = (
            (λ w f.
                let to : PageEntry = raised i (w.pages.entry p) in
                let next : Core = repaged w (page_placed p to w.pages) event reply.Have in (
                  next,
                  still-serves tell event reply.Have c new w next (sym same) now f
                      (Asked.have-turns tell c i p mode low high w f may (no-need w f)
                      (page_placed p to w.pages) (Asked.gets-raised i p mode w.pages (lacking w f) (in-pool w f)
                      (ap (may_raise i) (f.pages.entry p) ∙ may_raise_it)))
                      (moved-fits tell c new w f (parts c).pools (parts new).directory same is
                      (good Pending.Idle w.scene.state f.good)
                      (page_placed p to w.pages) (bounds_after w.bounds event reply.Have)
                      (placed-pages (parts c).pools (parts new).directory (tell.seen c.rig) (tell.leaves c.rig)
                      (parts c) w f (λ j. refl)
                      p to None
                      (subst (λ (e : PageEntry). IsSet p (raised i e) None (parts c).directory (parts new).directory) (sym
                      (f.pages.entry p)) set)
                      (λ there. ap is_lost (f.pages.entry p) ∙ may.found))
                      (bounds-stay (tell.seen c.rig) (parts c) w.bounds event reply.Have tt f.bounds)),
                )),
            ap tell.faults same,
          )

        -- ---- another is asked

        module _ (alone : may_raise i here ≡ false) (of : ℕ) (named : of ≡ answerer i here)
            (asks : IsAsked p (queued i mode (asks_at (parts c).directory p)) (parts c).directory (parts new).directory) where
          pub queued-served : Serving tell event (Some (reply.Asked of)) c new
          queued-served = (
            (λ w f.
                let next : Core = repaged w (asked p i mode w.pages) event (reply.Asked of) in (
                  next,
                  still-serves tell event (reply.Asked of) c new w next (sym same) now f
                      (Asked.asked-turns tell c i p mode low high w f may
                      (no-need w f) of
                      (asked p i mode w.pages) (
                        Asked.not-had i p mode w.pages (lacking w f) (in-pool w f) (ap (may_raise i) (f.pages.entry p) ∙ alone),
                        named ∙ ap (answerer i) (sym (f.pages.entry p)),
                        refl,
                      ))
                      (moved-fits tell c new w f (parts c).pools (parts new).directory same is
                      (good Pending.Idle w.scene.state f.good)
                      (asked p i mode w.pages) (bounds_after w.bounds event (reply.Asked of))
                      (asked-pages (parts c).pools (parts new).directory (tell.seen c.rig) (tell.leaves c.rig) (parts c) w f
                      (λ j. refl)
                      p i mode asks.in_place.entries asks.here asks.others)
                      (bounds-stay (tell.seen c.rig) (parts c) w.bounds event (reply.Asked of) tt f.bounds)),
                )),
            ap tell.faults same,
          )

        -- there was no memory for the ask
        module _ (asks : IsAsked p (asks_at (parts c).directory p) (parts c).directory (parts new).directory) where
          pub ask-spared : Serving tell event None c new
          ask-spared = kept-spared tell c new p same is good asks now event
