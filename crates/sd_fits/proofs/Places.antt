-- How a complex goes on fitting where pools and directory alone change. For the calls of events that move pages.
use Rattle.std.proofs.Common.{◌≡◌, ◌≢◌, inl, ℕ, ◌≤◌, Bool, false, cond, List, length, refl, sym, ap, ◌∙◌, subst, ⊎_elim, eq-eqb, ne_eqb, arith}
use Rattle.std.specs.Prelude.{Option, None}
use Rattle.std.proofs.lemmas.Bool.{cases_eq}
use Rattle.sd_base.specs.declared.place.Mode.{Mode}
use Rattle.sd_base.specs.declared.ids.TxnId.{TxnId}
use Rattle.sd_page.specs.Page.{Page}
use Rattle.sd_model.specs.Exact.{IsExact, IsOfFreeSlot}
use Rattle.sd_model.specs.Fields.{txn_of}
use Rattle.sd_model.specs.Scenes.{asked_of, waits_after}
use Rattle.sd_model.specs.State.{State}
use Rattle.sd_model.specs.Step.{Step}
use Rattle.sd_model.specs.declared.event.Event.{Event}
use Rattle.sd_model.specs.declared.event.Reply.{Reply}
use Rattle.sd_pagelock.specs.Asks.{open_asks, queued}
use Rattle.sd_pagelock.specs.Directory.{DirectoryState, asks_at, entry_at}
use Rattle.sd_pagelock.specs.Places.{PageEntry, is_lost}
use Rattle.sd_pool.specs.Buffers.{Buffers}
use Rattle.sd_rig.specs.Devices as rig
use Rattle.sd_rig.specs.Devices.{IsUnchanged}
use Rattle.sd_chain.specs.Bytes.{disk_page}
use Rattle.sd_chain.specs.Images.{all_kept}
use Rattle.sd_chain.specs.Named.{version_of}
use Rattle.sd_chain.specs.Logs.{Outcomes, tails_of}
use Rattle.sd_world.specs.Answers.{Moves}
use Rattle.sd_world.specs.Bounds.{Bounds, Within, bounds_after}
use Rattle.sd_world.specs.Pages.{Pages, asked, page_placed, put}
use Rattle.sd_world.specs.Serving.{Core, Passes, Serves, Spares, Telling, Turns}
use Rattle.sd_state.specs.Complexes.{parts}
use Rattle.sd_state.specs.Good.{Good}
use Rattle.sd_state.specs.Images.{log_by}
use Rattle.sd_state.specs.Laws.{newest_of}
use Rattle.sd_state.specs.Locking.{IsSet, with_place}
use Rattle.sd_state.specs.Parts.{Parts, log_at, no_pool, pool_at}
use Rattle.sd_state.specs.Values.{Pending}
use Rattle.sd_state.specs.declared.complex.Complex.{Complex}
use Rattle.sd_state.proofs.Items.{item-kept, item-set}
use Rattle.sd_fits.specs.Fits.{AreAtLeast, AreWithin, Fits, FitsBounds, FitsPages, capacities}
use Rattle.sd_fits.specs.Serving.{fits_by, stands_for}
use Rattle.sd_fits.proofs.Doubts.{doubts-kept, same-doubts}
use Rattle.sd_fits.proofs.Served.{fits-left}

-- the world after a call that leaves the state and the waits: its pages are these, and the sums are those after the event
abbrev pub repaged : Core → Pages → Event → Reply → Core
repaged w pages e r = record { scene = w.scene; pages = pages; bounds = bounds_after w.bounds e r }

-- what is put at one place, and the others
pub put-case : {X : Type 0} (P : ℕ → X → Type 0) (p : ℕ) (x : X) (f : ℕ → X) → P p x → ((q : ℕ) → q ≢ p → P q (f q)) → (q : ℕ)
    → P q (put p x f q)
put-case {X} P p x f here others q = ⊎_elim
    (λ e. subst (λ (b : Bool). P q (cond {A = X} b x (f q))) (sym (eq-eqb p q (sym e))) (subst (λ (k : ℕ). P k x) (sym e) here))
    (λ ne. subst (λ (b : Bool). P q (cond {A = X} b x (f q))) (sym (ne_eqb p q (λ e. ne (sym e)))) (others q ne))
    (cases_eq q p)

-- the pools have as many frames as they had, where one is another with as many
pub frames-kept : (c : Parts) (i : ℕ) (pool : Buffers) (places : DirectoryState Page) → 1 ≤ i → i ≤ 8 → length c.pools ≡ 8
    → pool.frames ≡ (pool_at c i).frames → (j : ℕ) → (pool_at (with_place i pool places c) j).frames ≡ (pool_at c j).frames
frames-kept c i pool places low high eight same j = ⊎_elim
    (λ e. subst (λ (k : ℕ). (pool_at (with_place i pool places c) k).frames ≡ (pool_at c k).frames) (sym e)
    (ap (λ (b : Buffers). b.frames) (item-set no_pool c.pools i pool low high eight) ∙ same))
    (λ ne. ap (λ (b : Buffers). b.frames) (item-kept no_pool c.pools i pool low j ne))
    (cases_eq j i)

-- ---- pools and directory are others

module _ (pools : List Buffers) (places : DirectoryState Page) (seen : rig.DeviceImages) (leaves : Outcomes) (c : Parts) (w : Core)
    (f : Fits seen leaves c w) where
  abbrev turned : Parts
  turned = record c { pools = pools; directory = places }

  -- Where the complex is good then, and fits these pages and sums, it fits the world that has them.
  pub turned-fits : (pages : Pages) (sums : Bounds) → Good seen leaves Pending.Idle turned w.scene.state
      → FitsPages seen leaves turned pages → FitsBounds seen leaves c sums
      → Fits seen leaves turned (record { scene = w.scene; pages = pages; bounds = sums })
  turned-fits pages sums good there b = record {
    good = good;
    idle = f.idle;
    rolling = f.rolling;
    waits = f.waits;
    waiting = f.waiting;
    put = f.put;
    pages = there;
    bounds = record { slots = b.slots; least = b.least; reach = b.reach; lsns = b.lsns; masters = b.masters; left_masters = b.left_masters };
    doubts = f.doubts;
  }

  module _ (frames : (j : ℕ) → (pool_at turned j).frames ≡ (pool_at c j).frames) where
    -- a page has another place, and is lost there only if it was
    pub placed-pages : (p : ℕ) (to : PageEntry) (rec : Option ℕ) → IsSet p to rec c.directory places
        → (is_lost to ≡ false → is_lost (w.pages.entry p) ≡ false) → FitsPages seen leaves turned (page_placed p to w.pages)
    placed-pages p to rec set found = record {
      frames = λ j low high. frames j ∙ f.pages.frames j low high;
      entry = put-case (λ q e. e ≡ entry_at places q) p to w.pages.entry (sym set.entry)
          (λ q ne. f.pages.entry q ∙ sym (set.others q ne));
      asks = put-case (λ q asks. asks ≡ asks_at places q) p (open_asks to (w.pages.asks p)) w.pages.asks
          (ap (open_asks to) (f.pages.asks p) ∙ sym set.asks)
          (λ q ne. f.pages.asks q ∙ sym (set.other_asks q ne));
      number = put-case (λ q e. is_lost e ≡ false → w.pages.number q ≡ (newest_of seen leaves c q).lsn) p to w.pages.entry
          (λ there. f.pages.number p (found there))
          (λ q ne there. f.pages.number q there);
      begun = f.pages.begun;
    }

    -- no page has another place
    pub kept-pages : ((q : ℕ) → entry_at places q ≡ entry_at c.directory q) → ((q : ℕ) → asks_at places q ≡ asks_at c.directory q)
        → FitsPages seen leaves turned w.pages
    kept-pages entries asks = record {
      frames = λ j low high. frames j ∙ f.pages.frames j low high;
      entry = λ q. f.pages.entry q ∙ sym (entries q);
      asks = λ q. f.pages.asks q ∙ sym (asks q);
      number = f.pages.number;
      begun = f.pages.begun;
    }

    -- an instance asks for a page
    pub asked-pages : (p i : ℕ) (mode : Mode) → ((q : ℕ) → entry_at places q ≡ entry_at c.directory q)
        → asks_at places p ≡ queued i mode (asks_at c.directory p)
        → ((q : ℕ) → q ≢ p → asks_at places q ≡ asks_at c.directory q) → FitsPages seen leaves turned (asked p i mode w.pages)
    asked-pages p i mode entries here others = record {
      frames = λ j low high. frames j ∙ f.pages.frames j low high;
      entry = λ q. f.pages.entry q ∙ sym (entries q);
      asks = put-case (λ q asks. asks ≡ asks_at places q) p (queued i mode (w.pages.asks p)) w.pages.asks
          (ap (queued i mode) (f.pages.asks p) ∙ sym here)
          (λ q ne. f.pages.asks q ∙ sym (others q ne));
      number = f.pages.number;
      begun = f.pages.begun;
    }

-- ---- devices that were read

module _ {G : Type 0} (tell : Telling G) (old new : G)
    (u : IsUnchanged (tell.seen old) (tell.seen new) (tell.leaves old) (tell.leaves new) (tell.moment old) (tell.moment new)
    (tell.since old) (tell.since new))
    (now : (img : rig.DeviceImages) → tell.since old (tell.moment old) img → rig.Leaves (tell.leaves old) img) where
  -- each image since then stands,
  pub read-passes : (m m' : State) → ((img : rig.DeviceImages) → rig.Leaves (tell.leaves old) img → stands_for img m)
      → Passes tell stands_for old new m m'
  read-passes m m' each = record {
    time = record {
      later = let clock = u.clock in omega (arith, clock);
      splits = λ t img le s. inl ((u.past t img).0 s);
      keeps = λ t img le s. (u.past t img).1 s;
    };
    span = record { each = λ img s. inl (each img (now img ((u.past (tell.moment old) img).0 s))) };
  }

  -- and a complex that stays good fits the same world
  pub read-fits : (c : Parts) (w : Core) → Fits (tell.seen old) (tell.leaves old) c w
      → Good (tell.seen new) (tell.leaves new) Pending.Idle c w.scene.state → Fits (tell.seen new) (tell.leaves new) c w
  read-fits c w f good = record {
    good = good;
    idle = f.idle;
    rolling = f.rolling;
    waits = f.waits;
    waiting = f.waiting;
    put = f.put;
    pages = record {
      frames = f.pages.frames;
      entry = f.pages.entry;
      asks = f.pages.asks;
      number = λ q there. f.pages.number q there
          ∙ ap (λ (bytes : List ℕ). (version_of (tails_of (log_at c)) (disk_page bytes) all_kept q).lsn) (sym (u.reads 0));
      begun = f.pages.begun;
    };
    bounds = let b = f.bounds in
        record {
          slots = λ moved keeps q. subst
              (λ (bytes : List ℕ). AreWithin (capacities (version_of (tails_of (log_by c moved)) (disk_page bytes) keeps q)) (w.bounds.slots q))
              (sym (u.reads 0)) (b.slots moved keeps q);
          least = λ moved keeps q. subst
              (λ (bytes : List ℕ). AreAtLeast (capacities (version_of (tails_of (log_by c moved)) (disk_page bytes) keeps q)) (w.bounds.least q))
              (sym (u.reads 0)) (b.least moved keeps q);
          reach = b.reach;
          lsns = b.lsns;
          masters = b.masters;
          left_masters = λ i low high bytes left. b.left_masters i low high bytes ((u.outcomes i bytes).0 left);
        };
    doubts = doubts-kept (tell.seen old) (tell.seen new) c c w.scene.state w.scene.state f.doubts (same-doubts w.scene.state)
        (λ keeps. keeps)
        (λ moved keeps j. refl)
        (λ moved keeps q. ap (λ (bytes : List ℕ). version_of (tails_of (log_by c moved)) (disk_page bytes) keeps q) (u.reads 0));
  }

-- ---- the call of an event

-- A call that reads alone serves the event, where the event turns the world so and the complex fits that.
pub read-serves : {G : Type 0} (tell : Telling G) (e : Event) (r : Reply) (old new : Complex G) (w w' : Core)
    → IsUnchanged (tell.seen old.rig) (tell.seen new.rig) (tell.leaves old.rig) (tell.leaves new.rig) (tell.moment old.rig)
    (tell.moment new.rig) (tell.since old.rig) (tell.since new.rig)
    → ((img : rig.DeviceImages) → tell.since old.rig (tell.moment old.rig) img → rig.Leaves (tell.leaves old.rig) img)
    → fits_by tell.seen tell.leaves old w → Turns w e r w' → fits_by tell.seen tell.leaves new w'
    → Serves {C = Complex G} tell stands_for (λ c. c.rig) (fits_by tell.seen tell.leaves) e r old new w w'
read-serves tell e r old new w w' u now f turns then = record {
  turns = turns;
  fits_then = then;
  passes = read-passes tell old.rig new.rig u now w.scene.state w'.scene.state
      (fits-left (tell.seen old.rig) (tell.leaves old.rig) (parts old) w f);
}

-- Want of memory spares a complex that fits the same world then.
pub read-spares : {G : Type 0} (tell : Telling G) (old new : Complex G) (w : Core)
    → IsUnchanged (tell.seen old.rig) (tell.seen new.rig) (tell.leaves old.rig) (tell.leaves new.rig) (tell.moment old.rig)
    (tell.moment new.rig) (tell.since old.rig) (tell.since new.rig)
    → ((img : rig.DeviceImages) → tell.since old.rig (tell.moment old.rig) img → rig.Leaves (tell.leaves old.rig) img)
    → fits_by tell.seen tell.leaves old w → fits_by tell.seen tell.leaves new w
    → Spares {C = Complex G} tell stands_for (λ c. c.rig) (fits_by tell.seen tell.leaves) old new w
read-spares tell old new w u now f then = record {
  fits_still = then;
  passes = read-passes tell old.rig new.rig u now w.scene.state w.scene.state
      (fits-left (tell.seen old.rig) (tell.leaves old.rig) (parts old) w f);
}

-- A call that changes pools and directory alone, and no device: the complex fits the world with these pages and sums.
pub moved-fits : {G : Type 0} (tell : Telling G) (old new : Complex G) (w : Core) (f : fits_by tell.seen tell.leaves old w)
    (pools : List Buffers) (places : DirectoryState Page) → new.rig ≡ old.rig
    → parts new ≡ record (parts old) { pools = pools; directory = places }
    → Good (tell.seen new.rig) (tell.leaves new.rig) Pending.Idle (parts new) w.scene.state
    → (pages : Pages) (sums : Bounds)
    → FitsPages (tell.seen old.rig) (tell.leaves old.rig) (record (parts old) { pools = pools; directory = places }) pages
    → FitsBounds (tell.seen old.rig) (tell.leaves old.rig) (parts old) sums
    → fits_by tell.seen tell.leaves new (record { scene = w.scene; pages = pages; bounds = sums })
moved-fits {G} tell old new w f pools places same is good pages sums there b =
    let turned : Parts = record (parts old) { pools = pools; directory = places } in
    let next : Core = record { scene = w.scene; pages = pages; bounds = sums } in
    subst (λ (d : G). Fits (tell.seen d) (tell.leaves d) (parts new) next) (sym same)
    (subst (λ (c : Parts). Fits (tell.seen old.rig) (tell.leaves old.rig) c next) (sym is)
    (turned-fits pools places (tell.seen old.rig) (tell.leaves old.rig) (parts old) w f pages sums
    (subst (λ (c : Parts). Good (tell.seen old.rig) (tell.leaves old.rig) Pending.Idle c w.scene.state) is
    (subst (λ (d : G). Good (tell.seen d) (tell.leaves d) Pending.Idle (parts new) w.scene.state) same good))
    there b))

-- The event turns the world so, where it leaves the state and the waits.
pub turns-repaged : (w : Core) (pages : Pages) (e : Event) (r : Reply) → Step w.scene.state e r w.scene.state
    → ((t : TxnId) → w.scene.waits t ≡ waits_after w.scene.state e None r w.scene.waits t)
    → IsExact w.scene (txn_of e) (asked_of e None) r → IsOfFreeSlot w.scene.state e None r
    → Moves w.scene.state w.pages e r w.scene.state pages → Within w.scene.state w.bounds e r → Turns w e r (repaged w pages e r)
turns-repaged w pages e r step waits exact unused moves within = record {
  wanted = None;
  near = tt;
  plays = record { step = step; waits = waits };
  exact = exact;
  unused = unused;
  moves = moves;
  within = within;
  sums = refl;
}
