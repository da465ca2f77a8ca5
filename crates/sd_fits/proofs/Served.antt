-- A call that leaves the complex as it is, but for locks and waits: how it goes on fitting. For the calls of events.
use Rattle.std.proofs.Common.{◌≡◌, inl, ⊎_elim, ℕ, zero, suc, ◌+◌, ◌≤◌, Bool, true, false, cond, eqb, List, [], ◌∷◌, max, refl, sym, ap, ◌∙◌, subst, arith}
use Rattle.std.specs.Prelude.{Option, None}
use Rattle.sd_base.specs.Ids.{same_txn}
use Rattle.sd_base.specs.Waits.{Wait, Waits, with_wait}
use Rattle.sd_base.specs.declared.ids.Rid.{Rid}
use Rattle.sd_base.specs.declared.ids.TxnId.{TxnId}
use Rattle.sd_base.proofs.SameIds.{cases_txn, eq-same, ne-same}
use Rattle.sd_rig.specs.Devices.{DeviceImages, Leaves}
use Rattle.sd_model.specs.Exact.{IsExact, IsOfFreeSlot}
use Rattle.sd_model.specs.Fields.{nobody, txn_of}
use Rattle.sd_model.specs.Scenes.{asked_of, is_running, of_running, waits_after}
use Rattle.sd_model.specs.State.{State}
use Rattle.sd_model.specs.Step.{Step}
use Rattle.sd_model.specs.declared.event.Event.{Event}
use Rattle.sd_model.specs.declared.event.Event.TheVariants.{Insert, CheckEnd}
use Rattle.sd_model.specs.declared.event.Reply.{Reply}
use Rattle.sd_model.specs.declared.event.Reply.TheVariants as reply
use Rattle.sd_reclock.specs.Locks.{LockTable, held, waits}
use Rattle.sd_chain.specs.Bytes.{disk_page}
use Rattle.sd_chain.specs.Images.{Keeps}
use Rattle.sd_chain.specs.Logs.{Outcomes, tails_of}
use Rattle.sd_chain.specs.Named.{version_of}
use Rattle.sd_world.specs.Answers.{Moves}
use Rattle.sd_world.specs.Bounds.{Bounds, TellsNoPlace, Within, bounds_after, cost, counts, is_wait, masters_after, slots_after, with_slot}
use Rattle.sd_world.proofs.Sums.{least-kept}
use Rattle.sd_world.specs.Serving.{Core, Passes, Serves, Spares, Telling, Turns}
use Rattle.sd_state.specs.Complexes.{parts}
use Rattle.sd_state.specs.Good.{Good, HasNumber, IsUnderWay}
use Rattle.sd_state.specs.Images.{log_by}
use Rattle.sd_state.specs.Parts.{Parts}
use Rattle.sd_state.specs.Values.{Pending}
use Rattle.sd_state.specs.Working.{with_locks}
use Rattle.sd_state.specs.declared.complex.Complex.{Complex}
use Rattle.sd_state.proofs.Standing.{left-stands}
use Rattle.sd_fits.specs.Fits.{AreAtLeast, AreWithin, Fits, FitsBounds, capacities}
use Rattle.sd_fits.specs.Serving.{fits_by, stands_for}

-- ---- sums after any event

at-most : (a b c : ℕ) → a ≤ b → b ≤ c → a ≤ c
at-most a b c f g = omega arith

pub within-more : (xs ys : List ℕ) (slot capacity : ℕ) → AreWithin xs ys → AreWithin xs (with_slot ys slot capacity)
within-more [] ys slot capacity w = tt
within-more (x ∷ xs) [] slot capacity w = elim w [ ]
within-more (x ∷ xs) (y ∷ ys) zero capacity w = (raised-most x y capacity w.0, w.1)
  where
    raised-most : (a b c : ℕ) → a ≤ b → a ≤ max b c
    raised-most a b c f = omega arith
within-more (x ∷ xs) (y ∷ ys) (suc slot) capacity w = (w.0, within-more xs ys slot capacity w.1)

pub slots-within : (xs : List ℕ) (old : ℕ → List ℕ) (e : Event) (r : Reply) (q : ℕ) → AreWithin xs (old q)
    → AreWithin xs (slots_after old e r q)
slots-within xs old (Insert t p v capacity) (reply.At r) q w = go (eqb p q)
  where
    go : (b : Bool) → AreWithin xs (cond {A = List ℕ} b (with_slot (old q) r.slot capacity) (old q))
    go true = within-more xs (old q) r.slot capacity w
    go false = w
slots-within xs old e r q w = w

pub masters-most : (old : ℕ → ℕ) (e : Event) (i n : ℕ) → n ≤ old i → n ≤ masters_after old e i
masters-most old (CheckEnd j) i n f = go (cond (eqb j i) 1 0)
  where
    go : (k : ℕ) → n ≤ k + old i
    go k = omega (arith, f)
masters-most old e i n f = f

pub lsns-most : (old more n : ℕ) → n ≤ old → n ≤ old + more
lsns-most old more n f = omega (arith, f)

-- what was within the sums is within those after any event that leaves the slots as they are, or whose slots aren't below what they
-- have at least then
pub bounds-with : (seen : DeviceImages) {leaves : Outcomes} (c : Parts) (b : Bounds) (e : Event) (r : Reply)
    → ((moved keeps : Keeps) (p : ℕ)
    → AreAtLeast (capacities (version_of (tails_of (log_by c moved)) (disk_page (seen 0)) keeps p)) ((bounds_after b e r).least p))
    → FitsBounds seen leaves c b → FitsBounds seen leaves c (bounds_after b e r)
bounds-with seen c b e r least f = record {
  slots = λ moved keeps p. slots-within _ b.slots e r p (f.slots moved keeps p);
  least = least;
  reach = λ moved i low high.
      let more : b.reach i ≤ (bounds_after b e r).reach i = go (cond (eqb _ i) (cond (counts e r) (cost e) 0) 0) (b.reach i) in
      let f = f.reach moved i low high in
      (at-most _ _ _ f.0 more, at-most _ _ _ f.1 more);
  lsns = lsns-most b.lsns (cond (is_wait r) 0 4) _ f.lsns;
  masters = λ i low high. masters-most b.masters e i _ (f.masters i low high);
  left_masters = λ i low high bytes left. masters-most b.masters e i _ (f.left_masters i low high bytes left);
}
  where
    go : (x y : ℕ) → y ≤ x + y
    go x y = omega arith

pub bounds-stay : (seen : DeviceImages) {leaves : Outcomes} (c : Parts) (b : Bounds) (e : Event) (r : Reply) → TellsNoPlace r
    → FitsBounds seen leaves c b → FitsBounds seen leaves c (bounds_after b e r)
bounds-stay seen c b e r told f = bounds-with seen c b e r
    (λ moved keeps p. subst (AreAtLeast _) (sym (least-kept b.least e r told p)) (f.least moved keeps p)) f

-- ---- waits

module _ (seen : DeviceImages) (leaves : Outcomes) (c : Parts) (w : Core) (f : Fits seen leaves c w) where
  abbrev m : State
  m = w.scene.state

  -- whoever doesn't run waits for nothing
  pub running-wait : (t : TxnId) → of_running m w.scene.waits t ≡ w.scene.waits t
  running-wait t = go (is_running (m.part t).life) refl
    where
      go : (b : Bool) → is_running (m.part t).life ≡ b → cond {A = Option Wait} b (w.scene.waits t) None ≡ w.scene.waits t
      go true e = refl
      go false e = sym (f.waiting t e)

  nobody-gone : is_running (m.part nobody).life ≡ true → ⊥
  nobody-gone runs = absurd-number (f.good.numbered nobody (λ gone. let clash = sym (ap is_running gone) ∙ runs in absurd (cc)))
    where
      absurd-number : HasNumber nobody → ⊥
      absurd-number h = let low = h.0 in absurd (omega (arith, low))

  nobody-waits : w.scene.waits nobody ≡ None
  nobody-waits = go (is_running (m.part nobody).life) refl
    where
      go : (b : Bool) → is_running (m.part nobody).life ≡ b → w.scene.waits nobody ≡ None
      go true e = absurd (nobody-gone e)
      go false e = f.waiting nobody e

  -- the waits once t waits for nothing
  pub ended-wait : (t u : TxnId) → of_running m (with_wait t None w.scene.waits) u ≡ with_wait t None w.scene.waits u
  ended-wait t u = go (same_txn t u)
    where
      none : (b : Bool) → cond {A = Option Wait} b None None ≡ None
      none true = refl
      none false = refl

      go : (b : Bool) → cond {A = Option Wait} (is_running (m.part u).life) (cond {A = Option Wait} b None (w.scene.waits u)) None
          ≡ cond {A = Option Wait} b None (w.scene.waits u)
      go true = none (is_running (m.part u).life)
      go false = running-wait u

  -- an event of no transaction leaves each wait
  pub none-ended : (u : TxnId) → of_running m (with_wait nobody None w.scene.waits) u ≡ w.scene.waits u
  none-ended u = ended-wait nobody u ∙ ⊎_elim
      (λ e. subst (λ (v : TxnId). with_wait nobody None w.scene.waits v ≡ w.scene.waits v) e
      (ap (λ (b : Bool). cond {A = Option Wait} b None (w.scene.waits nobody)) (eq-same nobody nobody refl) ∙ sym nobody-waits))
      (λ ne. ap (λ (b : Bool). cond {A = Option Wait} b None (w.scene.waits u)) (ne-same nobody u ne))
      (cases_txn nobody u)

  -- one that begins to wait, while it runs
  pub begun-wait : (t : TxnId) (wait : Option Wait) → is_running (m.part t).life ≡ true
      → (u : TxnId) → of_running m (with_wait t wait w.scene.waits) u ≡ with_wait t wait w.scene.waits u
  begun-wait t wait runs u = ⊎_elim
      (λ e. subst (λ (v : TxnId). of_running m (with_wait t wait w.scene.waits) v ≡ with_wait t wait w.scene.waits v) e
      (ap (λ (b : Bool). cond {A = Option Wait} b (with_wait t wait w.scene.waits t) None) runs))
      (λ ne. let apart = ne-same t u ne in
      ap (λ (b : Bool). cond {A = Option Wait} (is_running (m.part u).life) (cond {A = Option Wait} b wait (w.scene.waits u)) None) apart
      ∙ running-wait u ∙ sym (ap (λ (b : Bool). cond {A = Option Wait} b wait (w.scene.waits u)) apart))
      (cases_txn t u)

-- ---- locks that are held as they were

module _ (locks : LockTable) (seen : DeviceImages) (leaves : Outcomes) (pend : Pending) (c : Parts) (m : State) (g : Good seen leaves pend c m)
    (same : (t : TxnId) (r : Rid) → held locks t r ≡ held c.locks t r) where
  abbrev relocked : Parts
  relocked = with_locks locks c

  pub relocked-good : Good seen leaves pend relocked m
  relocked-good = record {
    shape = record {
      logs = g.shape.logs;
      pools = g.shape.pools;
      txns = g.shape.txns;
      statuses = g.shape.statuses;
      epochs = g.shape.epochs;
      masters = g.shape.masters;
      checks = g.shape.checks;
      others = g.shape.others;
      owed = g.shape.owed;
      loose = g.shape.loose;
      own_log = g.shape.own_log;
      own_txns = g.shape.own_txns;
    };
    half = λ moved. let h = g.half moved in
        record {
          coherent = h.coherent;
          soundly = h.soundly;
          gives = h.gives;
          claimed = h.claimed;
          held = h.held;
          epochs = h.epochs;
          checks = h.checks;
        };
    places = g.places;
    others = g.others;
    settled = λ j lo hi e. let s = g.settled j lo hi e in
        record { only = s.only; stands = s.stands; one_place = s.one_place; counted = s.counted; epoch = s.epoch };
    disk_settled = g.disk_settled;
    disk_lsns = g.disk_lsns;
    last = g.last;
    owed = g.owed;
    owed_loose = g.owed_loose;
    kept = g.kept;
    placed = g.placed;
    listed = g.listed;
    marked = g.marked;
    named = g.named;
    numbered = g.numbered;
    recoverers = g.recoverers;
    not_closed = g.not_closed;
    instances = λ k lo hi. let old = g.instances k lo hi in
        record {
          status = old.status;
          epoch = old.epoch;
          first = old.first;
          own = old.own;
          table = old.table;
          begins = old.begins;
          names = old.names;
        };
    told = λ k lo hi tells e. let old = g.told k lo hi tells e in
        record { rows = old.rows; owes = old.owes; reserves = old.reserves; spare = old.spare };
    at_rest = g.at_rest;
    begun = g.begun;
    at_work = g.at_work;
    going = g.going;
    pending = underway pend g.pending;
    locks = λ t r. same t r ∙ g.locks t r;
    gone = g.gone;
    asks = g.asks;
    checking = λ k b is. let old = g.checking k b is in record { takes = old.takes; spelled = old.spelled; begun = old.begun };
  }
    where
      underway : (u : Pending) → IsUnderWay c m u → IsUnderWay relocked m u
      underway Pending.Idle h = tt
      underway (Pending.Commits t) h = record { runs = h.runs; up = h.up; committed = h.committed }
      underway (Pending.Starts k) h = record { waits = h.waits; above = h.above; older = h.older }

-- ---- the world after a call that leaves state and pages

-- the waits are these, and the sums are those after the event
abbrev pub passed : Core → Waits → Event → Reply → Core
passed w asks e r = record {
  scene = record { state = w.scene.state; waits = asks };
  pages = w.pages;
  bounds = bounds_after w.bounds e r;
}

module _ (locks : LockTable) (asks : Waits) (e : Event) (r : Reply) (seen : DeviceImages) (leaves : Outcomes) (c : Parts) (w : Core)
    (f : Fits seen leaves c w) where
  -- A call that changes locks alone, and these in their waits alone: the complex fits on.
  pub stays-fitting : TellsNoPlace r → ((t : TxnId) (q : Rid) → held locks t q ≡ held c.locks t q) → ((t : TxnId) → waits locks t ≡ asks t)
      → ((t : TxnId) → is_running (w.scene.state.part t).life ≡ false → asks t ≡ None)
      → Fits seen leaves (with_locks locks c) (passed w asks e r)
  stays-fitting told same now running = record {
    good = relocked-good locks seen leaves Pending.Idle c w.scene.state f.good same;
    idle = f.idle;
    rolling = f.rolling;
    waits = now;
    waiting = running;
    put = f.put;
    pages = record {
      frames = f.pages.frames;
      entry = f.pages.entry;
      asks = f.pages.asks;
      number = f.pages.number;
      begun = f.pages.begun;
    };
    bounds = relock-bounds (bounds-stay seen c w.bounds e r told f.bounds);
    doubts = f.doubts;
  }
    where
      relock-bounds : FitsBounds seen leaves c (bounds_after w.bounds e r) → FitsBounds seen leaves (with_locks locks c) (bounds_after w.bounds e r)
      relock-bounds b = record { slots = b.slots; least = b.least; reach = b.reach; lsns = b.lsns; masters = b.masters; left_masters = b.left_masters }

  -- One that changes nothing at all, of an event that sets no wait.
  pub nothing-fits : TellsNoPlace r → Fits seen leaves c (passed w w.scene.waits e r)
  nothing-fits told = record {
    good = f.good;
    idle = f.idle;
    rolling = f.rolling;
    waits = f.waits;
    waiting = f.waiting;
    put = f.put;
    pages = f.pages;
    bounds = bounds-stay seen c w.bounds e r told f.bounds;
    doubts = f.doubts;
  }

-- the event turns the world so, where it leaves state and pages
pub turns-on : (w : Core) (asks : Waits) (e : Event) (r : Reply) → Step w.scene.state e r w.scene.state
    → ((t : TxnId) → asks t ≡ waits_after w.scene.state e None r w.scene.waits t)
    → IsExact w.scene (txn_of e) (asked_of e None) r → IsOfFreeSlot w.scene.state e None r
    → Moves w.scene.state w.pages e r w.scene.state w.pages → Within w.scene.state w.bounds e r → Turns w e r (passed w asks e r)
turns-on w asks e r step then exact unused moves within = record {
  wanted = None;
  near = tt;
  plays = record { step = step; waits = then };
  exact = exact;
  unused = unused;
  moves = moves;
  within = within;
  sums = refl;
}

-- ---- devices that stay as they are

pub still-passes : {G : Type 0} (tell : Telling G) (d : G) (m m' : State)
    → ((img : DeviceImages) → tell.since d (tell.moment d) img → Leaves (tell.leaves d) img)
    → ((img : DeviceImages) → Leaves (tell.leaves d) img → stands_for img m) → Passes tell stands_for d d m m'
still-passes tell d m m' now each = record {
  time = record { later = omega arith; splits = λ t img le s. inl s; keeps = λ t img le s. s };
  span = record { each = λ img s. inl (each img (now img s)) };
}

-- each image that a crash leaves of a complex that fits stands
pub fits-left : (seen : DeviceImages) (leaves : Outcomes) (c : Parts) (w : Core) → Fits seen leaves c w → (img : DeviceImages) → Leaves leaves img
    → stands_for img w.scene.state
fits-left seen leaves c w f img left = left-stands leaves seen img Pending.Idle c w.scene.state f.good left

-- The call of an event that makes no device call serves it, where the event turns the world so and the complex fits that.
pub still-serves : {G : Type 0} (tell : Telling G) (e : Event) (r : Reply) (old new : Complex G) (w w' : Core) → old.rig ≡ new.rig
    → ((img : DeviceImages) → tell.since old.rig (tell.moment old.rig) img → Leaves (tell.leaves old.rig) img)
    → fits_by tell.seen tell.leaves old w → Turns w e r w' → fits_by tell.seen tell.leaves new w'
    → Serves {C = Complex G} tell stands_for (λ c. c.rig) (fits_by tell.seen tell.leaves) e r old new w w'
still-serves tell e r old new w w' same now f turns then = record {
  turns = turns;
  fits_then = then;
  passes = subst (λ d. Passes tell stands_for old.rig d w.scene.state w'.scene.state) same
      (still-passes tell old.rig w.scene.state w'.scene.state now (fits-left (tell.seen old.rig) (tell.leaves old.rig) (parts old) w f));
}

-- Want of memory that leaves the complex as it is spares it.
pub still-spares : {G : Type 0} (tell : Telling G) (old new : Complex G) (w : Core) → old ≡ new
    → ((img : DeviceImages) → tell.since old.rig (tell.moment old.rig) img → Leaves (tell.leaves old.rig) img)
    → fits_by tell.seen tell.leaves old w
    → Spares {C = Complex G} tell stands_for (λ c. c.rig) (fits_by tell.seen tell.leaves) old new w
still-spares tell old new w same now f = subst
    (λ c. Spares {C = Complex _} tell stands_for (λ c. c.rig) (fits_by tell.seen tell.leaves) old c w) same
    (record {
      fits_still = f;
      passes = still-passes tell old.rig w.scene.state w.scene.state now
          (fits-left (tell.seen old.rig) (tell.leaves old.rig) (parts old) w f);
    })
