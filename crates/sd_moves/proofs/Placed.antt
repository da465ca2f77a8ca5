-- How a complex stays good while pools and directory change: for the moves of a page.
use Rattle.std.proofs.Common.{◌≡◌, ◌≢◌, ◌⊎◌, ℕ, ◌-◌, ◌≤◌, Bool, true, false, cond, eqb, List, [], ◌∷◌, length, refl, sym, ap, ◌∙◌, subst, ⊎_elim, eqb-true}
use Rattle.std.specs.Prelude.{Option, None, Some, is_some, not, slice_set, ◌&&◌}
use Rattle.std.proofs.lemmas.Bool.{cases_eq}
use Rattle.std.proofs.lemmas.List.{length-set}
use Rattle.std.specs.Global.{Box}
use Rattle.std.specs.Option.{option_map_or}
use Rattle.sd_base.specs.Sets.{has}
use Rattle.sd_base.specs.declared.place.Mode.{Mode}
use Rattle.sd_base.specs.declared.place.Mode.TheVariants as modes
use Rattle.sd_log.specs.Logs.{begun_at}
use Rattle.sd_page.specs.Page.{Page}
use Rattle.sd_model.specs.State.{State}
use Rattle.sd_pagelock.specs.declared.queue.Ask.{Ask}
use Rattle.sd_pagelock.specs.Asks.{is_open_ask, queued, stronger}
use Rattle.sd_pagelock.specs.Directory as directory
use Rattle.sd_pagelock.specs.Directory.{DirectoryState, asks_at, entry_at, rec_lsn_at}
use Rattle.sd_pagelock.specs.Places.{Formed, PageEntry, changed, holds, passes, uses}
use Rattle.sd_pagelock.specs.Rows.{fallen, is_only, may_evict, may_raise, raised}
use Rattle.sd_pagelock.proofs.Drops.{changed-fallen}
use Rattle.sd_pagelock.proofs.Losses.{changed-raised}
use Rattle.sd_pagelock.proofs.Uses.{raise-shares}
use Rattle.sd_pool.specs.Buffers as buffers
use Rattle.sd_pool.specs.Buffers.{Buffers}
use Rattle.sd_rig.specs.Devices as rig
use Rattle.sd_chain.specs.Images.{Keeps}
use Rattle.sd_chain.specs.Laws.{May}
use Rattle.sd_chain.specs.Records.{Each}
use Rattle.sd_chain.specs.AppendedRecords as changes_law
use Rattle.sd_chain.specs.Coherent.{Coherent, Quiet, Sits}
use Rattle.sd_chain.specs.Moves.{OneCopy}
use Rattle.sd_chain.specs.World.{Base, Dir, newest_version}
use Rattle.sd_chain.proofs.Changes.{rest-keeps}
use Rattle.sd_chain.proofs.Moves.{drop-keeps, raise-keeps, row_keeps-rec}
use Rattle.sd_chain.specs.Logs.{Outcomes, may_of}
use Rattle.sd_state.specs.Complexes.{unboxed}
use Rattle.sd_state.specs.Good.{Good, Half, IsUnderWay, base_of, dir_of}
use Rattle.sd_state.specs.Images.{leaves_by, log_by}
use Rattle.sd_state.specs.Locking.{IsSet, with_place}
use Rattle.sd_state.specs.Parts.{Parts, is_active, log_at, no_pool, other_at, pool_at}
use Rattle.sd_state.specs.Values.{Pending}
use Rattle.sd_state.proofs.ChangedLists.{each-first, each-left}
use Rattle.sd_state.proofs.Unboxed.{image-unboxed}
use Rattle.sd_state.proofs.Items.{item-kept, item-set}
use Rattle.sd_moves.specs.Places.{IsAsked, with_directory}

-- the ask's instance is active, and the place leaves the ask open
abbrev pub IsLiveAsk : (ℕ → Bool) → PageEntry → Ask → Type 0
IsLiveAsk active e ask = (active ask.by ≡ true) × (is_open_ask e ask ≡ true)

-- the tail of a log is the same, wherever the log begins
pub tail-same : (c : Parts) (moved : Keeps) (j : ℕ) → (log_by c moved j).tail ≡ (log_at c j).tail
tail-same c moved j = by (moved j) (other_at c j)
  where
    by : (b : Bool) (o : Option ℕ)
        → (cond b (option_map_or (λ place. begun_at place (log_at c j)) o (log_at c j)) (log_at c j)).tail ≡ (log_at c j).tail
    by true None = refl
    by true (Some place) = refl
    by false o = refl

-- ---- pools and directory are others, and each page keeps its RecLSN

module _ (pools : List Buffers) (places : DirectoryState Page) (seen : rig.DeviceImages) (leaves : Outcomes) (pend : Pending) (c : Parts)
    (m : State) (g : Good seen leaves pend c m) (eight : length pools ≡ 8)
    (recs : (q : ℕ) → rec_lsn_at places q ≡ rec_lsn_at c.directory q)
    (asks : (q : ℕ) → Each (IsLiveAsk (is_active c) (entry_at places q)) (asks_at places q)) where
  abbrev turned : Parts
  turned = record c { pools = pools; directory = places }

  module _ (moved : Keeps) (there : Coherent (base_of seen (leaves_by c moved leaves) (log_by c moved) c) (dir_of turned)) where
    abbrev leaves' : Outcomes
    leaves' = leaves_by c moved leaves

    abbrev old_base : Base (may_of leaves')
    old_base = base_of seen leaves' (log_by c moved) c

    h : Half seen leaves' (log_by c moved) pend c m
    h = g.half moved

    rests : changes_law.Rests old_base (base_of seen leaves' (log_by c moved) turned)
    rests = record {
      bases = λ j. refl;
      tails = λ j. refl;
      version = λ keeps q. refl;
      safe = h.coherent.safe;
      reads = h.coherent.reads;
      rec_lsn = recs;
      stays = record {
        less = λ q x may. may;
        disk = λ q. refl;
        loose = λ j lo. refl;
        loose_disk = refl;
        active = λ j. refl;
        up = λ j. refl;
        due = refl;
      };
    }

    half-turned : Half seen leaves' (log_by c moved) pend turned m
    half-turned = record {
      coherent = rest-keeps (may_of leaves') (may_of leaves') old_base (base_of seen leaves' (log_by c moved) turned)
          (dir_of turned) there rests;
      soundly = h.soundly;
      gives = h.gives;
      claimed = h.claimed;
      held = h.held;
      epochs = h.epochs;
      checks = h.checks;
    }

  -- where the directory and the pools are coherent then, the complex is good for the same state
  pub turned-good : ((moved : Keeps) → Coherent (base_of seen (leaves_by c moved leaves) (log_by c moved) c) (dir_of turned))
      → Good seen leaves pend turned m
  turned-good there = record {
    shape = record {
      logs = g.shape.logs;
      pools = eight;
      txns = g.shape.txns;
      statuses = g.shape.statuses;
      epochs = g.shape.epochs;
      masters = g.shape.masters;
      checks = g.shape.checks;
      others = g.shape.others;
      owed = g.shape.owed;
      loose = g.shape.loose;
      own_log = g.shape.own_log;
      own_txns = g.shape.own_txns;
    };
    half = λ moved. half-turned moved (there moved);
    places = g.places;
    others = g.others;
    settled = λ j lo hi e. let s = g.settled j lo hi e in
        record { only = s.only; stands = s.stands; one_place = s.one_place; counted = s.counted; epoch = s.epoch };
    disk_settled = g.disk_settled;
    disk_lsns = g.disk_lsns;
    last = g.last;
    owed = g.owed;
    owed_loose = g.owed_loose;
    kept = g.kept;
    placed = g.placed;
    listed = g.listed;
    marked = g.marked;
    named = g.named;
    numbered = g.numbered;
    recoverers = g.recoverers;
    not_closed = g.not_closed;
    instances = λ k lo hi. let old = g.instances k lo hi in
        record {
          status = old.status;
          epoch = old.epoch;
          first = old.first;
          own = old.own;
          table = old.table;
          begins = old.begins;
          names = old.names;
        };
    told = λ k lo hi tells e. let old = g.told k lo hi tells e in
        record { rows = old.rows; owes = old.owes; reserves = old.reserves; spare = old.spare };
    at_rest = g.at_rest;
    begun = g.begun;
    at_work = g.at_work;
    going = g.going;
    pending = underway pend g.pending;
    locks = g.locks;
    gone = g.gone;
    asks = asks;
    checking = λ k b is. let old = g.checking k b is in record { takes = old.takes; spelled = old.spelled; begun = old.begun };
  }
    where
      underway : (u : Pending) → IsUnderWay c m u → IsUnderWay turned m u
      underway Pending.Idle h = tt
      underway (Pending.Commits t) h = record { runs = h.runs; up = h.up; committed = h.committed }
      underway (Pending.Starts k) h = record { waits = h.waits; above = h.above; older = h.older }

-- ---- no page moves

pub alike-coherent : {may : May} (b : Base may) (old new : Dir) → Coherent b old → ((q : ℕ) → new.entry q ≡ old.entry q)
    → ((k q : ℕ) → new.pool k q ≡ old.pool k q) → ((q : ℕ) → new.moving q ≡ old.moving q) → Coherent b new
alike-coherent {may} b old new c entries pools moving = record {
  safe = c.safe;
  eight = c.eight;
  reads = c.reads;
  still = c.still;
  copies = λ k q. pools k q ∙ subst (λ (e : PageEntry). old.pool k q ≡ cond (holds e k) (Some (newest_version b q)) None) (sym (entries q))
      (c.copies k q);
  moving = λ q. moving q ∙ subst (λ (e : PageEntry). old.moving q ≡ cond (passes e) (Some (newest_version b q)) None) (sym (entries q))
      (c.moving q);
  live = λ k q. subst (λ (e : PageEntry). uses e k ≡ true → b.active k ≡ true) (sym (entries q)) (c.live k q);
  unforced = λ j q. subst (λ (e : PageEntry). Quiet q (b.tails.tail j) ⊎ Sits b e j) (sym (entries q)) (c.unforced j q);
  ready = c.ready;
  marks = λ q. c.marks q ∙ ap changed (sym (entries q));
  clean = λ q is. c.clean q (ap changed (sym (entries q)) ∙ is);
  first = c.first;
  below = λ q l rec there. c.below q l rec (λ lost. there (entries q ∙ lost));
}

-- ---- one page has another place

module _ (p : ℕ) (to : PageEntry) (seen : rig.DeviceImages) (leaves : Outcomes) (pend : Pending) (c : Parts) (m : State)
    (g : Good seen leaves pend c m) (places : DirectoryState Page) (set : IsSet p to None c.directory places)
    (same : changed to ≡ changed (entry_at c.directory p)) where
  abbrev any_leaves : Outcomes
  any_leaves = leaves_by c (λ j. false) leaves

  -- each page keeps its RecLSN
  pub recs-set : (q : ℕ) → rec_lsn_at places q ≡ rec_lsn_at c.directory q
  recs-set q = ⊎_elim
      (λ e. subst (λ (k : ℕ). rec_lsn_at places k ≡ rec_lsn_at c.directory k) (sym e)
      (set.rec_lsn ∙ row_keeps-rec (may_of any_leaves) (base_of seen any_leaves (log_by c (λ j. false)) c) (dir_of c) p to None
      (g.half (λ j. false)).coherent same))
      (λ ne. set.other_rec_lsns q ne)
      (cases_eq q p)

  asks-here : Each (IsLiveAsk (is_active c) (entry_at places p)) (asks_at places p)
  asks-here = subst (λ (e : PageEntry). Each (IsLiveAsk (is_active c) e) (asks_at places p)) (sym set.entry)
      (subst (Each (IsLiveAsk (is_active c) to)) (sym set.asks)
      (each-left (λ (ask : Ask). is_active c ask.by ≡ true) (is_open_ask to) (asks_at c.directory p)
      (each-first (λ (ask : Ask). is_active c ask.by ≡ true) (λ (ask : Ask). is_open_ask (entry_at c.directory p) ask ≡ true)
      (asks_at c.directory p) (g.asks p))))

  -- and each ask that is left is open
  pub asks-set : (q : ℕ) → Each (IsLiveAsk (is_active c) (entry_at places q)) (asks_at places q)
  asks-set q = ⊎_elim
      (λ e. subst (λ (k : ℕ). Each (IsLiveAsk (is_active c) (entry_at places k)) (asks_at places k)) (sym e) asks-here)
      (λ ne. subst (λ (e : PageEntry). Each (IsLiveAsk (is_active c) e) (asks_at places q)) (sym (set.others q ne))
      (subst (Each (IsLiveAsk (is_active c) (entry_at c.directory q))) (sym (set.other_asks q ne)) (g.asks q)))
      (cases_eq q p)

-- ---- the only holder has the page alone

module _ (p i : ℕ) (seen : rig.DeviceImages) (leaves : Outcomes) (pend : Pending) (c : Parts) (m : State) (g : Good seen leaves pend c m)
    (places : DirectoryState Page) (set : IsSet p (raised i (entry_at c.directory p)) None c.directory places)
    (moving : (q : ℕ) → directory.moving_image_at places q ≡ directory.moving_image_at c.directory q)
    (idle : c.due ≡ None) (sole : may_raise i (entry_at c.directory p) ≡ true) where
  abbrev raise_to : PageEntry
  raise_to = raised i (entry_at c.directory p)

  raise-coherent : (moved : Keeps)
      → Coherent (base_of seen (leaves_by c moved leaves) (log_by c moved) c) (dir_of (with_directory places c))
  raise-coherent moved =
      let leaves' : Outcomes = leaves_by c moved leaves in
      raise-keeps (may_of leaves') (base_of seen leaves' (log_by c moved) c) (dir_of c) (dir_of (with_directory places c)) p i
      (record {
        coherent = (g.half moved).coherent;
        idle = idle;
        forced = λ j excl loose. absurd (raise-shares i (entry_at c.directory p) sole j true excl);
        others = record { entries = set.others; pools = λ k q ne. refl; moving = λ q ne. moving q };
      })
      sole set.entry (λ k. refl) (moving p)

  pub raised-good : Good seen leaves pend (with_directory places c) m
  raised-good = turned-good c.pools places seen leaves pend c m g g.shape.pools
      (recs-set p raise_to seen leaves pend c m g places set (changed-raised i (entry_at c.directory p)))
      (asks-set p raise_to seen leaves pend c m g places set (changed-raised i (entry_at c.directory p)))
      raise-coherent

-- ---- a copy goes

both_first : (a b : Bool) → (a && b) ≡ true → a ≡ true
both_first true b e = refl
both_first false b e = e

both_second : (a b : Bool) → (a && b) ≡ true → b ≡ true
both_second true b e = e
both_second false b e = absurd (cc)

-- who may evict a page holds it,
pub evicts-held : (i : ℕ) (e : PageEntry) → may_evict i e ≡ true → holds e i ≡ true
evicts-held i PageEntry.Free may = absurd (cc)
evicts-held i PageEntry.Lost may = absurd (cc)
evicts-held i (PageEntry.Shared set writer) may = both_first (has i set) (not (is_only i set && is_some writer)) may
evicts-held i (PageEntry.Excl holder dirty) may = both_first (eqb holder i) (not dirty) may
evicts-held i (PageEntry.Moving to mode rest dirty) may = may

-- and nobody has it alone, changed
pub evicts-clean : (i : ℕ) (e : PageEntry) → may_evict i e ≡ true → (j : ℕ) → e ≡ PageEntry.Excl j true → ⊥
evicts-clean i e may j excl =
    let b : (eqb j i && false) ≡ true = subst (λ (x : PageEntry). may_evict i x ≡ true) excl may in
    let f : false ≡ true = both_second (eqb j i) false b in cc

-- one pool is another, which differs in page p at most, and the directory is another
module _ (p i : ℕ) (pool : Buffers) (places : DirectoryState Page) (c : Parts) (low : 1 ≤ i) (high : i ≤ 8)
    (eight : length c.pools ≡ 8)
    (else : (q : ℕ) → q ≢ p → buffers.image_at pool q ≡ buffers.image_at (pool_at c i) q) where
  abbrev placed : Parts
  placed = with_place i pool places c

  pub pool-here : pool_at placed i ≡ pool
  pool-here = item-set no_pool c.pools i pool low high eight

  pub only-here : (k q : ℕ) → k ≢ i → (dir_of placed).pool k q ≡ (dir_of c).pool k q
  only-here k q ne = ap (λ (b : Buffers). buffers.image_at b q) (item-kept no_pool c.pools i pool low k ne)

  -- other pages stay in each pool
  pub elsewhere : (k q : ℕ) → q ≢ p → (dir_of placed).pool k q ≡ (dir_of c).pool k q
  elsewhere k q ne = ⊎_elim
      (λ e. subst (λ (j : ℕ). (dir_of placed).pool j q ≡ (dir_of c).pool j q) (sym e)
      (ap (λ (b : Buffers). buffers.image_at b q) pool-here ∙ else q ne))
      (λ k_ne. only-here k q k_ne)
      (cases_eq k i)

  -- and the copies of the page stay in the others
  pub one-copy : (copy : Option Page) → buffers.image_at pool p ≡ copy → OneCopy p i copy (dir_of c) (dir_of placed)
  one-copy copy is = record {
    here = ap (λ (b : Buffers). buffers.image_at b p) pool-here ∙ is;
    others = λ k ne. only-here k p ne;
  }

module _ (p i : ℕ) (pool : Buffers) (seen : rig.DeviceImages) (leaves : Outcomes) (pend : Pending) (c : Parts) (m : State)
    (low : 1 ≤ i) (high : i ≤ 8) (g : Good seen leaves pend c m)
    (gone : buffers.image_at pool p ≡ None)
    (else : (q : ℕ) → q ≢ p → buffers.image_at pool q ≡ buffers.image_at (pool_at c i) q)
    (places : DirectoryState Page) (set : IsSet p (fallen i (entry_at c.directory p)) None c.directory places)
    (moving : (q : ℕ) → directory.moving_image_at places q ≡ directory.moving_image_at c.directory q)
    (idle : c.due ≡ None) (formed : Formed (entry_at c.directory p)) (spare : may_evict i (entry_at c.directory p) ≡ true) where
  abbrev left : Parts
  left = with_place i pool places c

  abbrev fall_to : PageEntry
  fall_to = fallen i (entry_at c.directory p)

  drop-coherent : (moved : Keeps) → Coherent (base_of seen (leaves_by c moved leaves) (log_by c moved) c) (dir_of left)
  drop-coherent moved =
      let leaves' : Outcomes = leaves_by c moved leaves in
      drop-keeps (may_of leaves') (base_of seen leaves' (log_by c moved) c) (dir_of c) (dir_of left) p i
      (record {
        coherent = (g.half moved).coherent;
        idle = idle;
        forced = λ j excl loose. absurd (evicts-clean i (entry_at c.directory p) spare j excl);
        others = record {
          entries = set.others;
          pools = elsewhere p i pool places c low high g.shape.pools else;
          moving = λ q ne. moving q;
        };
      })
      formed (evicts-held i (entry_at c.directory p) spare) set.entry
      (one-copy p i pool places c low high g.shape.pools else None gone)
      (moving p)

  pub dropped-good : Good seen leaves pend left m
  dropped-good = turned-good (slice_set c.pools (i - 1) pool) places seen leaves pend c m g
      (length-set c.pools (i - 1) pool ∙ g.shape.pools)
      (recs-set p fall_to seen leaves pend c m g places set (changed-fallen i (entry_at c.directory p)))
      (asks-set p fall_to seen leaves pend c m g places set (changed-fallen i (entry_at c.directory p)))
      drop-coherent

-- ---- a page is used

module _ (i : ℕ) (pool : Buffers) (seen : rig.DeviceImages) (leaves : Outcomes) (pend : Pending) (c : Parts) (m : State)
    (low : 1 ≤ i) (high : i ≤ 8) (g : Good seen leaves pend c m)
    (images : (q : ℕ) → buffers.image_at pool q ≡ buffers.image_at (pool_at c i) q) where
  abbrev touched : Parts
  touched = with_place i pool c.directory c

  same-images : (k q : ℕ) → (dir_of touched).pool k q ≡ (dir_of c).pool k q
  same-images k q = ⊎_elim
      (λ e. subst (λ (j : ℕ). (dir_of touched).pool j q ≡ (dir_of c).pool j q) (sym e)
      (ap (λ (b : Buffers). buffers.image_at b q) (item-set no_pool c.pools i pool low high g.shape.pools) ∙ images q))
      (λ ne. ap (λ (b : Buffers). buffers.image_at b q) (item-kept no_pool c.pools i pool low k ne))
      (cases_eq k i)

  pub touched-good : Good seen leaves pend touched m
  touched-good = turned-good (slice_set c.pools (i - 1) pool) c.directory seen leaves pend c m g
      (length-set c.pools (i - 1) pool ∙ g.shape.pools) (λ q. refl) g.asks
      (λ moved. alike-coherent (base_of seen (leaves_by c moved leaves) (log_by c moved) c) (dir_of c) (dir_of touched)
      (g.half moved).coherent (λ q. refl) same-images (λ q. refl))

-- ---- an ask is queued

-- it is open, and so is the stronger of it and an older one
pub live-queued : (active : ℕ → Bool) (e : PageEntry) (i : ℕ) (mode : Mode) (asks : List Ask) → active i ≡ true
    → is_open_ask e (record { by = i; mode = mode }) ≡ true → Each (IsLiveAsk active e) asks
    → Each (IsLiveAsk active e) (queued i mode asks)
live-queued active e i mode [] live wanted h = ((live, wanted), tt)
live-queued active e i mode (a ∷ tail) live wanted h = go (eqb a.by i) refl (live-queued active e i mode tail live wanted h.1)
  where
    stays : (old new : Mode) → is_open_ask e (record { by = a.by; mode = old }) ≡ true
        → is_open_ask e (record { by = a.by; mode = new }) ≡ true
        → is_open_ask e (record { by = a.by; mode = stronger old new }) ≡ true
    stays modes.Shared new x y = y
    stays modes.Excl new x y = x

    go : (b : Bool) → eqb a.by i ≡ b → Each (IsLiveAsk active e) (queued i mode tail)
        → Each (IsLiveAsk active e)
        (cond {A = List Ask} b ((record { by = a.by; mode = stronger a.mode mode }) ∷ tail) (a ∷ queued i mode tail))
    go true is rest = (
      (
        h.0.0,
        stays a.mode mode h.0.1 (subst (λ (k : ℕ). is_open_ask e (record { by = k; mode = mode }) ≡ true)
            (sym (eqb-true a.by i is)) wanted),
      ),
      h.1,
    )
    go false is rest = (h.0, rest)

module _ (p : ℕ) (seen : rig.DeviceImages) (leaves : Outcomes) (pend : Pending) (c : Parts) (m : State)
    (g : Good seen leaves pend c m) (places : DirectoryState Page) (asks : List Ask) (asked : IsAsked p asks c.directory places)
    (live : Each (IsLiveAsk (is_active c) (entry_at c.directory p)) asks) where
  still-live : (q : ℕ) → Each (IsLiveAsk (is_active c) (entry_at places q)) (asks_at places q)
  still-live q = subst (λ (e : PageEntry). Each (IsLiveAsk (is_active c) e) (asks_at places q)) (sym (asked.in_place.entries q))
      (⊎_elim
      (λ e. subst (λ (k : ℕ). Each (IsLiveAsk (is_active c) (entry_at c.directory k)) (asks_at places k)) (sym e)
      (subst (Each (IsLiveAsk (is_active c) (entry_at c.directory p))) (sym asked.here) live))
      (λ ne. subst (Each (IsLiveAsk (is_active c) (entry_at c.directory q))) (sym (asked.others q ne)) (g.asks q))
      (cases_eq q p))

  pub asked-good : Good seen leaves pend (with_directory places c) m
  asked-good = turned-good c.pools places seen leaves pend c m g g.shape.pools asked.in_place.rec_lsns still-live
      (λ moved. alike-coherent (base_of seen (leaves_by c moved leaves) (log_by c moved) c) (dir_of c) (dir_of
      (with_directory places c))
      (g.half moved).coherent asked.in_place.entries (λ k q. refl) asked.in_place.moving)

-- the directory whose boxes are read, after an ask
pub asked-unboxed : (d e : DirectoryState (Box Page)) (p : ℕ) (asks : List Ask) → ((q : ℕ) → entry_at e q ≡ entry_at d q)
    → ((q : ℕ) → rec_lsn_at e q ≡ rec_lsn_at d q) → ((q : ℕ) → directory.moving_image_at e q ≡ directory.moving_image_at d q)
    → asks_at e p ≡ asks → ((q : ℕ) → q ≢ p → asks_at e q ≡ asks_at d q) → IsAsked p asks (unboxed d) (unboxed e)
asked-unboxed d e p asks entries rec_lsns images here others = record {
  in_place = record { entries = entries; rec_lsns = rec_lsns; moving = λ q. image-unboxed d e q (images q) };
  here = here;
  others = others;
}
