-- A page that comes into a pool, or changes its place in the directory: what held of the complex holds of it then.
use Rattle.std.proofs.Common.{◌≡◌, ◌≢◌, ℕ, ◌-◌, ◌≤◌, true, length, get_or, refl, sym, ap, ◌∙◌, subst, ⊎_elim}
use Rattle.std.specs.Prelude.{Option, None, Some}
use Rattle.std.proofs.lemmas.Bool.{cases_eq}
use Rattle.std.proofs.lemmas.List.{length-set}
use Rattle.sd_base.specs.declared.place.Mode.{Mode}
use Rattle.sd_page.specs.Page.{Page}
use Rattle.sd_model.specs.State.{State}
use Rattle.sd_pagelock.specs.declared.queue.Ask.{Ask}
use Rattle.sd_pagelock.specs.Asks.{is_open_ask}
use Rattle.sd_pagelock.specs.Directory as directory
use Rattle.sd_pagelock.specs.Directory.{DirectoryState, asks_at, entry_at, kept_rec, rec_lsn_at}
use Rattle.sd_pagelock.specs.Places.{PageEntry, changed, is_free}
use Rattle.sd_pagelock.specs.Rows.{locked}
use Rattle.sd_pagelock.proofs.Uses.{clean-locked}
use Rattle.sd_pool.specs.Buffers as buffers
use Rattle.sd_pool.specs.Buffers.{Buffers}
use Rattle.sd_rig.specs.Devices as rig
use Rattle.sd_chain.specs.Bytes.{disk_page}
use Rattle.sd_chain.specs.Images.{Keeps}
use Rattle.sd_chain.specs.Records.{Each}
use Rattle.sd_chain.specs.AppendedRecords as changes_law
use Rattle.sd_chain.specs.Coherent.{Coherent}
use Rattle.sd_chain.specs.World.{Base}
use Rattle.sd_chain.proofs.Changes.{rest-keeps}
use Rattle.sd_chain.proofs.Moves.{lock-keeps, row_keeps-rec}
use Rattle.sd_chain.specs.Logs.{Outcomes, may_of}
use Rattle.sd_state.specs.Good.{Good, Half, IsUnderWay, base_of, dir_of}
use Rattle.sd_state.specs.Images.{leaves_by, log_by}
use Rattle.sd_state.specs.Locking.{IsSet, with_place}
use Rattle.sd_state.specs.Parts.{Parts, is_active, no_pool, pool_at}
use Rattle.sd_state.specs.Values.{Pending}
use Rattle.sd_state.proofs.ChangedLists.{each-first, each-left}
use Rattle.sd_state.proofs.Items.{item-is, item-kept, item-set}

-- ---- a page has another place, and one pool may be another

module _ (p i : ℕ) (to : PageEntry) (rec : Option ℕ) (pool : Buffers) (places : DirectoryState Page) (seen : rig.DeviceImages)
    (leaves : Outcomes) (pend : Pending) (c : Parts) (m : State) (g : Good seen leaves pend c m)
    (set : IsSet p to rec c.directory places)
    (same : changed to ≡ changed (entry_at c.directory p)) where
  abbrev new : Parts
  new = with_place i pool places c

  module _ (moved : Keeps) (there : Coherent (base_of seen (leaves_by c moved leaves) (log_by c moved) c) (dir_of new)) where
    abbrev leaves' : Outcomes
    leaves' = leaves_by c moved leaves

    abbrev old_base : Base (may_of leaves')
    old_base = base_of seen leaves' (log_by c moved) c

    h : Half seen leaves' (log_by c moved) pend c m
    h = g.half moved

    -- each page keeps its RecLSN
    rec-same : (q : ℕ) → rec_lsn_at places q ≡ rec_lsn_at c.directory q
    rec-same q = ⊎_elim
        (λ e. subst (λ (k : ℕ). rec_lsn_at places k ≡ rec_lsn_at c.directory k) (sym e)
        (set.rec_lsn ∙ row_keeps-rec (may_of leaves') old_base (dir_of c) p to rec h.coherent same))
        (λ ne. set.other_rec_lsns q ne)
        (cases_eq q p)

    rests : changes_law.Rests old_base (base_of seen leaves' (log_by c moved) new)
    rests = record {
      bases = λ j. refl;
      tails = λ j. refl;
      version = λ keeps q. refl;
      safe = h.coherent.safe;
      reads = h.coherent.reads;
      rec_lsn = rec-same;
      stays = record {
        less = λ q x may. may;
        disk = λ q. refl;
        loose = λ j lo. refl;
        loose_disk = refl;
        active = λ j. refl;
        up = λ j. refl;
        due = refl;
      };
    }

    half-there : Half seen leaves' (log_by c moved) pend new m
    half-there = record {
      coherent = rest-keeps (may_of leaves') (may_of leaves') old_base (base_of seen leaves' (log_by c moved) new) (dir_of new)
          there rests;
      soundly = h.soundly;
      gives = h.gives;
      claimed = h.claimed;
      held = h.held;
      epochs = h.epochs;
      checks = h.checks;
    }

  abbrev IsAsk : PageEntry → Ask → Type 0
  IsAsk e ask = (is_active c ask.by ≡ true) × (is_open_ask e ask ≡ true)

  asks-here : Each (IsAsk (entry_at places p)) (asks_at places p)
  asks-here = subst (λ (e : PageEntry). Each (IsAsk e) (asks_at places p)) (sym set.entry)
      (subst (Each (IsAsk to)) (sym set.asks)
      (each-left (λ (ask : Ask). is_active c ask.by ≡ true) (is_open_ask to) (asks_at c.directory p)
      (each-first (λ (ask : Ask). is_active c ask.by ≡ true) (λ (ask : Ask). is_open_ask (entry_at c.directory p) ask ≡ true)
      (asks_at c.directory p) (g.asks p))))

  asks-there : (q : ℕ) → Each (IsAsk (entry_at places q)) (asks_at places q)
  asks-there q = ⊎_elim
      (λ e. subst (λ (k : ℕ). Each (IsAsk (entry_at places k)) (asks_at places k)) (sym e) asks-here)
      (λ ne. subst (λ (e : PageEntry). Each (IsAsk e) (asks_at places q)) (sym (set.others q ne))
      (subst (Each (IsAsk (entry_at c.directory q))) (sym (set.other_asks q ne)) (g.asks q)))
      (cases_eq q p)

  -- where the directory and the pools are coherent then, the complex is good for the same state
  pub placed-good : ((moved : Keeps) → Coherent (base_of seen (leaves_by c moved leaves) (log_by c moved) c) (dir_of new))
      → Good seen leaves pend new m
  placed-good there = record {
    shape = record {
      logs = g.shape.logs;
      pools = length-set c.pools (i - 1) pool ∙ g.shape.pools;
      txns = g.shape.txns;
      statuses = g.shape.statuses;
      epochs = g.shape.epochs;
      masters = g.shape.masters;
      checks = g.shape.checks;
      others = g.shape.others;
      owed = g.shape.owed;
      loose = g.shape.loose;
      own_log = g.shape.own_log;
      own_txns = g.shape.own_txns;
    };
    half = λ moved. half-there moved (there moved);
    places = g.places;
    others = g.others;
    settled = λ j lo hi e. let s = g.settled j lo hi e in
        record { only = s.only; stands = s.stands; one_place = s.one_place; counted = s.counted; epoch = s.epoch };
    disk_settled = g.disk_settled;
    disk_lsns = g.disk_lsns;
    last = g.last;
    owed = g.owed;
    owed_loose = g.owed_loose;
    kept = g.kept;
    placed = g.placed;
    listed = g.listed;
    marked = g.marked;
    named = g.named;
    numbered = g.numbered;
    recoverers = g.recoverers;
    not_closed = g.not_closed;
    instances = λ k lo hi. let old = g.instances k lo hi in
        record {
          status = old.status;
          epoch = old.epoch;
          first = old.first;
          own = old.own;
          table = old.table;
          begins = old.begins;
          names = old.names;
        };
    told = λ k lo hi tells e. let old = g.told k lo hi tells e in
        record { rows = old.rows; owes = old.owes; reserves = old.reserves; spare = old.spare };
    at_rest = g.at_rest;
    begun = g.begun;
    at_work = g.at_work;
    going = g.going;
    pending = underway pend g.pending;
    locks = g.locks;
    gone = g.gone;
    asks = asks-there;
    checking = λ k b is. let old = g.checking k b is in record { takes = old.takes; spelled = old.spelled; begun = old.begun };
  }
    where
      underway : (u : Pending) → IsUnderWay c m u → IsUnderWay new m u
      underway Pending.Idle h = tt
      underway (Pending.Commits t) h = record { runs = h.runs; up = h.up; committed = h.committed }
      underway (Pending.Starts k) h = record { waits = h.waits; above = h.above; older = h.older }

-- ---- a free page that is read from the data device

module _ (p i : ℕ) (mode : Mode) (image : Page) (pool : Buffers) (places : DirectoryState Page) (seen : rig.DeviceImages)
    (leaves : Outcomes) (pend : Pending) (c : Parts) (m : State) (low : 1 ≤ i) (high : i ≤ 8) (g : Good seen leaves pend c m)
    (here : buffers.image_at pool p ≡ Some image)
    (else : (q : ℕ) → q ≢ p → buffers.image_at pool q ≡ buffers.image_at (pool_at c i) q)
    (set : IsSet p (locked i mode) None c.directory places)
    (moving : (q : ℕ) → directory.moving_image_at places q ≡ directory.moving_image_at c.directory q)
    (idle : c.due ≡ None) (free : entry_at c.directory p ≡ PageEntry.Free) (active : is_active c i ≡ true)
    (newest : image ≡ disk_page (seen 0) p) where
  abbrev locked' : Parts
  locked' = with_place i pool places c

  pool-here : pool_at locked' i ≡ pool
  pool-here = item-set no_pool c.pools i pool low high g.shape.pools

  pool-else : (k : ℕ) → k ≢ i → pool_at locked' k ≡ pool_at c k
  pool-else = item-kept no_pool c.pools i pool low

  only-here : (k q : ℕ) → k ≢ i → (dir_of locked').pool k q ≡ (dir_of c).pool k q
  only-here k q ne = ap (λ (b : Buffers). buffers.image_at b q) (pool-else k ne)

  -- other pages stay in each pool
  elsewhere : (k q : ℕ) → q ≢ p → (dir_of locked').pool k q ≡ (dir_of c).pool k q
  elsewhere k q ne = ⊎_elim
      (λ e. subst (λ (j : ℕ). (dir_of locked').pool j q ≡ (dir_of c).pool j q) (sym e)
      (ap (λ (b : Buffers). buffers.image_at b q) pool-here ∙ else q ne))
      (λ k_ne. only-here k q k_ne)
      (cases_eq k i)

  locks-coherent : (moved : Keeps) → Coherent (base_of seen (leaves_by c moved leaves) (log_by c moved) c) (dir_of locked')
  locks-coherent moved =
      let leaves' : Outcomes = leaves_by c moved leaves in
      lock-keeps (may_of leaves') (base_of seen leaves' (log_by c moved) c) (dir_of c) (dir_of locked') p i mode
      (record {
        coherent = (g.half moved).coherent;
        idle = idle;
        forced = λ j excl. let clash = sym free ∙ excl in absurd (cc);
        others = record { entries = set.others; pools = elsewhere; moving = λ q ne. moving q };
      })
      active (ap is_free free) set.entry
      (record {
        here = ap (λ (b : Buffers). buffers.image_at b p) pool-here ∙ here ∙ ap (λ (x : Page). Some x) newest;
        others = λ k ne. only-here k p ne;
      })
      (moving p)

  pub locked-good : Good seen leaves pend locked' m
  locked-good = placed-good p i (locked i mode) None pool places seen leaves pend c m g set
      (clean-locked i mode ∙ sym (ap changed free)) locks-coherent

-- the pool that is lent at its place
pub pool-lent : (c : Parts) (i at : ℕ) (pool : Buffers) → 1 ≤ i → i ≤ 8 → length c.pools ≡ 8 → at ≡ i - 1
    → pool ≡ get_or c.pools at pool → pool_at c i ≡ pool
pool-lent c i at pool low high eight place is =
    item-is no_pool c.pools i pool low high eight (is ∙ ap (λ (n : ℕ). get_or c.pools n pool) place)
