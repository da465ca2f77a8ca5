-- The parts of a complex that a fall leaves, of plain values. For the falls of src/crash.rt.
use Rattle.std.proofs.Common.{◌≡◌, ℕ, ◌-◌, ◌≤◌, Bool, true, false, cond, eqb, List, get_or, length, refl, sym, ap, ap₂, ◌∙◌, subst}
use Rattle.std.specs.Prelude.{Option, None, option_map, slice_set}
use Rattle.std.proofs.Math.ListN.{get_or-map}
use Rattle.std.specs.Box.{box_value}
use Rattle.std.specs.Global.{Box}
use Rattle.sd_base.specs.declared.ids.TxnId.{TxnId}
use Rattle.sd_page.specs.Page.{Page}
use Rattle.sd_pagelock.specs.Asks.{asks_without, open_asks}
use Rattle.sd_pagelock.specs.Directory.{DirectoryState, asks_at, entry_at, moving_image_at, rec_lsn_at}
use Rattle.sd_pagelock.specs.Places.{receives}
use Rattle.sd_pagelock.specs.Rows.{fallen}
use Rattle.sd_pool.specs.Buffers.{Buffers}
use Rattle.sd_reclock.specs.Locks.{LockTable, held, waits}
use Rattle.sd_txn.specs.Transactions.{Transactions}
use Rattle.sd_state.specs.Complexes.{unboxed}
use Rattle.sd_state.specs.Parts.{Begun, IsShape, Parts, no_txns, pool_at, txns_at}
use Rattle.sd_state.proofs.Answered.{table-lent}
use Rattle.sd_state.proofs.Items.{item-set}
use Rattle.sd_moves.specs.Falling.{HaveFallen, IsLeft, emptied_pool, with_lost, with_left}
use Rattle.sd_moves.proofs.FallSteps.{all-fallen}

-- the parts once pool, checkpoint, directory, locks and what is due are as a fall leaves them
pub left-parts : (i : ℕ) (old mid : Parts) (pools : List Buffers) (checks : List (Option Begun)) (d : DirectoryState Page) (l : LockTable)
    → mid ≡ record old { statuses = mid.statuses; owed = mid.owed; loose = mid.loose }
    → pools ≡ slice_set mid.pools (i - 1) (emptied_pool (pool_at mid i))
    → checks ≡ slice_set {A = Option Begun} mid.checks (i - 1) None
    → record mid { pools = pools; checks = checks; directory = d; locks = l; due = None }
    ≡ with_left i (record mid { pools = pools; checks = checks; directory = d; locks = l; due = None }) old
left-parts i old mid pools checks d l same pools_are checks_are =
    ap₂ (λ (ps : List Buffers) (cs : List (Option Begun)). record mid { pools = ps; checks = cs; directory = d; locks = l; due = None })
    pools_are checks_are
    ∙ ap (λ (p : Parts). record p {
      pools = slice_set p.pools (i - 1) (emptied_pool (pool_at p i));
      statuses = mid.statuses;
      checks = slice_set {A = Option Begun} p.checks (i - 1) None;
      owed = mid.owed;
      loose = mid.loose;
      directory = d;
      locks = l;
      due = None;
    }) same

-- with the table, too
pub fallen-parts : (i n : ℕ) (table : Transactions) (old mid : Parts) → n ≡ i - 1 → mid ≡ with_left i mid old
    → record mid { txns = slice_set mid.txns n table } ≡ with_lost i table mid old
fallen-parts i n table old mid place left =
    ap (λ (k : ℕ). record mid { txns = slice_set mid.txns k table }) place
    ∙ ap (λ (p : Parts). record p { txns = slice_set p.txns (i - 1) table }) left

-- what moves, as boxes hold it
pub moving-unboxed : (i : ℕ) (old new : DirectoryState (Box Page)) (p : ℕ)
    → moving_image_at new p ≡ cond {A = Option (Box Page)} (receives (entry_at old p) i) None (moving_image_at old p)
    → moving_image_at (unboxed new) p ≡ cond {A = Option Page} (receives (entry_at old p) i) None (moving_image_at (unboxed old) p)
moving-unboxed i old new p is =
    get_or-map (option_map box_value) new.images p None ∙ ap (option_map box_value) is ∙ by (receives (entry_at old p) i)
    ∙ ap (λ (o : Option Page). cond {A = Option Page} (receives (entry_at old p) i) None o) (sym (get_or-map (option_map box_value) old.images p None))
  where
    by : (b : Bool) → option_map box_value (cond {A = Option (Box Page)} b None (moving_image_at old p))
        ≡ cond {A = Option Page} b None (option_map box_value (moving_image_at old p))
    by true = refl
    by false = refl

-- What the directory has once i fell.
pub record HasFallen (i : ℕ) (old new : DirectoryState Page) : Type 0 where
  pub entries : (p : ℕ) → entry_at new p ≡ fallen i (entry_at old p)
  pub rec_lsns : (p : ℕ) → rec_lsn_at new p ≡ rec_lsn_at old p
  pub asks : (p : ℕ) → asks_at new p ≡ open_asks (fallen i (entry_at old p)) (asks_without i (asks_at old p))
  pub moving : (p : ℕ) → moving_image_at new p ≡ cond {A = Option Page} (receives (entry_at old p) i) None (moving_image_at old p)

pub left-fallen : (i : ℕ) (old mid : Parts) (pools : List Buffers) (checks : List (Option Begun)) (d : DirectoryState Page) (l : LockTable)
    → 1 ≤ i → i ≤ 8 → IsShape old → HaveFallen i 8 old mid → HasFallen i mid.directory d → l.locks ≡ mid.locks.locks
    → ((t : TxnId) → waits l t ≡ cond (eqb t.inst i) None (waits mid.locks t))
    → IsLeft i old (record mid { pools = pools; checks = checks; directory = d; locks = l; due = None })
left-fallen i old mid pools checks d l low high shape h gone locks waits_are =
    let all = all-fallen i old mid low high shape h in
    let pages = ap (λ (p : Parts). p.directory) h.same in
    let dir : HasFallen i old.directory d = subst (λ (e : DirectoryState Page). HasFallen i e d) pages gone in
    let table : mid.locks ≡ old.locks = ap (λ (p : Parts). p.locks) h.same in
    record {
      each = λ j. record { status = (all j).status; loose = (all j).loose; owed = (all j).owed };
      statuses = h.statuses;
      owed = h.owed;
      loose = h.loose;
      entries = dir.entries;
      rec_lsns = dir.rec_lsns;
      asks = dir.asks;
      moving = dir.moving;
      locks = λ t r. ap (λ k. held (record { locks = k; waiting = l.waiting }) t r) locks ∙ ap (λ (k : LockTable). held k t r) table;
      waits = subst (λ (k : LockTable). (t : TxnId) → waits l t ≡ cond (eqb t.inst i) None (waits k t)) table waits_are;
    }

-- The table doesn't matter for the rest.
pub fallen-still : (i n : ℕ) (table : Transactions) (old mid : Parts) → IsLeft i old mid
    → IsLeft i old (record mid { txns = slice_set mid.txns n table })
fallen-still i n table old mid f = record {
  each = λ j. record { status = (f.each j).status; loose = (f.each j).loose; owed = (f.each j).owed };
  statuses = f.statuses;
  owed = f.owed;
  loose = f.loose;
  entries = f.entries;
  rec_lsns = f.rec_lsns;
  asks = f.asks;
  moving = f.moving;
  locks = f.locks;
  waits = f.waits;
}

-- the table that is lent is that from before the fall
pub fallen-table : (i at : ℕ) (old mid : Parts) (lent : Transactions) → 1 ≤ i → i ≤ 8 → length old.txns ≡ 8 → at ≡ i - 1
    → mid ≡ with_left i mid old → lent ≡ get_or mid.txns at lent → txns_at old i ≡ lent
fallen-table i at old mid lent low high eight place left is =
    let same = ap (λ (p : Parts). p.txns) left in
    table-lent old i at lent low high eight place (is ∙ ap (λ (ts : List Transactions). get_or ts at lent) same)

-- and the one that is put there is there
pub fallen-there : (i at : ℕ) (old mid : Parts) (table : Transactions) → 1 ≤ i → i ≤ 8 → length old.txns ≡ 8 → at ≡ i - 1
    → mid ≡ with_left i mid old → txns_at (record mid { txns = slice_set mid.txns at table }) i ≡ table
fallen-there i at old mid table low high eight place left =
    let same = ap (λ (p : Parts). p.txns) left in
    ap (λ (n : ℕ). txns_at (record mid { txns = slice_set mid.txns n table }) i) place
    ∙ item-set no_txns mid.txns i table low high (ap (λ (ts : List Transactions). length ts) same ∙ eight)
