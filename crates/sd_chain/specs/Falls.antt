-- An instance falls, and a recovery begins.
use Rattle.std.specs.Prelude.{◌≢◌, ◌≡◌, ◌⊎◌, ℕ, Bool, true, false, None, Some, cond}
use Rattle.sd_chain.specs.Laws.{May}
use Rattle.sd_pagelock.specs.Places.{receives}
use Rattle.sd_pagelock.specs.Rows.{fallen}
use Rattle.sd_chain.specs.World.{Base, Dir, put_at}
use Rattle.sd_chain.specs.Coherent.{Coherent}
use Rattle.sd_chain.specs.Forces.{Settles}

-- Instance i is down. Its log counts as unsettled: where it was settled, its tail is still to be dropped.
abbrev pub fell : {may : May} → ℕ → Base may → Base may
fell i b = record {
  tails = b.tails;
  version = b.version;
  disk = b.disk;
  rec_lsn = b.rec_lsn;
  loose = put_at i true b.loose;
  loose_disk = b.loose_disk;
  active = put_at i false b.active;
  up = put_at i false b.up;
  due = None;
}

-- No fall is due but that of i, by a log that isn't settled.
abbrev pub DueOf : {may : May} → ℕ → Base may → Type 0
DueOf i b = (b.due ≡ None) ⊎ ((j : ℕ) × (b.due ≡ Some (i, j)) × (b.loose j ≡ true))

-- The copies of i are gone, with what moved to it.
pub record Falls (i : ℕ) (old new : Dir) : Type 0 where
  pub entry : (p : ℕ) → new.entry p ≡ fallen i (old.entry p)
  pub pool : (p : ℕ) → new.pool i p ≡ None
  pub other_pools : (k p : ℕ) → k ≢ i → new.pool k p ≡ old.pool k p
  pub moving : (p : ℕ) → new.moving p ≡ cond (receives (old.entry p) i) None (old.moving p)

-- A recovery of i begins, by itself or by another: its log and device 0 are to be synced and read.
abbrev pub begun : {may : May} → ℕ → Bool → Base may → Base may
begun i itself b = record {
  tails = b.tails;
  version = b.version;
  disk = b.disk;
  rec_lsn = b.rec_lsn;
  loose = put_at i true b.loose;
  loose_disk = true;
  active = cond itself (put_at i true b.active) b.active;
  up = b.up;
  due = b.due;
}

-- ---- laws

-- A fall keeps coherence.
abbrev pub FallKeeps : May → Type 0
FallKeeps may = (i : ℕ) (b : Base may) (old new : Dir) → Coherent b old → DueOf i b → Falls i old new → Coherent (fell i b) new

-- Where the log was settled, its tail is dropped then.
abbrev pub SettledFallKeeps : May → May → Type 0
SettledFallKeeps may may' = (i : ℕ) (b : Base may) (b' : Base may') (old new : Dir) → Coherent b old → DueOf i b → Falls i old new
    → Settles i false (fell i b) b' → Coherent b' new

-- A recovery that begins, of an instance that is neither active nor up, keeps coherence.
abbrev pub BeginKeeps : May → Type 0
BeginKeeps may = (i : ℕ) (itself : Bool) (b : Base may) (d : Dir) → Coherent b d → b.due ≡ None → b.active i ≡ false → b.up i ≡ false
    → Coherent (begun i itself b) d
