-- A log is forced, a force fails, or a log that isn't settled is read again.
use Rattle.std.specs.Prelude.{◌≡◌, ◌≢◌, ◌⊎◌, ℕ, ◌≤◌, Bool, true, false, None, Some}
use Rattle.sd_page.specs.Page.{Page}
use Rattle.sd_chain.specs.Images.{Allowed, IsSafe, Keeps, Settled, kept_at}
use Rattle.sd_chain.specs.Laws.{May}
use Rattle.sd_pagelock.specs.Rows.{dirtied}
use Rattle.sd_chain.specs.World.{Base, Dir, put_at}
use Rattle.sd_chain.specs.Coherent.{Coherent, Quiet}

-- Log i is settled and has no tail now: the tail is forced, or was found on the device (`kept`), or it is dropped.
pub record Settles {may may' : May} (i : ℕ) (kept : Bool) (old : Base may) (new : Base may') : Type 0 where
  pub tails : Settled i kept old.tails new.tails
  pub less : (p : ℕ) (x : Page) → may' p x → may p x
  pub version : (keeps : Keeps) (p : ℕ) → new.version keeps p ≡ old.version (kept_at i kept keeps) p
  pub safe : IsSafe new.tails may' new.version
  pub reads : Allowed may' new.disk
  pub disk : (p : ℕ) → new.disk p ≡ old.disk p
  pub rec_lsn : (p : ℕ) → new.rec_lsn p ≡ old.rec_lsn p
  pub settled : new.loose i ≡ false
  pub other_loose : (j : ℕ) → 1 ≤ j → j ≢ i → new.loose j ≡ old.loose j
  pub loose_disk : new.loose_disk ≡ old.loose_disk
  pub active : (j : ℕ) → new.active j ≡ old.active j
  pub up : (j : ℕ) → new.up j ≡ old.up j
  -- what was due by this log's force is due no more, or still is
  pub due : (new.due ≡ old.due) ⊎ ((a : ℕ) × (old.due ≡ Some (a, i)) × (new.due ≡ None))

-- Instance a is to fall: its force of log j failed. Or, with the log still settled, a begins to force another's log j.
abbrev pub failing : {may : May} → ℕ → ℕ → Bool → Base may → Base may
failing a j loose b = record {
  tails = b.tails;
  version = b.version;
  disk = b.disk;
  rec_lsn = b.rec_lsn;
  loose = put_at j loose b.loose;
  loose_disk = b.loose_disk;
  active = b.active;
  up = b.up;
  due = Some (a, j);
}

-- ---- laws

-- A force that is Ok keeps coherence. So does settling a log that isn't settled, while no force is under way: with the tail that
-- the device was found to have, or without it.
abbrev pub SettleKeeps : May → May → Type 0
SettleKeeps may may' = (i : ℕ) (kept : Bool) (old : Base may) (new : Base may') (d : Dir) → Coherent old d → Settles i kept old new
    → (kept ≡ true) ⊎ ((old.loose i ≡ true) × (old.due ≡ None)) → Coherent new d

-- A force that fails keeps coherence, and so does one of another's log that begins: each page with a record in its tail is the
-- acting instance's alone, changed.
abbrev pub FailKeeps : May → Type 0
FailKeeps may = (a j : ℕ) (loose : Bool) (b : Base may) (d : Dir) → Coherent b d → (b.due ≡ None) ⊎ (b.due ≡ Some (a, j))
    → (a ≡ j) ⊎ (b.up j ≡ false) → ((p : ℕ) → Quiet p (b.tails.tail j) ⊎ (d.entry p ≡ dirtied a)) → Coherent (failing a j loose b) d

-- Where the log was settled, it is enough that a forces its own, or that of an instance that is neither active nor up.
abbrev pub SettledFailKeeps : May → Type 0
SettledFailKeeps may = (a i : ℕ) (b : Base may) (d : Dir) → Coherent b d → b.due ≡ None → b.loose i ≡ false
    → (a ≡ i) ⊎ ((b.active i ≡ false) × (b.up i ≡ false)) → Coherent (failing a i true b) d
