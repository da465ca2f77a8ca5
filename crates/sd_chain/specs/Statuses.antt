-- A complex is opened, and instances come and go.
use Rattle.std.specs.Prelude.{◌≡◌, ◌⊎◌, ℕ, ◌≤◌, Bool, true, false, [], Option, None, Some, is_some}
use Rattle.sd_chain.specs.Storage.{Storage, newest}
use Rattle.sd_chain.specs.Laws.{May, Opens, as_read, without_tails}
use Rattle.sd_pagelock.specs.Places.{uses}
use Rattle.sd_pagelock.specs.Rows.{nowhere}
use Rattle.sd_chain.specs.World.{Base, Dir}
use Rattle.sd_chain.specs.Coherent.{Coherent, NoneBefore}

-- What an opening reads: logs without tails, settled devices, and no instance active.
abbrev pub opened_base : (img : Storage) → (ℕ → Option ℕ) → (ℕ → Bool) → Base (as_read img)
opened_base img rec_lsn up = record {
  tails = without_tails img;
  version = λ keeps. newest img;
  disk = img.disk;
  rec_lsn = rec_lsn;
  loose = λ j. false;
  loose_disk = false;
  active = λ i. false;
  up = up;
  due = None;
}

-- Each page is free, or lost where it isn't on disk.
abbrev pub opened_dir : (ℕ → Bool) → Dir
opened_dir lost = record { entry = λ p. nowhere (lost p); pool = λ i p. None; moving = λ p. None }

-- Which pages an opening calls lost, and their RecLSNs.
pub record LostAreRead (img : Storage) (recs : ℕ → Option ℕ) (lost : ℕ → Bool) : Type 0 where
  pub marks : (p : ℕ) → is_some (recs p) ≡ lost p
  pub free : (p : ℕ) → lost p ≡ false → img.disk p ≡ newest img p
  pub first : (p l : ℕ) → recs p ≡ Some l → (j : ℕ) → NoneBefore p l (img.disk p) (img.logs j)

-- Other instances are active and up.
abbrev pub with_status : {may : May} → Base may → (ℕ → Bool) → (ℕ → Bool) → Base may
with_status b active up = record {
  tails = b.tails;
  version = b.version;
  disk = b.disk;
  rec_lsn = b.rec_lsn;
  loose = b.loose;
  loose_disk = b.loose_disk;
  active = active;
  up = up;
  due = b.due;
}

-- ---- laws

-- What is opened is coherent.
abbrev pub OpeningIsCoherent : Type 0
OpeningIsCoherent = (img : Storage) (rec_lsn : ℕ → Option ℕ) (lost up : ℕ → Bool) → Opens img → img.logs 0 ≡ [] → LostAreRead img rec_lsn lost
    → Coherent (opened_base img rec_lsn up) (opened_dir lost)

-- A start, a stop and the end of a recovery keep coherence: who stops being active has no page, and who is up now was up, or its
-- log is settled.
abbrev pub StatusKeeps : May → Type 0
StatusKeeps may = (b : Base may) (d : Dir) (active up : ℕ → Bool) → Coherent b d
    → ((i : ℕ) → b.active i ≡ true → (active i ≡ true) ⊎ ((p : ℕ) → uses (d.entry p) i ≡ false))
    → ((i : ℕ) → 1 ≤ i → up i ≡ true → (b.up i ≡ true) ⊎ (b.loose i ≡ false)) → Coherent (with_status b active up) d
