-- What no world has of a complex, and what a call leaves of it.
use Rattle.std.specs.Prelude.{◌≡◌, ◌≢◌, ◌⊎◌, ℕ, ◌-◌, Bool, true, false, Option, None, Some, cond, eqb, slice_set}
use Rattle.sd_base.specs.declared.place.Status.TheVariants as S
use Rattle.sd_moves.specs.Falling.{emptied_pool, falls_at, unsettles_at}
use Rattle.sd_page.specs.Page.{Page}
use Rattle.sd_pagelock.specs.Directory.{entry_at, kept_rec, rec_lsn_at}
use Rattle.sd_pagelock.specs.Places.{changed}
use Rattle.sd_pool.specs.Buffers.{image_at, rewritten}
use Rattle.sd_state.specs.Parts.{Begun, Parts, is_loose, pool_at, status_at, txns_at}

-- this one alone
abbrev pub only : ℕ → ℕ → Bool
only p q = eqb p q

-- none
abbrev pub none_of : ℕ → Bool
none_of q = false

-- What no world has is as it was: which devices aren't settled, begun checkpoints, the counts of masters and where logs begin, and the
-- greatest LSN on the data device at the opening; the pools but for these instances', and RecLSNs but for these pages'.
pub record IsUntouched (whose which : ℕ → Bool) (old new : Parts) : Type 0 where
  pub loose : new.loose ≡ old.loose
  pub checks : new.checks ≡ old.checks
  pub masters : new.masters ≡ old.masters
  pub others : new.others ≡ old.others
  pub disk_lsn : new.disk_lsn ≡ old.disk_lsn
  pub pools : (j : ℕ) → whose j ≡ false → pool_at new j ≡ pool_at old j
  pub recs : (p : ℕ) → which p ≡ false → rec_lsn_at new.directory p ≡ rec_lsn_at old.directory p

-- The same where j has fallen: those are down that fall with it; besides those devices of which a call failed no device counts as
-- unsettled that didn't, but the logs which fall so with a tail; its begun checkpoint is gone; its pool has as many frames and no page;
-- and the tables of all others are as they were.
pub record FallTouches (j : ℕ) (failed which : ℕ → Bool) (old new : Parts) : Type 0 where
  pub status : (k : ℕ) → status_at new k ≡ cond (falls_at j old k) S.Down (status_at old k)
  pub loose : (d : ℕ) → is_loose new d ≡ true → (is_loose old d ≡ true) ⊎ ((failed d ≡ true) ⊎ (unsettles_at j old d ≡ true))
  pub stays : (d : ℕ) → is_loose old d ≡ true → is_loose new d ≡ true
  pub tables : (k : ℕ) → k ≢ j → txns_at new k ≡ txns_at old k
  pub checks : new.checks ≡ slice_set {A = Option Begun} old.checks (j - 1) None
  pub masters : new.masters ≡ old.masters
  pub others : new.others ≡ old.others
  pub disk_lsn : new.disk_lsn ≡ old.disk_lsn
  pub pool : pool_at new j ≡ emptied_pool (pool_at old j)
  pub pools : (k : ℕ) → k ≢ j → pool_at new k ≡ pool_at old k
  pub recs : (p : ℕ) → which p ≡ false → rec_lsn_at new.directory p ≡ rec_lsn_at old.directory p

-- Instance i changed page p: its pool has this image of it, and used it last; the page's RecLSN is the LSN of the change where it
-- had none, and else what it was; nothing besides is touched.
pub record HasChanged (i p : ℕ) (old new : Parts) : Type 0 where
  pub image : Page
  pub copy : image_at (pool_at new i) p ≡ Some image
  pub pool : pool_at new i ≡ rewritten (pool_at old i) p image
  pub rec_lsn : rec_lsn_at new.directory p
      ≡ kept_rec (changed (entry_at old.directory p)) true (rec_lsn_at old.directory p) (Some image.lsn)
  pub rest : IsUntouched (only i) (only p) old new
