-- What each part of a complex is made of.
use Rattle.std.specs.Prelude.{◌≡◌, ◌⊎◌, ℕ, ◌≤◌, All, Contains, [], None, map}
use Rattle.sd_base.specs.declared.ids.Rid.{Rid}
use Rattle.sd_base.specs.declared.ids.TxnId.{TxnId}
use Rattle.sd_pagelock.specs.Directory.{asks_at, entry_at, moving_image_at, rec_lsn_at}
use Rattle.sd_pagelock.specs.Rows.{nowhere}
use Rattle.sd_reclock.specs.Locks.{held}
use Rattle.sd_recovered.specs.declared.reading.ReadDevices.{ReadDevices}
use Rattle.sd_state.specs.Complexes.{unboxed}
use Rattle.sd_moves.specs.declared.assembling.Restored.{Restored}
use Rattle.sd_restart.specs.Claims.{claimed, has_in}
use Rattle.sd_restart.specs.Reading.{AreEpochs, AreOwed, AreTables, count_of, lost_by, rec_at, some_rec, status_for}

-- What was found is made of what was read.
pub record IsMade (o : ReadDevices) (found : Restored) : Type 0 where
  pub logs : found.logs.items ≡ o.logs.items
  pub tables : AreTables o.logs.items found.txns.items
  -- an exclusive lock of each loser on each record that it has open, and no wait
  pub claims : (t : TxnId) (r : Rid) → held found.locks t r ≡ claimed (has_in o.logs.items t r) None
  pub unwaited : found.locks.waiting ≡ []
  -- each page lost that has records which the disk lacks, from the first of them on, and nothing on its way
  pub entries : (p : ℕ) → entry_at (unboxed found.directory) p ≡ nowhere (lost_by o.rec_lsns.items p)
  pub recs : (p : ℕ) → rec_lsn_at (unboxed found.directory) p ≡ rec_at o.rec_lsns.items p
  pub still : (p : ℕ) → moving_image_at (unboxed found.directory) p ≡ None
  pub unasked : (p : ℕ) → asks_at (unboxed found.directory) p ≡ []
  pub statuses : found.statuses.items ≡ map (status_for (some_rec o.rec_lsns.items)) o.losers.items
  pub epochs : AreEpochs o.masters.items o.logs.items found.epochs.items
  pub counts : found.masters.items ≡ map count_of o.masters.items
  pub owed : AreOwed o.logs.items found.owed.items
  -- the greatest LSN of a page on disk
  pub most : All (λ lsn. lsn ≤ found.disk_lsn) o.disk_lsns.items
  pub one : (found.disk_lsn ≡ 0) ⊎ Contains o.disk_lsns.items found.disk_lsn
