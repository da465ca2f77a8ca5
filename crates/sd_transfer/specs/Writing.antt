-- Why a page isn't written for an instance, and how it stands once it is written.
use Rattle.std.specs.Prelude.{◌≡◌, ◌⊎◌, ℕ, ◌+◌, true, false, List, [], None, Result, Ok, Err, cond}
use Rattle.sd_base.specs.declared.refusal.Refusal.{Refusal}
use Rattle.sd_base.specs.declared.refusal.Refusal.TheVariants as R
use Rattle.sd_chain.specs.Bytes.{disk_page}
use Rattle.sd_chain.specs.Coherent.{Quiet}
use Rattle.sd_moves.specs.Putting.{with_loose_disk}
use Rattle.sd_fits.specs.Untouched.{FallTouches, IsUntouched, none_of, only}
use Rattle.sd_pagelock.specs.Directory.{entry_at, rec_lsn_at}
use Rattle.sd_pagelock.specs.Places.{is_lost, seen}
use Rattle.sd_pagelock.specs.Rows.{may_write}
use Rattle.sd_rig.specs.Devices as rig
use Rattle.sd_chain.specs.Logs.{Outcomes, tail_at}
use Rattle.sd_world.specs.Pages.{is_duty}
use Rattle.sd_state.specs.Laws.{newest_of}
use Rattle.sd_state.specs.Parts.{Parts, is_active, is_loose, log_at}
use Rattle.sd_transfer.specs.Barring.{IsBarred}
use Rattle.sd_transfer.specs.Forcing.{force_calls}

-- page p isn't written for instance i for this cause, and no cause before it applies
abbrev pub StaysUnwritten : Parts → ℕ → ℕ → Refusal → Type 0
StaysUnwritten c i p (R.NeedPage place) =
    (is_active c i ≡ true) × (is_lost (entry_at c.directory p) ≡ false) × (is_duty i (entry_at c.directory p) ≡ false)
    × (seen place ≡ entry_at c.directory p)
StaysUnwritten c i p n = IsBarred c i p n

-- The instance is active, the page isn't lost, and its write is the instance's.
pub record IsWriters (c : Parts) (i p : ℕ) : Type 0 where
  pub active : is_active c i ≡ true
  pub found : is_lost (entry_at c.directory p) ≡ false
  pub duty : is_duty i (entry_at c.directory p) ≡ true

-- Whatever a crash leaves of page p is its newest version, and all records of the page are forced.
pub record IsWritten (p : ℕ) (seen : rig.DeviceImages) (leaves : Outcomes) (c : Parts) : Type 0 where
  pub only : (bytes : List ℕ) → leaves 0 bytes → disk_page bytes p ≡ newest_of seen leaves c p
  pub forced : (j : ℕ) → Quiet p (tail_at (log_at c j))

-- A read failed once the log of instance i was forced, where that is settled: the data device is settled, and but for logs, and what
-- they owe, all else is as it was.
pub record IsUnread (i : ℕ) (old new : Parts) : Type 0 where
  pub stays : new ≡ record (with_loose_disk false old) { logs = new.logs; owed = new.owed }
  pub forced : is_loose old i ≡ false → (log_at new i).tail ≡ []

-- Page p is on the data device, which is settled: the page has no RecLSN, and else what no world has is as it was.
abbrev pub IsPut : ℕ → Parts → Parts → Type 0
IsPut p old new = (rec_lsn_at new.directory p ≡ None) × IsUntouched none_of (only p) (with_loose_disk false old) new

-- The data device failed instance i: at a read, and it is settled then; or at a write or a sync, and i fell by it.
abbrev pub IsUnput : ℕ → Parts → Parts → Type 0
IsUnput i old new = IsUntouched none_of none_of (with_loose_disk false old) new ⊎ FallTouches i (only 0) none_of old new

-- What no world has, behind a write of page p for instance i: done, the page is put, or has no RecLSN and nothing changed. Where a device
-- failed i fell by the device of its log, or the data device failed it. Each other refusal leaves all as it was.
abbrev pub WriteTouches : {X : Type 0} → ℕ → ℕ → Result X Refusal → Parts → Parts → Type 0
WriteTouches i p (Ok x) old new = ((rec_lsn_at old.directory p ≡ None) × (new ≡ old)) ⊎ IsPut p old new
WriteTouches i p (Err R.Failed) old new = FallTouches i (only i) none_of old new ⊎ IsUnput i old new
WriteTouches i p (Err n) old new = new ≡ old

-- the most writes and syncs of a put that is done: six, and a sync before where the data device isn't settled
abbrev pub put_calls : Parts → ℕ
put_calls c = cond (is_loose c 0) 7 6

-- and of a write of page p for instance i: of a page that isn't changed none, else those of a force and of a put
abbrev pub write_calls : ℕ → ℕ → Parts → ℕ
write_calls i p c = cond (may_write (entry_at c.directory p)) (force_calls i c + put_calls c) 0
