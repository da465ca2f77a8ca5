-- A page that is put onto the data device: the complex then, who may put it, and which image.
use Rattle.std.specs.Prelude.{◌≡◌, ℕ, Bool, true, false, List, [], Result, Ok, Err, slice_set}
use Rattle.sd_page.specs.Page.{Page}
use Rattle.sd_model.specs.State.{State}
use Rattle.sd_pagelock.specs.Directory.{DirectoryState, entry_at}
use Rattle.sd_pagelock.specs.Places.{changed}
use Rattle.sd_pagelock.specs.Rows.{may_write}
use Rattle.sd_world.specs.Pages.{is_duty}
use Rattle.sd_rig.specs.Devices as rig
use Rattle.sd_chain.specs.Bytes.{disk_page}
use Rattle.sd_chain.specs.Images.{Keeps}
use Rattle.sd_chain.specs.Named.{version_of}
use Rattle.sd_chain.specs.Puts.{NoneUnforced}
use Rattle.sd_chain.specs.World.{newest_version}
use Rattle.sd_chain.specs.Logs.{Outcomes, tails_of}
use Rattle.sd_moves.specs.declared.writing.Unput.{Unput}
use Rattle.sd_moves.specs.declared.writing.Unput.TheVariants as U
use Rattle.sd_state.specs.Good.{Good, base_of}
use Rattle.sd_state.specs.Images.{leaves_by, log_by}
use Rattle.sd_state.specs.Parts.{Parts, is_loose, log_at}
use Rattle.sd_state.specs.Values.{Pending}

-- device 0 is settled, or it isn't
abbrev pub with_loose_disk : Bool → Parts → Parts
with_loose_disk loose c = record c { loose = slice_set c.loose 0 loose }

-- device 0 is settled, and the directory is this one
abbrev pub with_written : DirectoryState Page → Parts → Parts
with_written places c = record (with_loose_disk false c) { directory = places }

-- what a put that failed leaves: device 0 isn't settled once a write failed, or the sync before it
abbrev pub left_after : Unput → Parts → Parts
left_after U.Unread c = with_loose_disk false c
left_after U.Unwritten c = with_loose_disk true c

-- after a read that failed the devices read as before
abbrev pub ReadsAfter : Unput → rig.DeviceImages → rig.DeviceImages → Type 0
ReadsAfter U.Unread seen seen' = (d : ℕ) → seen' d ≡ seen d
ReadsAfter U.Unwritten seen seen' = Unit {0}

-- The page rests, changed, and the write is i's: it has the page alone, or is the writer. All of i's log is
-- forced, where that is settled: an unsettled one has no record of such a page.
pub record MayPut (p i : ℕ) (c : Parts) : Type 0 where
  pub changed : may_write (entry_at c.directory p) ≡ true
  pub duty : is_duty i (entry_at c.directory p) ≡ true
  pub forced : is_loose c i ≡ false → (log_at c i).tail ≡ []

-- Wherever logs begin, and whichever tails are kept, each page's newest version is the same over what device 0 reads then.
abbrev pub SameVersions : rig.DeviceImages → rig.DeviceImages → Parts → Type 0
SameVersions seen seen' c = (moved keeps : Keeps) (q : ℕ)
    → version_of (tails_of (log_by c moved)) (disk_page (seen' 0)) keeps q
    ≡ version_of (tails_of (log_by c moved)) (disk_page (seen 0)) keeps q

-- What of a page may be put onto device 0: its newest version, wherever logs begin. The page is changed, and no tail has a record
-- of it.
pub record MayBePut (p : ℕ) (im : Page) (seen : rig.DeviceImages) (leaves : Outcomes) (c : Parts) : Type 0 where
  pub newest : (moved : Keeps) → im ≡ newest_version (base_of seen (leaves_by c moved leaves) (log_by c moved) c) p
  pub none : (moved : Keeps) → NoneUnforced (base_of seen (leaves_by c moved leaves) (log_by c moved) c) p
  pub changed : changed (entry_at c.directory p) ≡ true

-- The complex is good for this state, device 0 is settled, and this image of the page may be put.
pub record MayPutImage (p : ℕ) (im : Page) (seen : rig.DeviceImages) (leaves : Outcomes) (pend : Pending) (c : Parts) (m : State)
    : Type 0 where
  pub good : Good seen leaves pend c m
  pub settled : is_loose c 0 ≡ false
  pub may : MayBePut p im seen leaves c

-- which devices are settled once a put ended so: not device 0, where a write failed
abbrev pub marks_after : {X : Type 0} → Result X Unput → List Bool → List Bool
marks_after (Ok x) marks = marks
marks_after (Err U.Unread) marks = marks
marks_after (Err U.Unwritten) marks = slice_set marks 0 true

-- what it leaves of a complex
abbrev pub put_parts : {X : Type 0} → Result X Unput → Parts → Parts
put_parts result c = record c { loose = marks_after result c.loose }
