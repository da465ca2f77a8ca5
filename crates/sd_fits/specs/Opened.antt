-- A complex that is opened from devices: the world that it fits.
use Rattle.std.specs.Prelude.{◌≡◌, ℕ, zero, suc, ◌+◌, ◌≤◌, false, List, [], ◌∷◌, None, cond, length, max}
use Rattle.sd_logrec.specs.Kept.{kept, master}
use Rattle.sd_logrec.specs.View.{Rec}
use Rattle.sd_model.specs.Reopening.{loser}
use Rattle.sd_model.specs.State.{Part, State, gone}
use Rattle.sd_page.specs.Page.{Page}
use Rattle.sd_rig.specs.Devices as rig
use Rattle.sd_rig.specs.Devices.{LeavesOnly}
use Rattle.sd_chain.specs.Bytes.{disk_page, log_of, stable}
use Rattle.sd_chain.specs.Checks.{gate_of, owed_by_all, reserve}
use Rattle.sd_chain.specs.Storage.{Storage, newest}
use Rattle.sd_chain.specs.Losers.{losers_in, table_in}
use Rattle.sd_chain.specs.Logs.{Outcomes}
use Rattle.sd_world.specs.Bounds.{Bounds}
use Rattle.sd_world.specs.Pages.{Pages, place_of}
use Rattle.sd_world.specs.Serving.{Core}
use Rattle.sd_state.specs.Images.{kept_epoch}
use Rattle.sd_moves.specs.Opening.{AreOpened, has_open, is_loser, is_lost_in, status_in}
use Rattle.sd_state.specs.Parts.{Parts}
use Rattle.sd_state.specs.Sums.{most_to}
use Rattle.sd_fits.specs.Fits.{Fits, capacities}

-- at most as much may be left of each device
abbrev pub NoneMore : Outcomes → Outcomes → Type 0
NoneMore leaves leaves' = (d : ℕ) → d ≤ 8 → (bytes : List ℕ) → leaves' d bytes → leaves d bytes

-- A complex that was opened from these devices, which a crash leaves as they read.
pub record IsOpenedOn (frames : ℕ) (devices : rig.DeviceImages) (leaves : Outcomes) (c : Parts) : Type 0 where
  pub only : (d : ℕ) → d ≤ 8 → LeavesOnly (devices d) (leaves d)
  pub size : length (devices 0) ≡ rig.device_len 0
  pub opened : AreOpened frames devices c

-- no page is in a pool, and those are lost whose newest version the disk lacks
abbrev pub opened_pages : ℕ → Storage → Pages
opened_pages frames img = record {
  frames = frames;
  entry = λ p. place_of (is_lost_in img p);
  asks = λ p. [];
  number = λ p. (newest img p).lsn;
  begun = λ i. false;
}

-- the world of a complex that is opened from these devices, with this state and these sums
abbrev pub opened_core : ℕ → rig.DeviceImages → State → Bounds → Core
opened_core frames devices m sums = record {
  scene = record { state = m; waits = λ t. None };
  pages = opened_pages frames (stable devices);
  bounds = sums;
}

-- ---- from the devices alone

-- the greatest LSN of these records, and of the first n pages
abbrev pub top_lsn : List Rec → ℕ
top_lsn [] = 0
top_lsn (x ∷ xs) = max x.lsn (top_lsn xs)

unfoldable pub top_page : (ℕ → Page) → ℕ → ℕ
top_page disk zero = 0
top_page disk (suc n) = max (disk n).lsn (top_page disk n)

-- what the devices have of slots, bytes, LSNs and counts
abbrev pub sums_of : rig.DeviceImages → Bounds
sums_of devices = record {
  slots = λ p. capacities (newest (stable devices) p);
  least = λ p. capacities (newest (stable devices) p);
  reach = λ i. gate_of (kept (devices i)) + reserve (log_of devices i);
  lsns = max (top_page (disk_page (devices 0)) 1024) (most_to (λ j. top_lsn (log_of devices j)) 8) + owed_by_all devices;
  masters = λ i. (master (devices i)).count;
}

-- The state of the serial table that the devices tell: the table is what recovery gives, and whom they leave open stays, with an
-- exclusive claim on each record that it has open.
abbrev pub opening_state : rig.DeviceImages → State
opening_state devices = let img = stable devices in record {
  start = λ r. table_in img r.page r.slot;
  done = [];
  begun = losers_in img;
  cuts = [];
  part = λ t. cond {A = Part} (is_loser img t) (loser (has_open img t)) gone;
  inst = λ i. record { status = status_in img i; epoch = kept_epoch (devices i); begins = 0; failed = 0 };
}

-- the world of which they tell
abbrev pub opening_core : ℕ → rig.DeviceImages → Core
opening_core frames devices = opened_core frames devices (opening_state devices) (sums_of devices)

-- A complex that was opened from sound devices fits it.
abbrev pub OpenedFits : Outcomes → Type 0
OpenedFits leaves = (frames : ℕ) (devices : rig.DeviceImages) (c : Parts) → IsOpenedOn frames devices leaves c
    → Fits devices leaves c (opening_core frames devices)
