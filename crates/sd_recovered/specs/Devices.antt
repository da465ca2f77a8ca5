-- Nine images of devices, and a table that recovery gives of them.
use Rattle.std.specs.Prelude.{◌≡◌, ℕ, ◌<◌, ◌≤◌, List, [], Option, Some, drop, length, slice_get, unwrap_or}
use Rattle.sd_base.specs.declared.ids.Rid.{Rid}
use Rattle.sd_rig.specs.Devices as rig
use Rattle.sd_model.specs.Tables.{contents}
use Rattle.sd_chain.specs.Bytes.{disk_page, stable}
use Rattle.sd_chain.specs.Storage.{Recovered, chain}
use Rattle.sd_recovered.specs.FirstAbove.{IsFirstAbove}

-- by number: 0 is the data device, n the log of instance n
abbrev pub devices_of : List (List ℕ) → rig.DeviceImages
devices_of images d = unwrap_or (slice_get images d) []

-- There are nine, and each has its device's length.
pub record AreDevices (images : List (List ℕ)) : Type 0 where
  pub nine : length images ≡ 9
  pub sizes : (d : ℕ) → d ≤ 8 → length (devices_of images d) ≡ rig.device_len d

-- the log devices, that of instance 1 first
abbrev pub log_devices : List (List ℕ) → List (List ℕ)
log_devices images = drop 1 images

-- What a list has as the RecLSN of a page: the LSN of the first record of the page's chain above its disk image, if there is one.
pub record HasRecLsn (devices : rig.DeviceImages) (rec_lsns : List (Option ℕ)) (p : ℕ) : Type 0 where
  pub lsn : Option ℕ
  pub there : slice_get rec_lsns p ≡ Some lsn
  pub first : IsFirstAbove (chain (stable devices) p) (disk_page (devices 0) p).lsn lsn

-- each record of the table is what recovery gives
abbrev pub IsRecovered : rig.DeviceImages → List (Rid × List ℕ) → Type 0
IsRecovered devices table = (p s : ℕ) → p < 1024 → Recovered (stable devices) p s (contents table (record { page = p; slot = s }))
