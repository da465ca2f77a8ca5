-- What a data device and the logs of a complex keep, and when a page of it can be read.
use Rattle.std.specs.Prelude.{ℕ, ◌⊎◌, List}
use Rattle.sd_log.specs.Logs.{LogState, log_in}
use Rattle.sd_chain.specs.Bytes.{disk_page}
use Rattle.sd_chain.specs.Checks.{TwinIsSound}
use Rattle.sd_chain.specs.Storage.{Storage, chain}
use Rattle.sd_chain.specs.Pages.{FitAll}

-- by the bytes of the data device, and the logs from log 1 on
abbrev pub image_of : List ℕ → List LogState → Storage
image_of bytes logs = record { logs = log_in logs; disk = disk_page bytes }

-- each record of the page above its disk image fits the page that it finds
abbrev pub ChainFits : Storage → ℕ → Type 0
ChainFits img p = FitAll (img.disk p).lsn (img.disk p) (chain img p)

-- a page that can't be read
abbrev pub IsUnsound : ℕ → List ℕ → Storage → Type 0
IsUnsound p bytes img = (TwinIsSound p bytes → ⊥) ⊎ (ChainFits img p → ⊥)
