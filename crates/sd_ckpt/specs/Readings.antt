-- What is read of a complex whose logs begin at the one place or the other, and when two readings are alike.
use Rattle.std.specs.Prelude.{◌≡◌, ◌↔◌, ℕ}
use Rattle.sd_base.specs.declared.ids.TxnId.{TxnId}
use Rattle.sd_rig.specs.Devices as rig
use Rattle.sd_chain.specs.Bytes.{disk_page}
use Rattle.sd_chain.specs.Cuts.{cut}
use Rattle.sd_chain.specs.Fates.{Fate, fate}
use Rattle.sd_chain.specs.Images.{Keeps, with_disk}
use Rattle.sd_chain.specs.Logs.{tails_of}
use Rattle.sd_chain.specs.Records.{Val, home}
use Rattle.sd_chain.specs.Storage.{Recovered, Storage, newest, opens}
use Rattle.sd_state.specs.Images.{log_by}
use Rattle.sd_state.specs.Parts.{Parts}

-- what a crash may keep of a complex: each log from the one place on or from the other, with its tail or without it, and the
-- pages of the data device
abbrev pub storage_by : rig.DeviceImages → Parts → Keeps → Keeps → Storage
storage_by seen c moved keeps = cut keeps (with_disk (tails_of (log_by c moved)) (disk_page (seen 0)))

-- Two readings give the same: the same transactions are open, each with the same stack of what is to be undone; each page has the
-- same newest version; and recovery gives each record of the table the same value.
pub record ReadsAlike (a b : Storage) : Type 0 where
  pub opened : (t : TxnId) → (fate t (a.logs (home t)) ≡ Fate.Open) ↔ (fate t (b.logs (home t)) ≡ Fate.Open)
  pub stacks : (t : TxnId) → fate t (a.logs (home t)) ≡ Fate.Open → opens a t ≡ opens b t
  pub pages : (p : ℕ) → newest a p ≡ newest b p
  pub table : (p s : ℕ) (v : Val) → Recovered a p s v ↔ Recovered b p s v
