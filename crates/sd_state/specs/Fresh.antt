-- A complex on blank devices.
use Rattle.std.specs.Prelude.{◌≡◌, ℕ, zero, suc, ◌≤◌, false, List, [], ◌∷◌, ◌++◌, Option, None}
use Rattle.sd_base.specs.declared.place.Status.TheVariants as S
use Rattle.sd_pagelock.specs.Directory as directory
use Rattle.sd_pagelock.specs.Directory.{asks_at, entry_at, rec_lsn_at}
use Rattle.sd_pagelock.specs.Places.{PageEntry}
use Rattle.sd_pool.specs.Buffers.{Buffers}
use Rattle.sd_rig.specs.Devices as rig
use Rattle.sd_rig.specs.Devices.{LeavesOnly}
use Rattle.sd_chain.specs.Logs.{IsBlank, Outcomes, new_log}
use Rattle.sd_txn.specs.Transactions.{Transactions}
use Rattle.sd_state.specs.Parts.{Begun, Parts}

-- an item for each of the instances 1 to n
abbrev pub for_each : {A : Type 0} → (ℕ → A) → ℕ → List A
for_each item zero = []
for_each item (suc n) = for_each item n ++ item (suc n) ∷ []

abbrev pub empty_pool : ℕ → Buffers
empty_pool frames = record { held = []; frames = frames }

abbrev pub empty_table : ℕ → Transactions
empty_table i = record { inst = i; epoch = 0; begins = 0; unresolved = [] }

-- No gate of the nine devices is open, and a crash leaves what they read.
pub record AreBlank (seen : rig.DeviceImages) (leaves : Outcomes) : Type 0 where
  pub blank : (d : ℕ) → d ≤ 8 → IsBlank (seen d)
  pub only : (d : ℕ) → d ≤ 8 → LeavesOnly (seen d) (leaves d)

-- The parts of a complex in which nothing has happened, with so many frames in each pool.
pub record IsFresh (frames : ℕ) (c : Parts) : Type 0 where
  pub logs : c.logs ≡ for_each (λ i. new_log i 0) 8
  pub pools : c.pools ≡ for_each (λ i. empty_pool frames) 8
  pub txns : c.txns ≡ for_each empty_table 8
  pub statuses : c.statuses ≡ for_each (λ i. S.Clean) 8
  pub epochs : c.epochs ≡ for_each (λ i. 0) 8
  pub masters : c.masters ≡ for_each (λ i. 0) 8
  pub checks : c.checks ≡ for_each {A = Option Begun} (λ i. None) 8
  pub others : c.others ≡ for_each {A = Option ℕ} (λ i. None) 8
  pub owed : c.owed ≡ for_each (λ i. 0) 8
  pub loose : c.loose ≡ for_each (λ i. false) 9
  pub free : (p : ℕ) → entry_at c.directory p ≡ PageEntry.Free
  pub clean : (p : ℕ) → rec_lsn_at c.directory p ≡ None
  pub still : (p : ℕ) → directory.moving_image_at c.directory p ≡ None
  pub unasked : (p : ℕ) → asks_at c.directory p ≡ []
  pub unlocked : c.locks.locks ≡ []
  pub unwaited : c.locks.waiting ≡ []
  pub disk_lsn : c.disk_lsn ≡ 0
  pub due : c.due ≡ None
