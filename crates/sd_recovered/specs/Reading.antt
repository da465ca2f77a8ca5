-- What is read of the log devices, one by one.
use Rattle.std.specs.Prelude.{◌≡◌, ◌⊎◌, ℕ, suc, ◌+◌, ◌<◌, List, [], ◌∷◌, Option, Some, map, option_map, slice_get}
use Rattle.sd_base.specs.Twin.{chosen_body}
use Rattle.sd_recovered.specs.Masters.{master_in, said}
use Rattle.sd_logrec.specs.Kept.{Master, Whole, kept, master as master_on}
use Rattle.sd_log.specs.Logs.{AreSpelled, LogState, flats, scanned}
use Rattle.sd_chain.specs.Checks.{GroupsAreSound, MasterIsSound, TxnsAreSound}
use Rattle.sd_log.specs.declared.placed.Placed.{Placed}
use Rattle.sd_chain.specs.Faults.{IsFirstMisplaced, LogFailsAt, LogIsSound}
use Rattle.sd_recovered.specs.declared.losers.Loser.{Loser}
use Rattle.sd_recovered.specs.Losers.{AreLosers, AreTidy}
use Rattle.sd_recovered.specs.declared.logs.ReadLogs.{ReadLogs}

-- The log that the device of instance j keeps, and its losers.
pub record LogIsRead (j : ℕ) (device : List ℕ) (log : LogState) (losers : List Loser) : Type 0 where
  pub master : MasterIsSound device
  pub groups : GroupsAreSound j device
  pub inst_is : log.inst ≡ j
  pub start_is : log.start ≡ (master_on device).start
  pub kept_is : kept device ≡ Whole log.groups log.gate
  pub spelled : AreSpelled (scanned log)
  pub no_tail : log.tail ≡ []
  pub tidy : AreTidy (scanned log)
  pub losers_are : AreLosers (scanned log) losers

-- the master that counts on a log device, or none
abbrev pub counting : List ℕ → Option Master
counting device = option_map master_in (chosen_body 0 64 device)

-- The same of these devices, from instance j on.
abbrev pub AreRead : ℕ → List (List ℕ) → List LogState → List (List Loser) → Type 0
AreRead j [] [] [] = Unit {0}
AreRead j [] (log ∷ logs) losers = ⊥
AreRead j [] [] (ls ∷ losers) = ⊥
AreRead j (d ∷ devices) [] losers = ⊥
AreRead j (d ∷ devices) (log ∷ logs) [] = ⊥
AreRead j (d ∷ devices) (log ∷ logs) (ls ∷ losers) = LogIsRead j d log ls × AreRead (suc j) devices logs losers

-- This was read of these log devices, that of instance 1 first: their logs with their losers, and the masters that count.
pub record HasRead (devices : List (List ℕ)) (reading : ReadLogs) : Type 0 where
  pub read : AreRead 1 devices reading.logs.items reading.losers.items
  pub masters : map said reading.masters.items ≡ map counting devices

-- The log device of instance j breaks one of the checks of a log.
abbrev pub IsUnread : ℕ → List ℕ → Type 0
IsUnread j device = MasterIsSound device → GroupsAreSound j device → TxnsAreSound device → ⊥

-- One of these devices, from instance j on, does.
abbrev pub SomeUnread : ℕ → List (List ℕ) → Type 0
SomeUnread j [] = ⊥
SomeUnread j (d ∷ devices) = IsUnread j d ⊎ SomeUnread (suc j) devices

-- The first record of the log that isn't in its transaction's order stands at this place of the device.
pub record Misplaced (log : List Placed) (at : ℕ) : Type 0 where
  pub index : ℕ
  pub found : Placed
  pub there : slice_get log index ≡ Some found
  pub at_is : at ≡ 130 + found.place
  pub first : IsFirstMisplaced (flats log) index

-- Of these log devices, the first of which is that of instance 1, this is the first that isn't sound.
pub record FailsAmong (devices : List (List ℕ)) (dev at : ℕ) : Type 0 where
  pub index : ℕ
  pub device : List ℕ
  pub there : slice_get devices index ≡ Some device
  pub dev_is : dev ≡ 1 + index
  pub before : (k : ℕ) (d : List ℕ) → k < index → slice_get devices k ≡ Some d → LogIsSound (1 + k) d
  pub here : LogFailsAt (1 + index) device at
