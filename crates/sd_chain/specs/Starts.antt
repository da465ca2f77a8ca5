-- A log that is read from another place, and a device whose master may name the one place or the other.
use Rattle.std.specs.Prelude.{◌≡◌, ◌⊎◌, ℕ, ◌≤◌, true, false, List, [], ◌++◌, Some, is_some, map}
use Rattle.std.specs.List.{list_any}
use Rattle.sd_base.specs.declared.ids.TxnId.{TxnId}
use Rattle.sd_base.specs.Twin.{chosen_body}
use Rattle.sd_logrec.specs.declared.record.Record.{Record}
use Rattle.sd_logrec.specs.Kept.{Master, master, master_of}
use Rattle.sd_logrec.specs.View.{Rec, flat}
use Rattle.sd_log.specs.Logs.{LogState, StandsOn}
use Rattle.sd_chain.specs.Checks.{IsMaster, is_end_check}
use Rattle.sd_chain.specs.Order.{of_txn}
use Rattle.sd_chain.specs.Records.{Each, IsOpen}
use Rattle.sd_chain.specs.Logs.{Logs, base_at, past_at, records_at, Outcomes}
use Rattle.sd_chain.specs.Soundly.{IsSoundly, SlotsAreSound}

-- A transaction has no record in front, or is closed either way.
abbrev pub IsClosed : List Rec → List Rec → TxnId → Type 0
IsClosed gone new t = Each (λ x. of_txn t x ≡ false) gone
    ⊎ ((IsOpen t new → ⊥) ⊎ ((IsOpen t (gone ++ new) → ⊥) × Each (λ x. of_txn t x ≡ false) new))

-- The second log has the records of the first but for the first ones, wherever they stand, and reaches no further; neither
-- has a tail, and what is open isn't touched.
pub record IsShorter (gone : List Record) (l l' : LogState) : Type 0 where
  pub records : records_at l ≡ gone ++ records_at l'
  pub gate : l'.gate ≤ l.gate
  pub tail : l.tail ≡ []
  pub tail' : l'.tail ≡ []
  pub closed : (t : TxnId) → IsClosed (map flat gone) (base_at l') t

-- A master that a checkpoint ends with: its epoch is the one that the log is in, and it names an EndCheck that is kept, with no
-- LSN above it.
pub record EndsCheck (was : List ℕ) (l l' : LogState) (m : Master) : Type 0 where
  pub epoch : m.epoch ≡ (past_at (master was) l).epoch
  pub check : (past_at (master was) l).lsn ≤ m.check
  pub ended : list_any (is_end_check m.check) (records_at l') ≡ true

-- One that says of the same records what the former one says.
pub record SaysAgain (was : List ℕ) (l l' : LogState) (m : Master) : Type 0 where
  pub chosen : is_some (chosen_body 0 64 was) ≡ true
  pub records : records_at l' ≡ records_at l
  pub epoch : m.epoch ≡ (master was).epoch
  pub check : m.check ≡ (master was).check

abbrev pub Says : List ℕ → LogState → LogState → Master → Type 0
Says was l l' m = EndsCheck was l l' m ⊎ SaysAgain was l l' m

-- The shorter log stands behind a master that counts: its place is the log's, and it says what holds of the log.
pub record IsLater (was : List ℕ) (l l' : LogState) (bytes : List ℕ) : Type 0 where
  pub chosen : is_some (chosen_body 0 64 bytes) ≡ true
  pub start : (master bytes).start ≡ l'.start
  pub says : Says was l l' (master bytes)
  pub stands : StandsOn l' bytes
  pub slots : SlotsAreSound bytes

-- A body of a master that names the other place of a log on these bytes.
pub record NamesLater (was : List ℕ) (l l' : LogState) (body : List ℕ) : Type 0 where
  pub well : IsMaster body
  pub start : (master_of (Some body)).start ≡ l'.start
  pub says : Says was l l' (master_of (Some body))
  -- read from there, the device has the log
  pub stands : StandsOn l' was

-- what may be left, where device i is left so
abbrev pub only_if : ℕ → (List ℕ → Type 0) → Outcomes → Outcomes
only_if i P leaves d bytes = leaves d bytes × (d ≡ i → P bytes)

-- Two start places: device i is left with the one or with the other, and what may be left is sound for each.
pub record IsSoundlyTwice (i : ℕ) (P Q : List ℕ → Type 0) (leaves : Outcomes) (logs logs' : Logs) : Type 0 where
  pub either : (bytes : List ℕ) → leaves i bytes → P bytes ⊎ Q bytes
  pub first : IsSoundly (only_if i P leaves) logs
  pub second : IsSoundly (only_if i Q leaves) logs'
