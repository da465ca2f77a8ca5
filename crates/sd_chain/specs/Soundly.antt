-- When what a crash may leave passes each check that a restart makes, told of the eight logs in memory.
use Rattle.std.specs.Prelude.{◌≡◌, ◌≢◌, ℕ, ◌+◌, ◌^◌, ◌<◌, ◌≤◌, IsTrue, IfSome, List, is_some}
use Rattle.std.specs.List.{list_any}
use Rattle.sd_base.specs.Twin.{Same, chosen_body, chosen_slot}
use Rattle.sd_logrec.specs.Kept.{master}
use Rattle.sd_logrec.specs.View.{Rec}
use Rattle.sd_page.specs.Page.{Page}
use Rattle.sd_log.specs.Logs.{LogState, forced}
use Rattle.sd_log.specs.Forces.{StandsEither}
use Rattle.sd_chain.specs.Checks.{Follow, IsSlot, TwinIsSound, is_end_check, past_of, reserve}
use Rattle.sd_chain.specs.Records.{Each}
use Rattle.sd_chain.specs.Images.{Tails, Keeps}
use Rattle.sd_chain.specs.Logs.{Logs, base_at, kept_logs, may_of, owed_with, records_at, tails_of, Outcomes}

-- The two slots of a master are well formed, and differ.
pub record SlotsAreSound (bytes : List ℕ) : Type 0 where
  pub differ : chosen_slot 0 64 bytes ≢ Same
  pub first : IsSlot 0 bytes
  pub second : IsSlot 65 bytes

-- The log, behind the master of this device, is sound, and there is room to end what it leaves open.
pub record LogIsSound (j : ℕ) (bytes : List ℕ) (log : LogState) : Type 0 where
  pub ended : IfSome (chosen_body 0 64 bytes) (λ _. IsTrue (list_any (is_end_check (master bytes).check) (records_at log)))
  pub follow : Follow j (is_some (chosen_body 0 64 bytes)) (master bytes) (past_of (master bytes)) (records_at log)
  pub room : log.gate + reserve (base_at log) + 1 ≤ 1048576

-- The log stands on these bytes of its device with its tail or without, and is sound either way.
pub record IsReady (j : ℕ) (bytes : List ℕ) (log : LogState) : Type 0 where
  pub start : (master bytes).start ≡ log.start
  pub either : StandsEither log bytes
  pub slots : SlotsAreSound bytes
  pub sound : LogIsSound j bytes log
  pub sound_forced : LogIsSound j bytes (forced log)

-- With these tails kept there are LSNs above that of a record for all that is owed.
abbrev pub HasLsns : Tails → Keeps → Rec → Type 0
HasLsns tails keeps x = x.lsn + owed_with tails keeps < 2 ^ 62

-- There are, above each record and each page that may be left.
pub record LsnsFit (tails : Tails) (may : ℕ → Page → Type 0) (keeps : Keeps) : Type 0 where
  pub logs : (j : ℕ) → 1 ≤ j → j ≤ 8 → Each (HasLsns tails keeps) (kept_logs tails keeps j)
  pub pages : (p : ℕ) (x : Page) → may p x → x.lsn + owed_with tails keeps < 2 ^ 62

-- What a crash may leave of each device is sound: checks 1, 2, 4 and 7. Checks 3, 5 and 6 are those of `IsSafe`.
pub record IsSoundly (leaves : Outcomes) (logs : Logs) : Type 0 where
  pub ready : (j : ℕ) → 1 ≤ j → j ≤ 8 → (bytes : List ℕ) → leaves j bytes → IsReady j bytes (logs j)
  pub twins : (p : ℕ) → p < 1024 → (bytes : List ℕ) → leaves 0 bytes → TwinIsSound p bytes
  pub lsns : (keeps : Keeps) → LsnsFit (tails_of logs) (may_of leaves) keeps
