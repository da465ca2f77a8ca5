-- Room for the records that end what is open: bytes in each log, and LSNs.
use Rattle.std.specs.Prelude.{◌≡◌, ◌⊎◌, ℕ, ◌+◌, ◌^◌, ◌<◌, ◌≤◌, All, Bool, IsTrue, List, Some, slice_get, sum_by}
use Rattle.sd_logrec.specs.View.{flat}
use Rattle.sd_log.specs.Logs.{LogState, flats, scanned}
use Rattle.sd_page.specs.Page.{Page}
use Rattle.sd_chain.specs.Checks.{owed, reserve}

-- how many records end what is open in these logs
abbrev pub owed_in : List LogState → ℕ
owed_in logs = sum_by (λ log. owed (flats (scanned log))) logs

-- the LSN leaves as many below 2^62
abbrev pub IsLow : ℕ → ℕ → Type 0
IsLow owed lsn = lsn + owed < 2 ^ 62

abbrev pub IsPageLow : ℕ → Page → Type 0
IsPageLow owed page = IsLow owed page.lsn

-- each record's LSN does
abbrev pub IsLogLow : ℕ → LogState → Type 0
IsLogLow owed log = All (λ p. IsLow owed (flat p.rec).lsn) (scanned log)

-- the bytes that end what is open fit behind the next gate
abbrev pub HasRoom : LogState → Type 0
HasRoom log = log.gate + reserve (flats (scanned log)) + 1 ≤ 1048576

-- LSNs and room are left in all logs.
pub record EndsFit (logs : List LogState) : Type 0 where
  pub records : All (IsLogLow (owed_in logs)) logs
  pub room : All HasRoom logs

-- Of these logs, from that of instance j on, the first without room is this device's; its next gate stands at this place.
pub record LacksRoom (j : ℕ) (logs : List LogState) (dev at : ℕ) : Type 0 where
  pub index : ℕ
  pub log : LogState
  pub there : slice_get logs index ≡ Some log
  pub dev_is : dev ≡ j + index
  pub at_is : at ≡ 130 + log.gate
  pub before : (k : ℕ) (l : LogState) → k < index → slice_get logs k ≡ Some l → HasRoom l
  pub lacks : HasRoom log → ⊥

-- LSNs lack: told of log 1, at its next gate.
pub record LacksLsns (low : Bool) (logs : List LogState) (dev at : ℕ) : Type 0 where
  pub lack : IsTrue low → All (IsLogLow (owed_in logs)) logs → ⊥
  pub dev_is : dev ≡ 1
  pub first : LogState
  pub there : slice_get logs 0 ≡ Some first
  pub at_is : at ≡ 130 + first.gate

-- LSNs lack, or else room does
abbrev pub EndsFailAt : Bool → List LogState → ℕ → ℕ → Type 0
EndsFailAt low logs dev at =
    LacksLsns low logs dev at ⊎ (IsTrue low × All (IsLogLow (owed_in logs)) logs × LacksRoom 1 logs dev at)
