-- What newest pages, logs and their losers were read from.
use Rattle.std.specs.Prelude.{◌≡◌, ℕ, suc, ◌<◌, List, [], ◌∷◌, Some, map, slice_get}
use Rattle.std.specs.List.{flat_map}
use Rattle.sd_base.specs.declared.ids.TxnId.{TxnId}
use Rattle.sd_page.specs.Page.{Page}
use Rattle.sd_log.specs.Logs.{LogState, log_in, scanned}
use Rattle.sd_chain.specs.Storage.{Storage, newest}
use Rattle.sd_chain.specs.Records.{Each, home}
use Rattle.sd_recovered.specs.Losers.{AreLosers}
use Rattle.sd_recovered.specs.declared.losers.Loser.{Loser}

-- the pages are the newest of this image, and the logs, of which the first is log 1, are its logs
pub record NewestAreRead (img : Storage) (pages : List Page) (logs : List LogState) : Type 0 where
  pub pages_are : (p : ℕ) → p < 1024 → slice_get pages p ≡ Some (newest img p)
  pub logs_are : (j : ℕ) → img.logs j ≡ log_in logs j

-- the losers of log j, which are of its instance
pub record IsLosersOf (j : ℕ) (log : LogState) (losers : List Loser) : Type 0 where
  pub losers_are : AreLosers (scanned log) losers
  pub own : Each (λ l. home l.txn ≡ j) losers

-- each log's losers, from log j on
abbrev pub AreLosersFrom : ℕ → List LogState → List (List Loser) → Type 0
AreLosersFrom j [] [] = Unit {0}
AreLosersFrom j [] (ls ∷ losers) = ⊥
AreLosersFrom j (log ∷ logs) [] = ⊥
AreLosersFrom j (log ∷ logs) (ls ∷ losers) = IsLosersOf j log ls × AreLosersFrom (suc j) logs losers

abbrev pub AreLosersOf : List LogState → List (List Loser) → Type 0
AreLosersOf logs losers = AreLosersFrom 1 logs losers

-- the losers of all logs
abbrev pub txns_of : List (List Loser) → List TxnId
txns_of losers = flat_map (λ ls. map (λ l. l.txn) ls) losers
