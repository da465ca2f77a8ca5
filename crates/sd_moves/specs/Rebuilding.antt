-- A lost page that is rebuilt: its records, and when it may be.
use Rattle.std.specs.Prelude.{◌≡◌, ℕ, ◌≤◌, List, false, filter, None}
use Rattle.sd_logrec.specs.View.{Rec}
use Rattle.sd_log.specs.Logs.{LogState, forced_in}
use Rattle.sd_pagelock.specs.Directory.{entry_at}
use Rattle.sd_pagelock.specs.Places.{PageEntry}
use Rattle.sd_chain.specs.Storage.{all_of, sorted}
use Rattle.sd_chain.specs.Records.{of_page}
use Rattle.sd_state.specs.Parts.{Parts, is_loose}

-- the forced records of a page, of these logs, by LSN
abbrev pub forced_chain : ℕ → List LogState → List Rec
forced_chain p logs = sorted (filter (of_page p) (all_of (forced_in logs) 9))

-- The page is lost, all nine devices are settled, and no fall is due.
pub record MayRebuild (p : ℕ) (c : Parts) : Type 0 where
  pub lost : entry_at c.directory p ≡ PageEntry.Lost
  pub settled : (d : ℕ) → d ≤ 8 → is_loose c d ≡ false
  pub idle : c.due ≡ None
