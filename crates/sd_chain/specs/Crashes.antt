-- What a crash leaves, told log by log and page by page, and what it may leave while a log is forced or a page is written.
use Rattle.std.specs.Prelude.{◌≡◌, ◌≢◌, ◌⊎◌, ℕ, [], ◌++◌, cond}
use Rattle.sd_base.specs.declared.ids.TxnId.{TxnId}
use Rattle.sd_page.specs.Page.{Page}
use Rattle.sd_chain.specs.Records.{Val}
use Rattle.sd_chain.specs.Storage.{Storage, Sound, Recovered}
use Rattle.sd_chain.specs.Images.{Tails, Keeps}
use Rattle.sd_chain.specs.Order.{Tidy}

-- each log is left with its tail or without, and each page as one of its possible disk images
pub record CrashLeaves (tails : Tails) (may : ℕ → Page → Type 0) (img : Storage) : Type 0 where
  pub logs : (j : ℕ) → (img.logs j ≡ tails.base j) ⊎ (img.logs j ≡ tails.base j ++ tails.tail j)
  pub disks : (p : ℕ) → may p (img.disk p)

-- the image has these tails, it is sound, its transactions' records are in order, and recovery gives what belongs to the
-- tails that it has
pub record StandsFor (tails : Tails) (value : Keeps → ℕ → ℕ → Val) (img : Storage) : Type 0 where
  pub keeps : Keeps
  pub logs : (j : ℕ) → img.logs j ≡ tails.base j ++ cond (keeps j) (tails.tail j) []
  pub sound : Sound img
  pub order : (j : ℕ) (t : TxnId) → Tidy t (img.logs j)
  pub recovered : (p s : ℕ) → Recovered img p s (value keeps p s)

-- while log i is forced: that log either way, and all else as it might be left before
pub record DuringForce (i : ℕ) (tails : Tails) (may : ℕ → Page → Type 0) (img : Storage) : Type 0 where
  pub before : Storage
  pub could : CrashLeaves tails may before
  pub here : (img.logs i ≡ tails.base i) ⊎ (img.logs i ≡ tails.base i ++ tails.tail i)
  pub others : (j : ℕ) → j ≢ i → img.logs j ≡ before.logs j
  pub disk : (p : ℕ) → img.disk p ≡ before.disk p

-- while page p is written: its disk image is an old one or this one, and all else is as it might be left before
pub record DuringPut (p : ℕ) (page : Page) (tails : Tails) (may : ℕ → Page → Type 0) (img : Storage) : Type 0 where
  pub before : Storage
  pub could : CrashLeaves tails may before
  pub here : (img.disk p ≡ before.disk p) ⊎ (img.disk p ≡ page)
  pub others : (q : ℕ) → q ≢ p → img.disk q ≡ before.disk q
  pub logs : (j : ℕ) → img.logs j ≡ before.logs j
