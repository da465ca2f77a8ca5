-- What holds of all that a crash may leave holds of less: for the goals of `narrowing` in laws.rt, and lent to the crates above.
use Rattle.std.proofs.Common.{ℕ}
use Rattle.sd_page.specs.Page.{Page}
use Rattle.sd_chain.specs.Records.{Val}
use Rattle.sd_chain.specs.Storage.{Storage}
use Rattle.sd_chain.specs.Images.{Tails, Keeps, IsSafe, Gives, Allowed}
use Rattle.sd_chain.specs.Crashes.{CrashLeaves}
use Rattle.sd_chain.specs.Laws.{Narrows}

module _ (wide may : ℕ → Page → Type 0) (narrows : Narrows wide may) where
  -- disk images that this one allows the wider one allows
  pub allowed-wide : (disk : ℕ → Page) → Allowed may disk → Allowed wide disk
  allowed-wide disk a p = narrows p (disk p) (a p)

  -- safe for the wider one is safe for this one
  pub narrowed-safe : (tails : Tails) (version : Keeps → ℕ → Page) → IsSafe tails wide version → IsSafe tails may version
  narrowed-safe tails version safe = record {
    eight = safe.eight;
    numbered = safe.numbered;
    order = safe.order;
    pops = safe.pops;
    sound = λ disk a keeps. safe.sound disk (allowed-wide disk a) keeps;
    same = λ disk a keeps p. safe.same disk (allowed-wide disk a) keeps p;
  }

  -- recovery gives the same
  pub narrowed-gives : (tails : Tails) (value : Keeps → ℕ → ℕ → Val) → Gives tails wide value → Gives tails may value
  narrowed-gives tails value gives disk a keeps p s = gives disk (allowed-wide disk a) keeps p s

  -- what this one leaves the wider one may leave
  pub narrowed-leaves : (tails : Tails) (img : Storage) → CrashLeaves tails may img → CrashLeaves tails wide img
  narrowed-leaves tails img l = record { logs = l.logs; disks = allowed-wide img.disk l.disks }
