-- What clauses read of a complex: its parts, those of the instances by their numbers.
use Rattle.std.specs.Prelude.{ℕ, zero, suc, ◌≤◌, Bool, true, false, List, [], Option, None, get_or, eqb, length, ◌≡◌, ◌∷◌, ◌++◌, map, min}
use Rattle.sd_base.specs.Standing.{active_as}
use Rattle.sd_base.specs.declared.place.Status.{Status}
use Rattle.sd_base.specs.declared.place.Status.TheVariants as S
use Rattle.sd_log.specs.Logs.{LogState}
use Rattle.sd_logrec.specs.Spelling.{Changed, Span}
use Rattle.sd_page.specs.Page.{Page}
use Rattle.sd_pagelock.specs.Directory.{DirectoryState}
use Rattle.sd_pool.specs.Buffers.{Buffers}
use Rattle.sd_reclock.specs.Locks.{LockTable}
use Rattle.sd_chain.specs.Logs.{Logs}
use Rattle.sd_txn.specs.Transactions.{Transactions}

-- a checkpoint that is begun: the LSN of its begin, and its tables: who was there with the span of its records, and the RecLSNs of pages
pub record Begun : Type 0 where
  pub begin : ℕ
  pub spans : List Span
  pub recs : List Changed

-- the least of n and these
abbrev pub least_of : ℕ → List ℕ → ℕ
least_of n [] = n
least_of n (x ∷ xs) = min x (least_of n xs)

-- The low below which its log isn't needed once it ends: the least of its begin, of the first LSNs of its transactions, and of its RecLSNs.
unfoldable pub low_of : Begun → ℕ
low_of k = least_of k.begin (map (λ s. s.1) k.spans ++ map (λ r. r.1) k.recs)

pub record Parts : Type 0 where
  -- of instances 1 to 8, that of instance 1 first
  pub logs : List LogState
  pub pools : List Buffers
  pub txns : List Transactions
  pub statuses : List Status
  pub epochs : List ℕ
  -- the count of each log's master that counts
  pub masters : List ℕ
  -- the checkpoint that an instance has begun
  pub checks : List (Option Begun)
  -- the other place at which a log may begin, where a put of its master failed
  pub others : List (Option ℕ)
  -- the records that each log owes as it is forced
  pub owed : List ℕ
  -- of devices 0 to 8: it isn't settled
  pub loose : List Bool
  pub directory : DirectoryState Page
  pub locks : LockTable
  -- the greatest LSN of a page on device 0 when the complex was opened
  pub disk_lsn : ℕ
  -- the instance that is to fall, and the log that it failed to force
  pub due : Option (ℕ × ℕ)

-- the item of instance j among those of instances 1, 2 and so on; there is no instance 0
abbrev pub among : {A : Type 0} → A → List A → ℕ → A
among none items zero = none
among none items (suc j) = get_or items j none

-- a log without records, which no instance has
abbrev pub no_log : LogState
no_log = record { inst = 0; start = 0; gate = 0; groups = []; tail = []; spare = 0 }

abbrev pub no_pool : Buffers
no_pool = record { held = []; frames = 0 }

abbrev pub no_txns : Transactions
no_txns = record { inst = 0; epoch = 0; begins = 0; unresolved = [] }

abbrev pub log_at : Parts → Logs
log_at c j = among no_log c.logs j

abbrev pub pool_at : Parts → ℕ → Buffers
pool_at c j = among no_pool c.pools j

abbrev pub txns_at : Parts → ℕ → Transactions
txns_at c j = among no_txns c.txns j

abbrev pub status_at : Parts → ℕ → Status
status_at c j = among S.Closed c.statuses j

abbrev pub epoch_at : Parts → ℕ → ℕ
epoch_at c j = among 0 c.epochs j

abbrev pub count_at : Parts → ℕ → ℕ
count_at c j = among 0 c.masters j

abbrev pub check_at : Parts → ℕ → Option Begun
check_at c j = among {A = Option Begun} None c.checks j

abbrev pub other_at : Parts → ℕ → Option ℕ
other_at c j = among {A = Option ℕ} None c.others j

abbrev pub owed_at : Parts → ℕ → ℕ
owed_at c j = among 0 c.owed j

-- a device isn't settled; there are none above 8
abbrev pub is_loose : Parts → ℕ → Bool
is_loose c d = get_or c.loose d true

-- an instance in this status may append to its log
abbrev pub up_as : Status → Bool
up_as S.Up = true
up_as S.Down = false
up_as (S.Recovering by) = false
up_as S.Clean = true
up_as S.Restarting = true
up_as S.Closed = false

abbrev pub is_active : Parts → ℕ → Bool
is_active c i = active_as i (status_at c i)

abbrev pub is_up : Parts → ℕ → Bool
is_up c i = up_as (status_at c i)

-- who acts for an instance in this status: its recoverer, where it has one
abbrev pub acting : ℕ → Status → ℕ
acting i S.Up = i
acting i S.Down = i
acting i (S.Recovering by) = by
acting i S.Clean = i
acting i S.Restarting = i
acting i S.Closed = i

abbrev pub actor : Parts → ℕ → ℕ
actor c i = acting i (status_at c i)

-- Each list has an item for each instance or device, and each item is of its own instance.
pub record IsShape (c : Parts) : Type 0 where
  pub logs : length c.logs ≡ 8
  pub pools : length c.pools ≡ 8
  pub txns : length c.txns ≡ 8
  pub statuses : length c.statuses ≡ 8
  pub epochs : length c.epochs ≡ 8
  pub masters : length c.masters ≡ 8
  pub checks : length c.checks ≡ 8
  pub others : length c.others ≡ 8
  pub owed : length c.owed ≡ 8
  pub loose : length c.loose ≡ 9
  pub own_log : (j : ℕ) → 1 ≤ j → j ≤ 8 → (log_at c j).inst ≡ j
  pub own_txns : (j : ℕ) → 1 ≤ j → j ≤ 8 → (txns_at c j).inst ≡ j
