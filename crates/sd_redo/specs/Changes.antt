-- The changes of pages that logs keep, in the order in which they are redone.
use Rattle.std.specs.Prelude.{◌≡◌, ℕ, zero, suc, ◌-◌, ◌<◌, ◌≤◌, Bool, List, [], ◌∷◌, ◌++◌, Some, map, filter, slice_get, All, IsPermutation, ◌==◌, ◌&&◌}
use Rattle.std.specs.List.Sorted.{IsNonDecreasingBy}
use Rattle.std.specs.Option.{option_map_or}
use Rattle.sd_logrec.specs.declared.record.Record.{Record}
use Rattle.sd_logrec.specs.Spelling.{HasSpelling}
use Rattle.sd_logrec.specs.View.{Rec, flat}
use Rattle.sd_log.specs.declared.placed.Placed.{Placed}
use Rattle.sd_log.specs.Logs.{LogState, log_in, lsn_of, scanned}
use Rattle.sd_chain.specs.Storage.{all_of}
use Rattle.sd_chain.specs.Records.{Each, IsPageRecord, of_page}
use Rattle.sd_redo.specs.declared.change.Change.{Change}

-- the record of a change
abbrev pub found_of : Change → Placed
found_of c = c.found.now

-- what is redone of a change
abbrev pub redone_of : Change → Rec
redone_of c = flat c.found.now.rec

-- the record changes this page
pub record ChangesPage (r : Record) (page : ℕ) : Type 0 where
  pub kind : IsPageRecord r
  pub here : (flat r).page ≡ page

-- a change is a record of the grammar, and names its page
pub record IsChange (c : Change) : Type 0 where
  pub spelled : HasSpelling c.found.now.rec
  pub page : ChangesPage c.found.now.rec c.page

abbrev pub AreChanges : List Change → Type 0
AreChanges cs = All IsChange cs

-- what is redone of a page
abbrev pub chain_of : ℕ → List Change → List Rec
chain_of p cs = filter (of_page p) (map redone_of cs)

-- these are the changes of the page in the first n logs, by LSN
pub record IsMerged (p : ℕ) (logs : ℕ → List Rec) (n : ℕ) (xs : List Rec) : Type 0 where
  pub same : IsPermutation (filter (of_page p) (all_of logs n)) xs
  pub rises : IsNonDecreasingBy (λ x. x.lsn) xs

-- what the first n logs have, log 1 first
abbrev pub in_turn : {X : Type 0} → (ℕ → List X) → ℕ → List X
in_turn logs zero = []
in_turn logs (suc n) = in_turn logs n ++ logs n

-- the records of log j of these logs with their places, of which the first is log 1
abbrev pub placed_in : List LogState → ℕ → List Placed
placed_in logs zero = []
placed_in logs (suc j) = option_map_or scanned (slice_get logs j) []

-- those of one LSN
abbrev pub of_lsn : ℕ → List Placed → List Placed
of_lsn n ps = filter (λ p. lsn_of p == n) ps

-- these records by LSN, those of one LSN in the order that they had
pub record AreByLsn (ps by_lsn : List Placed) : Type 0 where
  pub same : IsPermutation ps by_lsn
  pub rises : IsNonDecreasingBy lsn_of by_lsn
  pub turns : (n : ℕ) → of_lsn n by_lsn ≡ of_lsn n ps

-- a record that changes this page
abbrev pub is_of : ℕ → Placed → Bool
is_of page p = of_page page (flat p.rec)

-- a forced record that changes this page
abbrev pub is_forced_of : ℕ → Placed → Bool
is_forced_of page p = p.forced && is_of page p

-- each LSN is above those before it
abbrev pub Rises : List Rec → Type 0
Rises [] = Unit {0}
Rises (x ∷ xs) = Each (λ z. x.lsn < z.lsn) xs × Rises xs

-- and so in each of these logs
abbrev pub LsnsRise : List LogState → Type 0
LsnsRise logs = (j : ℕ) → Rises (log_in logs j)

-- The record stands in the log of this device, of which the first is log 1.
pub record StandsIn (logs : List LogState) (dev : ℕ) (found : Placed) : Type 0 where
  pub log : LogState
  pub some : 1 ≤ dev
  pub log_is : slice_get logs (dev - 1) ≡ Some log
  pub index : ℕ
  pub there : slice_get (scanned log) index ≡ Some found

-- each change is one of its device's log
abbrev pub AllStand : List LogState → List Change → Type 0
AllStand logs cs = All (λ c. StandsIn logs c.dev c.found.now) cs
