-- What the devices hold, and what they stand for.
use Rattle.std.specs.Prelude.{◌≡◌, ◌≢◌, ◌⊎◌, ℕ, zero, suc, ◌<◌, ◌≤◌, true, List, [], ◌∷◌, ◌++◌, length, ltb, cond, filter}
use Rattle.sd_logrec.specs.View.{Rec}
use Rattle.sd_base.specs.declared.ids.TxnId.{TxnId}
use Rattle.sd_chain.specs.Records.{Val, home, of_page, of_rid, at, Each, stack, IsOpen}
use Rattle.sd_base.specs.Values.{size}
use Rattle.sd_page.specs.Page.{Page}
use Rattle.sd_chain.specs.Pages.{value, capacity, replay, FitAll}

-- the kept records of each log, and each page on disk
pub record Storage : Type 0 where
  pub logs : ℕ → List Rec
  pub disk : ℕ → Page

-- the records of the first n logs
unfoldable pub all_of : (ℕ → List Rec) → ℕ → List Rec
all_of logs zero = []
all_of logs (suc n) = logs n ++ all_of logs n

-- put in by LSN
abbrev pub inserted : Rec → List Rec → List Rec
inserted x [] = x ∷ []
inserted x (y ∷ ys) = cond (ltb x.lsn y.lsn) (x ∷ y ∷ ys) (y ∷ inserted x ys)

-- by LSN
abbrev pub sorted : List Rec → List Rec
sorted [] = []
sorted (x ∷ xs) = inserted x (sorted xs)

-- the kept records of a page from all logs, by LSN
unfoldable pub chain : Storage → ℕ → List Rec
chain img p = sorted (filter (of_page p) (all_of img.logs 9))

-- the newest version of a page: its disk image with each record of the chain that is newer
unfoldable pub newest : Storage → ℕ → Page
newest img p = replay (img.disk p).lsn (img.disk p) (chain img p)

-- the value of a record in its page's newest version
abbrev pub now : Storage → ℕ → ℕ → Val
now img p s = value (newest img p).slots s

-- the stack of a transaction in its own log
abbrev pub opens : Storage → TxnId → List Rec
opens img t = stack t (img.logs (home t))

-- no Commit and no End of the transaction is kept
abbrev pub Open : Storage → TxnId → Type 0
Open img t = IsOpen t (img.logs (home t))

-- the value is the last one's after, the last one's before is the next one's after, and so on
abbrev pub Linked : Val → List Rec → Type 0
Linked v [] = Unit {0}
Linked v (x ∷ xs) = (v ≡ x.after) × Linked x.before xs

-- the value with these undone
abbrev pub undone : Val → List Rec → Val
undone v [] = v
undone v (x ∷ xs) = undone x.before xs

-- a record of the stack has a place in the page, which its before value fits
pub record HasPlace (slots : List (ℕ × Val)) (x : Rec) : Type 0 where
  pub slot : x.slot < length slots
  pub room : size x.before ≤ capacity slots x.slot

-- no other transaction changed the record of x at or above x
abbrev pub Alone : Storage → TxnId → Rec → Type 0
Alone img t x = (j : ℕ) → Each (λ z. z.txn ≢ t → of_rid x.page x.slot z ≡ true → z.lsn < x.lsn) (img.logs j)

-- what an open transaction's stack may be
pub record StackFits (img : Storage) (t : TxnId) : Type 0 where
  pub places : Each (λ x. HasPlace (newest img x.page).slots x) (opens img t)
  pub linked : (p s : ℕ) → Linked (now img p s) (filter (at p s) (opens img t))
  pub alone : Each (Alone img t) (opens img t)

pub record Sound (img : Storage) : Type 0 where
  pub disks : (p s : ℕ) → size (value (img.disk p).slots s) ≤ capacity (img.disk p).slots s
  pub pages : (p : ℕ) → FitAll (img.disk p).lsn (img.disk p) (chain img p)
  pub stacks : (t : TxnId) → Open img t → StackFits img t

-- what recovery gives a record: where an open transaction changed it, the value before its first change, else the newest one
abbrev pub Recovered : Storage → ℕ → ℕ → Val → Type 0
Recovered img p s v =
    ((t : TxnId) × Open img t × (filter (at p s) (opens img t) ≢ []) × (v ≡ undone (now img p s) (filter (at p s) (opens img t))))
    ⊎ (((t : TxnId) → Open img t → filter (at p s) (opens img t) ≡ []) × (v ≡ now img p s))
