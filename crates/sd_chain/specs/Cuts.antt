-- Logs with tails that aren't forced: each log may be left with its tail or without.
use Rattle.std.specs.Prelude.{◌≡◌, ◌≢◌, ℕ, ◌<◌, Bool, true, false, List, [], ◌∷◌, ◌++◌, filter, cond}
use Rattle.sd_logrec.specs.View.{Rec}
use Rattle.sd_base.specs.declared.ids.TxnId.{TxnId}
use Rattle.sd_chain.specs.Records.{of_page, at, Each, home, stack, step, IsOpen}
use Rattle.sd_logrec.specs.View.Kind.{Update, Clr}
use Rattle.sd_page.specs.Page.{Page}
use Rattle.sd_chain.specs.Pages.{FitsKind}
use Rattle.sd_chain.specs.Storage.{Storage, newest, opens, Open, Sound}
use Rattle.sd_chain.specs.Changes.{IsAbovePage, CanUndo}

-- what is forced, what isn't, and the pages
pub record Logs : Type 0 where
  pub base : ℕ → List Rec
  pub tail : ℕ → List Rec
  pub disk : ℕ → Page

-- the image that has the tails of these logs
abbrev pub cut : (ℕ → Bool) → Logs → Storage
cut keeps logs = record { logs = λ j. logs.base j ++ cond (keeps j) (logs.tail j) []; disk = logs.disk }

-- the image that has all tails
abbrev pub whole : Logs → Storage
whole logs = cut (λ j. true) logs

-- whichever tails a crash leaves
abbrev pub EachSound : Logs → Type 0
EachSound logs = (keeps : ℕ → Bool) → Sound (cut keeps logs)

-- tail i has one more record
pub record Gained (i : ℕ) (y : Rec) (old new : Logs) : Type 0 where
  pub inside : i < 9
  pub here : new.tail i ≡ old.tail i ++ y ∷ []
  pub others : (j : ℕ) → j ≢ i → new.tail j ≡ old.tail j
  pub base : (j : ℕ) → new.base j ≡ old.base j
  pub disk : (p : ℕ) → new.disk p ≡ old.disk p

-- an undo in the tail is of the page of the top
abbrev pub IsTopsPage : Rec → List Rec → Type 0
IsTopsPage x [] = Unit {0}
IsTopsPage x (top ∷ below) = x.page ≡ top.page

-- so does each undo of these records, from this stack on
abbrev pub Pops : TxnId → List Rec → List Rec → Type 0
Pops t open_ones [] = Unit {0}
Pops t open_ones (x ∷ xs) = (x.txn ≡ t → x.kind ≡ Clr → IsTopsPage x open_ones) × Pops t (step t open_ones x) xs

-- no tail but that of log i has a record of the page
abbrev pub IsLone : Logs → ℕ → ℕ → Type 0
IsLone logs i p = (j : ℕ) → j ≢ i → Each (λ x. of_page p x ≡ false) (logs.tail j)

-- the transaction's change may be appended to log i, seen from the logs with all tails
pub record CanUpdateWhole (i : ℕ) (logs : Logs) (y : Rec) : Type 0 where
  pub kind : y.kind ≡ Update
  pub runs : Open (whole logs) y.txn
  pub above : IsAbovePage (whole logs) y
  pub fits : FitsKind Update y (newest (whole logs) y.page).slots
  pub lone : IsLone logs i y.page
  pub pops : (t : TxnId) → Pops t (stack t (logs.base (home t))) (logs.tail (home t))
  -- no other transaction that isn't closed by forced records has changed the record
  pub free : (t : TxnId) → t ≢ y.txn → IsOpen t (logs.base (home t)) → filter (at y.page y.slot) (opens (whole logs) t) ≡ []

-- the undo of the top of the transaction's stack may be appended to log i
pub record CanUndoWhole (i : ℕ) (logs : Logs) (y top : Rec) (below : List Rec) : Type 0 where
  pub can : CanUndo (whole logs) y top below
  pub lone : IsLone logs i y.page

-- page p, all of whose records are forced, is written
pub record PutPage (p : ℕ) (old new : Logs) : Type 0 where
  pub forced : (j : ℕ) → Each (λ x. of_page p x ≡ false) (old.tail j)
  pub base : (j : ℕ) → new.base j ≡ old.base j
  pub tail : (j : ℕ) → new.tail j ≡ old.tail j
  pub here : new.disk p ≡ newest (whole old) p
  pub others : (q : ℕ) → q ≢ p → new.disk q ≡ old.disk q
