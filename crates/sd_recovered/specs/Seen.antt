-- What is known of a transaction from its records so far.
use Rattle.std.specs.Prelude.{◌≡◌, ◌⊎◌, ℕ, true, false, cond, if◌then◌else◌, List, Option, None, Some, slice_get, take}
use Rattle.std.specs.List.{list_any}
use Rattle.std.specs.Map.{lookup}
use Rattle.sd_base.specs.declared.ids.TxnId.{TxnId}
use Rattle.sd_base.specs.Ids.{same_txn}
use Rattle.sd_logrec.specs.View.{Rec}
use Rattle.sd_logrec.specs.View.Kind.{Update}
use Rattle.sd_log.specs.declared.placed.Placed.{Placed}
use Rattle.sd_chain.specs.Records.{ends, moved, Each, IsOpen}
use Rattle.sd_chain.specs.Order.{of_txn, Sofar, none_yet, after_all, first_prev}
use Rattle.sd_recovered.specs.declared.seen.Seen.{Seen}
use Rattle.sd_recovered.specs.Faults.{IsFirst}
use Rattle.sd_recovered.specs.Losers.{AreAt}

-- what is seen is what the records so far leave, with indices of the log for open records
pub record SeenFits (log : List Placed) (sofar : Sofar) (seen : Seen) : Type 0 where
  pub updates : Each (λ x. x.kind ≡ Update) sofar.open_ones
  pub open_is : AreAt log seen.open.items sofar.open_ones
  pub last_is : seen.last ≡ sofar.last

-- one record of the transaction more
abbrev pub with_record : Sofar → Rec → Sofar
with_record sofar x = record { open_ones = moved x.kind x sofar.open_ones; last = x.lsn; shut = ends x.kind }

-- The first record that closes the transaction has this index.
pub record IsFirstEnd (xs : List Rec) (t : TxnId) (k : ℕ) : Type 0 where
  pub here : Rec
  pub there : slice_get xs k ≡ Some here
  pub own : of_txn t here ≡ true
  pub closes : ends here.kind ≡ true
  pub before : IsOpen t (take k xs)

-- the index of the record that closes the transaction, if one does
abbrev pub EndsAt : List Rec → TxnId → Option ℕ → Type 0
EndsAt xs t None = IsOpen t xs
EndsAt xs t (Some k) = IsFirstEnd xs t k

-- with one record of the transaction more, at this index
abbrev pub closed_by : ℕ → Rec → Option ℕ → Option ℕ
closed_by at x None = if ends x.kind then Some at else None
closed_by at x (Some k) = Some k

-- What is seen of t after these records, of which one or more are its own.
pub record Tells (log : List Placed) (xs : List Rec) (t : TxnId) (seen : Seen) : Type 0 where
  pub fits : SeenFits log (after_all t none_yet xs) seen
  pub there : list_any (of_txn t) xs ≡ true
  pub first : IsFirst log t seen.first seen.first_prev
  pub prev : seen.first_prev ≡ first_prev t xs
  pub closed : EndsAt xs t seen.closed

-- a record at this index may come, or else is told
abbrev pub Judged : ℕ → Type 0 → Option ℕ → Type 0
Judged at may None = may
Judged at may (Some k) = (k ≡ at) × (may → ⊥)

-- What is kept of t: the index of the record that closed it, or what is seen of it; nothing of a transaction without a record.
abbrev pub TellsOf : List Placed → List Rec → TxnId → Option ℕ → Option Seen → Type 0
TellsOf log xs t (Some k) row = IsFirstEnd xs t k × (row ≡ None)
TellsOf log xs t None None = list_any (of_txn t) xs ≡ false
TellsOf log xs t None (Some seen) = Tells log xs t seen

-- what is kept of each transaction
abbrev pub TellsAll : List Placed → List Rec → List (TxnId × ℕ) → List (TxnId × Seen) → Type 0
TellsAll log xs closed rows = (t : TxnId) → TellsOf log xs t (lookup (same_txn t) closed) (lookup (same_txn t) rows)

-- what is told of other transactions than t is told with more records
abbrev pub OthersStay : List Placed → TxnId → List Rec → List Rec → Type 0
OthersStay log t xs ys = (u : TxnId) (k : Option ℕ) (row : Option Seen) → same_txn t u ≡ false → TellsOf log xs u k row → TellsOf log ys u k row

-- what is seen of t, which has a record, is kept where nothing of it was
abbrev pub Keeps : TxnId → Seen → List (TxnId × ℕ) → List (TxnId × Seen) → List (TxnId × ℕ) → List (TxnId × Seen) → Type 0
Keeps t seen closed rows closed' rows' =
    ((k : ℕ) × (seen.closed ≡ Some k) × (rows' ≡ rows)
    × ((q : TxnId) → lookup (same_txn q) closed' ≡ cond (same_txn t q) (Some k) (lookup (same_txn q) closed)))
    ⊎ ((closed' ≡ closed) × ((q : TxnId) → lookup (same_txn q) rows' ≡ cond (same_txn t q) (Some seen) (lookup (same_txn q) rows)))
