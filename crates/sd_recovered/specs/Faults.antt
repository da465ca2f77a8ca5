-- Which record of a transaction may come next, and which is its first.
use Rattle.std.specs.Prelude.{◌≡◌, ◌≢◌, ℕ, true, false, List, [], Some, take}
use Rattle.std.specs.List.{list_any}
use Rattle.sd_base.specs.declared.ids.TxnId.{TxnId}
use Rattle.sd_logrec.specs.View.{Rec}
use Rattle.sd_logrec.specs.View.Kind.{Clr, End}
use Rattle.sd_log.specs.declared.placed.Placed.{Placed}
use Rattle.sd_log.specs.Logs.{flats}
use Rattle.sd_chain.specs.Order.{of_txn, Sofar, UndoesTop}
use Rattle.sd_recovered.specs.Losers.{record_at}

-- The record names the one before it, and ends nothing that is open.
pub record Joins (sofar : Sofar) (x : Rec) : Type 0 where
  pub prev : sofar.last ≢ 0 → x.prev ≡ sofar.last
  pub done : x.kind ≡ End → sofar.open_ones ≡ []

-- The record may come next, and undoes the top where the transaction's first record has this `prev` of 0.
pub record MayCome (sofar : Sofar) (first_prev : ℕ) (x : Rec) : Type 0 where
  pub next : Joins sofar x
  pub undo : first_prev ≡ 0 → x.kind ≡ Clr → UndoesTop x sofar.open_ones

-- The transaction's first record has this index and this `prev`.
pub record IsFirst (log : List Placed) (t : TxnId) (at prev : ℕ) : Type 0 where
  pub here : Rec
  pub there : record_at log at ≡ Some here
  pub own : of_txn t here ≡ true
  pub prev_is : here.prev ≡ prev
  pub none : list_any (of_txn t) (flats (take at log)) ≡ false
