-- The transactions that a log leaves unfinished, and what each has open.
use Rattle.std.specs.Prelude.{◌≡◌, ℕ, true, List, [], ◌∷◌, Option, Some, map, option_map, reverse, slice_get}
use Rattle.std.specs.List.{list_any}
use Rattle.sd_base.specs.declared.ids.TxnId.{TxnId}
use Rattle.sd_base.specs.Ids.{IsBelow}
use Rattle.sd_logrec.specs.View.{Rec, flat}
use Rattle.sd_log.specs.declared.placed.Placed.{Placed}
use Rattle.sd_log.specs.Logs.{flats}
use Rattle.sd_chain.specs.Records.{Each, IsOpen, stack}
use Rattle.sd_chain.specs.Order.{Tidy, of_txn, span_of}
use Rattle.sd_chain.specs.Undoing.{Member}
use Rattle.sd_recovered.specs.declared.losers.Loser.{Loser}

-- each transaction's records are in order
abbrev pub AreTidy : List Placed → Type 0
AreTidy log = (t : TxnId) → Tidy t (flats log)

-- the record of this index
abbrev pub record_at : List Placed → ℕ → Option Rec
record_at log at = option_map (λ p. flat p.rec) (slice_get log at)

-- these indices, the last of which is the top, are those of this stack
abbrev pub AreAt : List Placed → List ℕ → List Rec → Type 0
AreAt log open_ones records = map (record_at log) (reverse open_ones) ≡ map (λ x. Some x) records

-- A transaction without a Commit or End that has a record, with its stack and the LSNs of its first and last record.
pub record IsLoser (log : List Placed) (loser : Loser) : Type 0 where
  pub runs : IsOpen loser.txn (flats log)
  pub there : list_any (of_txn loser.txn) (flats log) ≡ true
  pub stack_is : AreAt log loser.open (stack loser.txn (flats log))
  pub span_is : span_of loser.txn (flats log) ≡ Some (loser.first, loser.last)

-- each is below the next one
abbrev pub Rise : List Loser → Type 0
Rise [] = Unit {0}
Rise (l ∷ ls) = Each (λ other. IsBelow l.txn other.txn) ls × Rise ls

-- Each unfinished transaction that has a record, once, in rising order.
pub record AreLosers (log : List Placed) (losers : List Loser) : Type 0 where
  pub each : Each (IsLoser log) losers
  pub rise : Rise losers
  pub all : (t : TxnId) → IsOpen t (flats log) → list_any (of_txn t) (flats log) ≡ true → Member t (map (λ l. l.txn) losers)
