-- Where taking back stops: the first loser whose stack may not be taken back, and of an image the first open transaction
-- whose stack isn't as it was left.
use Rattle.std.specs.Prelude.{◌≡◌, ℕ, ◌-◌, ◌≤◌, List, [], ◌∷◌, ◌++◌, Some, reverse, slice_get, take}
use Rattle.sd_base.specs.declared.ids.TxnId.{TxnId}
use Rattle.sd_base.specs.Ids.{IsBelow}
use Rattle.sd_page.specs.Page.{Page}
use Rattle.sd_logrec.specs.View.{Rec, flat}
use Rattle.sd_log.specs.declared.placed.Placed.{Placed}
use Rattle.sd_log.specs.Logs.{LogState, scanned}
use Rattle.sd_chain.specs.Storage.{Open, StackFits, Storage, opens}
use Rattle.sd_recovered.specs.declared.losers.Loser.{Loser}
use Rattle.sd_recovered.specs.Taking.{MayTake, lowest_place, open_in, picked, stacks_in}

-- Of the losers of a log: those in front of this one may be taken back, and with its stack behind them they may not. The
-- fault names it, and the place of its lowest record.
pub record StopsIn (pages : List Page) (others : TxnId → ℕ → ℕ → ℕ) (log : List Placed) (losers : List Loser) (inst place : ℕ) : Type 0 where
  pub index : ℕ
  pub loser : Loser
  pub there : slice_get losers index ≡ Some loser
  pub inst_is : inst ≡ loser.txn.inst
  pub place_is : place ≡ lowest_place log loser.open
  pub front : MayTake pages others (stacks_in log (take index losers))
  pub stops : MayTake pages others (stacks_in log (take index losers) ++ picked log (reverse loser.open)) → ⊥

-- what stands in front of a loser of log j: the stacks of the logs before it, and those of its own log
abbrev pub front_of : List LogState → List (List Loser) → ℕ → LogState → List Loser → ℕ → List Rec
front_of logs losers j log ls i = open_in (take j logs) (take j losers) ++ stacks_in (scanned log) (take i ls)

-- The same of the losers of all logs.
pub record StopsAt (pages : List Page) (others : TxnId → ℕ → ℕ → ℕ) (logs : List LogState) (losers : List (List Loser)) (inst place : ℕ) : Type 0 where
  pub number : ℕ
  pub log : LogState
  pub log_is : slice_get logs number ≡ Some log
  pub own : List Loser
  pub own_are : slice_get losers number ≡ Some own
  pub index : ℕ
  pub loser : Loser
  pub there : slice_get own index ≡ Some loser
  pub inst_is : inst ≡ loser.txn.inst
  pub place_is : place ≡ lowest_place (scanned log) loser.open
  pub front : MayTake pages others (front_of logs losers number log own index)
  pub stops : MayTake pages others (front_of logs losers number log own index ++ picked (scanned log) (reverse loser.open)) → ⊥

-- The lowest record of the transaction's stack stands at this place of its log, of which the first is log 1.
pub record StandsLowest (img : Storage) (logs : List LogState) (t : TxnId) (place : ℕ) : Type 0 where
  pub log : LogState
  pub some : 1 ≤ t.inst
  pub log_is : slice_get logs (t.inst - 1) ≡ Some log
  pub index : ℕ
  pub found : Placed
  pub there : slice_get (scanned log) index ≡ Some found
  pub place_is : place ≡ found.place
  pub above : List Rec
  pub parts : opens img t ≡ above ++ flat found.rec ∷ []

-- Of the open transactions the first whose stack isn't as it was left, and the place of its lowest record.
pub record FirstMisfit (img : Storage) (logs : List LogState) (inst place : ℕ) : Type 0 where
  pub txn : TxnId
  pub home : inst ≡ txn.inst
  pub open_ : Open img txn
  pub before : (t : TxnId) → IsBelow t txn → Open img t → StackFits img t
  pub wrong : StackFits img txn → ⊥
  pub lowest : StandsLowest img logs txn place
