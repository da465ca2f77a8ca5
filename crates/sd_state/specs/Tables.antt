-- How a transaction table, its log and the serial table agree.
use Rattle.std.specs.Prelude.{◌≡◌, ◌≢◌, ◌⊎◌, ℕ, Bool, true, false, List, [], ◌∷◌, map, reverse, Option, None, Some}
use Rattle.sd_base.specs.declared.ids.TxnId.{TxnId}
use Rattle.sd_base.specs.declared.place.Status.{Status}
use Rattle.sd_base.specs.declared.place.Status.TheVariants as S
use Rattle.sd_base.specs.declared.place.Mode.{Mode}
use Rattle.sd_base.specs.declared.place.Mode.TheVariants as modes
use Rattle.sd_logrec.specs.View.{Rec}
use Rattle.sd_model.specs.Acts.{live}
use Rattle.sd_model.specs.Changes.{mark_of}
use Rattle.sd_model.specs.State.{Part}
use Rattle.sd_model.specs.declared.act.Claim.{Claim}
use Rattle.sd_model.specs.declared.act.Life.{Life}
use Rattle.sd_chain.specs.Fates.{Fate, fate}
use Rattle.sd_chain.specs.Order.{span_of}
use Rattle.sd_chain.specs.Records.{IsOpen, stack}
use Rattle.sd_txn.specs.declared.state.TxnState.{TxnState}
use Rattle.sd_txn.specs.Transactions as txns
use Rattle.sd_txn.specs.Transactions.{Transaction, Transactions, begins_in, txn_at}
use Rattle.sd_state.specs.Values.{Pending, open_of, put_of}

-- its commit was cut
abbrev pub IsInDoubt : Life → Type 0
IsInDoubt Life.Gone = ⊥
IsInDoubt Life.Running = ⊥
IsInDoubt Life.Retained = ⊥
IsInDoubt (Life.Rolling to) = ⊥
IsInDoubt (Life.Doubt cut) = Unit {0}

-- A transaction that stands so in a table has this life, where its log has these forced records, and these with its tail. One
-- in doubt whose Commit was dropped is a loser; one whose Commit was found is to be finished.
abbrev pub StandsAs : TxnState → Life → Fate → Fate → Type 0
StandsAs TxnState.Running life forced whole = life ≡ Life.Running
StandsAs (TxnState.Rolling to) life forced whole = life ≡ Life.Rolling to
StandsAs TxnState.Retained life forced whole =
    (life ≡ Life.Retained) ⊎ (IsInDoubt life × (forced ≢ Fate.Committed) × (whole ≢ Fate.Committed))
StandsAs TxnState.Doubt life forced whole = IsInDoubt life
StandsAs TxnState.Committed life forced whole = IsInDoubt life × (forced ≡ Fate.Committed)

-- Whom the table has is there, and stands so; and who is there, of this instance, it has.
abbrev pub NamesLife : Option Transaction → Life → Fate → Fate → Type 0
NamesLife None life forced whole = life ≡ Life.Gone
NamesLife (Some x) life forced whole = StandsAs x.state life forced whole

-- A table's row has of its transaction what the log has, where that has no end of it: the open records, the oldest first, and the
-- span of its records.
pub record IsLogged (x : Transaction) (t : TxnId) (log : List Rec) : Type 0 where
  pub alive : IsOpen t log
  pub open_ones : reverse x.stack ≡ map open_of (stack t log)
  pub span : x.span ≡ span_of t log

-- The row of a transaction whose end the log has already: it has no open record and no span, so it owes nothing.
pub record IsShut (x : Transaction) (t : TxnId) (log : List Rec) : Type 0 where
  pub ended : IsOpen t log → ⊥
  pub emptied : x.stack ≡ []
  pub span : x.span ≡ None

-- One that is none has none there.
abbrev pub RowIsLogged : Option Transaction → TxnId → List Rec → Type 0
RowIsLogged None t log = (fate t log ≡ Fate.Open) → ⊥
RowIsLogged (Some x) t log = IsLogged x t log ⊎ IsShut x t log

-- The transaction runs or rolls back: its live puts are its open records, and its marks are those of its row.
pub record IsLive (x : Transaction) (t : TxnId) (p : Part) (log : List Rec) : Type 0 where
  pub puts : live p.acts ≡ map put_of (stack t log)
  pub marks : (name : List ℕ) → txns.mark_of name x ≡ mark_of name p.marks

abbrev pub RowIsLive : Option Transaction → TxnId → Part → List Rec → Type 0
RowIsLive None t p log = Unit {0}
RowIsLive (Some x) t p log = IsLive x t p log

-- no mark's name stands twice
abbrev pub NamedOnce : List (List ℕ × ℕ) → Type 0
NamedOnce [] = Unit {0}
NamedOnce (x ∷ marks) = (mark_of x.0 marks ≡ None) × NamedOnce marks

-- by its life: what is asked of one that runs, and of one that rolls back wholly
abbrev pub goes_on_as : Life → Type 0 → Type 0 → Type 0
goes_on_as Life.Gone runs rolls = ⊥
goes_on_as Life.Running runs rolls = runs
goes_on_as Life.Retained runs rolls = ⊥
goes_on_as (Life.Rolling None) runs rolls = rolls
goes_on_as (Life.Rolling (Some n)) runs rolls = Unit {0}
goes_on_as (Life.Doubt cut) runs rolls = ⊥

-- The transaction may have further records: it runs, and its Commit isn't under way; or it rolls back, to a mark or with puts
-- that are live.
abbrev pub GoesOn : Pending → TxnId → Part → Type 0
GoesOn pend t p = goes_on_as p.life (pend ≡ Pending.Commits t → ⊥) (live p.acts ≢ [])

-- The log of such an instance is told by its table, where it is settled.
abbrev pub tells_log : Status → Bool
tells_log S.Up = true
tells_log S.Down = false
tells_log (S.Recovering by) = true
tells_log S.Clean = true
tells_log S.Restarting = true
tells_log S.Closed = false

-- what a claim is as a lock
abbrev pub lock_of : Claim → Option Mode
lock_of Claim.Free = None
lock_of Claim.Shared = Some modes.Shared
lock_of Claim.Excl = Some modes.Excl
