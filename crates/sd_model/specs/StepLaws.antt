-- Laws of steps over any state: which reply an event may get, from what a caller knows, and what it leaves.
use Rattle.std.specs.Prelude.{◌≡◌, ◌≢◌, ◌⊎◌, ℕ, ◌+◌, ◌≤◌, ◌<◌, true, List, Some, None, length}
use Rattle.sd_base.specs.declared.ids.TxnId.{TxnId}
use Rattle.sd_base.specs.declared.ids.Rid.{Rid}
use Rattle.sd_base.specs.declared.place.Status.{Status}
use Rattle.sd_base.specs.declared.refusal.Refusal.TheVariants as R
use Rattle.sd_model.specs.declared.act.Claim.TheVariants.{Free}
use Rattle.sd_model.specs.declared.act.Life.TheVariants.{Gone, Running}
use Rattle.sd_model.specs.declared.event.Event.{Event}
use Rattle.sd_model.specs.declared.event.Event.TheVariants.{Begin, Insert, Commit, List as Listing, Join}
use Rattle.sd_model.specs.declared.event.Reply.TheVariants.{Began, Did, At, Rows, Joined, Refused}
use Rattle.sd_model.specs.State.{State, now, view, joined, began, wrote, committed}
use Rattle.sd_model.specs.Listing.{AreRows}
use Rattle.sd_model.specs.Fields.{txn_of}
use Rattle.sd_model.specs.declared.cause.Cause.{Cause}
use Rattle.sd_model.specs.Causes.{order, has_cause}
use Rattle.sd_model.specs.Applies.{Changes, IsLong, count_of}
use Rattle.sd_model.specs.Step.{Step}

-- the complex isn't closed
abbrev pub IsOpen : State → Type 0
IsOpen m = (m.inst 1).status ≢ Status.Closed

-- the instance is up in a complex that isn't closed
pub record IsUp (m : State) (i : ℕ) : Type 0 where
  pub up : (m.inst i).status ≡ Status.Up
  pub opened : IsOpen m

-- the transaction runs at an instance that is up
pub record MayAct (m : State) (t : TxnId) : Type 0 where
  pub runs : (m.part t).life ≡ Running
  pub at : IsUp m t.inst

-- value and capacity are within their limits
pub record IsShort (value : List ℕ) (capacity : ℕ) : Type 0 where
  pub bytes : length value ≤ 256
  pub room : capacity ≤ 256
  pub fits : length value ≤ capacity

-- the record is absent for t, and no other transaction claims it
pub record IsUnused (m : State) (t : TxnId) (r : Rid) : Type 0 where
  pub absent : view m t r ≡ None
  pub free : (u : TxnId) → t ≢ u → (m.part u).claims r ≡ Free

-- the instance has nothing to recover, and the epoch follows its last one
pub record MayJoin (m : State) (i epoch : ℕ) : Type 0 where
  pub status : ((m.inst i).status ≡ Status.Clean) ⊎ ((m.inst i).status ≡ Status.Restarting)
  pub above : (m.inst i).epoch < epoch
  pub near : epoch ≤ (m.inst i).epoch + 1 + (m.inst i).failed

-- the transaction that begins next at an instance
abbrev pub next_txn : State → ℕ → TxnId
next_txn m i = record { inst = i; epoch = (m.inst i).epoch; seq = (m.inst i).begins + 1 }

-- the event is of a transaction
abbrev pub IsOfTxn : Event → Type 0
IsOfTxn e = has_cause Cause.NoTxn (order e) ≡ true

abbrev pub JoinedSteps : Type 0
JoinedSteps = (m : State) (i epoch : ℕ) → IsOpen m → MayJoin m i epoch → Step m (Join i) (Joined epoch) (joined i epoch m)

abbrev pub BeganSteps : Type 0
BeganSteps = (m : State) (i : ℕ) → IsUp m i → (m.inst i).begins < 4294967295 → count_of m i < 64 → Step m (Begin i) (Began (next_txn m i)) (began i (next_txn m i) m)

abbrev pub InsertedSteps : Type 0
InsertedSteps = (m : State) (t : TxnId) (r : Rid) (value : List ℕ) (capacity : ℕ) → MayAct m t → IsShort value capacity → IsUnused m t r → Step m (Insert t r.page value capacity) (At r) (wrote t r None (Some value) m)

abbrev pub FullSteps : Type 0
FullSteps = (m : State) (t : TxnId) (p : ℕ) (value : List ℕ) (capacity : ℕ) → MayAct m t → IsShort value capacity → Step m (Insert t p value capacity) (Refused R.PageFull) m

abbrev pub TooLongSteps : Type 0
TooLongSteps = (m : State) (t : TxnId) (p : ℕ) (value : List ℕ) (capacity : ℕ) → MayAct m t → IsLong (Insert t p value capacity) → Step m (Insert t p value capacity) (Refused R.TooLong) m

abbrev pub NoTxnSteps : Type 0
NoTxnSteps = (m : State) (e : Event) → IsOpen m → IsOfTxn e → (m.part (txn_of e)).life ≡ Gone → Step m e (Refused R.NoTxn) m

abbrev pub CommittedSteps : Type 0
CommittedSteps = (m : State) (t : TxnId) → MayAct m t → Step m (Commit t) Did (committed t m)

abbrev pub ListedSteps : Type 0
ListedSteps = (m : State) (i p : ℕ) (rows : List (Rid × List ℕ)) → IsUp m i → ((t : TxnId) → Changes m t p → ⊥) → AreRows p (now m) rows → Step m (Listing i p) (Rows rows) m
