-- The laws of the serial order.
use Rattle.std.specs.Prelude.{◌≡◌, ◌≢◌, ◌↔◌, ◌+◌, ◌≤◌, ℕ, List, [], ◌∷◌, ◌++◌, Option, length}
use Rattle.sd_base.specs.declared.ids.TxnId.{TxnId}
use Rattle.sd_base.specs.declared.ids.Rid.{Rid}
use Rattle.sd_base.specs.declared.place.Status.TheVariants.{Up}
use Rattle.sd_model.specs.declared.act.Done.{Done}
use Rattle.sd_model.specs.declared.act.Life.TheVariants.{Gone, Rolling}
use Rattle.sd_model.specs.declared.event.Event.{Event}
use Rattle.sd_model.specs.declared.event.Reply.{Reply}
use Rattle.sd_model.specs.declared.event.Entry.{Entry}
use Rattle.sd_model.specs.Tables.{Contents}
use Rattle.sd_model.specs.Acts.{Puts, live, seen_over, after, Serial}
use Rattle.sd_model.specs.State.{State, Part, began, fresh}
use Rattle.sd_model.specs.Changes.{goal}
use Rattle.sd_model.specs.Applies.{count_of}
use Rattle.sd_model.specs.Step.{Step}
use Rattle.sd_model.specs.Run.{Run, IsOpening}
use Rattle.sd_model.specs.Kept.{MayCommit, Kept}
use Rattle.sd_model.specs.Listed.{IsAmong, NoneTwice, Listed}
use Rattle.sd_model.specs.Marks.{Sized}
use Rattle.sd_model.specs.Apart.{Disjoint, EachApart, done_of, dones, AreOthers}
use Rattle.sd_model.specs.StepLaws.{next_txn}

-- after a run from an opening each committed transaction read what it reads where they run one after another
abbrev pub RunIsSerial : Type 0
RunIsSerial = (entries : List Entry) (m0 m : State) → IsOpening m0 → Run m0 entries m → Serial m.start m.done

abbrev pub RunIsKept : Type 0
RunIsKept = (entries : List Entry) (m0 m : State) → IsOpening m0 → Run m0 entries m → Kept m

abbrev pub FreshIsOpening : Type 0
FreshIsOpening = IsOpening fresh

-- what holds of a state holds after each step
abbrev pub StepKeeps : (State → Type 0) → Type 0
StepKeeps P = (m : State) (e : Event) (reply : Reply) (m' : State) → Step m e reply m' → P m → P m'

-- what holds of a state holds after each run
abbrev pub RunKeeps : (State → Type 0) → Type 0
RunKeeps P = (entries : List Entry) (m m' : State) → Run m entries m' → P m → P m'

-- puts that share no record may be made in either order
abbrev pub PutsCommute : Type 0
PutsCommute = (a b : Puts) → Disjoint a b → (base : Contents) (r : Rid) → seen_over (seen_over base a) b r ≡ seen_over (seen_over base b) a r

-- a transaction that shares no record with those before it may as well come before them
abbrev pub LateIsEarly : Type 0
LateIsEarly = (base : Contents) (done : List Done) (x : Done) → EachApart x done → (r : Rid) → after base (done ++ x ∷ []) r ≡ after base (x ∷ done) r

-- two transactions that may commit put no record in common
abbrev pub MayCommitApart : Type 0
MayCommitApart = (m : State) → Kept m → (t u : TxnId) → t ≢ u → MayCommit (m.part t).life → MayCommit (m.part u).life → Disjoint (live (m.part t).acts) (live (m.part u).acts)

-- one that commits while others are in doubt may stand before those of them that turn out to be committed
abbrev pub CommitBeforeDoubt : Type 0
CommitBeforeDoubt = (m : State) → Kept m → (t : TxnId) → MayCommit (m.part t).life → (us : List TxnId) → AreOthers m t us → (r : Rid)
    → after m.start ((m.done ++ dones m us) ++ done_of m t ∷ []) r ≡ after m.start ((m.done ++ done_of m t ∷ []) ++ dones m us) r

-- a begin counts one more unresolved transaction of its instance, which is up
abbrev pub BeginCounts : Type 0
BeginCounts = (m : State) (i : ℕ) → (m.inst i).status ≡ Up → Listed m → count_of (began i (next_txn m i) m) i ≡ count_of m i + 1

-- the count is the length of each list that has just those of the instance that are there, each once
abbrev pub CountIsTrue : Type 0
CountIsTrue = (m : State) (i : ℕ) (ts : List TxnId) → Listed m → NoneTwice ts
    → ((t : TxnId) → IsAmong t ts ↔ ((t.inst ≡ i) × ((m.part t).life ≢ Gone))) → count_of m i ≡ length ts

-- a rollback has something to undo, or has reached its target
abbrev pub RollbackGoesOn : Type 0
RollbackGoesOn = (p : Part) (to : Option ℕ) → p.life ≡ Rolling to → Sized p → goal to ≤ length (live p.acts)
