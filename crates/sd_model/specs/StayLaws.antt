-- Laws of what stays: the opening table, the committed transactions, and whose an id is.
use Rattle.std.specs.Prelude.{◌≡◌, ℕ, List, [], ◌∷◌, ◌++◌}
use Rattle.sd_base.specs.declared.ids.TxnId.{TxnId}
use Rattle.sd_model.specs.declared.act.Done.{Done}
use Rattle.sd_model.specs.declared.act.Life.TheVariants.{Gone}
use Rattle.sd_model.specs.declared.event.Event.{Event}
use Rattle.sd_model.specs.declared.event.Event.TheVariants.{Begin, Commit}
use Rattle.sd_model.specs.declared.event.Reply.{Reply}
use Rattle.sd_model.specs.declared.event.Reply.TheVariants.{Began, Did}
use Rattle.sd_model.specs.declared.event.Entry.{Entry}
use Rattle.sd_model.specs.State.{State}
use Rattle.sd_model.specs.Step.{Step}
use Rattle.sd_model.specs.Run.{Run, IsOpening}
use Rattle.sd_model.specs.Listed.{IsAmong, NoneTwice, Listed}

-- the ids of committed transactions, in their order
abbrev pub txns : List Done → List TxnId
txns [] = []
txns (d ∷ done) = d.txn ∷ txns done

abbrev pub SameStart : State → State → Type 0
SameStart m m' = m'.start ≡ m.start

-- the committed ones are those from before, in their order, and perhaps more behind them
abbrev pub MoreDone : State → State → Type 0
MoreDone m m' = (more : List Done) × (m'.done ≡ m.done ++ more)

-- what each step makes of a state
abbrev pub StepMakes : (State → State → Type 0) → Type 0
StepMakes R = (m : State) (e : Event) (reply : Reply) (m' : State) → Step m e reply m' → R m m'

-- what each run makes of a state
abbrev pub RunMakes : (State → State → Type 0) → Type 0
RunMakes R = (entries : List Entry) (m m' : State) → Run m entries m' → R m m'

-- where a commit was answered as done in a run, the transaction is committed at its end, and so at each later moment
abbrev pub CommitLasts : Type 0
CommitLasts = (earlier later : List Entry) (e : Entry) (t : TxnId) (m m' : State)
    → e.event ≡ Commit t → e.reply ≡ Did → Run m (earlier ++ e ∷ later) m' → IsAmong t (txns m'.done)

-- in a run from an opening nobody commits twice
abbrev pub NoneCommitsTwice : Type 0
NoneCommitsTwice = (entries : List Entry) (m0 m : State) → IsOpening m0 → Run m0 entries m → NoneTwice (txns m.done)

-- the id that a begin gives was nobody's
abbrev pub IdIsNew : Type 0
IdIsNew = (m : State) (i : ℕ) (x : TxnId) (m' : State) → Listed m → Step m (Begin i) (Began x) m' → (IsAmong x m.begun → ⊥) × ((m.part x).life ≡ Gone)
