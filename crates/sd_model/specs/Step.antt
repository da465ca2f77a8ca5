-- One event and its reply lead from a state to the next.
use Rattle.std.specs.Prelude.{◌≡◌, ◌≢◌, ◌⊎◌, ℕ, ◌+◌, ◌≤◌, ◌<◌, List, Option, None, Some, length}
use Rattle.sd_base.specs.declared.ids.TxnId.{TxnId}
use Rattle.sd_base.specs.declared.place.Status.TheVariants as Status
use Rattle.sd_model.specs.declared.event.Event.{Event}
use Rattle.sd_model.specs.declared.event.Event.TheVariants.{Begin, Read, Write, Add, Insert, Delete, Save, Back, Undo, Commit, List as Listing, Ask, Give, Take, Evict, Flush, Force, CheckBegin, CheckEnd, Fail, FailAll, RecoverBegin, RecoverStep, Join, Reopen, Arm, Show}
use Rattle.sd_model.specs.declared.event.Reply.{Reply}
use Rattle.sd_model.specs.declared.event.Reply.TheVariants.{Began, Value, Did, At, Rows, Have, Asked, Gave, Step as Stepped, Finished, Joined, Shown, Refused}
use Rattle.sd_model.specs.declared.act.Claim.TheVariants.{Free}
use Rattle.sd_model.specs.declared.act.Life.TheVariants.{Running, Rolling}
use Rattle.sd_model.specs.Acts.{live}
use Rattle.sd_model.specs.State.{State, now, view, gone, put_part, put_inst, with_status, read_at, wrote, turned, fall, closed, committed, began, joined}
use Rattle.sd_model.specs.Numbers.{IsSum}
use Rattle.sd_model.specs.Listing.{AreRows}
use Rattle.sd_model.specs.Changes.{mark_of, marked, goal, undid, Recovered, Reopened}
use Rattle.sd_model.specs.declared.cause.Cause.{Cause}
use Rattle.sd_model.specs.Applies.{Clear, First}
use Rattle.sd_model.specs.Refusing.{Names, Tells, Refuses}

abbrev pub Runs : State → TxnId → Type 0
Runs m t = (m.part t).life ≡ Running

-- what an event that nothing refuses answers, and what it leaves
abbrev pub Row : State → Event → Reply → State → Type 0
Row m (Begin i) (Began x) m' = (x ≡ record { inst = i; epoch = (m.inst i).epoch; seq = (m.inst i).begins + 1 }) × (m' ≡ began i x m)
Row m (Read t r) (Value v) m' = Runs m t × (v ≡ view m t r) × (m' ≡ read_at t r v m)
Row m (Write t r new) Did m' = (u : List ℕ) × Runs m t × (Some u ≡ view m t r) × (m' ≡ wrote t r (Some u) (Some new) m)
Row m (Add t r by) Did m' = (u w : List ℕ) × Runs m t × (Some u ≡ view m t r) × IsSum u by w × (m' ≡ wrote t r (Some u) (Some w) m)
Row m (Delete t r) Did m' = (u : List ℕ) × Runs m t × (Some u ≡ view m t r) × (m' ≡ wrote t r (Some u) None m)
Row m (Insert t p new capacity) (At r) m' =
    Runs m t × (r.page ≡ p) × (None ≡ view m t r) × ((u : TxnId) → t ≢ u → (m.part u).claims r ≡ Free)
    × (m' ≡ wrote t r None (Some new) m)
Row m (Save t k) Did m' = Runs m t × (m' ≡ marked t k m)
Row m (Back t (Some k)) Did m' = (n : ℕ) × Runs m t × (mark_of k (m.part t).marks ≡ Some n) × (m' ≡ turned t (Rolling (Some n)) m)
Row m (Back t None) Did m' = (Runs m t ⊎ ((to : Option ℕ) × ((m.part t).life ≡ Rolling to))) × (m' ≡ turned t (Rolling None) m)
Row m (Undo t) Stepped m' = (to : Option ℕ) × ((m.part t).life ≡ Rolling to) × (goal to < length (live (m.part t).acts)) × (m' ≡ undid t m)
Row m (Undo t) Finished m' =
    (Runs m t × (m' ≡ m))
    ⊎ (((n : ℕ) × ((m.part t).life ≡ Rolling (Some n)) × (n ≡ length (live (m.part t).acts)) × (m' ≡ turned t Running m))
    ⊎ (((m.part t).life ≡ Rolling None) × (0 ≡ length (live (m.part t).acts)) × (m' ≡ put_part t gone m)))
Row m (Commit t) Did m' = Runs m t × (m' ≡ committed t m)
Row m (Listing i p) (Rows rows) m' = AreRows p (now m) rows × (m' ≡ m)
Row m (Fail i) Did m' = m' ≡ fall i m
Row m (FailAll pick) Did m' = m' ≡ closed m
Row m Reopen Did m' = Reopened m m'
Row m (RecoverBegin i by) Did m' = m' ≡ put_inst i (with_status (Status.Recovering by) (m.inst i)) m
Row m (RecoverStep i) Stepped m' = m' ≡ m
Row m (RecoverStep i) Finished m' = Recovered i m m'
Row m (Join i) (Joined epoch) m' = ((m.inst i).epoch < epoch) × (epoch ≤ (m.inst i).epoch + 1 + (m.inst i).failed) × (m' ≡ joined i epoch m)
Row m (Ask i p mode) Have m' = m' ≡ m
Row m (Ask i p mode) (Asked of) m' = m' ≡ m
Row m (Give i p) (Gave to) m' = m' ≡ m
Row m (Take i p) Did m' = m' ≡ m
Row m (Evict i p) Did m' = m' ≡ m
Row m (Flush i p) Did m' = m' ≡ m
Row m (Force i) Did m' = m' ≡ m
Row m (CheckBegin i) Did m' = m' ≡ m
Row m (CheckEnd i) Did m' = m' ≡ m
Row m (Show p) (Shown place lsn) m' = m' ≡ m
Row m (Arm trouble) Did m' = m' ≡ m
Row m e reply m' = ⊥

-- a refusal is the first that applies; any other reply stands only where none does that the state decides
abbrev pub Step : State → Event → Reply → State → Type 0
Step m e (Refused n) m' = (c : Cause) × Names c n × Tells m e n × First m e c × Refuses m e c m'
Step m e reply m' = Clear m e × Row m e reply m'
