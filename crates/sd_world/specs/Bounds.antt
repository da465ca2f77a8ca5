-- The sums by which a full page, a full log, a value that is too long and the end of LSNs are judged. No real number is above them, but
-- for `least`: no slot is below that.
use Rattle.std.specs.Prelude.{◌≡◌, ◌⊎◌, ◌<◌, ◌≤◌, ℕ, zero, suc, ◌+◌, ◌*◌, ◌^◌, Bool, true, false, List, [], ◌∷◌, Some, eqb, cond, get_or, max, sum, length}
use Rattle.sd_base.specs.declared.ids.Rid.{Rid}
use Rattle.sd_base.specs.declared.refusal.Refusal.{Refusal}
use Rattle.sd_base.specs.declared.refusal.Refusal.TheVariants as R
use Rattle.sd_model.specs.declared.event.Event.{Event}
use Rattle.sd_model.specs.declared.event.Event.TheVariants.{Begin, Write, Add, Insert, Delete, CheckBegin, CheckEnd, Join}
use Rattle.sd_model.specs.declared.event.Reply.{Reply}
use Rattle.sd_model.specs.declared.event.Reply.TheVariants as reply
use Rattle.sd_model.specs.State.{State, view}
use Rattle.sd_model.specs.Applies.{IsLong, IsNew, IsTooMuch}
use Rattle.sd_model.specs.Fields.{inst_of, rid_of, txn_of}

-- slots: of each page, the capacities of its slots; least: of each page, capacities that its slots aren't below; reach: how far each
-- log and what it reserves go, in bytes; lsns: the greatest LSN with those of the reserved records; masters: the count of each log's
-- master
pub record Bounds : Type 0 where
  pub slots : ℕ → List ℕ
  pub least : ℕ → List ℕ
  pub reach : ℕ → ℕ
  pub lsns : ℕ
  pub masters : ℕ → ℕ

-- a slot of this capacity: at the end, or the greater of both in the place of an old one
abbrev pub with_slot : List ℕ → ℕ → ℕ → List ℕ
with_slot [] slot capacity = capacity ∷ []
with_slot (old ∷ capacities) zero capacity = max old capacity ∷ capacities
with_slot (old ∷ capacities) (suc slot) capacity = old ∷ with_slot capacities slot capacity

-- the slots of page q after an event and its reply
abbrev pub slots_after : (ℕ → List ℕ) → Event → Reply → ℕ → List ℕ
slots_after old (Insert t p v capacity) (reply.At r) q = cond {A = List ℕ} (eqb p q) (with_slot (old q) r.slot capacity) (old q)
slots_after old e r q = old q

-- a slot of this capacity at least: at the end, or in the place of an old one, also where that was greater
abbrev pub with_least : List ℕ → ℕ → ℕ → List ℕ
with_least [] slot capacity = capacity ∷ []
with_least (old ∷ capacities) zero capacity = capacity ∷ capacities
with_least (old ∷ capacities) (suc slot) capacity = old ∷ with_least capacities slot capacity

-- what the slots of page q have at least after an event and its reply
abbrev pub least_after : (ℕ → List ℕ) → Event → Reply → ℕ → List ℕ
least_after old (Insert t p v capacity) (reply.At r) q = cond {A = List ℕ} (eqb p q) (with_least (old q) r.slot capacity) (old q)
least_after old e r q = old q

-- the reply tells no place of a new record
abbrev pub TellsNoPlace : Reply → Type 0
TellsNoPlace (reply.At r) = ⊥
TellsNoPlace r = Unit {0}

-- what an event may add to its log and to what that reserves, in bytes
abbrev pub cost : Event → ℕ
cost (CheckEnd i) = 14000
cost (CheckBegin i) = 900
cost (Join i) = 900
cost (Write t r v) = 900
cost (Add t r by) = 900
cost (Insert t p v n) = 900
cost (Delete t r) = 900
cost e = 0

-- the cost of a check and of a join counts whatever the reply, that of a change where it is made
abbrev pub counts : Event → Reply → Bool
counts (CheckEnd i) r = true
counts (CheckBegin i) r = true
counts (Join i) r = true
counts e reply.Did = true
counts e (reply.At r) = true
counts e r = false

-- i's number is n greater
abbrev pub increased : ℕ → ℕ → (ℕ → ℕ) → ℕ → ℕ
increased i n old j = cond (eqb i j) n 0 + old j

-- the counts of masters after an event
abbrev pub masters_after : (ℕ → ℕ) → Event → ℕ → ℕ
masters_after old (CheckEnd i) = increased i 1 old
masters_after old e = old

-- a reply that has its caller wait and try again, until a page comes, a record is free, a recovery has gone on or a frame is
abbrev pub is_wait : Reply → Bool
is_wait (reply.Asked of) = true
is_wait (reply.Refused (R.Blocked by)) = true
is_wait (reply.Refused (R.NeedPage place)) = true
is_wait (reply.Refused R.Lost) = true
is_wait (reply.Refused (R.MovingTo to)) = true
is_wait (reply.Refused R.PoolFull) = true
is_wait r = false

-- the bounds after an event and its reply; an event takes four LSNs at most, and one that only waits takes none
abbrev pub bounds_after : Bounds → Event → Reply → Bounds
bounds_after b e r = record {
  slots = slots_after b.slots e r;
  least = least_after b.least e r;
  reach = increased (inst_of e) (cond (counts e r) (cost e) 0) b.reach;
  lsns = b.lsns + cond (is_wait r) 0 4;
  masters = masters_after b.masters e;
}

-- a slot of this capacity, with its six bytes, doesn't fit behind the others in an image
abbrev pub IsFull : List ℕ → ℕ → Type 0
IsFull capacities capacity = 1024 < 16 + sum capacities + capacity + 6 * (length capacities + 1)

-- the log of the event's instance may be full, with what this event adds
abbrev pub IsLogFull : Bounds → Event → Type 0
IsLogFull b e = 1048576 < b.reach (inst_of e) + cost e

-- LSNs may be at their end, with those of this event
abbrev pub AreLsnsOut : Bounds → Type 0
AreLsnsOut b = 2 ^ 62 ≤ b.lsns + 4

-- begins, epochs, the counts of masters or LSNs may be at their end, with those of this event
abbrev pub IsEnd : State → Bounds → Event → Type 0
IsEnd m b (Begin i) = 4294967295 ≤ (m.inst i).begins
IsEnd m b (Join i) = AreLsnsOut b ⊎ (4294967295 ≤ (m.inst i).epoch + (m.inst i).failed)
IsEnd m b (CheckEnd i) = AreLsnsOut b ⊎ (2 ^ 64 ≤ b.masters i + 2)
IsEnd m b e = AreLsnsOut b

-- where the page of an insert may be full
abbrev pub IsPageFull : Bounds → Event → Type 0
IsPageFull b (Insert t p v capacity) = IsFull (b.slots p) capacity
IsPageFull b e = ⊥

-- the value that is to be put is longer than what its slot has at least
abbrev pub IsOver : State → Bounds → Event → Type 0
IsOver m b e = (u w : List ℕ) × (view m (txn_of e) (rid_of e) ≡ Some u) × IsNew e u w
    × (get_or (b.least (rid_of e).page) (rid_of e).slot 0 < length w)

-- a value is too long whatever slot it is for, or its sum has too many digits, or it may be too long for its slot
abbrev pub IsTooLong : State → Bounds → Event → Type 0
IsTooLong m b e = IsLong e ⊎ (((u : List ℕ) × (view m (txn_of e) (rid_of e) ≡ Some u) × IsTooMuch e u) ⊎ IsOver m b e)

-- a refusal for want of room or numbers comes only where the sums allow it
abbrev pub Allows : State → Bounds → Event → Refusal → Type 0
Allows m b e R.TooLong = IsTooLong m b e
Allows m b e R.PageFull = IsPageFull b e
Allows m b e R.LogFull = IsLogFull b e
Allows m b e R.LsnEnd = IsEnd m b e
Allows m b e n = Unit {0}

-- an insert is of a slot that its page is told of, or of the next one
abbrev pub IsNear : Bounds → Event → Rid → Type 0
IsNear b (Insert t p v capacity) r = r.slot ≤ length (b.slots p)
IsNear b e r = Unit {0}

-- the bounds allow the reply; the LSN of a page that is shown is none above theirs
abbrev pub Within : State → Bounds → Event → Reply → Type 0
Within m b e (reply.At r) = IsNear b e r
Within m b e (reply.Refused n) = Allows m b e n
Within m b e (reply.Shown place lsn) = lsn ≤ b.lsns
Within m b e r = Unit {0}
