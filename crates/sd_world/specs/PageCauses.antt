-- Which causes of a refusal the pages decide, and what they say of each.
use Rattle.std.specs.Prelude.{◌≡◌, ℕ, ◌≤◌, Bool, true, false, List, [], ◌∷◌, None}
use Rattle.sd_base.specs.declared.ids.TxnId.{TxnId}
use Rattle.sd_base.specs.declared.place.Status.TheVariants as Status
use Rattle.sd_model.specs.declared.cause.Cause.{Cause}
use Rattle.sd_model.specs.declared.event.Event.{Event}
use Rattle.sd_model.specs.declared.event.Event.TheVariants.{Read, Write, Add, Insert, Delete, Undo, List as Listing, Ask, Give, Take, Evict, Flush, CheckEnd, RecoverStep}
use Rattle.sd_model.specs.Acts.{Puts, live}
use Rattle.sd_model.specs.State.{State}
use Rattle.sd_model.specs.Applies.{Changes, HasPage, IsLost, unless}
use Rattle.sd_pagelock.specs.Places.{holds, owns, is_free, is_lost, passes, receives}
use Rattle.sd_pagelock.specs.Rows.{may_evict}
use Rattle.sd_pagelock.specs.Asks.{oldest}
use Rattle.sd_world.specs.Pages.{Pages, held_count, is_duty}

-- the page of a transaction's last live put
abbrev pub last_page : Puts → ℕ
last_page [] = 0
last_page (p ∷ puts) = p.0.page

-- the page that an undo works on
abbrev pub undo_page : State → TxnId → ℕ
undo_page m t = last_page (live (m.part t).acts)

-- the page of an event
abbrev pub page_of : State → Event → ℕ
page_of m (Read t r) = r.page
page_of m (Write t r v) = r.page
page_of m (Add t r by) = r.page
page_of m (Delete t r) = r.page
page_of m (Insert t p v n) = p
page_of m (Undo t) = undo_page m t
page_of m (Listing i p) = p
page_of m (Ask i p mode) = p
page_of m (Give i p) = p
page_of m (Take i p) = p
page_of m (Evict i p) = p
page_of m (Flush i p) = p
page_of m e = 0

-- the page of the event is lost; an undo has one only where it takes something back
abbrev pub IsLostFor : State → Pages → Event → Type 0
IsLostFor m w (Read t r) = is_lost (w.entry r.page) ≡ true
IsLostFor m w (Write t r v) = is_lost (w.entry r.page) ≡ true
IsLostFor m w (Add t r by) = is_lost (w.entry r.page) ≡ true
IsLostFor m w (Delete t r) = is_lost (w.entry r.page) ≡ true
IsLostFor m w (Insert t p v n) = is_lost (w.entry p) ≡ true
IsLostFor m w (Undo t) = HasPage m (Undo t) × (is_lost (w.entry (undo_page m t)) ≡ true)
IsLostFor m w (Listing i p) = is_lost (w.entry p) ≡ true
IsLostFor m w (Ask i p mode) = is_lost (w.entry p) ≡ true
IsLostFor m w (Give i p) = is_lost (w.entry p) ≡ true
IsLostFor m w (Take i p) = is_lost (w.entry p) ≡ true
IsLostFor m w (Evict i p) = is_lost (w.entry p) ≡ true
IsLostFor m w (Flush i p) = is_lost (w.entry p) ≡ true
IsLostFor m w e = ⊥

-- the acting instance hasn't the page as the event needs it
abbrev pub IsAway : State → Pages → Event → Type 0
IsAway m w (Read t r) = holds (w.entry r.page) t.inst ≡ false
IsAway m w (Write t r v) = owns (w.entry r.page) t.inst ≡ false
IsAway m w (Add t r by) = owns (w.entry r.page) t.inst ≡ false
IsAway m w (Delete t r) = owns (w.entry r.page) t.inst ≡ false
IsAway m w (Insert t p v n) = owns (w.entry p) t.inst ≡ false
IsAway m w (Undo t) = HasPage m (Undo t) × (owns (w.entry (undo_page m t)) t.inst ≡ false)
IsAway m w (Listing i p) = holds (w.entry p) i ≡ false
IsAway m w (Give i p) = holds (w.entry p) i ≡ false
IsAway m w (Take i p) = receives (w.entry p) i ≡ false
IsAway m w (Evict i p) = holds (w.entry p) i ≡ false
IsAway m w (Flush i p) = is_duty i (w.entry p) ≡ false
IsAway m w e = ⊥

-- the page is on its way, where the event wants it at rest
abbrev pub IsUnderWay : Pages → Event → Type 0
IsUnderWay w (Ask i p mode) = passes (w.entry p) ≡ true
IsUnderWay w (Give i p) = passes (w.entry p) ≡ true
IsUnderWay w e = ⊥

-- the page would come into a pool that holds as many as it has frames
abbrev pub PoolIsFull : Pages → Event → Type 0
PoolIsFull w (Ask i p mode) = (is_free (w.entry p) ≡ true) × (w.frames ≤ held_count w.entry i 1024)
PoolIsFull w (Take i p) = w.frames ≤ held_count w.entry i 1024
PoolIsFull w e = ⊥

-- nobody else asks for the page
abbrev pub IsUnasked : Pages → Event → Type 0
IsUnasked w (Give i p) = oldest i (w.asks p) ≡ None
IsUnasked w e = ⊥

-- the copy is the only one that has the page's changes
abbrev pub IsOnlyCopy : Pages → Event → Type 0
IsOnlyCopy w (Evict i p) = may_evict i (w.entry p) ≡ false
IsOnlyCopy w e = ⊥

-- no checkpoint is begun that could end
abbrev pub HasNoCheck : Pages → Event → Type 0
HasNoCheck w (CheckEnd i) = w.begun i ≡ false
HasNoCheck w e = ⊥

-- what the pages say of a cause
abbrev pub PagesSay : State → Pages → Event → Cause → Type 0
PagesSay m w e Cause.Lost = IsLostFor m w e
PagesSay m w e Cause.Away = IsAway m w e
PagesSay m w e Cause.Moving = IsUnderWay w e
PagesSay m w e Cause.Frame = PoolIsFull w e
PagesSay m w e Cause.Asks = IsUnasked w e
PagesSay m w e Cause.Dirty = IsOnlyCopy w e
PagesSay m w e Cause.Check = HasNoCheck w e
PagesSay m w e c = ⊥

-- the event tells which page it needs; a recovery step doesn't, since the logs know
abbrev pub names_page : Event → Bool
names_page (RecoverStep i) = false
names_page e = true

-- the pages alone decide whether the cause applies
abbrev pub decided : Event → Cause → Bool
decided e Cause.Lost = true
decided e Cause.Away = names_page e
decided e Cause.Moving = true
decided e Cause.Frame = true
decided e Cause.Asks = true
decided e Cause.Dirty = true
decided e Cause.Check = true
decided e c = false

-- where the pages decide the cause, they say that it applies
abbrev pub PagesAgree : State → Pages → Event → Cause → Type 0
PagesAgree m w e c = decided e c ≡ true → PagesSay m w e c

-- none of these causes applies, as far as the pages decide
abbrev pub NoneSays : State → Pages → Event → List Cause → Type 0
NoneSays m w e [] = Unit {0}
NoneSays m w e (c ∷ cs) = unless (decided e c) (PagesSay m w e c) × NoneSays m w e cs

-- by recovers instance i
abbrev pub RecoversAt : State → ℕ → ℕ → Type 0
RecoversAt m i by = (m.inst i).status ≡ Status.Recovering by

-- the recovery of i needs the page: a loser of i, or one in doubt, has an exclusive claim on a record of it
abbrev pub IsNeededPage : State → ℕ → ℕ → Type 0
IsNeededPage m i p = (t : TxnId) × (t.inst ≡ i) × IsLost (m.part t).life × Changes m t p
