-- What each event with its reply makes of the pages, and which reply they allow.
use Rattle.std.specs.Prelude.{◌≡◌, ℕ, ◌<◌, ◌≤◌, Bool, true, false, Some, cond}
use Rattle.sd_base.specs.declared.place.Mode.{Mode}
use Rattle.sd_base.specs.declared.place.Status.TheVariants as Status
use Rattle.sd_base.specs.declared.refusal.Refusal.{Refusal}
use Rattle.sd_base.specs.declared.refusal.Refusal.TheVariants as R
use Rattle.sd_model.specs.declared.cause.Cause.{Cause}
use Rattle.sd_model.specs.declared.event.Event.{Event}
use Rattle.sd_model.specs.declared.event.Event.TheVariants.{Write, Add, Insert, Delete, Undo, Ask, Give, Take, Evict, Flush, CheckBegin, CheckEnd, Fail, FailAll, RecoverStep, Reopen, Show}
use Rattle.sd_model.specs.declared.event.Reply.{Reply}
use Rattle.sd_model.specs.declared.event.Reply.TheVariants as reply
use Rattle.sd_model.specs.State.{State, fall}
use Rattle.sd_model.specs.Changes.{HasLoser}
use Rattle.sd_model.specs.Causes.{order, before}
use Rattle.sd_model.specs.Fields.{txn_of}
use Rattle.sd_model.specs.Applies.{First}
use Rattle.sd_model.specs.Refusing.{Names, MayFall, counted}
use Rattle.sd_pagelock.specs.Places.{PageEntry, seen, owns, holds_as, is_lost, receives}
use Rattle.sd_pagelock.specs.Rows.{taken, fallen, written, dirtied}
use Rattle.sd_pagelock.specs.Asks.{oldest}
use Rattle.sd_world.specs.Pages.{Pages, page_placed, asked, numbered, renumbered, begins, given, fell, emptied, answerer, is_had, had, number_shown}
use Rattle.sd_world.specs.PageCauses.{page_of, undo_page, PagesAgree, NoneSays, RecoversAt, IsNeededPage}

-- no page is lost
abbrev pub NoneLost : Pages → Type 0
NoneLost w = (p : ℕ) → is_lost (w.entry p) ≡ false

-- a recovery step waits for a page that it needs and that the recoverer hasn't alone, once no page is lost any more
abbrev pub IsWaitedFor : State → Pages → ℕ → PageEntry → Type 0
IsWaitedFor m w i place =
    (p by : ℕ) × RecoversAt m i by × IsNeededPage m i p × (place ≡ w.entry p) × (owns (w.entry p) by ≡ false) × NoneLost w

-- the place that a refusal for want of the page names
abbrev pub NamesNeeded : State → Pages → Event → PageEntry → Type 0
NamesNeeded m w (RecoverStep i) place = IsWaitedFor m w i place
NamesNeeded m w e place = place ≡ w.entry (page_of m e)

-- the arguments of a refusal that the pages decide
abbrev pub NamesPlace : State → Pages → Event → Refusal → Type 0
NamesPlace m w e (R.NeedPage place) = NamesNeeded m w e (seen place)
NamesPlace m w e (R.MovingTo to) = receives (w.entry (page_of m e)) to ≡ true
NamesPlace m w e n = Unit {0}

-- i, who has page p alone, changed it: the page has a greater number
abbrev pub changes : ℕ → ℕ → Pages → Pages → Type 0
changes i p w w' = (n : ℕ) × (w.number p < n) × (w' ≡ numbered p n (page_placed p (dirtied i) w))

-- the last change of the page is taken back: its number doesn't fall
abbrev pub takes_back : ℕ → ℕ → Pages → Pages → Type 0
takes_back i p w w' = (n : ℕ) × (w.number p ≤ n) × (w' ≡ numbered p n (page_placed p (dirtied i) w))

-- p is the lowest lost page
abbrev pub IsLowestLost : (ℕ → PageEntry) → ℕ → Type 0
IsLowestLost entry p = (is_lost (entry p) ≡ true) × ((q : ℕ) → q < p → is_lost (entry q) ≡ false)

-- the recovery of i may change page p, which the recoverer has alone, once no page is lost any more
abbrev pub MayRollBack : State → ℕ → Pages → ℕ → ℕ → Type 0
MayRollBack m i w p by = RecoversAt m i by × (owns (w.entry p) by ≡ true) × IsNeededPage m i p × NoneLost w

-- a recovery of i takes at most one change back
pub data Undoes (m : State) (i : ℕ) (w w' : Pages) : Type 0 where
  none : w' ≡ w → Undoes m i w w'
  one : (p by : ℕ) → MayRollBack m i w p by → w' ≡ page_placed p (dirtied by) w → Undoes m i w w'

-- or rebuilds the lowest lost page
pub data Rebuilds (m : State) (i : ℕ) (w w' : Pages) : Type 0 where
  undoes : Undoes m i w w' → Rebuilds m i w w'
  frees : (p : ℕ) → IsLowestLost w.entry p → w' ≡ page_placed p PageEntry.Free w → Rebuilds m i w w'

-- a step of the recovery of i; it may number pages anew
abbrev pub Steps : State → ℕ → Pages → Pages → Type 0
Steps m i w w' = (between : Pages) × (number : ℕ → ℕ) × Rebuilds m i w between × (w' ≡ renumbered number between)

-- Which pages are lost when the complex opens again: pages of the data device alone, and an instance without losers is down exactly where
-- there is one.
pub record AreFoundLost (m : State) (among : ℕ → Bool) : Type 0 where
  pub within : (p : ℕ) → 1024 ≤ p → among p ≡ false
  pub down : (i : ℕ) → (HasLoser m i → ⊥) → (m.inst i).status ≡ Status.Down → (p : ℕ) × (among p ≡ true)
  pub lost : (i : ℕ) → (HasLoser m i → ⊥) → (p : ℕ) → among p ≡ true → (m.inst i).status ≡ Status.Down

-- i asked for page p, and has it
abbrev pub Gets : ℕ → ℕ → Mode → Pages → Pages → Type 0
Gets i p mode w w' =
    (is_had i mode (w.entry p) ≡ true) × (w' ≡ cond {A = Pages} (holds_as mode (w.entry p) i) w (page_placed p (had i mode (w.entry p)) w))

-- i asked another for page p
abbrev pub Queues : ℕ → ℕ → Mode → ℕ → Pages → Pages → Type 0
Queues i p mode of w w' = (is_had i mode (w.entry p) ≡ false) × (of ≡ answerer i (w.entry p)) × (w' ≡ asked p i mode w)

-- i gave page p to the oldest asker
abbrev pub Gives : ℕ → ℕ → ℕ → Pages → Pages → Type 0
Gives i p to w w' = (mode : Mode) × (oldest i (w.asks p) ≡ Some (to, mode)) × (w' ≡ page_placed p (given i (to, mode) (w.entry p)) w)

-- the last state is that after the event
abbrev pub Answers : State → Pages → Event → Reply → State → Pages → Type 0
Answers m w (Write t r v) reply.Did m' w' = changes t.inst r.page w w'
Answers m w (Add t r by) reply.Did m' w' = changes t.inst r.page w w'
Answers m w (Delete t r) reply.Did m' w' = changes t.inst r.page w w'
Answers m w (Insert t p v c) (reply.At r) m' w' = changes t.inst p w w'
Answers m w (Undo t) reply.Step m' w' = takes_back t.inst (undo_page m t) w w'
Answers m w (Ask i p mode) reply.Have m' w' = Gets i p mode w w'
Answers m w (Ask i p mode) (reply.Asked of) m' w' = Queues i p mode of w w'
Answers m w (Give i p) (reply.Gave to) m' w' = Gives i p to w w'
Answers m w (Take i p) reply.Did m' w' = w' ≡ page_placed p (taken (w.entry p)) w
Answers m w (Evict i p) reply.Did m' w' = w' ≡ page_placed p (fallen i (w.entry p)) w
Answers m w (Flush i p) reply.Did m' w' = w' ≡ page_placed p (written (w.entry p)) w
Answers m w (CheckBegin i) reply.Did m' w' = w' ≡ begins i true w
Answers m w (CheckEnd i) reply.Did m' w' = w' ≡ begins i false w
Answers m w (Fail i) reply.Did m' w' = (number : ℕ → ℕ) × (w' ≡ fell i number w)
Answers m w (FailAll pick) reply.Did m' w' = (number : ℕ → ℕ) × (w' ≡ emptied (λ p. false) number w)
Answers m w (RecoverStep i) reply.Step m' w' = Steps m i w w'
Answers m w (RecoverStep i) reply.Finished m' w' = NoneLost w × ((number : ℕ → ℕ) × (w' ≡ renumbered number w))
Answers m w Reopen reply.Did m' w' = (lost : ℕ → Bool) × (number : ℕ → ℕ) × AreFoundLost m' lost × (w' ≡ emptied lost number w)
Answers m w (Show p) (reply.Shown place lsn) m' w' = (seen place ≡ w.entry p) × (lsn ≡ number_shown (w.entry p) (w.number p)) × (w' ≡ w)
Answers m w e r m' w' = w' ≡ w

-- What an event did before a device failed: a recovery step may have taken a change back, which its force would have told. A page whose
-- rebuild fails stays lost.
abbrev pub DidBefore : State → Event → Pages → Pages → Type 0
DidBefore m (RecoverStep i) w w' = Undoes m i w w'
DidBefore m e w w' = w' ≡ w

-- What a failed device leaves: nothing changes, or an instance falls, in the state and in the pages the same one.
pub data Fails (m : State) (w : Pages) (e : Event) (m' : State) (w' : Pages) : Type 0 where
  stays : m' ≡ counted e m → w' ≡ w → Fails m w e m' w'
  falls : (j : ℕ) (between : Pages) (number : ℕ → ℕ) → MayFall m e j
      → m' ≡ fall j (counted e m) → DidBefore m e w between → w' ≡ fell j number between → Fails m w e m' w'

-- what a refusal leaves of the pages
abbrev pub RefusalLeaves : State → Pages → Event → Refusal → State → Pages → Type 0
RefusalLeaves m w e R.Failed m' w' = Fails m w e m' w'
RefusalLeaves m w e R.CutCommit m' w' = (number : ℕ → ℕ) × (w' ≡ fell (txn_of e).inst number w)
RefusalLeaves m w e n m' w' = w' ≡ w

-- It is refused for this cause, the first that applies: `says` has the word of the pages, and `place` what the refusal tells.
pub record IsRefused (m : State) (w : Pages) (e : Event) (n : Refusal) (m' : State) (w' : Pages) : Type 0 where
  pub cause : Cause
  pub names : Names cause n
  pub first : First m e cause
  pub passes : NoneSays m w e (before cause (order e))
  pub says : PagesAgree m w e cause
  pub place : NamesPlace m w e n
  pub leaves : RefusalLeaves m w e n m' w'

-- the pages allow the reply, and this is what it makes of them
abbrev pub Moves : State → Pages → Event → Reply → State → Pages → Type 0
Moves m w e (reply.Refused n) m' w' = IsRefused m w e n m' w'
Moves m w e r m' w' = NoneSays m w e (order e) × Answers m w e r m' w'
