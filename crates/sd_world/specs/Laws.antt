-- Laws of the world, over any state and any pages: what a refusal tells, what each event keeps, how sums grow, and runs of cores.
use Rattle.std.specs.Prelude.{◌≡◌, ◌≢◌, ◌⊎◌, ◌≤◌, ℕ, ◌+◌, true, false, List, ◌∷◌, [], ◌++◌, length, sum}
use Rattle.sd_base.specs.declared.place.Place.{Place}
use Rattle.sd_base.specs.declared.place.Status.{Status}
use Rattle.sd_base.specs.declared.place.Status.TheVariants.{Down}
use Rattle.sd_base.specs.declared.refusal.Refusal.{Refusal}
use Rattle.sd_base.specs.declared.refusal.Refusal.TheVariants as R
use Rattle.sd_model.specs.declared.cause.Cause.{Cause}
use Rattle.sd_model.specs.declared.event.Entry.{Entry}
use Rattle.sd_model.specs.declared.event.Event.{Event}
use Rattle.sd_model.specs.declared.event.Reply.{Reply}
use Rattle.sd_model.specs.declared.event.Reply.TheVariants.{Refused, Shown}
use Rattle.sd_model.specs.State.{State}
use Rattle.sd_model.specs.Applies.{IsRecovering}
use Rattle.sd_model.specs.Fields.{inst_of}
use Rattle.sd_model.specs.Causes.{order, has_cause}
use Rattle.sd_model.specs.Refusing.{Names, found}
use Rattle.sd_model.specs.Step.{Step}
use Rattle.sd_model.specs.Run.{Run}
use Rattle.sd_rig.specs.Devices.{DeviceImages}
use Rattle.sd_pagelock.specs.Places.{holds, is_lost, seen, uses}
use Rattle.sd_pagelock.specs.Asks.{asks_by}
use Rattle.sd_world.specs.Pages.{Pages, AreFormed, fell}
use Rattle.sd_world.specs.PageCauses.{PagesSay, decided}
use Rattle.sd_world.specs.Answers.{Moves}
use Rattle.sd_world.specs.Bounds.{Bounds, bounds_after, IsPageFull, IsLogFull, IsEnd, IsTooLong, is_wait}
use Rattle.sd_world.specs.Serving.{Core, Turns, Telling, KeepsEarlier, Passes}
use Rattle.sd_world.specs.Leading.{Leads, LeadsOn, ExactRun, Tries}

-- no device failed in it
abbrev pub IsPlain : Refusal → Type 0
IsPlain R.Failed = ⊥
IsPlain R.CutCommit = ⊥
IsPlain n = Unit {0}

abbrev pub IsAnswer : Reply → Type 0
IsAnswer (Refused n) = ⊥
IsAnswer r = Unit {0}

-- a refusal is for what it names: the pages say of its cause that it applies, where they decide it
abbrev pub CauseIsSaid : Type 0
CauseIsSaid = (m : State) (w : Pages) (e : Event) (n : Refusal) (m' : State) (w' : Pages) (c : Cause)
    → Moves m w e (Refused n) m' w' → Names c n → decided e c ≡ true → PagesSay m w e c

-- another reply comes only where no cause applies that the pages decide
abbrev pub AnswerIsClear : Type 0
AnswerIsClear = (m : State) (w : Pages) (e : Event) (r : Reply) (m' : State) (w' : Pages) (c : Cause)
    → Moves m w e r m' w' → IsAnswer r → has_cause c (order e) ≡ true → decided e c ≡ true → PagesSay m w e c → ⊥

-- a refusal changes the pages only where a device failed
abbrev pub RefusalLeavesPages : Type 0
RefusalLeavesPages = (m : State) (w : Pages) (e : Event) (n : Refusal) (m' : State) (w' : Pages)
    → Moves m w e (Refused n) m' w' → IsPlain n → w' ≡ w

-- and the serial table only there, or where the found value tells that the event can't be done, which is then read and claimed
abbrev pub RefusalLeavesState : Type 0
RefusalLeavesState = (m : State) (e : Event) (n : Refusal) (m' : State)
    → Step m e (Refused n) m' → IsPlain n → (m' ≡ m) ⊎ (m' ≡ found e m)

-- a refusal for a cause that the pages decide leaves all as it was
abbrev pub RefusedByPages : Type 0
RefusedByPages = (m : State) (w : Pages) (e : Event) (n : Refusal) (m' : State) (w' : Pages) (c : Cause)
    → Step m e (Refused n) m' → Moves m w e (Refused n) m' w' → Names c n → decided e c ≡ true → (m' ≡ m) × (w' ≡ w)

-- each event keeps pages well formed
abbrev pub MovesKeepForm : Type 0
MovesKeepForm = (m : State) (w : Pages) (e : Event) (r : Reply) (m' : State) (w' : Pages)
    → Moves m w e r m' w' → AreFormed w → AreFormed w'

-- so does a run
abbrev pub RunKeepsForm : Type 0
RunKeepsForm = (es : List Entry) (old new : Core) → Leads old es new → AreFormed old.pages → AreFormed new.pages

-- one that fell holds no page, receives none and asks for none
abbrev pub FallenHasNone : Type 0
FallenHasNone =
    (i : ℕ) (number : ℕ → ℕ) (w : Pages) (p : ℕ) → (uses ((fell i number w).entry p) i ≡ false) × (asks_by i ((fell i number w).asks p) ≡ false)

-- the others hold what they held
abbrev pub OthersHoldOn : Type 0
OthersHoldOn =
    (i k : ℕ) (number : ℕ → ℕ) (w : Pages) (p : ℕ) → i ≢ k → holds ((fell i number w).entry p) k ≡ holds (w.entry p) k

-- the instance is down, or is recovered
abbrev pub IsOut : Status → Type 0
IsOut status = (status ≡ Down) ⊎ IsRecovering status

-- some instance is down, or is recovered
abbrev pub HasFallen : State → Type 0
HasFallen m = (i : ℕ) × IsOut (m.inst i).status

-- a page is lost only while an instance is down or is recovered
abbrev pub LossIsKnown : State → Pages → Type 0
LossIsKnown m w = (p : ℕ) → is_lost (w.entry p) ≡ true → HasFallen m

-- each place is one of the code's
abbrev pub AreCoded : Pages → Type 0
AreCoded w = (p : ℕ) → (place : Place) × (w.entry p ≡ seen place)

-- so it stays by each event
abbrev pub LossStaysKnown : Type 0
LossStaysKnown = (m : State) (w : Pages) (e : Event) (r : Reply) (m' : State) (w' : Pages)
    → Step m e r m' → Moves m w e r m' w' → AreFormed w → AreCoded w → LossIsKnown m w → LossIsKnown m' w'

-- each sum is at most the later one
pub record Grows (old new : Bounds) : Type 0 where
  pub counts : (p : ℕ) → length (old.slots p) ≤ length (new.slots p)
  pub slots : (p : ℕ) → sum (old.slots p) ≤ sum (new.slots p)
  pub reach : (i : ℕ) → old.reach i ≤ new.reach i
  pub lsns : old.lsns ≤ new.lsns
  pub masters : (i : ℕ) → old.masters i ≤ new.masters i

-- sums don't fall
abbrev pub SumsGrow : Type 0
SumsGrow = (b : Bounds) (e : Event) (r : Reply) → Grows b (bounds_after b e r)

-- an event adds to the log of its own instance alone, and at most what the end of a checkpoint may add
abbrev pub OneLogGrows : Type 0
OneLogGrows = (b : Bounds) (e : Event) (r : Reply) (i : ℕ) → inst_of e ≢ i → (bounds_after b e r).reach i ≡ b.reach i

abbrev pub LogsGrowLittle : Type 0
LogsGrowLittle = (b : Bounds) (e : Event) (r : Reply) (i : ℕ) → (bounds_after b e r).reach i ≤ b.reach i + 14000

-- LSNs go on by four at most, and by none while replies only wait
abbrev pub LsnsGrowLittle : Type 0
LsnsGrowLittle = (b : Bounds) (e : Event) (r : Reply) → (bounds_after b e r).lsns ≤ b.lsns + 4

abbrev pub TriesTakeNoLsn : Type 0
TriesTakeNoLsn = (old new : Core) → Tries old new → new.bounds.lsns ≡ old.bounds.lsns

-- sums don't fall along a run
abbrev pub RunGrows : Type 0
RunGrows = (es : List Entry) (old new : Core) → Leads old es new → Grows old.bounds new.bounds

-- a page or a log is full, or LSNs are at their end, only where the sums say that it may be so
abbrev pub FullOnlyByPage : Type 0
FullOnlyByPage = (old : Core) (e : Event) (new : Core) → Turns old e (Refused R.PageFull) new → IsPageFull old.bounds e

abbrev pub FullOnlyByLog : Type 0
FullOnlyByLog = (old : Core) (e : Event) (new : Core) → Turns old e (Refused R.LogFull) new → IsLogFull old.bounds e

abbrev pub EndsOnlyByLsns : Type 0
EndsOnlyByLsns = (old : Core) (e : Event) (new : Core) → Turns old e (Refused R.LsnEnd) new → IsEnd old.scene.state old.bounds e

-- and a value is too long for a slot only where the sums say that the slot may be so small
abbrev pub LongOnlyBySlot : Type 0
LongOnlyBySlot = (old : Core) (e : Event) (new : Core) → Turns old e (Refused R.TooLong) new → IsTooLong old.scene.state old.bounds e

-- the LSN of a page that is shown is none above the sums
abbrev pub ShownIsBounded : Type 0
ShownIsBounded = (old : Core) (e : Event) (place : Place) (lsn : ℕ) (new : Core) → Turns old e (Shown place lsn) new → lsn ≤ old.bounds.lsns

-- a run after a run is a run
abbrev pub LeadsJoin : Type 0
LeadsJoin = (es fs : List Entry) (old mid new : Core) → Leads old es mid → Leads mid fs new → Leads old (es ++ fs) new

-- a run with one entry more is a run
abbrev pub LeadsGrow : Type 0
LeadsGrow = (es : List Entry) (e : Entry) (old mid new : Core) → Leads old es mid → Turns mid e.event e.reply new → Leads old (es ++ e ∷ []) new

-- a run without tries is one with tries
abbrev pub LeadsWithTries : Type 0
LeadsWithTries = (es : List Entry) (old new : Core) → Leads old es new → LeadsOn old es new

-- one entry more, or a try behind the last one, and it is such a run still
abbrev pub LeadsOnGrow : Type 0
LeadsOnGrow = (es : List Entry) (e : Entry) (old mid new : Core) → LeadsOn old es mid → Turns mid e.event e.reply new → LeadsOn old (es ++ e ∷ []) new

abbrev pub TryLeadsOn : Type 0
TryLeadsOn = (es : List Entry) (e : Event) (r : Reply) (old mid new : Core) → es ≢ [] → LeadsOn old es mid → Turns mid e r new
    → is_wait r ≡ true → LeadsOn old es new

-- a run of cores is a run of the serial table, and one of scenes with exact waits
abbrev pub LeadsRuns : Type 0
LeadsRuns = (es : List Entry) (old new : Core) → Leads old es new → Run old.scene.state es new.scene.state

abbrev pub LeadsExactly : Type 0
LeadsExactly = (es : List Entry) (old new : Core) → Leads old es new → ExactRun old.scene es new.scene

-- a call that spares all, and then one that leads to another state, are together like the second; so it is the other way round
abbrev pub SparedPasses : {D : Type 0} → Telling D → (DeviceImages → State → Type 0) → Type 0
SparedPasses {D} tell stands =
    (a b c : D) (m m' : State) → KeepsEarlier tell c → Passes tell stands a b m m → Passes tell stands b c m m' → Passes tell stands a c m m'

abbrev pub PassesSpared : {D : Type 0} → Telling D → (DeviceImages → State → Type 0) → Type 0
PassesSpared {D} tell stands =
    (a b c : D) (m m' : State) → KeepsEarlier tell c → Passes tell stands a b m m' → Passes tell stands b c m' m' → Passes tell stands a c m m'
