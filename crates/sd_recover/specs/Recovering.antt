-- A recovery: why it may not begin, what a step that is refused tells, and what a step leaves.
use Rattle.std.specs.Prelude.{◌≡◌, ◌≢◌, ℕ, suc, false, true}
use Rattle.sd_base.specs.declared.ids.TxnId.{TxnId}
use Rattle.sd_base.specs.declared.place.Status.TheVariants as S
use Rattle.sd_base.specs.declared.refusal.Refusal.{Refusal}
use Rattle.sd_base.specs.declared.refusal.Refusal.TheVariants as R
use Rattle.sd_pagelock.specs.Directory.{entry_at}
use Rattle.sd_model.specs.declared.event.Reply.{Reply}
use Rattle.sd_model.specs.declared.event.Reply.TheVariants as reply
use Rattle.sd_pagelock.specs.Places.{PageEntry, is_lost, owns, seen, uses}
use Rattle.sd_rig.specs.Devices.{DeviceImages, LeavesOnly}
use Rattle.sd_chain.specs.Logs.{Outcomes}
use Rattle.sd_world.specs.Answers.{IsLowestLost}
use Rattle.sd_state.specs.Parts.{Parts, is_active, is_loose, status_at, txns_at}
use Rattle.sd_recover.specs.declared.recovering.Recovery.{Recovery}
use Rattle.sd_recover.specs.declared.recovering.Recovery.TheVariants as recoveries
use Rattle.sd_recover.specs.Tasks.{AreSettled, AreThere, IsLowestLoose, IsNext, tasks_in}
use Rattle.sd_recover.specs.declared.tasks.Task.TheVariants as task

-- The recovery of i by this instance may not begin for this cause, and no cause before it applies: i isn't down; or another is to
-- recover it, which isn't up.
abbrev pub MayNotBegin : Parts → ℕ → ℕ → Refusal → Type 0
MayNotBegin c i by (R.NotDown status) = (status ≡ status_at c i) × (status_at c i ≢ S.Down)
MayNotBegin c i by R.Down = (status_at c i ≡ S.Down) × (by ≢ i) × (status_at c by ≢ S.Up)
MayNotBegin c i by n = ⊥

-- No recovery of i runs; the refusal tells how it stands.
abbrev pub IsUnrecovering : Parts → ℕ → Refusal → Type 0
IsUnrecovering c i (R.NotRecovered status) = (status ≡ status_at c i) × ((by : ℕ) → status_at c i ≢ S.Recovering by)
IsUnrecovering c i n = ⊥

-- the instance hasn't the page alone; the refusal tells where it is
abbrev pub IsAway : ℕ → ℕ → Parts → Refusal → Type 0
IsAway by p c (R.NeedPage place) = (owns (entry_at c.directory p) by ≡ false) × (seen place ≡ entry_at c.directory p)
IsAway by p c n = ⊥

-- The next task of the recovery of i is an undo on a page that the recoverer hasn't alone, and this is the page's place.
abbrev pub AwaitsPage : Parts → ℕ → PageEntry → Type 0
AwaitsPage c i e = (t : TxnId) × (p by : ℕ) × IsNext c i (task.Undo t p) × (status_at c i ≡ S.Recovering by)
    × (e ≡ entry_at c.directory p) × (owns (entry_at c.directory p) by ≡ false)

-- a page that is here can be pulled: it isn't lost, and whoever has it or is to get it is active
abbrev pub IsStandingBy : Parts → PageEntry → Type 0
IsStandingBy c e = (is_lost e ≡ false) × ((j : ℕ) → uses e j ≡ true → is_active c j ≡ true)

-- the refusal wants no page
abbrev pub WantsNone : Refusal → Type 0
WantsNone (R.NeedPage place) = ⊥
WantsNone n = Unit {0}

-- the reply to a step
abbrev pub recovery : Recovery → Reply
recovery recoveries.Step = reply.Step
recovery recoveries.Done = reply.Finished

-- ---- a device failed

-- the recoverer of i has fallen
abbrev pub RecovererFell : ℕ → Parts → Parts → Type 0
RecovererFell i old new = (by : ℕ) × (status_at old i ≡ S.Recovering by) × (status_at new by ≡ S.Down)

-- A read failed: nothing changed, and the device that the step was to settle is stable.
pub record HasOnlyRead (seen : DeviceImages) (leaves : Outcomes) (old new : Parts) : Type 0 where
  pub same : new ≡ old
  pub synced : (dev : ℕ) → IsLowestLoose old dev → LeavesOnly (seen dev) (leaves dev)

-- ---- what a step leaves

-- of the devices this one alone is settled anew
abbrev pub SettlesOne : ℕ → Parts → Parts → Type 0
SettlesOne dev old new = (is_loose new dev ≡ false) × ((d : ℕ) → d ≢ dev → is_loose new d ≡ is_loose old d)

-- of the pages this one alone has another place, where it is free, and each device is settled still
abbrev pub FreesOne : ℕ → Parts → Parts → Type 0
FreesOne p old new = AreSettled new × (entry_at new.directory p ≡ PageEntry.Free)
    × ((q : ℕ) → q ≢ p → entry_at new.directory q ≡ entry_at old.directory q)

-- A step settles the lowest device that isn't settled; once each device is, it frees the lowest lost page.
abbrev pub HasCleared : Parts → Parts → Type 0
HasCleared old new = ((dev : ℕ) → IsLowestLoose old dev → SettlesOne dev old new)
    × (AreSettled old → (p : ℕ) → IsLowestLost (entry_at old.directory) p → FreesOne p old new)

-- Once each device is settled and no page is lost, a step leaves one task less.
abbrev pub HasOneLess : ℕ → Parts → Parts → Type 0
HasOneLess i old new = AreThere old → suc (tasks_in (txns_at new i)) ≡ tasks_in (txns_at old i)
