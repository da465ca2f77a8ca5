-- What the opening of a script leads to: behind it nobody has to be recovered, unless a device failed.
use Rattle.std.specs.Prelude.{◌≡◌, ◌⊎◌, ℕ, ◌<◌, ◌≤◌, Bool, true, false, List, [], ◌∷◌, ◌++◌, Option, None}
use Rattle.sd_base.specs.declared.place.Status.TheVariants as S
use Rattle.sd_model.specs.declared.event.Entry.{Entry}
use Rattle.sd_model.specs.Applies.{IsRecovering}
use Rattle.sd_model.specs.State.{State}
use Rattle.sd_pagelock.specs.Places.{PageEntry, uses}
use Rattle.sd_script.specs.declared.line.Line.{Line}
use Rattle.sd_world.specs.Laws.{IsOut}
use Rattle.sd_world.specs.Pages.{Pages, place_of}
use Rattle.sd_fits.specs.declared.body.Body.{Body}
use Rattle.sd_drive.specs.Bodies.{asks_in, entry_in, status_in}
use Rattle.sd_drive.specs.Driving.{Drives, Work, World, works_of}
use Rattle.sd_drive.specs.Pulls.{Pull, is_vain}

-- the page is in no pool: as on disk, or lost
abbrev pub IsNowhere : PageEntry → Type 0
IsNowhere place = (lost : Bool) × (place ≡ place_of lost)

-- The opening of these lines is to come. The complex is open, nobody is recovered, and no page is in a pool or asked for.
pub record IsToOpen (lines : List Line) (w : World) : Type 0 where
  pub left : w.told.left ≡ Work.Opening ∷ works_of lines
  pub begins : w.told.cursor ≡ None
  pub idle : w.told.pull ≡ Pull.Idle
  pub unfailed : w.told.failed ≡ false
  pub stands : (w.core.scene.state.inst 1).status ≡ S.Closed → ⊥
  pub unrecovered : (i : ℕ) → 1 ≤ i → i ≤ 8 → IsRecovering (w.core.scene.state.inst i).status → ⊥
  pub nowhere : (p : ℕ) → IsNowhere (w.core.pages.entry p)
  pub unasked : (p : ℕ) → w.core.pages.asks p ≡ []

-- no instance is down, or is being recovered
abbrev pub NoneIsOut : State → Type 0
NoneIsOut m = (i : ℕ) → 1 ≤ i → i ≤ 8 → IsOut (m.inst i).status → ⊥

-- The opening is under way, and no page is pulled for it in vain.
pub record IsUnderWay (lines : List Line) (w : World) : Type 0 where
  pub left : w.told.left ≡ Work.Opening ∷ works_of lines
  pub comes : is_vain w.told.pull ≡ false

-- only instances that are up have pages of the data device in their pools, or on their way there
abbrev pub OnlyUpHave : State → Pages → Type 0
OnlyUpHave m w = (p k : ℕ) → p < 1024 → uses (w.entry p) k ≡ true → (m.inst k).status ≡ S.Up

-- The opening is done: nobody is down or being recovered, the pools of those that aren't up are empty, and the lines are to come.
pub record IsBehind (lines : List Line) (w : World) : Type 0 where
  pub left : w.told.left ≡ works_of lines
  pub rests : w.told.cursor ≡ None
  pub unfailed : w.told.failed ≡ false
  pub recovered : NoneIsOut w.core.scene.state
  pub emptied : OnlyUpHave w.core.scene.state w.core.pages

-- A front of the entries leads to a world in which the opening is done, and the others lead on from there.
pub record PassesBehind (lines : List Line) (start : World) (entries : List Entry) (w : World) : Type 0 where
  pub front : List Entry
  pub back : List Entry
  pub mid : World
  pub parts : entries ≡ front ++ back
  pub opens : Drives start front mid
  pub behind : IsBehind lines mid
  pub goes_on : Drives mid back w

-- An opening is under way, or is done and leaves nobody out, or a device failed in it.
abbrev pub OpeningRecovers : Type 0
OpeningRecovers = (lines : List Line) (start w : World) (entries : List Entry) → IsToOpen lines start → Drives start entries w
    → (w.told.failed ≡ true) ⊎ (IsUnderWay lines w ⊎ PassesBehind lines start entries w)

-- ---- of a hall

-- Its complex is open; nobody is recovered, and no page is in a pool or asked for.
pub record IsUnused {G : Type 0} (body : Option (Body G)) : Type 0 where
  pub stands : status_in body 1 ≡ S.Closed → ⊥
  pub unrecovered : (i : ℕ) → 1 ≤ i → i ≤ 8 → IsRecovering (status_in body i) → ⊥
  pub nowhere : (p : ℕ) → IsNowhere (entry_in body p)
  pub unasked : (p : ℕ) → asks_in body p ≡ []

-- None of its instances is down or being recovered, and only those that are up have pages.
pub record HasRecovered {G : Type 0} (body : Option (Body G)) : Type 0 where
  pub recovered : (i : ℕ) → 1 ≤ i → i ≤ 8 → IsOut (status_in body i) → ⊥
  pub emptied : (p k : ℕ) → 1 ≤ k → k ≤ 8 → p < 1024 → uses (entry_in body p) k ≡ true → status_in body k ≡ S.Up
