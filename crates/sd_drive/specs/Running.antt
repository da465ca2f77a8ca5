-- What a run is known to have done: to the book, to the complex, and to the devices all the while.
use Rattle.std.specs.Prelude.{◌≡◌, ◌⊎◌, ℕ, Bool, true, false, List, [], ◌∷◌, ◌++◌}
use Rattle.sd_base.specs.declared.ids.Rid.{Rid}
use Rattle.sd_base.specs.Streams.{Rises}
use Rattle.sd_base.specs.declared.place.Status.TheVariants as S
use Rattle.sd_base.specs.declared.trouble.Pick.{Pick}
use Rattle.sd_chain.specs.Bytes.{disk_page}
use Rattle.sd_pagelock.specs.Places.{changed}
use Rattle.sd_rig.specs.Devices.{DeviceImages, Elapses, Leaves, Span}
use Rattle.sd_model.specs.State.{State}
use Rattle.sd_model.specs.declared.event.Entry.{Entry}
use Rattle.sd_model.specs.declared.event.Event.TheVariants.{FailAll, Reopen}
use Rattle.sd_model.specs.declared.event.Reply.TheVariants.{Did}
use Rattle.sd_hall.specs.Closed.{Lasts}
use Rattle.sd_hall.specs.Found.{IsFound}
use Rattle.sd_world.specs.Serving.{FaultsAre, Passes, Telling}
use Rattle.sd_fits.specs.Serving.{stands_for}
use Rattle.sd_fits.specs.Bodies.{fits_body, rig_of}
use Rattle.sd_fits.specs.declared.body.Body.{Body}
use Rattle.sd_drive.specs.Driving.{Advances, Drives, World}

-- where a run began: in this world, with these devices and this table; opened: whether it has come to its lines since
pub record Start (G : Type 0) : Type 0 where
  pub world : World
  pub rig : G
  pub table : List (Rid × List ℕ)
  pub opened : Bool

-- the same start, of a run that is told to have come to its lines, or isn't
abbrev pub told_as : {G : Type 0} → Start G → Bool → Start G
told_as start opened = record start { opened = opened }

-- The entry was served on these devices: meanwhile a crash left what stands for the world before it or behind it, and whatever it may
-- leave then stands for that behind it. A fault is told by the entry in which it came.
pub record ServesEntry {G : Type 0} (tell : Telling G) (e : Entry) (rig mid : G) (w next : World) : Type 0 where
  pub passes : Passes tell stands_for rig mid w.core.scene.state next.core.scene.state
  pub told : FaultsAre e.event e.reply (tell.faults rig) (tell.faults mid)
  pub left : (img : DeviceImages) → Leaves (tell.leaves mid) img → stands_for img next.core.scene.state
  -- while the complex is open, a page that is told as clean is on the data device, with the LSN that is told
  pub clean : ((next.core.scene.state.inst 1).status ≡ S.Closed → ⊥) → (p : ℕ) → changed (next.core.pages.entry p) ≡ false
      → (bytes : List ℕ) → tell.leaves mid 0 bytes → (disk_page bytes p).lsn ≡ next.core.pages.number p
  -- behind a reopening that is done the world is what the devices tell
  pub found : e.event ≡ Reopen → e.reply ≡ Did → IsFound (tell.seen mid) next.core
  -- behind a failure of all what the devices read lasts, unless a fault was counted
  pub lasts : (pick : Pick) → e.event ≡ FailAll pick → Lasts tell rig mid

-- A call that found no memory passed: the devices stood for the same world meanwhile.
pub record Stays {G : Type 0} (tell : Telling G) (rig rig' : G) (w : World) : Type 0 where
  pub passes : Passes tell stands_for rig rig' w.core.scene.state w.core.scene.state
  pub quiet : tell.faults rig' ≡ tell.faults rig

-- From entry to entry the devices went on, and behind each they stood for its world.
abbrev pub Goes : {G : Type 0} → Telling G → World → G → List Entry → World → G → Type 0
Goes tell w rig [] w' rig' = (w ≡ w') × ((rig' ≡ rig) ⊎ Stays tell rig rig' w)
Goes {G} tell w rig (e ∷ es) w' rig' = (next : World) × (mid : G) × Advances w e next × ServesEntry tell e rig mid w next × Goes tell next mid es w' rig'

-- The devices are `rig` now, and since the start time went on. At the start a crash left what stands for its world, and from there the
-- devices went on from entry to entry.
pub record RunsOn {G : Type 0} (tell : Telling G) (start : Start G) (rig : G) (entries : List Entry) (last : World) : Type 0 where
  pub time : Elapses (tell.moment start.rig) (tell.moment rig) (tell.since start.rig) (tell.since rig)
  pub stood : (img : DeviceImages) → tell.since start.rig (tell.moment start.rig) img → stands_for img start.world.core.scene.state
  pub goes : Goes tell start.world start.rig entries last rig

-- The entries lead from the start to a world that the complex fits, open or closed.
pub record Ran {G : Type 0} (tell : Telling G) (start : Start G) (body : Body G) (entries : List Entry) (last : World) : Type 0 where
  pub drives : Drives start.world entries last
  pub fits : fits_body tell.seen tell.leaves body last.core
  pub runs : RunsOn tell start (rig_of body) entries last

-- What the devices read, and whatever a crash may leave of them, stands for the state.
pub record AllStand {G : Type 0} (tell : Telling G) (rig : G) (m : State) : Type 0 where
  pub reads : stands_for (tell.seen rig) m
  pub left : (img : DeviceImages) → Leaves (tell.leaves rig) img → stands_for img m

-- The entries lead from the start to the last world, for which the devices stand.
pub record Led {G : Type 0} (tell : Telling G) (start : Start G) (rig : G) (entries : List Entry) (last : World) : Type 0 where
  pub drives : Drives start.world entries last
  pub runs : RunsOn tell start rig entries last
  pub stand : AllStand tell rig last.core.scene.state

-- A device failed in the opening: the entries lead to a world in which that is told, and for which the devices stand.
pub record Breaks {G : Type 0} (tell : Telling G) (start : Start G) (rig : G) : Type 0 where
  pub entries : List Entry
  pub last : World
  pub led : Led tell start rig entries last
  pub failed : last.told.failed ≡ true
  pub faults : Rises (tell.faults start.rig) (tell.faults rig)

-- ---- what follows of a run

-- the count of faults goes up entry by entry, as each reply tells
abbrev pub FaultsOf : List Entry → ℕ → ℕ → Type 0
FaultsOf [] old new = new ≡ old
FaultsOf (e ∷ es) old new = (next : ℕ) × FaultsAre e.event e.reply old next × FaultsOf es next new

-- The image stands for the state of a world on the way: a front of the entries leads to it, and the rest on to the last world.
pub record StandsOnWay (start : World) (entries : List Entry) (last : World) (img : DeviceImages) : Type 0 where
  pub front : List Entry
  pub rest : List Entry
  pub parts : entries ≡ front ++ rest
  pub world : World
  pub before : Drives start front world
  pub behind : Drives world rest last
  pub stands : stands_for img world.core.scene.state

-- The entries lead from world to world; no entry tells a fault that wasn't there, and none is untold but those of a failure of all; and
-- each image that a crash may have left at any moment stands for the state of a world on the way.
pub record HasWay {G : Type 0} (tell : Telling G) (start : Start G) (rig : G) (entries : List Entry) (last : World) : Type 0 where
  pub drives : Drives start.world entries last
  pub faults : FaultsOf entries (tell.faults start.rig) (tell.faults rig)
  pub moments : Span (tell.moment start.rig) (tell.since rig) (StandsOnWay start.world entries last)

abbrev pub RunsHaveWay : {G : Type 0} → Telling G → Type 0
RunsHaveWay {G} tell = (start : Start G) (rig : G) (entries : List Entry) (last : World) → RunsOn tell start rig entries last
    → HasWay tell start rig entries last
