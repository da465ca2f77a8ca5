-- What a hall keeps, and where its next entry goes.
use Rattle.std.specs.Prelude.{◌≡◌, ◌⊎◌, ◌+◌, ◌≤◌}
use Rattle.sd_model.specs.Few.{Few}
use Rattle.sd_model.specs.declared.event.Event.{Event}
use Rattle.sd_world.specs.Leading.{Leads}
use Rattle.sd_world.specs.Serving.{Core, Telling}
use Rattle.sd_hall.specs.Bodies.{fits_in}
use Rattle.sd_hall.specs.declared.hall.Hall.{Hall}
use Rattle.sd_hall.specs.Ledger.{entries_owed}
use Rattle.sd_hall.specs.Owed.{IsOwed}

-- The entries lead from the start to a core that the complex fits, open or closed, with as many frames as the hall's shape says:
-- at least one, and at most 1,024. Whoever may take a checkpoint has at most 64 unresolved transactions. The book has room for what the
-- hall owes, and the hall counts no less than it owes.
pub record Keeps {G : Type 0} (tell : Telling G) (start : Core) (hall : Hall G) : Type 0 where
  pub core : Core
  pub leads : Leads start hall.book.entries core
  pub fits : fits_in tell.seen tell.leaves hall.body core
  pub frames : core.pages.frames ≡ hall.shape.frames
  pub least : 1 ≤ hall.shape.frames
  pub most : hall.shape.frames ≤ 1024
  pub few : Few core.scene.state
  pub counted : entries_owed core.scene.state ≤ hall.owed
  pub room : hall.owed ≤ hall.book.spare

-- The entry of the event takes the place that is owed for it.
pub record TakesPlace {G : Type 0} (tell : Telling G) (e : Event) (old new : Hall G) : Type 0 where
  pub owed : (w : Core) → fits_in tell.seen tell.leaves old.body w → IsOwed w e
  pub less : new.owed + 1 ≡ old.owed
  pub room : old.owed ≤ new.book.spare

-- The book has room for the entry besides what is owed, and for one more, which the event may owe.
pub record MakesPlace {G : Type 0} (old new : Hall G) : Type 0 where
  pub same : new.owed ≡ old.owed
  pub room : new.owed + 2 ≤ new.book.spare

-- the event's entry has a place
abbrev pub HasPlace : {G : Type 0} → Telling G → Event → Hall G → Hall G → Type 0
HasPlace tell e old new = TakesPlace tell e old new ⊎ MakesPlace old new
