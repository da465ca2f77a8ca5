-- The events for which no memory may be wanting, as the state of the serial table is, and the pages.
use Rattle.std.specs.Prelude.{◌≡◌, ◌<◌, ◌≤◌, ℕ, true, Option, length}
use Rattle.sd_base.specs.declared.ids.TxnId.{TxnId}
use Rattle.sd_base.specs.declared.place.Status.TheVariants as S
use Rattle.sd_model.specs.declared.act.Life.TheVariants.{Running, Rolling}
use Rattle.sd_model.specs.declared.event.Event.{Event}
use Rattle.sd_model.specs.declared.event.Event.TheVariants.{Commit, Fail, Undo}
use Rattle.sd_model.specs.Acts.{live}
use Rattle.sd_model.specs.Changes.{goal}
use Rattle.sd_pagelock.specs.Places.{owns}
use Rattle.sd_world.specs.PageCauses.{undo_page}
use Rattle.sd_world.specs.Serving.{Core}

-- The transaction rolls back, and either has nothing left to undo, or its instance has the page of its next undo alone.
abbrev pub IsUndoable : Core → TxnId → Type 0
IsUndoable w t = (to : Option ℕ) × ((w.scene.state.part t).life ≡ Rolling to)
    × (goal to < length (live (w.scene.state.part t).acts) → owns (w.pages.entry (undo_page w.scene.state t)) t.inst ≡ true)

-- no memory may be wanting for the event: a transaction that runs commits, an undo finds its page, or an instance that is up fails
abbrev pub IsOwed : Core → Event → Type 0
IsOwed w (Commit t) = (w.scene.state.part t).life ≡ Running
IsOwed w (Undo t) = IsUndoable w t
IsOwed w (Fail i) = (1 ≤ i) × (i ≤ 8) × ((w.scene.state.inst i).status ≡ S.Up)
IsOwed w e = ⊥
