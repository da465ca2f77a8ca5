-- Where a driver stands in its script: which event is due, and what becomes of it.
use Rattle.std.specs.Prelude.{◌≡◌, ℕ, Bool, true, false, List, ◌∷◌, Option, None, Some}
use Rattle.sd_base.specs.declared.ids.TxnId.{TxnId}
use Rattle.sd_base.specs.declared.place.Mode.{Mode}
use Rattle.sd_base.specs.declared.place.Mode.TheVariants as modes
use Rattle.sd_base.specs.declared.place.Status.TheVariants as S
use Rattle.sd_base.specs.declared.refusal.Refusal.TheVariants as R
use Rattle.sd_model.specs.declared.event.Event.{Event}
use Rattle.sd_model.specs.declared.event.Event.TheVariants as event
use Rattle.sd_model.specs.declared.event.Reply.{Reply}
use Rattle.sd_model.specs.declared.event.Reply.TheVariants as reply
use Rattle.sd_model.specs.Applies.{IsRolling}
use Rattle.sd_model.specs.State.{State}
use Rattle.sd_world.specs.PageCauses.{undo_page}
use Rattle.sd_world.specs.Serving.{Core, Telling, Turns}
use Rattle.sd_fits.specs.declared.body.Body.{Body}
use Rattle.sd_hall.specs.Bodies.{fits_in}
use Rattle.sd_drive.specs.Driving.{Cursor, Known, Work, World, cursor_in, due_works, event_at, stays}
use Rattle.sd_drive.specs.Pulls.{Pull, Puller, is_pulling, is_vain, puller}

-- this work is the next one or under way; it stands there, so this event is due, and no page is pulled
pub record EventIsDue (known : Known) (work : Work) (rest : List Work) (c : Cursor) (e : Event) (w : World) : Type 0 where
  pub known_is : w.told.known ≡ known
  pub first : due_works w.core.scene.state w.told ≡ work ∷ rest
  pub at : cursor_in w.core.scene.state w.told.known work w.told.cursor ≡ Some c
  pub idle : w.told.pull ≡ Pull.Idle
  pub event : event_at known work c ≡ Some e
  pub unfailed : w.told.failed ≡ false

-- what every transaction has done is as before
abbrev pub NoneActs : State → State → Type 0
NoneActs old new = (t : TxnId) → (new.part t).acts ≡ (old.part t).acts

-- no device failed, where the work is a line
abbrev pub IsBorne : Work → Bool → Type 0
IsBorne Work.Opening failed = Unit {0}
IsBorne (Work.Do line) failed = failed ≡ false

-- The work has begun, and a page is pulled so far for whom its event needs it. `at` is the world in which its event wanted the
-- page: no transaction has acted since. While the pull goes on, the event needs the page as it did. No device failed in the
-- opening, unless the pull was in vain.
pub record Pulling (at : World) (work : Work) (rest : List Work) (c : Cursor) (e : Event) (for : Puller) (pull : Pull) (w : World) : Type 0 where
  pub failed : Bool
  pub told : w.told ≡ record (stays at.told work rest c pull) { failed = failed }
  pub event : event_at at.told.known work c ≡ Some e
  pub puller : is_pulling pull ≡ true → puller w.core.scene.state e ≡ Some for
  pub acts : NoneActs at.core.scene.state w.core.scene.state
  pub unfailed : is_vain pull ≡ false → failed ≡ false
  pub borne : IsBorne work failed
  pub before : at.told.failed ≡ false

-- for whom a page is pulled for an event, which page, and how it is needed
abbrev pub need_of : State → Event → Option (ℕ × ℕ × Mode)
need_of m (event.Read t r) = Some (t.inst, r.page, modes.Shared)
need_of m (event.List i p) = Some (i, p, modes.Shared)
need_of m (event.Write t r v) = Some (t.inst, r.page, modes.Excl)
need_of m (event.Add t r by) = Some (t.inst, r.page, modes.Excl)
need_of m (event.Delete t r) = Some (t.inst, r.page, modes.Excl)
need_of m (event.Insert t p v n) = Some (t.inst, p, modes.Excl)
need_of m (event.Undo t) = Some (t.inst, undo_page m t, modes.Excl)
need_of m e = None

-- what an event still wants behind its reply
abbrev pub wanted_of : State → Event → Reply → Option (ℕ × ℕ × Mode)
wanted_of m e (reply.Refused (R.NeedPage place)) = need_of m e
wanted_of m e r = None

-- So much the event still wants, in whatever world it was answered so.
abbrev pub Wants : {G : Type 0} → Telling G → Option (Body G) → Event → Reply → Option (ℕ × ℕ × Mode) → Type 0
Wants {G} tell body e r need = (w w' : Core) → Turns w e r w' → fits_in tell.seen tell.leaves body w' → need ≡ wanted_of w.scene.state e r

-- the transaction rolls back, at an instance that is up
pub record GoesBack (m : State) (t : TxnId) : Type 0 where
  pub rolls : IsRolling (m.part t).life
  pub up : (m.inst t.inst).status ≡ S.Up
