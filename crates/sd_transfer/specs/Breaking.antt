-- An instance falls by a device that fails during an event: which events these are.
use Rattle.std.specs.Prelude.{◌≡◌, ℕ, None}
use Rattle.sd_base.specs.declared.refusal.Refusal.TheVariants as R
use Rattle.sd_model.specs.Applies.{First}
use Rattle.sd_model.specs.Causes.{before, order}
use Rattle.sd_model.specs.Exact.{IsOfFreeSlot}
use Rattle.sd_model.specs.Fields.{nobody, txn_of}
use Rattle.sd_model.specs.Refusing.{MayFall, counted}
use Rattle.sd_model.specs.declared.cause.Cause.{Cause}
use Rattle.sd_model.specs.declared.event.Event.{Event}
use Rattle.sd_model.specs.declared.event.Reply.TheVariants as reply
use Rattle.sd_world.specs.Answers.{DidBefore}
use Rattle.sd_world.specs.PageCauses.{NoneSays}
use Rattle.sd_world.specs.Serving.{Core}

-- The event is no transaction's, it may take instance i down, it counts no join, and nothing refuses it before it comes to the
-- devices.
pub record BreaksBy (i : ℕ) (e : Event) (w : Core) : Type 0 where
  pub nobodys : txn_of e ≡ nobody
  pub falls : MayFall w.scene.state e i
  pub uncounted : counted e w.scene.state ≡ w.scene.state
  pub first : First w.scene.state e Cause.Rig
  pub passes : NoneSays w.scene.state w.pages e (before Cause.Rig (order e))
  pub did : DidBefore w.scene.state e w.pages w.pages
  pub unused : IsOfFreeSlot w.scene.state e None (reply.Refused R.Failed)
