-- A state of the serial table with what each transaction waits for, and what calls make of the waits.
use Rattle.std.specs.Prelude.{◌≡◌, ℕ, Bool, true, false, List, [], ◌∷◌, Option, None, Some, eqb, cond}
use Rattle.sd_base.specs.declared.ids.TxnId.{TxnId}
use Rattle.sd_base.specs.declared.ids.Rid.{Rid}
use Rattle.sd_base.specs.declared.place.Mode.TheVariants as modes
use Rattle.sd_base.specs.declared.refusal.Refusal.TheVariants as R
use Rattle.sd_base.specs.Waits.{Wait, Waits, with_wait}
use Rattle.sd_model.specs.declared.act.Life.{Life}
use Rattle.sd_model.specs.declared.act.Life.TheVariants.{Gone, Running, Retained, Rolling, Doubt}
use Rattle.sd_model.specs.declared.event.Entry.{Entry}
use Rattle.sd_model.specs.declared.event.Event.{Event}
use Rattle.sd_model.specs.declared.event.Event.TheVariants.{Read, Write, Add, Insert, Delete}
use Rattle.sd_model.specs.declared.event.Reply.{Reply}
use Rattle.sd_model.specs.declared.event.Reply.TheVariants.{Refused}
use Rattle.sd_model.specs.Fields.{txn_of}
use Rattle.sd_model.specs.State.{State}
use Rattle.sd_model.specs.Step.{Step}

pub record Scene : Type 0 where
  pub state : State
  pub waits : Waits

abbrev pub shared : Rid → Wait
shared r = record { rid = r; mode = modes.Shared }

abbrev pub exclusive : Rid → Wait
exclusive r = record { rid = r; mode = modes.Excl }

-- the lock of an insert into a page, where the record that it asked for is told
abbrev pub of_page : ℕ → Option Rid → Option Wait
of_page p None = None
of_page p (Some r) = cond {A = Option Wait} (eqb r.page p) (Some (exclusive r)) None

-- the lock that an event asks for; which record an insert asks for is told
abbrev pub asked_of : Event → Option Rid → Option Wait
asked_of (Read t r) told = Some (shared r)
asked_of (Write t r v) told = Some (exclusive r)
asked_of (Add t r by) told = Some (exclusive r)
asked_of (Delete t r) told = Some (exclusive r)
asked_of (Insert t p v n) told = of_page p told
asked_of e told = None

-- what the caller waits for after the reply: the lock that it asked for, where it is blocked
abbrev pub wait_after : Option Wait → Reply → Option Wait
wait_after asked (Refused (R.Blocked by)) = asked
wait_after asked reply = None

abbrev pub is_running : Life → Bool
is_running Gone = false
is_running Running = true
is_running Retained = false
is_running (Rolling to) = false
is_running (Doubt cut) = false

-- the waits of those that run: a failure, which makes losers of them, ends their waits
abbrev pub of_running : State → Waits → Waits
of_running m waits t = cond {A = Option Wait} (is_running (m.part t).life) (waits t) None

-- The waits after an event that led to m: each call sets the caller's wait or ends it, and only those that run wait.
-- An event of no transaction is nobody's call.
abbrev pub waits_after : State → Event → Option Rid → Reply → Waits → Waits
waits_after m e told reply waits = of_running m (with_wait (txn_of e) (wait_after (asked_of e told) reply) waits)

-- the event with its reply leads from one scene to the next: a step, and the waits that it leaves
pub record Plays (told : Option Rid) (e : Event) (reply : Reply) (s next : Scene) : Type 0 where
  pub step : Step s.state e reply next.state
  pub waits : (t : TxnId) → next.waits t ≡ waits_after next.state e told reply s.waits t

-- A run of scenes: entries that lead from one scene to another, whatever record each insert asked for. Whom a refusal
-- of a lock names is not said here: a run of states leaves it open.
abbrev pub SceneRun : Scene → List Entry → Scene → Type 0
SceneRun s [] last = s ≡ last
SceneRun s (e ∷ es) last = (told : Option Rid) × (next : Scene) × Plays told e.event e.reply s next × SceneRun next es last
