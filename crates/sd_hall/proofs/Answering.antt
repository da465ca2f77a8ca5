-- What is told of a call is what its call answered. It serves the goals of dispatch.rt.
use Rattle.std.proofs.Common.{◌≡◌, ◌≢◌, ℕ, Bool, true, false, Option, None, Some, refl, sym, subst}
use Rattle.std.specs.Prelude.{IfErr, Result, Ok, Err}
use Rattle.sd_base.specs.declared.ids.TxnId.{TxnId}
use Rattle.sd_base.specs.declared.place.Place.{Place}
use Rattle.sd_base.specs.declared.refusal.Refusal.{Refusal}
use Rattle.sd_base.specs.declared.refusal.Refusal.TheVariants as R
use Rattle.sd_model.specs.declared.event.Event.{Event}
use Rattle.sd_model.specs.declared.event.Event.TheVariants as event
use Rattle.sd_model.specs.declared.event.Reply.{Reply}
use Rattle.sd_model.specs.declared.event.Reply.TheVariants as reply
use Rattle.sd_world.specs.Serving.{Core, Telling, answered, step_or_finished}
use Rattle.sd_state.specs.Complexes.{parts}
use Rattle.sd_state.specs.Parts.{Parts}
use Rattle.sd_state.specs.declared.complex.Complex.{Complex}
use Rattle.sd_state.specs.declared.complex.Shape.{Shape}
use Rattle.sd_fits.specs.Resting.{LeavesRest}
use Rattle.sd_fits.specs.Serving.{Serving}
use Rattle.sd_fits.specs.declared.body.Body.{Body}
use Rattle.sd_recover.specs.Closing.{NeitherClosesNorOpens}
use Rattle.sd_pagelock.specs.Places.{seen}
use Rattle.sd_recover.specs.Recovering.{AwaitsPage, IsStandingBy, recovery}
use Rattle.sd_recover.specs.Work.{steps_left}
use Rattle.sd_rig.specs.Devices.{DeviceImages}
use Rattle.sd_recover.specs.declared.recovering.Recovery.{Recovery}
use Rattle.sd_hall.specs.Bodies.{AwaitsUndo, HasWorked, IsWorked}
use Rattle.sd_hall.specs.Owed.{IsOwed}
use Rattle.sd_hall.specs.Served.{IsHelping, IsPlain}

-- the event of an arm is served, and told so
pub served-as : {G : Type 0} (tell : Telling G) (old new : Complex G) (e arm : Event) (r answer : Option Reply) → e ≡ arm
    → r ≡ answer → Serving tell arm answer old new → Serving tell e r old new
served-as {G} tell old new e arm r answer is so served = subst (λ (x : Event). Serving tell x r old new) (sym is)
    (subst (λ (x : Option Reply). Serving tell arm x old new) (sym so) served)

-- a call that doesn't want memory is told of
pub answered-some : {X : Type 0} (answer : X → Reply) (done : Result X Refusal) → done ≢ Err R.Memory → answered answer done ≢ None
answered-some answer (Ok x) ne = λ e. cc
answered-some answer (Err R.Memory) ne = λ e. ne refl
answered-some answer (Err n) ne = λ e. cc

pub same-undo : (t u : TxnId) → event.Undo t ≡ event.Undo u → t ≡ u
same-undo t u e = cc

-- an undo that is told to have failed has
pub failed-so : (done : Result Bool Refusal) → answered step_or_finished done ≡ Some (reply.Refused R.Failed) → done ≡ Err R.Failed
failed-so (Ok false) e = absurd (cc)
failed-so (Ok true) e = absurd (cc)
failed-so (Err R.Failed) e = refl
failed-so (Err n) e = absurd (cc)

pub same-step : (i j : ℕ) → event.RecoverStep i ≡ event.RecoverStep j → i ≡ j
same-step i j e = cc

-- what holds where a step of a recovery wants a page holds where it is told so
needs-so : (P : Place → Type 0) (done : Result Recovery Refusal) → IfErr done (λ n. (place : Place) → n ≡ R.NeedPage place → P place)
    → (place : Place) → answered recovery done ≡ Some (reply.Refused (R.NeedPage place)) → P place
needs-so P (Ok Recovery.Step) holds place e = absurd (cc)
needs-so P (Ok Recovery.Done) holds place e = absurd (cc)
needs-so P (Err (R.NeedPage at)) holds place e = holds place (cc)
needs-so P (Err n) holds place e = absurd (cc)

-- a step of a recovery that is told to want a page has an undo next
pub awaits-so : (c : Parts) (i : ℕ) (done : Result Recovery Refusal)
    → IfErr done (λ n. (place : Place) → n ≡ R.NeedPage place → AwaitsPage c i (seen place))
    → (place : Place) → answered recovery done ≡ Some (reply.Refused (R.NeedPage place)) → AwaitsUndo c i
awaits-so c i done awaits place e =
    let a = needs-so (λ (at : Place). AwaitsPage c i (seen at)) done awaits place e in (a.0, a.1, a.3)

-- a step that is told is one that was made
pub stepped-so : (done : Result Recovery Refusal) → answered recovery done ≡ Some reply.Step → done ≡ Ok Recovery.Step
stepped-so (Ok Recovery.Step) e = refl
stepped-so (Ok Recovery.Done) e = absurd (cc)
stepped-so (Err R.Memory) e = absurd (cc)
stepped-so (Err n) e = absurd (cc)

-- for events but these none is owed
pub none-owed : (w : Core) (e : Event) → ((t : TxnId) → e ≡ event.Commit t → ⊥) → ((t : TxnId) → e ≡ event.Undo t → ⊥)
    → ((i : ℕ) → e ≡ event.Fail i → ⊥) → IsOwed w e → ⊥
none-owed w (event.Commit t) commit undo fail owed = commit t refl
none-owed w (event.Undo t) commit undo fail owed = undo t refl
none-owed w (event.Fail i) commit undo fail owed = fail i refl
none-owed w e commit undo fail owed = owed

-- of the others no more is said than that they are served
pub plain-else : (e : Event) → ((t : TxnId) → e ≡ event.Commit t → ⊥) → ((t : TxnId) → e ≡ event.Undo t → ⊥)
    → ((i : ℕ) → e ≡ event.Fail i → ⊥) → ((i : ℕ) → e ≡ event.RecoverStep i → ⊥) → IsPlain e
plain-else (event.Commit t) commit undo fail step = commit t refl
plain-else (event.Undo t) commit undo fail step = undo t refl
plain-else (event.Fail i) commit undo fail step = fail i refl
plain-else (event.RecoverStep i) commit undo fail step = step i refl
plain-else e commit undo fail step = tt

-- and the last one, where nothing was left
finished-so : (done : Result Recovery Refusal) → answered recovery done ≡ Some reply.Finished → done ≡ Ok Recovery.Done
finished-so (Ok Recovery.Step) e = absurd (cc)
finished-so (Ok Recovery.Done) e = refl
finished-so (Err R.Memory) e = absurd (cc)
finished-so (Err n) e = absurd (cc)

-- ---- recoveries go on

-- a step of a recovery that is told is made
module _ {G : Type 0} (images : G → DeviceImages) (i : ℕ) (done : Result Recovery Refusal) (old new : Complex G)
    (worked : done ≡ Ok Recovery.Step → HasWorked images i old new)
    (ended : done ≡ Ok Recovery.Done → steps_left (images old.rig) (parts old) i ≡ 0)
    (awaits : IfErr done (λ n. (place : Place) → n ≡ R.NeedPage place → AwaitsPage (parts old) i (seen place)))
    (waits : IfErr done (λ n. (place : Place) → n ≡ R.NeedPage place
    → (parts new ≡ parts old) × IsStandingBy (parts old) (seen place))) where
  pub step-worked : (r : Reply) → answered recovery done ≡ Some r
      → IsWorked images (event.RecoverStep i) r (Some (Body.Open old)) (Some (Body.Open new))
  step-worked reply.Step e = worked (stepped-so done e)
  step-worked reply.Finished e = ended (finished-so done e)
  step-worked (reply.Refused (R.NeedPage place)) e =
      let still = needs-so (λ (at : Place). (parts new ≡ parts old) × IsStandingBy (parts old) (seen at)) done waits place e in record {
        same = still.0;
        awaits = needs-so (λ (at : Place). AwaitsPage (parts old) i (seen at)) done awaits place e;
        stands = still.1;
      }
  step-worked r e = tt

-- and so much is left by any other event
pub rest-worked : {G : Type 0} (images : G → DeviceImages) (e : Event) (old new : Complex G) → ((i : ℕ) → e ≡ event.RecoverStep i → ⊥)
    → (IsHelping e → LeavesRest (parts old) (parts new)) → (r : Reply)
    → IsWorked images e r (Some (Body.Open old)) (Some (Body.Open new))
rest-worked images (event.RecoverStep i) old new step rest r = absurd (step i refl)
rest-worked images (event.Ask i p mode) old new step rest r = rest tt
rest-worked images (event.Give i p) old new step rest r = rest tt
rest-worked images (event.Take i p) old new step rest r = rest tt
rest-worked images (event.Evict i p) old new step rest r = rest tt
rest-worked images (event.Flush i p) old new step rest r = rest tt
rest-worked images e old new step rest r = tt

-- none is under way on a complex that is closed
pub closed-worked : {G : Type 0} (images : G → DeviceImages) (e : Event) (r : Reply) (rig : G) (shape : Shape) (new : Option (Body G))
    → IsWorked images e r (Some (Body.Closed rig shape)) new
closed-worked images (event.RecoverStep i) reply.Step rig shape new = tt
closed-worked images (event.RecoverStep i) reply.Finished rig shape new = tt
closed-worked images (event.RecoverStep i) (reply.Refused (R.NeedPage place)) rig shape new = tt
closed-worked images (event.Ask i p mode) r rig shape new = tt
closed-worked images (event.Give i p) r rig shape new = tt
closed-worked images (event.Take i p) r rig shape new = tt
closed-worked images (event.Evict i p) r rig shape new = tt
closed-worked images (event.Flush i p) r rig shape new = tt
closed-worked images e r rig shape new = tt

-- and who closes the complex or opens it, says nothing of them
pub turned-worked : {G : Type 0} (images : G → DeviceImages) (e : Event) (r : Reply) (old new : Option (Body G))
    → (NeitherClosesNorOpens e → ⊥) → IsWorked images e r old new
turned-worked images (event.FailAll pick) r old new over = tt
turned-worked images event.Reopen r old new over = tt
turned-worked images e r old new over = absurd (over tt)
