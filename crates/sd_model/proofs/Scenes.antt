-- Who waits after an event, and runs of scenes. It serves the goals of `scenes` in laws.rt, and those of programs that
-- note waits.
use Rattle.std.proofs.Common.{◌≡◌, ◌≢◌, ◌↔◌, Bool, true, false, IsTrue, cond, List, [], ◌∷◌, ◌++◌, Option, None, Some, refl, sym, ap, ◌∙◌, subst}
use Rattle.sd_base.specs.declared.ids.TxnId.{TxnId}
use Rattle.sd_base.specs.declared.ids.Rid.{Rid}
use Rattle.sd_base.specs.Waits.{Wait, Waits, with_wait}
use Rattle.sd_model.specs.declared.act.Life.{Life}
use Rattle.sd_model.specs.declared.act.Life.TheVariants.{Gone, Running, Retained, Rolling, Doubt}
use Rattle.sd_model.specs.declared.event.Entry.{Entry}
use Rattle.sd_model.specs.declared.event.Event.{Event}
use Rattle.sd_model.specs.declared.event.Reply.{Reply}
use Rattle.sd_model.specs.Fields.{txn_of}
use Rattle.sd_model.specs.State.{State}
use Rattle.sd_model.specs.Step.{Runs, Step}
use Rattle.sd_model.specs.Run.{Run}
use Rattle.sd_model.specs.Scenes.{Scene, Plays, SceneRun, asked_of, wait_after, is_running, of_running, waits_after}
use Rattle.sd_model.specs.SceneLaws.{RunningWait}
use Rattle.sd_base.proofs.SameIds.{eq-same, ne-same}

pub running-test : (b : Bool) (life : Life) → IsTrue b ↔ (life ≡ Running) → b ≡ is_running life
running-test b Running h = h.1 refl
running-test false life h = refl
running-test true life h = let e = h.0 refl in cc

-- the caller's wait is set or ended, and then those of others than running ones are dropped
pub noted : (m : State) (e : Event) (told : Option Rid) (reply : Reply) (old mid new : Waits) (t : TxnId) (asked left : Option Wait)
    → t ≡ txn_of e → asked ≡ asked_of e told → left ≡ wait_after asked reply
    → ((u : TxnId) → mid u ≡ with_wait t left old u) → ((u : TxnId) → new u ≡ of_running m mid u)
    → (u : TxnId) → new u ≡ waits_after m e told reply old u
noted m e told reply old mid new t asked left caller is stays sets keeps u =
    keeps u ∙ ap (λ (w : Option Wait). cond {A = Option Wait} (is_running (m.part u).life) w None)
    (sets u ∙ (ap (λ (k : TxnId). with_wait k left old u) caller
    ∙ ap (λ (w : Option Wait). with_wait (txn_of e) w old u) (stays ∙ ap (λ (w : Option Wait). wait_after w reply) is)))

-- one that is left a wait runs
waiting-runs : (life : Life) (old : Option Wait) (wait : Wait)
    → cond {A = Option Wait} (is_running life) old None ≡ Some wait → life ≡ Running
waiting-runs Gone old wait e = absurd (cc)
waiting-runs Running old wait e = refl
waiting-runs Retained old wait e = absurd (cc)
waiting-runs (Rolling to) old wait e = absurd (cc)
waiting-runs (Doubt cut) old wait e = absurd (cc)

pub only-running : (m : State) (e : Event) (told : Option Rid) (reply : Reply) (waits : Waits)
    → RunningWait m (waits_after m e told reply waits)
only-running m e told reply waits t wait is =
    waiting-runs (m.part t).life (with_wait (txn_of e) (wait_after (asked_of e told) reply) waits t) wait is

pub caller-waits : (m : State) (e : Event) (told : Option Rid) (reply : Reply) (waits : Waits)
    → Runs m (txn_of e) → waits_after m e told reply waits (txn_of e) ≡ wait_after (asked_of e told) reply
caller-waits m e told reply waits runs =
    let t = txn_of e in
    let left = wait_after (asked_of e told) reply in
    ap (λ (life : Life). cond {A = Option Wait} (is_running life) (with_wait t left waits t) None) runs
    ∙ ap (λ (b : Bool). cond {A = Option Wait} b left (waits t)) (eq-same t t refl)

pub others-wait_on : (m : State) (e : Event) (told : Option Rid) (reply : Reply) (waits : Waits) (t : TxnId)
    → txn_of e ≢ t → Runs m t → waits_after m e told reply waits t ≡ waits t
others-wait_on m e told reply waits t ne runs =
    let left = wait_after (asked_of e told) reply in
    ap (λ (life : Life). cond {A = Option Wait} (is_running life) (with_wait (txn_of e) left waits t) None) runs
    ∙ ap (λ (b : Bool). cond {A = Option Wait} b left (waits t)) (ne-same (txn_of e) t ne)

pub scenes-running : (es : List Entry) (s last : Scene) → SceneRun s es last
    → RunningWait s.state s.waits → RunningWait last.state last.waits
scenes-running [] s last r w = subst (λ (x : Scene). RunningWait x.state x.waits) r w
scenes-running (e ∷ es) s last r w = scenes-running es r.1 last r.3
    (λ t wait is. only-running r.1.state e.event r.0 e.reply s.waits t wait (sym (r.2.waits t) ∙ is))

pub step-plays : (m : State) (e : Event) (reply : Reply) (m' : State) → Step m e reply m' → (told : Option Rid) (waits : Waits)
    → Plays told e reply (record { state = m; waits = waits }) (record { state = m'; waits = waits_after m' e told reply waits })
step-plays m e reply m' s told waits = record { step = s; waits = λ t. refl }

pub scenes-grow : (es : List Entry) (e : Entry) (told : Option Rid) (s mid last : Scene)
    → SceneRun s es mid → Plays told e.event e.reply mid last → SceneRun s (es ++ e ∷ []) last
scenes-grow [] e told s mid last r p = (told, last, subst (λ (x : Scene). Plays told e.event e.reply x last) (sym r) p, refl)
scenes-grow (x ∷ es) e told s mid last r p = (r.0, r.1, r.2, scenes-grow es e told r.1 mid last r.3 p)

pub scenes-run : (es : List Entry) (s last : Scene) → SceneRun s es last → Run s.state es last.state
scenes-run [] s last r = ap (λ (x : Scene). x.state) r
scenes-run (e ∷ es) s last r = (r.1.state, r.2.step, scenes-run es r.1 last r.3)

pub run-scenes : (es : List Entry) (m m' : State) → Run m es m' → (waits : Waits)
    → (left : Waits) × SceneRun (record { state = m; waits = waits }) es (record { state = m'; waits = left })
run-scenes [] m m' r waits = (waits, ap (λ (x : State). record { state = x; waits = waits }) r)
run-scenes (e ∷ es) m m' r waits =
    let next : Waits = waits_after r.0 e.event None e.reply waits in
    let rest = run-scenes es r.0 m' r.2 next in
    (rest.0, (None, record { state = r.0; waits = next }, step-plays m e.event e.reply r.0 r.1 None waits, rest.1))
