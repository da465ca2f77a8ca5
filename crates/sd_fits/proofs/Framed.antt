-- No event changes how many frames pools have: for whoever closes a complex and opens it again.
use Rattle.std.proofs.Common.{◌≡◌, ℕ, Bool, true, false, cond, refl, ap, ◌∙◌}
use Rattle.sd_base.specs.declared.place.Mode.{Mode}
use Rattle.sd_base.specs.declared.refusal.Refusal.{Refusal}
use Rattle.sd_base.specs.declared.refusal.Refusal.TheVariants as R
use Rattle.sd_model.specs.State.{State}
use Rattle.sd_model.specs.declared.event.Event.{Event}
use Rattle.sd_model.specs.declared.event.Event.TheVariants.{Write, Add, Insert, Delete, Undo, Ask, Give, Take, Evict, Flush, CheckBegin, CheckEnd, Fail, FailAll, RecoverStep, Reopen, Show}
use Rattle.sd_model.specs.declared.event.Reply.{Reply}
use Rattle.sd_model.specs.declared.event.Reply.TheVariants as reply
use Rattle.sd_pagelock.specs.Places.{holds_as}
use Rattle.sd_world.specs.Answers.{Answers, DidBefore, Fails, Moves, Rebuilds, RefusalLeaves, Undoes}
use Rattle.sd_world.specs.Pages.{Pages, had, page_placed}
use Rattle.sd_world.specs.Serving.{Core, Turns}

abbrev frames_of : Pages → ℕ
frames_of w = w.frames

had-frames : (b : Bool) (p i : ℕ) (mode : Mode) (w : Pages)
    → (cond {A = Pages} b w (page_placed p (had i mode (w.entry p)) w)).frames ≡ w.frames
had-frames true p i mode w = refl
had-frames false p i mode w = refl

undoes-frames : (m : State) (i : ℕ) (w w' : Pages) → Undoes m i w w' → w'.frames ≡ w.frames
undoes-frames m i w w' (Undoes.none is) = ap frames_of is
undoes-frames m i w w' (Undoes.one p by may is) = ap frames_of is

rebuilds-frames : (m : State) (i : ℕ) (w w' : Pages) → Rebuilds m i w w' → w'.frames ≡ w.frames
rebuilds-frames m i w w' (Rebuilds.undoes u) = undoes-frames m i w w' u
rebuilds-frames m i w w' (Rebuilds.frees p low is) = ap frames_of is

answers-frames : (m : State) (w : Pages) (e : Event) (r : Reply) (m' : State) (w' : Pages) → Answers m w e r m' w' → w'.frames ≡ w.frames
answers-frames m w (Write t r v) reply.Did m' w' h = ap frames_of h.2
answers-frames m w (Add t r by) reply.Did m' w' h = ap frames_of h.2
answers-frames m w (Delete t r) reply.Did m' w' h = ap frames_of h.2
answers-frames m w (Insert t p v c) (reply.At r) m' w' h = ap frames_of h.2
answers-frames m w (Undo t) reply.Step m' w' h = ap frames_of h.2
answers-frames m w (Ask i p mode) reply.Have m' w' h = ap frames_of h.1 ∙ had-frames (holds_as mode (w.entry p) i) p i mode w
answers-frames m w (Ask i p mode) (reply.Asked who) m' w' h = ap frames_of h.2
answers-frames m w (Give i p) (reply.Gave to) m' w' h = ap frames_of h.2
answers-frames m w (Take i p) reply.Did m' w' h = ap frames_of h
answers-frames m w (Evict i p) reply.Did m' w' h = ap frames_of h
answers-frames m w (Flush i p) reply.Did m' w' h = ap frames_of h
answers-frames m w (CheckBegin i) reply.Did m' w' h = ap frames_of h
answers-frames m w (CheckEnd i) reply.Did m' w' h = ap frames_of h
answers-frames m w (Fail i) reply.Did m' w' h = ap frames_of h.1
answers-frames m w (FailAll pick) reply.Did m' w' h = ap frames_of h.1
answers-frames m w (RecoverStep i) reply.Step m' w' h = ap frames_of h.3 ∙ rebuilds-frames m i w h.0 h.2
answers-frames m w (RecoverStep i) reply.Finished m' w' h = ap frames_of h.1.1
answers-frames m w Reopen reply.Did m' w' h = ap frames_of h.3
answers-frames m w (Show p) (reply.Shown place lsn) m' w' h = ap frames_of h.2
answers-frames m w e r m' w' h = ap frames_of h

before-frames : (m : State) (e : Event) (w w' : Pages) → DidBefore m e w w' → w'.frames ≡ w.frames
before-frames m (RecoverStep i) w w' h = undoes-frames m i w w' h
before-frames m e w w' h = ap frames_of h

fails-frames : (m : State) (w : Pages) (e : Event) (m' : State) (w' : Pages) → Fails m w e m' w' → w'.frames ≡ w.frames
fails-frames m w e m' w' (Fails.stays state is) = ap frames_of is
fails-frames m w e m' w' (Fails.falls j between number may state before is) = ap frames_of is ∙ before-frames m e w between before

leaves-frames : (m : State) (w : Pages) (e : Event) (n : Refusal) (m' : State) (w' : Pages) → RefusalLeaves m w e n m' w' → w'.frames ≡ w.frames
leaves-frames m w e R.Failed m' w' h = fails-frames m w e m' w' h
leaves-frames m w e R.CutCommit m' w' h = ap frames_of h.1
leaves-frames m w e n m' w' h = ap frames_of h

moves-frames : (m : State) (w : Pages) (e : Event) (r : Reply) (m' : State) (w' : Pages) → Moves m w e r m' w' → w'.frames ≡ w.frames
moves-frames m w e (reply.Refused n) m' w' h = leaves-frames m w e n m' w' h.leaves
moves-frames m w e r m' w' h = answers-frames m w e r m' w' h.1

pub turns-frames : (old new : Core) (e : Event) (r : Reply) → Turns old e r new → new.pages.frames ≡ old.pages.frames
turns-frames old new e r t = moves-frames old.scene.state old.pages e r new.scene.state new.pages t.moves
