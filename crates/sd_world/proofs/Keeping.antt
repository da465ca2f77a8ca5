-- Each event keeps pages well formed, reply by reply. It serves the goals of `forms` in laws.rt.
use Rattle.std.proofs.Common.{◌≡◌, ℕ, Bool, true, false, refl, sym, subst}
use Rattle.std.specs.Prelude.{◌||◌}
use Rattle.sd_base.specs.declared.place.Mode.{Mode}
use Rattle.sd_base.specs.declared.refusal.Refusal.{Refusal}
use Rattle.sd_base.specs.declared.refusal.Refusal.TheVariants as R
use Rattle.sd_model.specs.declared.cause.Cause.{Cause}
use Rattle.sd_model.specs.declared.event.Event.{Event}
use Rattle.sd_model.specs.declared.event.Event.TheVariants.{Write, Add, Insert, Delete, Undo, Ask, Give, Take, Evict, Flush, CheckBegin, CheckEnd, Fail, FailAll, RecoverStep, Reopen, Show}
use Rattle.sd_model.specs.declared.event.Reply.{Reply}
use Rattle.sd_model.specs.declared.event.Reply.TheVariants as reply
use Rattle.sd_model.specs.State.{State}
use Rattle.sd_model.specs.Causes.{order}
use Rattle.sd_model.specs.Fields.{txn_of}
use Rattle.sd_pagelock.specs.Places.{PageEntry, holds_as, is_free, is_lost, receives}
use Rattle.sd_pagelock.specs.Rows.{dirtied, fallen, may_raise, taken, written}
use Rattle.sd_pagelock.specs.Moves.{IsMove}
use Rattle.sd_pagelock.proofs.Forms.{formed-fallen, formed-move}
use Rattle.sd_pagelock.proofs.Uses.{receiver-passes}
use Rattle.sd_world.specs.Pages.{Pages, AreFormed, asked, emptied, fell, given, numbered, page_placed, renumbered}
use Rattle.sd_world.specs.PageCauses.{NoneSays, undo_page}
use Rattle.sd_world.specs.Answers.{Answers, DidBefore, Fails, Gives, Moves, Queues, Rebuilds, RefusalLeaves, Steps, Undoes, changes, takes_back}
use Rattle.sd_world.proofs.Causes.{none-says}
use Rattle.sd_world.proofs.Forms.{asked-formed, emptied-formed, fell-formed, given-formed, had-placed, oldest-lacks, placed-formed, written-placed}

isnt : (b : Bool) → (b ≡ true → ⊥) → b ≡ false
isnt true h = absurd (h refl)
isnt false h = refl

is_so : (b : Bool) → (b ≡ false → ⊥) → b ≡ true
is_so true h = refl
is_so false h = absurd (h refl)

first_no : (a b : Bool) → (a || b) ≡ false → a ≡ false
first_no true b h = absurd (cc)
first_no false b h = refl

same : (w w' : Pages) → w' ≡ w → AreFormed w → AreFormed w'
same w w' is f = subst AreFormed (sym is) f

changes-form : (i p : ℕ) (w w' : Pages) → changes i p w w' → AreFormed w → AreFormed w'
changes-form i p w w' h f = same (numbered p h.0 (page_placed p (dirtied i) w)) w' h.2 (placed-formed p (dirtied i) w f tt)

takes_back-form : (i p : ℕ) (w w' : Pages) → takes_back i p w w' → AreFormed w → AreFormed w'
takes_back-form i p w w' h f = same (numbered p h.0 (page_placed p (dirtied i) w)) w' h.2 (placed-formed p (dirtied i) w f tt)

undoes-form : (m : State) (i : ℕ) (w w' : Pages) → Undoes m i w w' → AreFormed w → AreFormed w'
undoes-form m i w w' (Undoes.none is) f = same w w' is f
undoes-form m i w w' (Undoes.one p by may is) f = same (page_placed p (dirtied by) w) w' is (placed-formed p (dirtied by) w f tt)

rebuilds-form : (m : State) (i : ℕ) (w w' : Pages) → Rebuilds m i w w' → AreFormed w → AreFormed w'
rebuilds-form m i w w' (Rebuilds.undoes h) f = undoes-form m i w w' h f
rebuilds-form m i w w' (Rebuilds.frees p lowest is) f = same (page_placed p PageEntry.Free w) w' is (placed-formed p PageEntry.Free w f tt)

steps-form : (m : State) (i : ℕ) (w w' : Pages) → Steps m i w w' → AreFormed w → AreFormed w'
steps-form m i w w' h f = same (renumbered h.1 h.0) w' h.3 (rebuilds-form m i w h.0 h.2 f)

gives-form : (i p to : ℕ) (w w' : Pages) → Gives i p to w w' → AreFormed w → AreFormed w'
gives-form i p to w w' h f = same (page_placed p (given i (to, h.0) (w.entry p)) w) w' h.2
    (placed-formed p (given i (to, h.0) (w.entry p)) w f (given-formed i to h.0 (w.entry p) (oldest-lacks w p i to h.0 f h.1) (f p).formed))

queues-form : (i p : ℕ) (mode : Mode) (of : ℕ) (w w' : Pages) → is_lost (w.entry p) ≡ false → Queues i p mode of w w' → AreFormed w → AreFormed w'
queues-form i p mode of w w' found h f = same (asked p i mode w) w' h.2
    (asked-formed p i mode w f found (first_no (holds_as mode (w.entry p) i) (is_free (w.entry p) || may_raise i (w.entry p)) h.0))

takes-form : (i p : ℕ) (w : Pages) → receives (w.entry p) i ≡ true → AreFormed w → AreFormed (page_placed p (taken (w.entry p)) w)
takes-form i p w h f = placed-formed p (taken (w.entry p)) w f
    (formed-move (w.entry p) (taken (w.entry p)) (IsMove.take (receiver-passes i (w.entry p) h) refl) (f p).formed)

answers-form : (m : State) (w : Pages) (e : Event) (r : Reply) (m' : State) (w' : Pages) → NoneSays m w e (order e) → Answers m w e r m' w' → AreFormed w → AreFormed w'
answers-form m w (Write t r v) reply.Did m' w' n h f = changes-form t.inst r.page w w' h f
answers-form m w (Add t r by) reply.Did m' w' n h f = changes-form t.inst r.page w w' h f
answers-form m w (Delete t r) reply.Did m' w' n h f = changes-form t.inst r.page w w' h f
answers-form m w (Insert t p v c) (reply.At r) m' w' n h f = changes-form t.inst p w w' h f
answers-form m w (Undo t) reply.Step m' w' n h f = takes_back-form t.inst (undo_page m t) w w' h f
answers-form m w (Ask i p mode) reply.Have m' w' n h f = same _ w' h.1 (had-placed i p mode w h.0 f)
answers-form m w (Ask i p mode) (reply.Asked of) m' w' n h f = queues-form i p mode of w w' (isnt (is_lost (w.entry p)) (none-says m w (Ask i p mode) (order (Ask i p mode)) Cause.Lost n refl refl)) h f
answers-form m w (Give i p) (reply.Gave to) m' w' n h f = gives-form i p to w w' h f
answers-form m w (Take i p) reply.Did m' w' n h f = same (page_placed p (taken (w.entry p)) w) w' h (takes-form i p w (is_so (receives (w.entry p) i) (none-says m w (Take i p) (order (Take i p)) Cause.Away n refl refl)) f)
answers-form m w (Evict i p) reply.Did m' w' n h f = same (page_placed p (fallen i (w.entry p)) w) w' h (placed-formed p (fallen i (w.entry p)) w f (formed-fallen i (w.entry p) (f p).formed))
answers-form m w (Flush i p) reply.Did m' w' n h f = same (page_placed p (written (w.entry p)) w) w' h (written-placed p w f)
answers-form m w (CheckBegin i) reply.Did m' w' n h f = same _ w' h f
answers-form m w (CheckEnd i) reply.Did m' w' n h f = same _ w' h f
answers-form m w (Fail i) reply.Did m' w' n h f = same (fell i h.0 w) w' h.1 (fell-formed i h.0 w f)
answers-form m w (FailAll pick) reply.Did m' w' n h f = same (emptied (λ p. false) h.0 w) w' h.1 (emptied-formed (λ p. false) h.0 w)
answers-form m w (RecoverStep i) reply.Step m' w' n h f = steps-form m i w w' h f
answers-form m w (RecoverStep i) reply.Finished m' w' n h f = same (renumbered h.1.0 w) w' h.1.1 f
answers-form m w Reopen reply.Did m' w' n h f = same (emptied h.0 h.1 w) w' h.3 (emptied-formed h.0 h.1 w)
answers-form m w (Show p) (reply.Shown place lsn) m' w' n h f = same w w' h.2 f
answers-form m w e r m' w' n h f = same w w' h f

before-form : (m : State) (e : Event) (w w' : Pages) → DidBefore m e w w' → AreFormed w → AreFormed w'
before-form m (RecoverStep i) w w' h f = undoes-form m i w w' h f
before-form m e w w' h f = same w w' h f

fails-form : (m : State) (w : Pages) (e : Event) (m' : State) (w' : Pages) → Fails m w e m' w' → AreFormed w → AreFormed w'
fails-form m w e m' w' (Fails.stays state is) f = same w w' is f
fails-form m w e m' w' (Fails.falls j between number may state before is) f = same (fell j number between) w' is (fell-formed j number between (before-form m e w between before f))

leaves-form : (m : State) (w : Pages) (e : Event) (n : Refusal) (m' : State) (w' : Pages) → RefusalLeaves m w e n m' w' → AreFormed w → AreFormed w'
leaves-form m w e R.Failed m' w' h f = fails-form m w e m' w' h f
leaves-form m w e R.CutCommit m' w' h f = same (fell (txn_of e).inst h.0 w) w' h.1 (fell-formed (txn_of e).inst h.0 w f)
leaves-form m w e n m' w' h f = same w w' h f

pub moves-form : (m : State) (w : Pages) (e : Event) (r : Reply) (m' : State) (w' : Pages) → Moves m w e r m' w' → AreFormed w → AreFormed w'
moves-form m w e (reply.Refused n) m' w' h f = leaves-form m w e n m' w' h.leaves f
moves-form m w e r m' w' h f = answers-form m w e r m' w' h.0 h.1 f
