use Rattle.std.proofs.Common.{Bool, sym, ◌∙◌, subst}
use Rattle.std.proofs.lemmas.Result.{err_from_is_err_and}
use Rattle.sd_world.specs.Serving.{Telling, telling}
use Rattle.sd_hall.specs.declared.hall.Hall.{Hall}
use Rattle.sd_drive.specs.Driven.{MakesRoom, PullsOn, next_if}
use Rattle.sd_drive.specs.Pulls.{Pull}
use Rattle.sd_drive.specs.Resting.{RestsOpen}
use Rattle.sd_drive.proofs.Asking.{Cleared, cleared-clean, cleared-written, room-failed}
use Rattle.sd_drive.proofs.Bodies.{fits-now}
use Rattle.sd_drive.proofs.Helps.{if-ok-then, on-err-then, on-ok-then}
use Rattle.sd_drive.proofs.Pulled.{pulled-on, stays-some, then-stays}
use Rattle.sd_drive.proofs.Rounds.{rests-on, rests-self}
use Rattle.sd_drive.proofs.pull.make_room.Goals as goal
use Rattle.sd_drive.proofs.pull.make_room.Goals.{else-leaver-via-then-leaver+in_ok-done+else-not-branch, else-leaver-via-else-leaver}

pub leaving-leaver-requires : goal.leaving-leaver-requires
leaving-leaver-requires g c =
    let tell : Telling _ = telling g.G.Rig.seen g.G.Rig.leaves g.G.Rig.moment g.G.Rig.since g.G.Rig.faults in
    let at = c.requires.at in
    record { full = (at.2.world.core, fits-now tell at.2.start c.args.hall.now at.2.world at.2.there, at.3) }

pub done-requires-clause-helps : goal.done-requires-clause-helps
done-requires-clause-helps g c = tt

pub done-requires-2-clause-helps : goal.done-requires-2-clause-helps
done-requires-2-clause-helps g c = tt

pub done-requires-clause-served : goal.done-requires-clause-served
done-requires-clause-served g c = tt

pub done-requires-clause-at : goal.done-requires-clause-at
done-requires-clause-at g c = let at = c.requires.at in (at.2.start, at.2.world, at.2.there)

pub returns-in_err-done-clause-memory : goal.returns-in_err-done-clause-memory
returns-in_err-done-clause-memory g c =
    let tell : Telling _ = telling g.G.Rig.seen g.G.Rig.leaves g.G.Rig.moment g.G.Rig.since g.G.Rig.faults in
    let p = err_from_is_err_and c.from_residual.result c.from_residual.ensures.1 in
    rw p.1 (λ for q. stays-some tell for c.args.hall.now c.done.new.hall (Pull.Room q c.args.inst) c.in_err-done.ensures.memory)

pub returns-then-not-branch-clause-room : goal.returns-then-not-branch-clause-room
returns-then-not-branch-clause-room g c =
    let tell : Telling _ = telling g.G.Rig.seen g.G.Rig.leaves g.G.Rig.moment g.G.Rig.since g.G.Rig.faults in
    let leaver = c.leaving-leaver in
    let h = c.in_ok-done.ensures.helped in
    λ for q. room-failed tell c.args.hall.now c.args.inst leaver.result.page leaver.ensures.range leaver.ensures.held leaver.ensures.still
    c.done.new.hall h.0 (sym leaver.ensures.duty ∙ c.if-leaver.true) h.2 for q (h.1 ∙ c.if-not-branch.true)

pub done-requires-2-clause-served : goal.done-requires-2-clause-served
done-requires-2-clause-served g c = tt

pub done-requires-2-clause-at : goal.done-requires-2-clause-at
done-requires-2-clause-at g c =
    let tell : Telling _ = telling g.G.Rig.seen g.G.Rig.leaves g.G.Rig.moment g.G.Rig.since g.G.Rig.faults in
    let old = c.args.hall.now in
    let mid = c.else-leaver.hall in
    let i = c.args.inst in
    let leaver = c.leaving-leaver in
    let v = leaver.result.page in
    let cleared : Cleared tell old mid i v = elim c.else-leaver.branch [
      | else-leaver-via-then-leaver+in_ok-done+else-not-branch w ↦
          let h = w.in_ok-done.ensures.helped in
          subst (λ (hall : Hall _). Cleared tell old hall i v) (sym w.hall-is)
          (cleared-written tell old i v leaver.ensures.range leaver.ensures.held leaver.ensures.still w.done.new.hall h.0
          (sym leaver.ensures.duty ∙ w.if-leaver.true) h.2 (h.1 ∙ w.if-not-branch.false))
      | else-leaver-via-else-leaver w ↦
          subst (λ (hall : Hall _). Cleared tell old hall i v) (sym w.hall-is)
          (cleared-clean tell old i v leaver.ensures.range leaver.ensures.held leaver.ensures.still (sym leaver.ensures.duty ∙ w.if-leaver.false))
    ] in
    let at = c.requires.at in
    let k = pulled-on tell at.0 old mid (Pull.Room at.1 i) _ _ (cleared.so_far at.0 at.1) at.2 in
    (k.start, k.world, k.there)

pub returns-clause-room : goal.returns-clause-room
returns-clause-room g c =
    let tell : Telling _ = telling g.G.Rig.seen g.G.Rig.leaves g.G.Rig.moment g.G.Rig.since g.G.Rig.faults in
    let old = c.args.hall.now in
    let mid = c.else-leaver.hall in
    let i = c.args.inst in
    let leaver = c.leaving-leaver in
    let v = leaver.result.page in
    let cleared : Cleared tell old mid i v = elim c.else-leaver.branch [
      | else-leaver-via-then-leaver+in_ok-done+else-not-branch w ↦
          let h = w.in_ok-done.ensures.helped in
          subst (λ (hall : Hall _). Cleared tell old hall i v) (sym w.hall-is)
          (cleared-written tell old i v leaver.ensures.range leaver.ensures.held leaver.ensures.still w.done.new.hall h.0
          (sym leaver.ensures.duty ∙ w.if-leaver.true) h.2 (h.1 ∙ w.if-not-branch.false))
      | else-leaver-via-else-leaver w ↦
          subst (λ (hall : Hall _). Cleared tell old hall i v) (sym w.hall-is)
          (cleared-clean tell old i v leaver.ensures.range leaver.ensures.held leaver.ensures.still (sym leaver.ensures.duty ∙ w.if-leaver.false))
    ] in
    let new = c.done-2.new.hall in
    if-ok-then c.done-2.result _ _ (λ done k for q.
    subst (λ (b : Bool). PullsOn tell old new for (Pull.Room q i) (next_if b q) (MakesRoom b i)) k.1 (cleared.goes new k.0 k.2 for q))
    c.done-2.ensures.helped

pub returns-clause-memory : goal.returns-clause-memory
returns-clause-memory g c =
    let tell : Telling _ = telling g.G.Rig.seen g.G.Rig.leaves g.G.Rig.moment g.G.Rig.since g.G.Rig.faults in
    let old = c.args.hall.now in
    let mid = c.else-leaver.hall in
    let i = c.args.inst in
    let leaver = c.leaving-leaver in
    let v = leaver.result.page in
    let cleared : Cleared tell old mid i v = elim c.else-leaver.branch [
      | else-leaver-via-then-leaver+in_ok-done+else-not-branch w ↦
          let h = w.in_ok-done.ensures.helped in
          subst (λ (hall : Hall _). Cleared tell old hall i v) (sym w.hall-is)
          (cleared-written tell old i v leaver.ensures.range leaver.ensures.held leaver.ensures.still w.done.new.hall h.0
          (sym leaver.ensures.duty ∙ w.if-leaver.true) h.2 (h.1 ∙ w.if-not-branch.false))
      | else-leaver-via-else-leaver w ↦
          subst (λ (hall : Hall _). Cleared tell old hall i v) (sym w.hall-is)
          (cleared-clean tell old i v leaver.ensures.range leaver.ensures.held leaver.ensures.still (sym leaver.ensures.duty ∙ w.if-leaver.false))
    ] in
    let new = c.done-2.new.hall in
    on-err-then c.done-2.result _ _ (λ stays for q. then-stays tell for old mid new (Pull.Room q i) _ _ (cleared.so_far for q) stays) c.done-2.ensures.memory

pub returns-clause-rests : goal.returns-clause-rests
returns-clause-rests g c =
    let old = c.args.hall.now in
    let mid = c.else-leaver.hall in
    let first : RestsOpen old.body mid.body = elim c.else-leaver.branch [
      | else-leaver-via-then-leaver+in_ok-done+else-not-branch w ↦
          subst (λ (hall : Hall _). RestsOpen old.body hall.body) (sym w.hall-is) w.in_ok-done.ensures.rests
      | else-leaver-via-else-leaver w ↦ subst (λ (hall : Hall _). RestsOpen old.body hall.body) (sym w.hall-is) (rests-self old.body)
    ] in
    on-ok-then c.done-2.result _ _ (λ rest. rests-on old.body mid.body c.done-2.new.hall.body first rest) c.done-2.ensures.rests
