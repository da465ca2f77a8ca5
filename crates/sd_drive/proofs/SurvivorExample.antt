-- An example: the lines `recover 1 by 2 1; join 1; recover 1 by 2` of a script with two instances, of which the first is down. A loser of
-- it has changed page 0, which the second needs for the undo. Which entries are told of them: the second begins the recovery, and pulls the
-- page; one step is as much as the line wants, so the join behind it is refused, and so is the last line.
use Rattle.std.proofs.Common.{inl, ℕ, Bool, true, false, List, [], ◌∷◌, refl}
use Rattle.std.specs.Prelude.{None, Some}
use Rattle.sd_base.specs.declared.place.Mode.TheVariants as modes
use Rattle.sd_base.specs.declared.place.Place.TheVariants as places
use Rattle.sd_base.specs.declared.place.Status.TheVariants as S
use Rattle.sd_base.specs.declared.refusal.Refusal.TheVariants as R
use Rattle.sd_model.specs.declared.event.Entry.{Entry}
use Rattle.sd_model.specs.declared.event.Event.{Event}
use Rattle.sd_model.specs.declared.event.Event.TheVariants as event
use Rattle.sd_model.specs.declared.event.Reply.{Reply}
use Rattle.sd_model.specs.declared.event.Reply.TheVariants as reply
use Rattle.sd_pagelock.specs.Places.{PageEntry}
use Rattle.sd_script.specs.declared.line.Form.{Form}
use Rattle.sd_script.specs.declared.line.Form.TheVariants as form
use Rattle.sd_script.specs.declared.line.Line.{Line}
use Rattle.sd_world.specs.Pages.{Pages, page_placed}
use Rattle.sd_world.specs.PageCauses.{IsNeededPage}
use Rattle.sd_world.specs.Serving.{Core}
use Rattle.sd_drive.specs.Driving.{Cursor, IsTold, Progress, Tells, Work, done, stays}
use Rattle.sd_drive.specs.Pulls.{Pull}
use Rattle.sd_drive.proofs.OpeningExample.{core, helps, none, state, t}

abbrev line : ℕ → Form → Line
line number f = record { number = number; session = 0; form = f }

abbrev l7 : Line
l7 = line 7 (form.Recover 1 2 (Some 1))

abbrev l8 : Line
l8 = line 8 (form.Join 1)

abbrev l9 : Line
l9 = line 9 (form.Recover 1 2 None)

abbrev own : Line → Event → Reply → Entry
own l e r = record { session = l.session; line = l.number; event = e; reply = r }

-- page 0 is there alone for the second instance, or changed by it
abbrev page : Bool → Pages
page dirty = page_placed 0 (PageEntry.Excl 2 dirty) none

abbrev down : Core
down = core S.Down S.Up none

abbrev begun : Pages → Core
begun w = core (S.Recovering 2) S.Up w

abbrev first : Progress
first = record {
  known = record { insts = 2; pages = 1; names = λ name. None };
  left = Work.Do l7 ∷ Work.Do l8 ∷ Work.Do l9 ∷ [];
  cursor = None;
  pull = Pull.Idle;
  failed = false;
}

abbrev rest : List Work
rest = Work.Do l8 ∷ Work.Do l9 ∷ []

-- the second instance begins the recovery, of which one step is to be done
abbrev at1 : Progress
at1 = stays first (Work.Do l7) rest (Cursor.Steps 1 (Some 1)) Pull.Idle

told1 : Tells down (begun none) first (own l7 (event.RecoverBegin 1 2) reply.Did) at1
told1 = (refl, (refl, refl, refl, refl))

-- the first one can't begin it
not-itself : (then : Progress) → Tells down (core (S.Recovering 1) S.Up none) first (own l7 (event.RecoverBegin 1 1) reply.Did) then → ⊥
not-itself then tells = let is = tells.1.2 in absurd (cc)

-- the step needs page 0
needed : IsNeededPage (state (S.Recovering 2) S.Up) 1 0
needed = (t, refl, inl refl, (0, refl))

abbrev at2 : Progress
at2 = stays at1 (Work.Do l7) rest (Cursor.Steps 1 (Some 1)) (Pull.Asks 0)

told2 : Tells (begun none) (begun none) at1 (own l7 (event.RecoverStep 1) (reply.Refused (R.NeedPage places.Free))) at2
told2 = (refl, (refl, refl, refl, inl (refl, refl, (0, needed, refl))))

-- which the second one asks for, and the step is still to be done
abbrev at3 : Progress
at3 = stays at2 (Work.Do l7) rest (Cursor.Steps 1 (Some 1)) Pull.Idle

told3 : Tells (begun none) (begun (page false)) at2 (helps (event.Ask 2 0 modes.Excl) reply.Have) at3
told3 = (refl, (refl, refl, refl, refl))

not-for-it : (then : Progress) → Tells (begun none) (begun (page false)) at2 (helps (event.Ask 1 0 modes.Excl) reply.Have) then → ⊥
not-for-it then tells = let is = tells.1.2 in absurd (cc)

-- it was the last one
abbrev at4 : Progress
at4 = done at3 (Work.Do l7) rest reply.Step

told4 : Tells (begun (page false)) (begun (page true)) at3 (own l7 (event.RecoverStep 1) reply.Step) at4
told4 = (refl, (refl, refl, refl, refl))

-- the first instance can't join, nor does anybody begin its recovery anew
abbrev at5 : Progress
at5 = done at4 (Work.Do l8) (Work.Do l9 ∷ []) (reply.Refused (R.NotRecovered (S.Recovering 2)))

told5 : Tells (begun (page true)) (begun (page true)) at4 (own l8 (event.Join 1) (reply.Refused (R.NotRecovered (S.Recovering 2)))) at5
told5 = (refl, (refl, refl, refl, refl))

abbrev at6 : Progress
at6 = done at5 (Work.Do l9) [] (reply.Refused (R.NotDown (S.Recovering 2)))

told6 : Tells (begun (page true)) (begun (page true)) at5 (own l9 (event.RecoverBegin 1 2) (reply.Refused (R.NotDown (S.Recovering 2)))) at6
told6 = (refl, (refl, refl, refl, refl))

all-told : IsTold (state (S.Recovering 2) S.Up) at6
all-told = (refl, refl)

-- of two steps one would be left
two-left : Tells (begun (page false)) (begun (page true)) (record at3 { cursor = Some (Cursor.Steps 1 (Some 2)) })
    (own l7 (event.RecoverStep 1) reply.Step) (stays at3 (Work.Do l7) rest (Cursor.Steps 1 (Some 1)) Pull.Idle)
two-left = (refl, (refl, refl, refl, refl))

-- of a line that names no number the recovery goes on to its end
none-bounds : Tells (begun (page false)) (begun (page true)) (record at5 { cursor = Some (Cursor.Steps 1 None) })
    (own l9 (event.RecoverStep 1) reply.Step) (stays at5 (Work.Do l9) [] (Cursor.Steps 1 None) Pull.Idle)
none-bounds = (refl, (refl, refl, refl, refl))

-- and the line is done there, though the second instance were down
ends : Tells (core (S.Recovering 2) S.Down (page true)) (core S.Clean S.Down (page true)) (record at5 { cursor = Some (Cursor.Steps 1 None) })
    (own l9 (event.RecoverStep 1) reply.Finished) (done at5 (Work.Do l9) [] reply.Finished)
ends = (refl, (refl, refl, refl, refl))
