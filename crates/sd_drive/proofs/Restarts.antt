-- An example: the lines `recover all; join all` of a script with two instances, behind its `reopen` line. Both instances are down; a loser
-- of the first has changed page 0, which its recovery needs. Which entries are told of them: the first instance recovers itself, with a
-- pull of the page, and then the second; the first joins, and the second is refused for want of room in its log.
use Rattle.std.proofs.Common.{inl, ℕ, true, false, List, [], ◌∷◌, refl}
use Rattle.std.specs.Prelude.{None}
use Rattle.sd_base.specs.declared.place.Mode.TheVariants as modes
use Rattle.sd_base.specs.declared.place.Place.TheVariants as places
use Rattle.sd_base.specs.declared.place.Status.TheVariants as S
use Rattle.sd_base.specs.declared.refusal.Refusal.TheVariants as R
use Rattle.sd_model.specs.declared.event.Entry.{Entry}
use Rattle.sd_model.specs.declared.event.Event.{Event}
use Rattle.sd_model.specs.declared.event.Event.TheVariants as event
use Rattle.sd_model.specs.declared.event.Reply.{Reply}
use Rattle.sd_model.specs.declared.event.Reply.TheVariants as reply
use Rattle.sd_script.specs.declared.line.Form.{Form}
use Rattle.sd_script.specs.declared.line.Form.TheVariants as form
use Rattle.sd_script.specs.declared.line.Line.{Line}
use Rattle.sd_drive.specs.Driving.{Cursor, IsTold, Progress, Tells, Work, done, stays}
use Rattle.sd_drive.specs.Pulls.{Pull}
use Rattle.sd_drive.proofs.OpeningExample.{core, helps, needed, none, page, state}

abbrev line : ℕ → Form → Line
line number f = record { number = number; session = 0; form = f }

abbrev l4 : Line
l4 = line 4 form.RecoverAll

abbrev l5 : Line
l5 = line 5 form.JoinAll

abbrev own : Line → Event → Reply → Entry
own l e r = record { session = l.session; line = l.number; event = e; reply = r }

abbrev first : Progress
first = record {
  known = record { insts = 2; pages = 1; names = λ name. None };
  left = Work.Do l4 ∷ Work.Do l5 ∷ [];
  cursor = None;
  pull = Pull.Idle;
  failed = false;
}

abbrev rest : List Work
rest = Work.Do l5 ∷ []

-- the recovery of instance 1 begins
abbrev at1 : Progress
at1 = stays first (Work.Do l4) rest (Cursor.Steps 1 None) Pull.Idle

told1 : Tells (core S.Down S.Down none) (core (S.Recovering 1) S.Down none) first (own l4 (event.RecoverBegin 1 1) reply.Did) at1
told1 = (refl, (refl, refl, refl, refl))

abbrev at2 : Progress
at2 = stays at1 (Work.Do l4) rest (Cursor.Steps 1 None) (Pull.Asks 0)

told2 : Tells (core (S.Recovering 1) S.Down none) (core (S.Recovering 1) S.Down none) at1
    (own l4 (event.RecoverStep 1) (reply.Refused (R.NeedPage places.Free))) at2
told2 = (refl, (refl, refl, refl, inl (refl, refl, (0, needed S.Down, refl))))

abbrev at3 : Progress
at3 = stays at2 (Work.Do l4) rest (Cursor.Steps 1 None) Pull.Idle

told3 : Tells (core (S.Recovering 1) S.Down none) (core (S.Recovering 1) S.Down (page false)) at2 (helps (event.Ask 1 0 modes.Excl) reply.Have) at3
told3 = (refl, (refl, refl, refl, refl))

-- and is done then
told4 : Tells (core (S.Recovering 1) S.Down (page false)) (core (S.Recovering 1) S.Down (page true)) at3 (own l4 (event.RecoverStep 1) reply.Step) at3
told4 = (refl, (refl, refl, refl, refl))

-- the recovery ends, and instance 2 is the next one that is down
abbrev at5 : Progress
at5 = stays at3 (Work.Do l4) rest (Cursor.Recovers 2 2 None) Pull.Idle

told5 : Tells (core (S.Recovering 1) S.Down (page true)) (core S.Restarting S.Down (page true)) at3 (own l4 (event.RecoverStep 1) reply.Finished) at5
told5 = (refl, (refl, refl, refl, refl))

abbrev at6 : Progress
at6 = stays at5 (Work.Do l4) rest (Cursor.Steps 2 None) Pull.Idle

told6 : Tells (core S.Restarting S.Down (page true)) (core S.Restarting (S.Recovering 2) (page true)) at5 (own l4 (event.RecoverBegin 2 2) reply.Did) at6
told6 = (refl, (refl, refl, refl, refl))

abbrev at7 : Progress
at7 = done at6 (Work.Do l4) rest reply.Finished

told7 : Tells (core S.Restarting (S.Recovering 2) (page true)) (core S.Restarting S.Restarting (page true)) at6
    (own l4 (event.RecoverStep 2) reply.Finished) at7
told7 = (refl, (refl, refl, refl, refl))

-- instance 1 joins, and instance 2 is refused
abbrev at8 : Progress
at8 = stays at7 (Work.Do l5) [] (Cursor.Joins 2) Pull.Idle

told8 : Tells (core S.Restarting S.Restarting (page true)) (core S.Up S.Restarting (page true)) at7 (own l5 (event.Join 1) (reply.Joined 2)) at8
told8 = (refl, (refl, refl, refl, refl))

abbrev at9 : Progress
at9 = done at8 (Work.Do l5) [] (reply.Refused R.LogFull)

told9 : Tells (core S.Up S.Restarting (page true)) (core S.Up S.Restarting (page true)) at8 (own l5 (event.Join 2) (reply.Refused R.LogFull)) at9
told9 = (refl, (refl, refl, refl, refl))

-- nothing is left; where all are up, or none is down, the lines would have had no event
all-told : IsTold (state S.Up S.Restarting) at9
all-told = (refl, refl)

unneeded : IsTold (state S.Up S.Up) first
unneeded = (refl, refl)
