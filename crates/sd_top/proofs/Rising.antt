-- The lines of entries that are due don't fall, but for those of the opening and of helping events, which have line 0. It serves the goals
-- of replaying.rt.
use Rattle.std.proofs.Common.{◌≡◌, ◌⊎◌, ℕ, ◌≤◌, Bool, true, false, cond, List, [], ◌∷◌, max, inl, inr, ⊎_elim, sym, subst, arith}
use Rattle.std.specs.Prelude.{Option, None, Some, is_some}
use Rattle.sd_base.specs.declared.refusal.Refusal.TheVariants as R
use Rattle.sd_model.specs.declared.event.Entry.{Entry}
use Rattle.sd_model.specs.declared.event.Event.{Event}
use Rattle.sd_model.specs.declared.event.Reply.{Reply}
use Rattle.sd_model.specs.declared.event.Reply.TheVariants as reply
use Rattle.sd_model.specs.State.{State}
use Rattle.sd_script.specs.declared.line.Line.{Line}
use Rattle.sd_world.specs.Serving.{Core}
use Rattle.sd_report.specs.Report.{AreAbove, AreFrom}
use Rattle.sd_drive.specs.Driving.{Cursor, Drives, Helps, Known, Own, Progress, TellsAt, TellsFirst, TellsWork, Work, World, ahead, cursor_in, due_works, event_at, followed, goes_on, left_from, marked, number_of, puller_of, start_of, stays, untold, works_of}
use Rattle.sd_drive.specs.Pulls.{Puller, helped, is_pulling}

-- the numbers of the works don't fall, and none is below this one
abbrev WorksFrom : ℕ → List Work → Type 0
WorksFrom low [] = Unit {0}
WorksFrom low (work ∷ works) = (low ≤ number_of work) × WorksFrom (number_of work) works

from-lower : (low high : ℕ) (works : List Work) → low ≤ high → WorksFrom high works → WorksFrom low works
from-lower low high [] le w = tt
from-lower low high (work ∷ works) le w = (omega (arith, le, w.0), w.1)

ahead-from : (m : State) (known : Known) (low : ℕ) (works : List Work) → WorksFrom low works → WorksFrom low (ahead m known works)
ahead-from m known low [] w = tt
ahead-from m known low (work ∷ works) w =
    go (is_some (start_of m known work)) (ahead-from m known low works (from-lower low (number_of work) works w.0 w.1))
  where
    go : (b : Bool) → WorksFrom low (ahead m known works) → WorksFrom low (cond {A = List Work} b (work ∷ works) (ahead m known works))
    go true rest = w
    go false rest = rest

-- what an entry that was due leaves to be told
record Rises (low : ℕ) (entry : Entry) (then : Progress) : Type 0 where
  line : (entry.line ≡ 0) ⊎ (low ≤ entry.line)
  left : WorksFrom (max low entry.line) then.left

more-of : (low : ℕ) (work : Work) (rest : List Work) (line : ℕ) → (line ≡ 0) ⊎ (line ≡ number_of work) → WorksFrom low (work ∷ rest)
    → WorksFrom (max low line) (work ∷ rest)
more-of low work rest line is w = (at-most is, w.1)
  where
    at-most : (line ≡ 0) ⊎ (line ≡ number_of work) → max low line ≤ number_of work
    at-most h = ⊎_elim (λ e. omega (arith, e, w.0)) (λ e. omega (arith, e, w.0)) h

rest-of : (low : ℕ) (work : Work) (rest : List Work) (line : ℕ) → line ≡ number_of work → WorksFrom low (work ∷ rest) → WorksFrom (max low line) rest
rest-of low work rest line is w = from-lower (max low line) (number_of work) rest (omega (arith, is, w.0)) w.1

followed-from : (low : ℕ) (at : Progress) (work : Work) (rest : List Work) (r : Reply) (next : Option Cursor) (line : ℕ) → line ≡ number_of work
    → WorksFrom low (work ∷ rest) → WorksFrom (max low line) (followed at work rest r next).left
followed-from low at work rest r None line is w = rest-of low work rest line is w
followed-from low at work rest r (Some c) line is w = more-of low work rest line (inr is) w

-- a fault that is marked changes nothing of what is left
marked-from : (low : ℕ) (work : Work) (r : Reply) (then then' : Progress) → then' ≡ marked work r then → WorksFrom low then.left → WorksFrom low then'.left
marked-from low Work.Opening r then then' is w = subst (λ (p : Progress). WorksFrom low p.left) (sym is) w
marked-from low (Work.Do line) r then then' is w = subst (λ (p : Progress). WorksFrom low p.left) (sym is) w

own-from : (low : ℕ) (m : State) (w' : Core) (at : Progress) (work : Work) (rest : List Work) (c : Cursor) (e : Event) (r : Reply) (then : Progress) (line : ℕ)
    → line ≡ number_of work → WorksFrom low (work ∷ rest) → Own m w' at work rest c e r then → WorksFrom (max low line) then.left
own-from low m w' at work rest c e (reply.Refused (R.NeedPage place)) then line is w o = ⊎_elim
    (λ h. subst (λ (p : Progress). WorksFrom (max low line) p.left) (sym h.2.2) (more-of low work rest line (inr is) w))
    (λ h.
    let r = reply.Refused (R.NeedPage place) in
    marked-from (max low line) work r (followed at work rest r (goes_on w' at.known work c r)) then h.1
    (followed-from low at work rest r (goes_on w' at.known work c r) line is w))
    o
own-from low m w' at work rest c e r then line is w o =
    marked-from (max low line) work r (followed at work rest r (goes_on w' at.known work c r)) then o
    (followed-from low at work rest r (goes_on w' at.known work c r) line is w)

helps-from : (low : ℕ) (w : Core) (at : Progress) (work : Work) (rest : List Work) (c : Cursor) (for : Option Puller) (entry : Entry) (then : Progress)
    → WorksFrom low (work ∷ rest) → Helps w at work rest c for entry then → Rises low entry then
helps-from low w at work rest c None entry then works h = absurd h
helps-from low w at work rest c (Some for) entry then works h = record {
  line = inl h.1;
  left = marked-from (max low entry.line) work entry.reply (stays at work rest c (helped at.pull entry.event entry.reply)) then h.3
      (more-of low work rest entry.line (inl h.1) works);
}

at-from : (b : Bool) (low : ℕ) (w w' : Core) (at : Progress) (work : Work) (rest : List Work) (c : Cursor) (entry : Entry) (then : Progress)
    → WorksFrom low (work ∷ rest) → TellsAt b w w' at work rest c entry then → Rises low entry then
at-from true low w w' at work rest c entry then works t =
    helps-from low w at work rest c (puller_of w.scene.state (event_at at.known work c)) entry then works t
at-from false low w w' at work rest c entry then works t = record {
  line = let number = t.1 in let least = works.0 in inr (omega (arith, number, least));
  left = own-from low w.scene.state w' at work rest c entry.event entry.reply then entry.line t.1 works t.3;
}

work-from : (low : ℕ) (w w' : Core) (at : Progress) (work : Work) (rest : List Work) (c : Option Cursor) (entry : Entry) (then : Progress)
    → WorksFrom low (work ∷ rest) → TellsWork w w' at work rest c entry then → Rises low entry then
work-from low w w' at work rest None entry then works t = absurd t
work-from low w w' at work rest (Some c) entry then works t = at-from (is_pulling at.pull) low w w' at work rest c entry then works t

first-from : (low : ℕ) (w w' : Core) (at : Progress) (works : List Work) (entry : Entry) (then : Progress)
    → WorksFrom low works → TellsFirst w w' at works entry then → Rises low entry then
first-from low w w' at [] entry then works t = absurd t
first-from low w w' at (work ∷ rest) entry then works t =
    work-from low w w' at work rest (cursor_in w.scene.state at.known work at.cursor) entry then works t

-- the works that are due: those from the one under way on, or from the first with an event
due-from : (low : ℕ) (m : State) (at : Progress) (c : Option Cursor) → WorksFrom low at.left → WorksFrom low (left_from m at.known c at.left)
due-from low m at None works = ahead-from m at.known low at.left works
due-from low m at (Some c) works = works

rise : (low : ℕ) (old new : World) (entries : List Entry) → WorksFrom low old.told.left → Drives old entries new → AreFrom low entries
rise low old new [] works d = tt
rise low old new (entry ∷ entries) works d =
    let next = d.0 in
    let one = first-from low old.core next.core old.told (due_works old.core.scene.state old.told) entry next.told
    (due-from low old.core.scene.state old.told old.told.cursor works) d.1.tells.1 in
    (one.line, rise (max low entry.line) next new entries one.left d.2)

lines-from : (low : ℕ) (lines : List Line) → AreAbove low lines → WorksFrom low (works_of lines)
lines-from low [] above = tt
lines-from low (line ∷ lines) above = (omega (arith, above.0), lines-from line.number lines above.1)

-- the entries of a run from before the opening
pub entries-rise : (insts pages : ℕ) (lines : List Line) (start last : World) (entries : List Entry) → start.told ≡ untold insts pages lines
    → AreAbove 0 lines → Drives start entries last → AreFrom 0 entries
entries-rise insts pages lines start last entries is above d =
    rise 0 start last entries (subst (λ (p : Progress). WorksFrom 0 p.left) (sym is) (omega arith, lines-from 0 lines above)) d
