-- A line recovers one instance, by another or by itself, in at most so many steps. It serves the goals of `recover_one` in driver.rt.
use Rattle.std.proofs.Common.{◌≡◌, ℕ, ◌+◌, Bool, true, false, List, drop, refl, sym, ap, ◌∙◌, subst}
use Rattle.std.specs.Prelude.{Option, None, Some, is_some, slice_get}
use Rattle.sd_model.specs.declared.event.Event.TheVariants as event
use Rattle.sd_model.specs.declared.event.Reply.{Reply}
use Rattle.sd_model.specs.declared.event.Reply.TheVariants as reply
use Rattle.sd_model.specs.State.{State}
use Rattle.sd_script.specs.declared.line.Form.{Form}
use Rattle.sd_script.specs.declared.line.Form.TheVariants as form
use Rattle.sd_script.specs.declared.line.Line.{Line}
use Rattle.sd_script.specs.Order.{begun_by}
use Rattle.sd_world.specs.Serving.{Core, Telling}
use Rattle.sd_drive.specs.declared.driver.Driver.{Driver}
use Rattle.sd_drive.specs.declared.recovery.Outcome.{Outcome}
use Rattle.sd_drive.specs.declared.recovery.Outcome.TheVariants as outcomes
use Rattle.sd_drive.specs.Driven.{IsIn}
use Rattle.sd_drive.specs.Driving.{Cursor, Known, Work, World, begins, behind, behind_line, cursor_in, done, followed, start_of, works_of}
use Rattle.sd_drive.specs.Lines.{Names, Way, named_by, way_of}
use Rattle.sd_drive.specs.Reaching.{AtLine, DrivesLine, DrivesSome, IsSame, KnowsAll, Reached}
use Rattle.sd_drive.specs.Recoveries.{DoesSome, DueOf, EndsAs, GoneOn, IsDueOf, RecoversTo}
use Rattle.sd_drive.specs.Recovering.{owner_of}
use Rattle.sd_drive.specs.Running.{Start}
use Rattle.sd_drive.proofs.Lines.{first-here, knows-more}

one-names : (f : Form) (i by : ℕ) (most : Option ℕ) → f ≡ form.Recover i by most → (r : Reply) (names : Names) → named_by f r names ≡ names
one-names f i by most is r names = ap (λ (x : Form). named_by x r names) is

module _ {G : Type 0} (tell : Telling G) (start : Start G) (lines : List Line) (n : ℕ) (line : Line) (at : slice_get lines n ≡ Some line)
    (i by : ℕ) (most : Option ℕ) (is : line.form ≡ form.Recover i by most) (old : Driver G) (w : World) (r : Reached tell start lines n old w) where
  abbrev rest : List Work
  rest = works_of (drop (n + 1) lines)

  abbrev m : State
  m = w.core.scene.state

  abbrev known : Known
  known = w.told.known

  starts : start_of m known (Work.Do line) ≡ Some (Cursor.Recovers i by most)
  starts = ap (λ (f : Form). begins (way_of f) m known f) is

  -- the begin is due
  pub one-due : IsDueOf (owner_of line) (Work.Do line) (works_of (drop (n + 1) lines)) (Cursor.Recovers i by most) (event.RecoverBegin i by) w
  one-due = record {
    stands = record {
      known_is = refl;
      first = first-here tell start lines n line at old w r (ap (λ (o : Option Cursor). is_some o) starts);
      at = subst (λ (o : Option Cursor). cursor_in m known (Work.Do line) o ≡ Some (Cursor.Recovers i by most)) (sym r.rests) starts;
      idle = r.idle;
      event = refl;
      unfailed = r.unfailed;
    };
    session = refl;
    line = refl;
    opening = refl;
  }

  module _ (new : Driver G) (same : IsSame old new) (txns : new.txns ≡ old.txns) where
    knows : KnowsAll lines (n + 1) new known
    knows = knows-more tell start lines n line at old w r new (ap begun_by is) same txns

    abbrev went-to : Reply → Core → Option Cursor → World
    went-to q core o = record { told = followed w.told (Work.Do line) (works_of (drop (n + 1) lines)) q o; core = core }

    line-done : (q : Reply) (core : Core) → IsIn tell start new.hall (went-to q core None) → (w' : World) × Reached tell start lines (n + 1) new w'
    line-done q core there = (
      record { told = done w.told (Work.Do line) (works_of (drop (n + 1) lines)) q; core = core },
      record {
        there = there;
        rests = refl;
        idle = refl;
        unfailed = r.unfailed;
        left = refl;
        knows = subst (KnowsAll lines (n + 1) new)
            (sym (ap (λ (names : Names). record w.told.known { names = names }) (one-names line.form i by most is q w.told.known.names))) knows;
      },
    )

    -- behind its recovery the line goes on nowhere
    behind-none : (core : Core) (ended : Bool) → behind core.scene.state (Work.Do line) i ended ≡ None
    behind-none core ended = ap (λ (f : Form). behind_line (way_of f) core.scene.state i ended) is

    gone-done : (ended : Bool) → GoneOn tell new.hall (Work.Do line) (works_of (drop (n + 1) lines)) i ended start w
        → (w' : World) × Reached tell start lines (n + 1) new w'
    gone-done ended gone = line-done gone.reply gone.core
        (subst (λ (o : Option Cursor). IsIn tell start new.hall (went-to gone.reply gone.core o)) (behind-none gone.core ended) gone.there)

    -- however it ended, the line is done
    pub one-done : (how : Outcome) → EndsAs tell new.hall (owner_of line) (Work.Do line) (works_of (drop (n + 1) lines)) i most start w how
        → (w' : World) × Reached tell start lines (n + 1) new w'
    one-done outcomes.Ended ends = gone-done true ends
    one-done outcomes.Refused ends = gone-done false ends
    one-done outcomes.Part ends = line-done reply.Step ends.core ends.there
    one-done outcomes.Broken ends = let opens : false ≡ true = ends.opening in absurd (cc)

-- ---- as the code has it

module _ {G : Type 0} (tell : Telling G) (old : Driver G) (line : Line) (i by : ℕ) (most : Option ℕ) (is : line.form ≡ form.Recover i by most) where
  pub one-due-of : AtLine tell old line → DueOf tell old.hall (owner_of line) (Cursor.Recovers i by most) (event.RecoverBegin i by)
  one-due-of a = record {
    start = a.start;
    world = a.world;
    work = Work.Do line;
    rest = works_of (drop (a.n + 1) a.lines);
    there = a.reached.there;
    due = one-due tell a.start a.lines a.n line a.next i by most is old a.world a.reached;
  }

  module _ (new : Driver G) where
    pub one-some : DoesSome tell old.hall new.hall (owner_of line) (Cursor.Recovers i by most) (event.RecoverBegin i by) → DrivesSome tell old new line
    one-some some start w lines n at d r =
        let h = some start w (Work.Do line) (works_of (drop (n + 1) lines)) r.there (one-due tell start lines n line at i by most is old w r) in
        (h.0, h.1)

    pub one-driven : (how : Outcome) → IsSame old new → new.txns ≡ old.txns → RecoversTo tell old.hall new.hall (owner_of line) i by most how
        → DrivesLine tell old new line
    one-driven how same txns to start w lines n at d r = one-done tell start lines n line at i by most is old w r new same txns how
        (to start w (Work.Do line) (works_of (drop (n + 1) lines)) r.there (one-due tell start lines n line at i by most is old w r))
