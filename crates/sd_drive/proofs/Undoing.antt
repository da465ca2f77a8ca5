-- A rollback goes on by one undo after another. It serves the goals of `undo_all` and `undo` in driver.rt.
use Rattle.std.proofs.Common.{◌≡◌, ℕ, ◌+◌, ◌<◌, ◌≤◌, Bool, true, false, List, [], ◌∷◌, ◌++◌, length, drop, refl, ap, subst, arith}
use Rattle.std.specs.Prelude.{None, Some}
use Rattle.sd_base.specs.declared.ids.TxnId.{TxnId}
use Rattle.sd_model.specs.declared.act.Act.{Act}
use Rattle.sd_model.specs.declared.event.Entry.{Entry}
use Rattle.sd_model.specs.declared.event.Event.TheVariants as event
use Rattle.sd_model.specs.declared.event.Reply.{Reply}
use Rattle.sd_model.specs.declared.event.Reply.TheVariants as reply
use Rattle.sd_model.specs.Acts.{live}
use Rattle.sd_model.specs.Step.{Step}
use Rattle.sd_script.specs.declared.line.Line.{Line}
use Rattle.sd_world.specs.Serving.{Core, Telling}
use Rattle.sd_drive.specs.declared.driver.Driver.{Driver}
use Rattle.sd_drive.specs.Driving.{Cursor, Known, Work, World, goes_on, stays, works_of}
use Rattle.sd_drive.specs.Lines.{rolls_back}
use Rattle.sd_drive.specs.Operating.{Came, DueIn, Operates, OperatesSome}
use Rattle.sd_drive.specs.Pulls.{Pull}
use Rattle.sd_drive.specs.Reaching.{IsRolledBack, IsSame, KnowsAll, Reached, RollsBack, Undoes, UndoesAll, UndoesSome, open_records}
use Rattle.sd_drive.specs.Standing.{GoesBack}
use Rattle.sd_model.specs.Replies.{is_step}
use Rattle.sd_drive.specs.Running.{Start}
use Rattle.sd_drive.proofs.Acts.{undo-stepped}
use Rattle.sd_drive.proofs.Backs.{rolls-names, undo-rolls}
use Rattle.sd_drive.proofs.Lines.{came-ended, goes-there, knows-as}
use Rattle.sd_drive.proofs.Bodies.{depth-is, fits-now}

step-is : (r : Reply) → is_step r ≡ true → r ≡ reply.Step
step-is reply.Step step = refl
step-is r step = absurd (cc)

undo-ends : (w : Core) (known : Known) (line : Line) (r : Reply) → is_step r ≡ false → goes_on w known (Work.Do line) Cursor.Undoes r ≡ None
undo-ends w known line reply.Step step = absurd (cc)
undo-ends w known line r step = refl

-- ---- an undo

module _ {G : Type 0} (tell : Telling G) (old : Driver G) (line : Line) (t : TxnId) where
  pub undo-due : IsRolledBack tell old line t → DueIn tell old.hall line.session line.number (event.Undo t)
  undo-due a = record {
    start = a.start;
    world = a.world;
    known = a.world.told.known;
    line = line;
    rest = works_of (drop (a.n + 1) a.lines);
    cursor = Cursor.Undoes;
    there = a.rolls.there;
    due = a.rolls.undoes;
  }

  module _ (new : Driver G) where
    pub undo-some : OperatesSome tell old.hall new.hall line.session line.number (event.Undo t) → UndoesSome tell old new line t
    undo-some some start w lines n r =
        some start w w.told.known line (works_of (drop (n + 1) lines)) Cursor.Undoes r.there r.undoes

    module _ (same : IsSame old new) (txns : new.txns ≡ old.txns)
        (came : Operates tell old.hall new.hall line.session line.number (event.Undo t)) where
      abbrev Told : Bool → Type 0
      Told b = (before : List Entry) (r : Reply)
          → new.hall.book.entries ≡ before ++ record { session = line.session; line = line.number; event = event.Undo t; reply = r } ∷ []
          → is_step r ≡ b

      module _ (start : Start G) (w : World) (lines : List Line) (n : ℕ) (r : RollsBack tell start lines n line old t w) where
        abbrev rest : List Work
        rest = works_of (drop (n + 1) lines)

        it-came : Came tell new.hall line.session line.number (event.Undo t) line rest Cursor.Undoes start w
        it-came = came start w w.told.known line rest Cursor.Undoes r.there r.undoes

        knows : KnowsAll lines (n + 1) new w.told.known
        knows = knows-as lines (n + 1) old new w.told.known same txns r.knows

        is-rolling : rolls_back line.form ≡ true
        is-rolling = undo-rolls w.told.known.names line.form (event.Undo t) r.undoes.stands.event

        -- it was the last one
        ended : is_step it-came.reply ≡ false → (w' : World) × Reached tell start lines (n + 1) new w'
        ended step = came-ended tell start lines n line new (event.Undo t) Cursor.Undoes w it-came
            (undo-ends it-came.core w.told.known line it-came.reply step) (rolls-names line.form is-rolling) r.undoes.stands.unfailed knows

        stepped : is_step it-came.reply ≡ true → GoesBack it-came.mid.scene.state t × GoesBack it-came.core.scene.state t
            × (length (live (it-came.core.scene.state.part t).acts) + 1 ≡ length (live (it-came.mid.scene.state.part t).acts))
        stepped step = undo-stepped it-came.mid.scene.state t it-came.core.scene.state
            (subst (λ (x : Reply). Step it-came.mid.scene.state (event.Undo t) x it-came.core.scene.state) (step-is it-came.reply step)
            it-came.turns.plays.step)

        -- or another one is to come
        on : is_step it-came.reply ≡ true → (w' : World) × RollsBack tell start lines n line new t w'
        on step =
            let m = it-came.core.scene.state in (
              record { told = stays w.told (Work.Do line) rest Cursor.Undoes Pull.Idle; core = it-came.core },
              record {
                there = goes-there tell start lines n line new (event.Undo t) Cursor.Undoes w it-came (Some Cursor.Undoes)
                    (ap (goes_on it-came.core w.told.known (Work.Do line) Cursor.Undoes) (step-is it-came.reply step));
                undoes = record {
                  stands = record {
                    known_is = refl;
                    first = refl;
                    at = refl;
                    idle = refl;
                    event = r.undoes.stands.event;
                    unfailed = r.undoes.stands.unfailed;
                  };
                  session_is = refl;
                  number_is = refl;
                };
                goes = (stepped step).1;
                knows = knows;
              },
            )

        -- and a record less is open
        shorter : 1 ≤ t.inst → t.inst ≤ 8 → is_step it-came.reply ≡ true → open_records new t < open_records old t
        shorter low high step =
            let h = stepped step in
            let was = depth-is tell old.hall.body w.core (fits-now tell start old.hall w r.there) t low high r.goes in
            let now = depth-is tell new.hall.body it-came.core (fits-now tell start new.hall _ it-came.there) t low high h.1 in
            let acts = ap (λ (done : List Act). length (live done)) (it-came.acts t) in
            let less = h.2 in omega (arith, was, now, acts, less)

      pub undo-last : Told false → UndoesAll tell old new line t
      undo-last told start w lines n r =
          let c = it-came start w lines n r in ended start w lines n r (told c.before c.reply c.noted)

      pub undo-on : Told true → 1 ≤ t.inst → t.inst ≤ 8 → IsRolledBack tell old line t → Undoes tell old new line t true
      undo-on told low high a =
          let c = it-came a.start a.world a.lines a.n a.rolls in (
            shorter a.start a.world a.lines a.n a.rolls low high (told c.before c.reply c.noted),
            λ start w lines n r. let k = it-came start w lines n r in on start w lines n r (told k.before k.reply k.noted),
          )

      -- as its reply tells
      pub undone : (b : Bool) → Told b → 1 ≤ t.inst → t.inst ≤ 8 → IsRolledBack tell old line t → Undoes tell old new line t b
      undone true told low high a = undo-on told low high a
      undone false told low high a = undo-last told

-- ---- one after another

module _ {G : Type 0} (tell : Telling G) (line : Line) (t : TxnId) (old : Driver G) where
  -- wherever the rollback was, it still is
  abbrev pub IsAt : Driver G → Type 0
  IsAt here = (start : Start G) (w : World) (lines : List Line) (n : ℕ) → RollsBack tell start lines n line old t w
      → (w' : World) × RollsBack tell start lines n line here t w'

  module _ (here : Driver G) (on : IsAt here) where
    pub at-rolls : IsRolledBack tell old line t → IsRolledBack tell here line t
    at-rolls a =
        let h = on a.start a.world a.lines a.n a.rolls in
        record { start = a.start; world = h.0; lines = a.lines; n = a.n; rolls = h.1 }

    module _ (new : Driver G) where
      pub at-next : Undoes tell here new line t true → IsAt new
      at-next undoes start w lines n r = let h = on start w lines n r in undoes.1 start h.0 lines n h.1

      pub at-last : UndoesAll tell here new line t → UndoesAll tell old new line t
      at-last all start w lines n r = let h = on start w lines n r in all start h.0 lines n h.1

      pub at-some : UndoesSome tell here new line t → UndoesSome tell old new line t
      at-some some start w lines n r = let h = on start w lines n r in some start h.0 lines n h.1
