-- A line lets the instances that are down recover themselves, one after another. It serves the goals of `recover_all` and
-- `recover_down` in driver.rt.
use Rattle.std.proofs.Common.{◌≡◌, inl, inr, ⊎_elim, ℕ, ◌+◌, ◌-◌, ◌≤◌, Bool, true, false, List, drop, refl, sym, ap, ◌∙◌, subst}
use Rattle.std.specs.Prelude.{Option, None, Some, is_some, slice_get}
use Rattle.sd_model.specs.declared.event.Event.TheVariants as event
use Rattle.sd_model.specs.declared.event.Reply.{Reply}
use Rattle.sd_model.specs.declared.event.Reply.TheVariants as reply
use Rattle.sd_model.specs.State.{State}
use Rattle.sd_script.specs.declared.line.Form.{Form}
use Rattle.sd_script.specs.declared.line.Form.TheVariants as form
use Rattle.sd_script.specs.declared.line.Line.{Line}
use Rattle.sd_script.specs.Order.{begun_by}
use Rattle.sd_world.specs.Serving.{Core, Telling}
use Rattle.sd_hall.specs.Bodies.{fits_in}
use Rattle.sd_drive.specs.declared.driver.Driver.{Driver}
use Rattle.sd_drive.specs.Bodies.{status_in}
use Rattle.sd_drive.specs.Driven.{IsIn}
use Rattle.sd_drive.specs.Driving.{Cursor, Known, Work, World, begins, behind, behind_line, cursor_in, done, followed, next_down, recovers, start_of, stays, works_of}
use Rattle.sd_base.specs.Standing.{is_down}
use Rattle.sd_drive.specs.Lines.{Names, Way, named_by, way_of}
use Rattle.sd_drive.specs.declared.recovery.Outcome.{Outcome}
use Rattle.sd_drive.specs.declared.recovery.Outcome.TheVariants as outcomes
use Rattle.sd_drive.specs.Recoveries.{DoesSome, DueOf, GoneOn, IsDueOf, IsParted, RecoversTo}
use Rattle.sd_drive.specs.Pulls.{Pull}
use Rattle.sd_drive.specs.Reaching.{AreDriven, AtLine, DrivesLine, DrivesSome, IsSame, KnowsAll, Reached}
use Rattle.sd_drive.specs.Recovering.{LineRecovers, RecoversNow, RecoversOn, RecoversSome, WaitsToRecover, owner_of}
use Rattle.sd_drive.specs.Running.{Start}
use Rattle.sd_drive.proofs.Bodies.{fits-now, status-is}
use Rattle.sd_drive.proofs.Lines.{first-here, knows-as, knows-more, passes-by}
use Rattle.sd_drive.proofs.Finding.{down-behind, down-here}

-- ---- who recovers next

down-none : (m : State) → next_down m 9 ≡ None
down-none m = refl

-- ---- how the line goes on

recover-names : (f : Form) → f ≡ form.RecoverAll → (r : Reply) (names : Names) → named_by f r names ≡ names
recover-names f is r names = ap (λ (x : Form). named_by x r names) is

module _ {G : Type 0} (tell : Telling G) (start : Start G) (lines : List Line) (n : ℕ) (line : Line) (at : slice_get lines n ≡ Some line)
    (is : line.form ≡ form.RecoverAll) where
  abbrev rest : List Work
  rest = works_of (drop (n + 1) lines)

  -- where the line begins
  pub recovers-first : (old : Driver G) (w : World) (r : Reached tell start lines n old w) → RecoversOn tell start lines n line old 1 w
  recovers-first old w r = go (next_down m 1) refl
    where
      m : State
      m = w.core.scene.state

      known : Known
      known = w.told.known

      starts : start_of m known (Work.Do line) ≡ recovers (next_down m 1)
      starts = ap (λ (f : Form). begins (way_of f) m known f) is

      go : (o : Option ℕ) → next_down m 1 ≡ o → RecoversOn tell start lines n line old 1 w
      go None none = inr (none, passes-by tell start lines n line at old w r (starts ∙ ap recovers none) (ap begun_by is))
      go (Some j) some =
          let starts_so : start_of m known (Work.Do line) ≡ Some (Cursor.Recovers j j None) = starts ∙ ap recovers some in
          inl (
            j,
            some,
            record {
              there = r.there;
              due = record {
                stands = record {
                  known_is = refl;
                  first = first-here tell start lines n line at old w r (ap (λ (o : Option Cursor). is_some o) starts_so);
                  at = subst (λ (o : Option Cursor). cursor_in m known (Work.Do line) o ≡ Some (Cursor.Recovers j j None)) (sym r.rests) starts_so;
                  idle = r.idle;
                  event = refl;
                  unfailed = r.unfailed;
                };
                session_is = refl;
                number_is = refl;
              };
              knows = knows-more tell start lines n line at old w r old (ap begun_by is) (refl, refl) refl;
            },
          )

  module _ (here : Driver G) (i : ℕ) (w : World) where
    abbrev m : State
    m = w.core.scene.state

    pub there-on : RecoversOn tell start lines n line here i w → IsIn tell start here.hall w
    there-on on = ⊎_elim (λ waits. waits.2.there) (λ over. over.1.there) on

    status-on : (low : 1 ≤ i) (high : i ≤ 8) → RecoversOn tell start lines n line here i w → status_in here.hall.body i ≡ (m.inst i).status
    status-on low high on = status-is tell here.hall.body w.core (fits-now tell start here.hall w (there-on on)) i low high

    -- instance i isn't down
    pub recovers-past : 1 ≤ i → i ≤ 8 → is_down (status_in here.hall.body i) ≡ false → RecoversOn tell start lines n line here i w
        → RecoversOn tell start lines n line here (i + 1) w
    recovers-past low high stands on =
        let same = down-behind m i high (sym (ap is_down (status-on low high on)) ∙ stands) in
        ⊎_elim (λ waits. inl (waits.0, sym same ∙ waits.1, waits.2)) (λ over. inr (sym same ∙ over.0, over.1)) on

    -- or it is, and its recovery begins
    pub recovers-now : 1 ≤ i → i ≤ 8 → is_down (status_in here.hall.body i) ≡ true → RecoversOn tell start lines n line here i w
        → WaitsToRecover tell start lines n line here i w
    recovers-now low high down on =
        let found = down-here m i high (sym (ap is_down (status-on low high on)) ∙ down) in
        ⊎_elim
        (λ waits. let some : Some waits.0 ≡ Some i = sym waits.1 ∙ found in let same : waits.0 ≡ i = cc in
        subst (λ (j : ℕ). WaitsToRecover tell start lines n line here j w) same waits.2)
        (λ over. let none : None ≡ Some i = sym over.0 ∙ found in absurd (cc))
        on

    -- all have been looked at
    pub recovers-done : i ≡ 9 → RecoversOn tell start lines n line here i w → Reached tell start lines (n + 1) here w
    recovers-done last on =
        let found : next_down m i ≡ None = ap (next_down m) last ∙ down-none m in
        ⊎_elim (λ waits. let none : Some waits.0 ≡ None = sym waits.1 ∙ found in absurd (cc)) (λ over. over.1) on

  -- its recovery ended
  module _ (here new : Driver G) (i : ℕ) (w : World) (waits : WaitsToRecover tell start lines n line here i w) (same : IsSame here new)
      (txns : new.txns ≡ here.txns) where
    knows : KnowsAll lines (n + 1) new w.told.known
    knows = knows-as lines (n + 1) here new w.told.known same txns waits.knows

    abbrev went-to : Reply → Core → Option Cursor → World
    went-to r core o = record { told = followed w.told (Work.Do line) (works_of (drop (n + 1) lines)) r o; core = core }

    line-done : (r : Reply) (core : Core) → IsIn tell start new.hall (record { told = done w.told (Work.Do line) (works_of (drop (n + 1) lines)) r; core = core })
        → Reached tell start lines (n + 1) new (record { told = done w.told (Work.Do line) (works_of (drop (n + 1) lines)) r; core = core })
    line-done r core there = record {
      there = there;
      rests = refl;
      idle = refl;
      unfailed = waits.due.stands.unfailed;
      left = refl;
      knows = subst (KnowsAll lines (n + 1) new)
          (sym (ap (λ (names : Names). record w.told.known { names = names }) (recover-names line.form is r w.told.known.names))) knows;
    }

    -- where the line goes on behind it
    behind-is : (core : Core) (ended : Bool) → behind core.scene.state (Work.Do line) i ended ≡ behind_line Way.Recovering core.scene.state i ended
    behind-is core ended = ap (λ (f : Form). behind_line (way_of f) core.scene.state i ended) is

    -- it was refused
    pub ended-not : GoneOn tell new.hall (Work.Do line) (works_of (drop (n + 1) lines)) i false start w → (w' : World) × Reached tell start lines (n + 1) new w'
    ended-not gone = (
      record { told = done w.told (Work.Do line) (works_of (drop (n + 1) lines)) gone.reply; core = gone.core },
      line-done gone.reply gone.core
          (subst (λ (o : Option Cursor). IsIn tell start new.hall (went-to gone.reply gone.core o)) (behind-is gone.core false) gone.there),
    )

    -- or so many steps were done
    pub ended-part : IsParted tell new.hall (Work.Do line) (works_of (drop (n + 1) lines)) None start w → (w' : World) × Reached tell start lines (n + 1) new w'
    ended-part gone = (
      record { told = done w.told (Work.Do line) (works_of (drop (n + 1) lines)) reply.Step; core = gone.core },
      line-done reply.Step gone.core gone.there,
    )

    -- or it came to its end
    pub ended-on : GoneOn tell new.hall (Work.Do line) (works_of (drop (n + 1) lines)) i true start w
        → (w' : World) × RecoversOn tell start lines n line new (i + 1) w'
    ended-on gone = go (next_down gone.core.scene.state (i + 1)) refl
      where
        there-at : (o : Option ℕ) → next_down gone.core.scene.state (i + 1) ≡ o
            → IsIn tell start new.hall (record { told = followed w.told (Work.Do line) (works_of (drop (n + 1) lines)) gone.reply (recovers o); core = gone.core })
        there-at o is_so = subst (λ (x : Option ℕ). IsIn tell start new.hall
            (record { told = followed w.told (Work.Do line) (works_of (drop (n + 1) lines)) gone.reply (recovers x); core = gone.core })) is_so
            (subst (λ (c : Option Cursor). IsIn tell start new.hall (went-to gone.reply gone.core c)) (behind-is gone.core true) gone.there)

        go : (o : Option ℕ) → next_down gone.core.scene.state (i + 1) ≡ o → (w' : World) × RecoversOn tell start lines n line new (i + 1) w'
        go None none = (
          record { told = done w.told (Work.Do line) (works_of (drop (n + 1) lines)) gone.reply; core = gone.core },
          inr (none, line-done gone.reply gone.core (there-at None none)),
        )
        go (Some j) some = (
          record { told = stays w.told (Work.Do line) (works_of (drop (n + 1) lines)) (Cursor.Recovers j j None) Pull.Idle; core = gone.core },
          inl (
            j,
            some,
            record {
              there = there-at (Some j) some;
              due = record {
                stands = record {
                  known_is = refl;
                  first = refl;
                  at = refl;
                  idle = refl;
                  event = refl;
                  unfailed = waits.due.stands.unfailed;
                };
                session_is = refl;
                number_is = refl;
              };
              knows = knows;
            },
          ),
        )

-- ---- as the code has it

module _ {G : Type 0} (tell : Telling G) (old : Driver G) (line : Line) (is : line.form ≡ form.RecoverAll) (i : ℕ) where
  -- the complex fits a core when it is asked how the instance stands
  pub recovers-fit : LineRecovers tell old line i → (w : Core) × fits_in tell.seen tell.leaves old.hall.body w
  recovers-fit a = (
    a.world.core,
    fits-now tell a.start old.hall a.world (there-on tell a.start a.lines a.n line a.next is old i a.world a.recovers),
  )

  module _ (low : 1 ≤ i) (high : i ≤ 8) where
    pub recovers-not : is_down (status_in old.hall.body i) ≡ false → RecoversNow tell old old line i true
    recovers-not stands = λ start w lines n at on. (w, recovers-past tell start lines n line at is old i w low high stands on)

    module _ (down : is_down (status_in old.hall.body i) ≡ true) where
      waits-now : (start : Start G) (w : World) (lines : List Line) (n : ℕ) → slice_get lines n ≡ Some line
          → RecoversOn tell start lines n line old i w → WaitsToRecover tell start lines n line old i w
      waits-now start w lines n at on = recovers-now tell start lines n line at is old i w low high down on

      due-now : (start : Start G) (w : World) (lines : List Line) (n : ℕ) → WaitsToRecover tell start lines n line old i w
          → IsDueOf (owner_of line) (Work.Do line) (works_of (drop (n + 1) lines)) (Cursor.Recovers i i None) (event.RecoverBegin i i) w
      due-now start w lines n waits = record { stands = waits.due.stands; session = refl; line = refl; opening = refl }

      pub recover-due : LineRecovers tell old line i → DueOf tell old.hall (owner_of line) (Cursor.Recovers i i None) (event.RecoverBegin i i)
      recover-due a =
          let waits = waits-now a.start a.world a.lines a.n a.next a.recovers in
          record {
            start = a.start;
            world = a.world;
            work = Work.Do line;
            rest = works_of (drop (a.n + 1) a.lines);
            there = waits.there;
            due = due-now a.start a.world a.lines a.n waits;
          }

      module _ (new : Driver G) where
        pub recover-some : DoesSome tell old.hall new.hall (owner_of line) (Cursor.Recovers i i None) (event.RecoverBegin i i) → RecoversSome tell old new line i
        recover-some some start w lines n at on =
            let waits = waits-now start w lines n at on in
            let h = some start w (Work.Do line) (works_of (drop (n + 1) lines)) waits.there (due-now start w lines n waits) in (h.0, h.1)

        module _ (same : IsSame old new) (txns : new.txns ≡ old.txns) where
          -- it came to its end, and the line goes on
          pub recovered : RecoversTo tell old.hall new.hall (owner_of line) i i None outcomes.Ended → RecoversNow tell old new line i true
          recovered to = λ start w lines n at on.
              let waits = waits-now start w lines n at on in
              ended-on tell start lines n line at is old new i w waits same txns
              (to start w (Work.Do line) (works_of (drop (n + 1) lines)) waits.there (due-now start w lines n waits))

          -- or it was refused, in which the line ends
          refused : RecoversTo tell old.hall new.hall (owner_of line) i i None outcomes.Refused → RecoversNow tell old new line i false
          refused to = λ start w lines n at on.
              let waits = waits-now start w lines n at on in
              ended-not tell start lines n line at is old new i w waits same txns
              (to start w (Work.Do line) (works_of (drop (n + 1) lines)) waits.there (due-now start w lines n waits))

          -- nor do so many steps, which end it too
          parted : RecoversTo tell old.hall new.hall (owner_of line) i i None outcomes.Part → RecoversNow tell old new line i false
          parted to = λ start w lines n at on.
              let waits = waits-now start w lines n at on in
              ended-part tell start lines n line at is old new i w waits same txns
              (to start w (Work.Do line) (works_of (drop (n + 1) lines)) waits.there (due-now start w lines n waits))

          -- no device ends a line
          unbroken : RecoversTo tell old.hall new.hall (owner_of line) i i None outcomes.Broken → RecoversNow tell old new line i false
          unbroken to = λ start w lines n at on.
              let waits = waits-now start w lines n at on in
              let broken = to start w (Work.Do line) (works_of (drop (n + 1) lines)) waits.there (due-now start w lines n waits) in
              let opens : false ≡ true = broken.opening in absurd (cc)

          pub not-ended : (how : Outcome) → (how ≡ outcomes.Ended → ⊥) → RecoversTo tell old.hall new.hall (owner_of line) i i None how
              → RecoversNow tell old new line i false
          not-ended outcomes.Ended isnt to = absurd (isnt refl)
          not-ended outcomes.Refused isnt to = refused to
          not-ended outcomes.Part isnt to = parted to
          not-ended outcomes.Broken isnt to = unbroken to

-- ---- one after another

-- wherever the line stands, those below i have been looked at
abbrev pub InRecoveries : {G : Type 0} → Telling G → Driver G → Line → Driver G → ℕ → Type 0
InRecoveries {G} tell old line here i =
    (start : Start G) (w : World) (lines : List Line) (n : ℕ) → slice_get lines n ≡ Some line → AreDriven lines old.insts old.pages
    → Reached tell start lines n old w → (w' : World) × RecoversOn tell start lines n line here i w'

module _ {G : Type 0} (tell : Telling G) (old : Driver G) (line : Line) (is : line.form ≡ form.RecoverAll) where
  pub recovers-begin : InRecoveries tell old line old 1
  recovers-begin start w lines n at d r = (w, recovers-first tell start lines n line at is old w r)

  module _ (here : Driver G) (i : ℕ) (on : InRecoveries tell old line here i) where
    pub recovers-in : AtLine tell old line → LineRecovers tell here line i
    recovers-in a =
        let h = on a.start a.world a.lines a.n a.next a.driven a.reached in
        record { start = a.start; world = h.0; lines = a.lines; n = a.n; next = a.next; recovers = h.1 }

    module _ (new : Driver G) where
      pub recovers-next : RecoversNow tell here new line i true → InRecoveries tell old line new (i + 1)
      recovers-next now start w lines n at d r = let h = on start w lines n at d r in now start h.0 lines n at h.1

      pub recovers-last : RecoversNow tell here new line i false → DrivesLine tell old new line
      recovers-last now start w lines n at d r = let h = on start w lines n at d r in now start h.0 lines n at h.1

      pub recovers-part : RecoversSome tell here new line i → DrivesSome tell old new line
      recovers-part some start w lines n at d r = let h = on start w lines n at d r in some start h.0 lines n at h.1

    -- behind the last one the line is done
    pub recovers-end : i ≡ 9 → DrivesLine tell old here line
    recovers-end last start w lines n at d r =
        let h = on start w lines n at d r in (h.0, recovers-done tell start lines n line at is here i h.0 last h.1)
