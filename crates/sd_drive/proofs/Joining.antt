-- A line joins the instances that aren't up, one after another. It serves the goals of `join_all` in driver.rt.
use Rattle.std.proofs.Common.{◌≡◌, inl, inr, ⊎_elim, ℕ, ◌+◌, ◌-◌, ◌≤◌, Bool, true, false, List, [], ◌∷◌, ◌++◌, drop, refl, sym, ap, ◌∙◌, subst, arith}
use Rattle.std.specs.Prelude.{Option, None, Some, is_some, not, slice_get}
use Rattle.sd_model.specs.declared.event.Entry.{Entry}
use Rattle.sd_model.specs.declared.event.Event.TheVariants as event
use Rattle.sd_model.specs.declared.event.Reply.{Reply}
use Rattle.sd_model.specs.declared.event.Reply.TheVariants as reply
use Rattle.sd_model.specs.State.{State}
use Rattle.sd_script.specs.declared.line.Form.{Form}
use Rattle.sd_script.specs.declared.line.Form.TheVariants as form
use Rattle.sd_script.specs.declared.line.Line.{Line}
use Rattle.sd_script.specs.Order.{begun_by}
use Rattle.sd_world.specs.Serving.{Core, Telling}
use Rattle.sd_hall.specs.Bodies.{fits_in}
use Rattle.sd_drive.specs.declared.driver.Driver.{Driver}
use Rattle.sd_drive.specs.Bodies.{status_in}
use Rattle.sd_drive.specs.Driven.{IsIn}
use Rattle.sd_drive.specs.Driving.{Cursor, Known, Work, World, begins, cursor_in, done, goes_on, joins, next_absent, start_of, stays, works_of}
use Rattle.sd_base.specs.Standing.{is_up}
use Rattle.sd_drive.specs.Lines.{Names, named_by, way_of}
use Rattle.sd_drive.specs.Operating.{Came, DueIn, Operates, OperatesSome}
use Rattle.sd_drive.specs.Pulls.{Pull}
use Rattle.sd_drive.specs.Reaching.{AreDriven, AtLine, DrivesLine, DrivesSome, IsJoining, IsSame, JoinsNow, JoinsOn, JoinsSome, KnowsAll, Reached, WaitsToJoin}
use Rattle.sd_model.specs.Replies.{is_joined}
use Rattle.sd_drive.specs.Running.{Start}
use Rattle.sd_drive.proofs.Bodies.{fits-now, status-is}
use Rattle.sd_drive.proofs.Lines.{first-here, goes-there, knows-as, knows-more, passes-by}
use Rattle.sd_drive.proofs.Finding.{first-behind, first-here as first-found, first-none}

-- ---- who joins next

absent : State → ℕ → Bool
absent m j = not (is_up (m.inst j).status)

pub absent-here : (m : State) (insts i : ℕ) → i ≤ insts → is_up (m.inst i).status ≡ false → next_absent m insts i ≡ Some i
absent-here m insts i le down =
    first-found (λ j. not (is_up (m.inst j).status)) i (insts + 1 - i) (omega (arith, le)) (ap not down)

pub absent-behind : (m : State) (insts i : ℕ) → i ≤ insts → is_up (m.inst i).status ≡ true → next_absent m insts i ≡ next_absent m insts (i + 1)
absent-behind m insts i le up =
    let count : insts + 1 - i ≡ insts + 1 - (i + 1) + 1 = omega (arith, le) in
    first-behind (λ j. not (is_up (m.inst j).status)) i (insts + 1 - i) (insts + 1 - (i + 1)) count (ap not up)

pub absent-none : (m : State) (insts : ℕ) → next_absent m insts (insts + 1) ≡ None
absent-none m insts =
    let none : insts + 1 - (insts + 1) ≡ 0 = omega arith in
    first-none (λ j. not (is_up (m.inst j).status)) (insts + 1) (insts + 1 - (insts + 1)) none

-- ---- how the line goes on

joins-goes : (w : Core) (known : Known) (line : Line) (i : ℕ) (r : Reply) → is_joined r ≡ true
    → goes_on w known (Work.Do line) (Cursor.Joins i) r ≡ joins (next_absent w.scene.state known.insts (i + 1))
joins-goes w known line i (reply.Joined epoch) yes_ = refl
joins-goes w known line i r yes_ = absurd (cc)

joins-ends : (w : Core) (known : Known) (line : Line) (i : ℕ) (r : Reply) → is_joined r ≡ false
    → goes_on w known (Work.Do line) (Cursor.Joins i) r ≡ None
joins-ends w known line i (reply.Joined epoch) no_ = absurd (cc)
joins-ends w known line i r no_ = refl

join-names : (f : Form) → f ≡ form.JoinAll → (r : Reply) (names : Names) → named_by f r names ≡ names
join-names f is r names = ap (λ (x : Form). named_by x r names) is

module _ {G : Type 0} (tell : Telling G) (start : Start G) (lines : List Line) (n : ℕ) (line : Line) (at : slice_get lines n ≡ Some line)
    (is : line.form ≡ form.JoinAll) where
  abbrev rest : List Work
  rest = works_of (drop (n + 1) lines)

  -- where the line begins
  pub joins-first : (old : Driver G) (w : World) (r : Reached tell start lines n old w) → JoinsOn tell start lines n line old 1 w
  joins-first old w r = go (next_absent m known.insts 1) refl
    where
      m : State
      m = w.core.scene.state

      known : Known
      known = w.told.known

      starts : start_of m known (Work.Do line) ≡ joins (next_absent m known.insts 1)
      starts = ap (λ (f : Form). begins (way_of f) m known f) is

      go : (o : Option ℕ) → next_absent m known.insts 1 ≡ o → JoinsOn tell start lines n line old 1 w
      go None none = inr (none, passes-by tell start lines n line at old w r (starts ∙ ap joins none) (ap begun_by is))
      go (Some j) some =
          let starts_so : start_of m known (Work.Do line) ≡ Some (Cursor.Joins j) = starts ∙ ap joins some in
          inl (
            j,
            some,
            record {
              there = r.there;
              due = record {
                stands = record {
                  known_is = refl;
                  first = first-here tell start lines n line at old w r (ap (λ (o : Option Cursor). is_some o) starts_so);
                  at = subst (λ (o : Option Cursor). cursor_in m known (Work.Do line) o ≡ Some (Cursor.Joins j)) (sym r.rests) starts_so;
                  idle = r.idle;
                  event = refl;
                  unfailed = r.unfailed;
                };
                session_is = refl;
                number_is = refl;
              };
              knows = knows-more tell start lines n line at old w r old (ap begun_by is) (refl, refl) refl;
            },
          )

  module _ (here : Driver G) (i : ℕ) (w : World) where
    abbrev m : State
    m = w.core.scene.state

    abbrev known : Known
    known = w.told.known

    -- the hall is in that world, and how many instances there are is known
    pub there-on : JoinsOn tell start lines n line here i w → IsIn tell start here.hall w
    there-on on = ⊎_elim (λ waits. waits.2.there) (λ over. over.1.there) on

    insts-on : JoinsOn tell start lines n line here i w → known.insts ≡ here.insts
    insts-on on = ⊎_elim (λ waits. waits.2.knows.insts) (λ over. over.1.knows.insts) on

    status-on : (low : 1 ≤ i) (high : i ≤ 8) → JoinsOn tell start lines n line here i w → status_in here.hall.body i ≡ (m.inst i).status
    status-on low high on = status-is tell here.hall.body w.core (fits-now tell start here.hall w (there-on on)) i low high

    -- instance i is up
    pub joins-past : 1 ≤ i → i ≤ 8 → i ≤ here.insts → is_up (status_in here.hall.body i) ≡ true → JoinsOn tell start lines n line here i w
        → JoinsOn tell start lines n line here (i + 1) w
    joins-past low high le up on =
        let insts = insts-on on in
        let same = absent-behind m known.insts i (omega (arith, le, insts)) (sym (ap is_up (status-on low high on)) ∙ up) in
        ⊎_elim (λ waits. inl (waits.0, sym same ∙ waits.1, waits.2)) (λ over. inr (sym same ∙ over.0, over.1)) on

    -- or it isn't, and joins next
    pub joins-now : 1 ≤ i → i ≤ 8 → i ≤ here.insts → is_up (status_in here.hall.body i) ≡ false → JoinsOn tell start lines n line here i w
        → WaitsToJoin tell start lines n line here i w
    joins-now low high le down on =
        let insts = insts-on on in
        let found = absent-here m known.insts i (omega (arith, le, insts)) (sym (ap is_up (status-on low high on)) ∙ down) in
        ⊎_elim
        (λ waits. let some : Some waits.0 ≡ Some i = sym waits.1 ∙ found in let same : waits.0 ≡ i = cc in
        subst (λ (j : ℕ). WaitsToJoin tell start lines n line here j w) same waits.2)
        (λ over. let none : None ≡ Some i = sym over.0 ∙ found in absurd (cc))
        on

    -- all have been looked at
    pub joins-done : i ≡ here.insts + 1 → JoinsOn tell start lines n line here i w → Reached tell start lines (n + 1) here w
    joins-done last on =
        let insts = insts-on on in
        let same : i ≡ known.insts + 1 = omega (arith, last, insts) in
        let found : next_absent m known.insts i ≡ None = ap (next_absent m known.insts) same ∙ absent-none m known.insts in
        ⊎_elim (λ waits. let none : Some waits.0 ≡ None = sym waits.1 ∙ found in absurd (cc)) (λ over. over.1) on

  -- it came
  module _ (here new : Driver G) (i : ℕ) (w : World) (waits : WaitsToJoin tell start lines n line here i w) (same : IsSame here new)
      (txns : new.txns ≡ here.txns)
      (came : Came tell new.hall line.session line.number (event.Join i) line (works_of (drop (n + 1) lines)) (Cursor.Joins i) start w) where
    abbrev next : Option Cursor
    next = goes_on came.core w.told.known (Work.Do line) (Cursor.Joins i) came.reply

    knows : KnowsAll lines (n + 1) new w.told.known
    knows = knows-as lines (n + 1) here new w.told.known same txns waits.knows

    ended : next ≡ None → (w' : World) × Reached tell start lines (n + 1) new w' × (w'.core ≡ came.core) × (w'.told.known.insts ≡ w.told.known.insts)
    ended ends = (
      record { told = done w.told (Work.Do line) rest came.reply; core = came.core },
      record {
        there = goes-there tell start lines n line new (event.Join i) (Cursor.Joins i) w came None ends;
        rests = refl;
        idle = refl;
        unfailed = waits.due.stands.unfailed;
        left = refl;
        knows = subst (KnowsAll lines (n + 1) new)
            (sym (ap (λ (names : Names). record w.told.known { names = names }) (join-names line.form is came.reply w.told.known.names))) knows;
      },
      refl,
      refl,
    )

    -- it was refused
    pub joined-not : is_joined came.reply ≡ false → (w' : World) × Reached tell start lines (n + 1) new w'
    joined-not no_ = let h = ended (joins-ends came.core w.told.known line i came.reply no_) in (h.0, h.1)

    -- or the next one joins
    pub joined-on : is_joined came.reply ≡ true → (w' : World) × JoinsOn tell start lines n line new (i + 1) w'
    joined-on yes_ = go (next_absent came.core.scene.state w.told.known.insts (i + 1)) refl
      where
        m' : State
        m' = came.core.scene.state

        goes : next ≡ joins (next_absent m' w.told.known.insts (i + 1))
        goes = joins-goes came.core w.told.known line i came.reply yes_

        go : (o : Option ℕ) → next_absent m' w.told.known.insts (i + 1) ≡ o → (w' : World) × JoinsOn tell start lines n line new (i + 1) w'
        go None none = let h = ended (goes ∙ ap joins none) in (
          h.0,
          inr (
            ap (λ (c : Core). next_absent c.scene.state h.0.told.known.insts (i + 1)) h.2
                ∙ ap (λ (k : ℕ). next_absent m' k (i + 1)) h.3 ∙ none,
            h.1,
          ),
        )
        go (Some j) some = (
          record { told = stays w.told (Work.Do line) rest (Cursor.Joins j) Pull.Idle; core = came.core },
          inl (
            j,
            some,
            record {
              there = goes-there tell start lines n line new (event.Join i) (Cursor.Joins i) w came (Some (Cursor.Joins j)) (goes ∙ ap joins some);
              due = record {
                stands = record {
                  known_is = refl;
                  first = refl;
                  at = refl;
                  idle = refl;
                  event = refl;
                  unfailed = waits.due.stands.unfailed;
                };
                session_is = refl;
                number_is = refl;
              };
              knows = knows;
            },
          ),
        )

-- ---- as the code has it

module _ {G : Type 0} (tell : Telling G) (old : Driver G) (line : Line) (is : line.form ≡ form.JoinAll) (i : ℕ) where
  -- the complex fits a core when it is asked how the instance stands
  pub joins-fit : IsJoining tell old line i → (w : Core) × fits_in tell.seen tell.leaves old.hall.body w
  joins-fit a = (
    a.world.core,
    fits-now tell a.start old.hall a.world (there-on tell a.start a.lines a.n line a.next is old i a.world a.joins),
  )

  module _ (low : 1 ≤ i) (high : i ≤ 8) (le : i ≤ old.insts) where
    pub joins-up : is_up (status_in old.hall.body i) ≡ true → JoinsNow tell old old line i true
    joins-up up = λ start w lines n at on. (w, joins-past tell start lines n line at is old i w low high le up on)

    module _ (down : is_up (status_in old.hall.body i) ≡ false) where
      waits-now : (start : Start G) (w : World) (lines : List Line) (n : ℕ) → slice_get lines n ≡ Some line
          → JoinsOn tell start lines n line old i w → WaitsToJoin tell start lines n line old i w
      waits-now start w lines n at on = joins-now tell start lines n line at is old i w low high le down on

      pub joins-due : IsJoining tell old line i → DueIn tell old.hall line.session line.number (event.Join i)
      joins-due a =
          let waits = waits-now a.start a.world a.lines a.n a.next a.joins in
          record {
            start = a.start;
            world = a.world;
            known = a.world.told.known;
            line = line;
            rest = works_of (drop (a.n + 1) a.lines);
            cursor = Cursor.Joins i;
            there = waits.there;
            due = waits.due;
          }

      module _ (new : Driver G) where
        pub joins-some : OperatesSome tell old.hall new.hall line.session line.number (event.Join i) → JoinsSome tell old new line i
        joins-some some start w lines n at on =
            let waits = waits-now start w lines n at on in
            some start w w.told.known line (works_of (drop (n + 1) lines)) (Cursor.Joins i) waits.there waits.due

        module _ (came : Operates tell old.hall new.hall line.session line.number (event.Join i)) (same : IsSame old new) (txns : new.txns ≡ old.txns) where
          it-came : (start : Start G) (w : World) (lines : List Line) (n : ℕ) → slice_get lines n ≡ Some line
              → JoinsOn tell start lines n line old i w
              → Came tell new.hall line.session line.number (event.Join i) line (works_of (drop (n + 1) lines)) (Cursor.Joins i) start w
          it-came start w lines n at on =
              let waits = waits-now start w lines n at on in
              came start w w.told.known line (works_of (drop (n + 1) lines)) (Cursor.Joins i) waits.there waits.due

          abbrev pub Told : Bool → Type 0
          Told b = (before : List Entry) (r : Reply)
              → new.hall.book.entries ≡ before ++ record { session = line.session; line = line.number; event = event.Join i; reply = r } ∷ []
              → is_joined r ≡ b

          -- as its reply tells
          pub joined : (b : Bool) → Told b → JoinsNow tell old new line i b
          joined true told = λ start w lines n at on.
              let c = it-came start w lines n at on in
              joined-on tell start lines n line at is old new i w (waits-now start w lines n at on) same txns c (told c.before c.reply c.noted)
          joined false told = λ start w lines n at on.
              let c = it-came start w lines n at on in
              joined-not tell start lines n line at is old new i w (waits-now start w lines n at on) same txns c (told c.before c.reply c.noted)

-- ---- one after another

-- wherever the line stands, those below i have been looked at
abbrev pub InJoins : {G : Type 0} → Telling G → Driver G → Line → Driver G → ℕ → Type 0
InJoins {G} tell old line here i =
    (start : Start G) (w : World) (lines : List Line) (n : ℕ) → slice_get lines n ≡ Some line → AreDriven lines old.insts old.pages
    → Reached tell start lines n old w → (w' : World) × JoinsOn tell start lines n line here i w'

module _ {G : Type 0} (tell : Telling G) (old : Driver G) (line : Line) (is : line.form ≡ form.JoinAll) where
  pub joins-begin : InJoins tell old line old 1
  joins-begin start w lines n at d r = (w, joins-first tell start lines n line at is old w r)

  module _ (here : Driver G) (i : ℕ) (on : InJoins tell old line here i) where
    pub joins-in : AtLine tell old line → IsJoining tell here line i
    joins-in a =
        let h = on a.start a.world a.lines a.n a.next a.driven a.reached in
        record { start = a.start; world = h.0; lines = a.lines; n = a.n; next = a.next; joins = h.1 }

    module _ (new : Driver G) where
      pub joins-next : JoinsNow tell here new line i true → InJoins tell old line new (i + 1)
      joins-next now start w lines n at d r = let h = on start w lines n at d r in now start h.0 lines n at h.1

      pub joins-last : JoinsNow tell here new line i false → DrivesLine tell old new line
      joins-last now start w lines n at d r = let h = on start w lines n at d r in now start h.0 lines n at h.1

      pub joins-part : JoinsSome tell here new line i → DrivesSome tell old new line
      joins-part some start w lines n at d r = let h = on start w lines n at d r in some start h.0 lines n at h.1

    -- behind the last one the line is done
    pub joins-end : i ≡ here.insts + 1 → DrivesLine tell old here line
    joins-end last start w lines n at d r =
        let h = on start w lines n at d r in (h.0, joins-done tell start lines n line at is here i h.0 last h.1)
