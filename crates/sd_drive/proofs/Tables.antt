-- A table line lists one page after another. It serves the goals of `table` in driver.rt.
use Rattle.std.proofs.Common.{◌≡◌, ℕ, zero, suc, ap₂, ◌+◌, ◌<◌, ◌≤◌, Bool, true, false, cond, ltb, List, [], ◌∷◌, ◌++◌, drop, refl, sym, ap, ◌∙◌, subst, arith}
use Rattle.std.specs.Prelude.{Option, None, Some, is_some, slice_get, unwrap_or}
use Rattle.std.proofs.lemmas.Bool.{le-ltb, lt-ltb}
use Rattle.sd_model.specs.declared.event.Entry.{Entry}
use Rattle.sd_model.specs.declared.event.Event.TheVariants as event
use Rattle.sd_model.specs.declared.event.Reply.{Reply}
use Rattle.sd_model.specs.declared.event.Reply.TheVariants as reply
use Rattle.sd_model.specs.State.{State}
use Rattle.sd_script.specs.declared.line.Form.{Form}
use Rattle.sd_script.specs.declared.line.Form.TheVariants as form
use Rattle.sd_script.specs.declared.line.Line.{Line}
use Rattle.sd_script.specs.Order.{begun_by}
use Rattle.sd_world.specs.Serving.{Core, Telling}
use Rattle.sd_drive.specs.declared.driver.Driver.{Driver}
use Rattle.sd_drive.specs.Driven.{IsIn}
use Rattle.sd_base.specs.declared.place.Status.{Status}
use Rattle.sd_hall.specs.Bodies.{fits_in}
use Rattle.sd_drive.specs.Bodies.{status_in}
use Rattle.sd_drive.specs.Driving.{first_from, lister_by, Cursor, Known, Work, World, begins, cursor_in, goes_on, lister, start_of, stays, works_of}
use Rattle.sd_base.specs.Standing.{is_up}
use Rattle.sd_drive.specs.Lines.{Names, named_by, way_of}
use Rattle.sd_drive.specs.Operating.{Came, DueIn, IsDueFor, Operates, OperatesSome}
use Rattle.sd_drive.specs.Pulls.{Pull}
use Rattle.sd_drive.specs.Reaching.{AreDriven, AtLine, DrivesLine, DrivesSome, IsSame, KnowsAll, ListsNext, Reached}
use Rattle.sd_model.specs.Replies.{is_rows}
use Rattle.sd_drive.proofs.Bodies.{fits-now, status-is}
use Rattle.sd_drive.proofs.Lines.{came-ended, first-here as begins-first, goes-there, knows-more}
use Rattle.sd_drive.specs.Running.{Start}

-- ---- who lists

-- tests that say the same of these instances find the same one
first-same : (f g : ℕ → Bool) (i n : ℕ) → ((j : ℕ) → i ≤ j → j < i + n → f j ≡ g j) → first_from f i n ≡ first_from g i n
first-same f g i zero same = refl
first-same f g i (suc n) same = ap₂ (λ (b : Bool) (o : Option ℕ). cond {A = Option ℕ} b (Some i) o) (same i (omega arith) (omega arith))
    (first-same f g (i + 1) n (λ j le lt. same j (omega (arith, le)) (omega (arith, lt))))

-- the instances stand as the world says, so the one that the code finds lists
lister-same : (status : ℕ → Status) (m : State) (insts : ℕ) → insts ≤ 8 → ((j : ℕ) → 1 ≤ j → j ≤ 8 → status j ≡ (m.inst j).status)
    → lister_by status insts ≡ lister m insts
lister-same status m insts most same = ap (λ (o : Option ℕ). unwrap_or o 1)
    (first-same (λ j. is_up (status j)) (λ j. is_up (m.inst j).status) 1 insts
    (λ j low lt. ap is_up (same j low (omega (arith, lt, most)))))

-- ---- how a list goes on

-- it lists up to the last page
goes : (w : Core) (known : Known) (line : Line) (i p : ℕ) (r : Reply) → is_rows r ≡ true
    → goes_on w known (Work.Do line) (Cursor.Lists i p) r ≡ cond {A = Option Cursor} (ltb (p + 1) known.pages) (Some (Cursor.Lists i (p + 1))) None
goes w known line i p (reply.Rows rows) yes_ = refl
goes w known line i p r yes_ = absurd (cc)

-- or up to a refusal
goes-not : (w : Core) (known : Known) (line : Line) (i p : ℕ) (r : Reply) → is_rows r ≡ false
    → goes_on w known (Work.Do line) (Cursor.Lists i p) r ≡ None
goes-not w known line i p (reply.Rows rows) no_ = absurd (cc)
goes-not w known line i p r no_ = refl

table-names : (f : Form) → f ≡ form.Table → (r : Reply) (names : Names) → named_by f r names ≡ names
table-names f is r names = ap (λ (x : Form). named_by x r names) is

module _ {G : Type 0} (tell : Telling G) (start : Start G) (lines : List Line) (n : ℕ) (line : Line) (at : slice_get lines n ≡ Some line)
    (is : line.form ≡ form.Table) (old : Driver G) (w : World) (r : Reached tell start lines n old w) (i : ℕ) where
  abbrev known : Known
  known = w.told.known

  abbrev rest : List Work
  rest = works_of (drop (n + 1) lines)

  -- page p is listed next
  abbrev pub Lists-next : Driver G → ℕ → Type 0
  Lists-next new p = (w' : World) × IsIn tell start new.hall w' × IsDueFor line.session line.number (event.List i p) known line rest (Cursor.Lists i p) w'

  starts-so : (m : State) → start_of m known (Work.Do line) ≡ Some (Cursor.Lists (lister m known.insts) 0)
  starts-so m = ap (λ (f : Form). begins (way_of f) m known f) is

  -- who was found by how the instances stand is the one that lists
  pub finds-lister : old.insts ≤ 8 → i ≡ lister_by (status_in old.hall.body) old.insts → i ≡ lister w.core.scene.state known.insts
  finds-lister most found =
      let m = w.core.scene.state in
      found ∙ lister-same (status_in old.hall.body) m old.insts most (status-is tell old.hall.body w.core (fits-now tell start old.hall w r.there))
      ∙ ap (lister m) (sym r.knows.insts)

  has-one : (m : State) → is_some (start_of m known (Work.Do line)) ≡ true
  has-one m = ap (λ (o : Option Cursor). is_some o) (starts-so m)

  pub first-page : i ≡ lister w.core.scene.state known.insts
      → IsDueFor line.session line.number (event.List i 0) known line rest (Cursor.Lists i 0) w
  first-page lister_is =
      let m = w.core.scene.state in
      let starts = starts-so m ∙ ap (λ (j : ℕ). Some (Cursor.Lists j 0)) (sym lister_is) in
      record {
        stands = record {
          known_is = refl;
          first = begins-first tell start lines n line at old w r (has-one m);
          at = subst (λ (o : Option Cursor). cursor_in m known (Work.Do line) o ≡ Some (Cursor.Lists i 0)) (sym r.rests) starts;
          idle = r.idle;
          event = refl;
          unfailed = r.unfailed;
        };
        session_is = refl;
        number_is = refl;
      }

  module _ (new : Driver G) (p : ℕ) (w1 : World) (due : IsDueFor line.session line.number (event.List i p) known line rest (Cursor.Lists i p) w1)
      (came : Came tell new.hall line.session line.number (event.List i p) line rest (Cursor.Lists i p) start w1) where
    abbrev next : Option Cursor
    next = goes_on came.core w1.told.known (Work.Do line) (Cursor.Lists i p) came.reply

    pages-known : w1.told.known.pages ≡ old.pages
    pages-known = ap (λ (k : Known). k.pages) due.stands.known_is ∙ r.knows.pages

    -- another page is to come
    pub listed-on : is_rows came.reply ≡ true → p + 1 < old.pages → Lists-next new (p + 1)
    listed-on rows lt =
        let goes_there : next ≡ Some (Cursor.Lists i (p + 1)) =
        goes came.core w1.told.known line i p came.reply rows
        ∙ ap (λ (b : Bool). cond {A = Option Cursor} b (Some (Cursor.Lists i (p + 1))) None) (ap (ltb (p + 1)) pages-known ∙ lt-ltb (p + 1) old.pages lt) in (
          record { told = stays w1.told (Work.Do line) rest (Cursor.Lists i (p + 1)) Pull.Idle; core = came.core },
          goes-there tell start lines n line new (event.List i p) (Cursor.Lists i p) w1 came (Some (Cursor.Lists i (p + 1))) goes_there,
          record {
            stands = record {
              known_is = due.stands.known_is;
              first = refl;
              at = refl;
              idle = refl;
              event = refl;
              unfailed = due.stands.unfailed;
            };
            session_is = refl;
            number_is = refl;
          },
        )

    ended : next ≡ None → IsSame old new → new.txns ≡ old.txns → (w' : World) × Reached tell start lines (n + 1) new w'
    ended stops same txns = came-ended tell start lines n line new (event.List i p) (Cursor.Lists i p) w1 came stops (table-names line.form is) due.stands.unfailed
        (subst (KnowsAll lines (n + 1) new) (sym due.stands.known_is)
        (knows-more tell start lines n line at old w r new (ap begun_by is) same txns))

    -- it was the last page
    pub listed-last : is_rows came.reply ≡ true → old.pages ≤ p + 1 → IsSame old new → new.txns ≡ old.txns
        → (w' : World) × Reached tell start lines (n + 1) new w'
    listed-last rows le = ended (goes came.core w1.told.known line i p came.reply rows
        ∙ ap (λ (b : Bool). cond {A = Option Cursor} b (Some (Cursor.Lists i (p + 1))) None) (ap (ltb (p + 1)) pages-known ∙ le-ltb (p + 1) old.pages le))

    -- or the list was refused
    pub listed-not : is_rows came.reply ≡ false → IsSame old new → new.txns ≡ old.txns → (w' : World) × Reached tell start lines (n + 1) new w'
    listed-not none = ended (goes-not came.core w1.told.known line i p came.reply none)

-- ---- as the code has it

module _ {G : Type 0} (tell : Telling G) (old : Driver G) (line : Line) (is : line.form ≡ form.Table) (i : ℕ) where
  -- wherever the line stands, page p is listed next
  abbrev InTable : Driver G → ℕ → Type 0
  InTable new p = ListsNext tell old new line i p

  pub table-first : i ≡ lister_by (status_in old.hall.body) old.insts → InTable old 0
  table-first found start w lines n at d r = (
    w,
    r.there,
    first-page tell start lines n line at is old w r i (finds-lister tell start lines n line at is old w r i d.insts_most found),
  )

  -- the complex fits a core when it is asked who is up
  pub table-fits : AtLine tell old line → (w : Core) × fits_in tell.seen tell.leaves old.hall.body w
  table-fits a = (a.world.core, fits-now tell a.start old.hall a.world a.reached.there)

  module _ (here : Driver G) (p : ℕ) (on : InTable here p) where
    pub table-due : AtLine tell old line → DueIn tell here.hall line.session line.number (event.List i p)
    table-due a =
        let h = on a.start a.world a.lines a.n a.next a.driven a.reached in
        record {
          start = a.start;
          world = h.0;
          known = a.world.told.known;
          line = line;
          rest = works_of (drop (a.n + 1) a.lines);
          cursor = Cursor.Lists i p;
          there = h.1;
          due = h.2;
        }

    pub table-some : (new : Driver G) → OperatesSome tell here.hall new.hall line.session line.number (event.List i p) → DrivesSome tell old new line
    table-some new some start w lines n at d r =
        let h = on start w lines n at d r in
        some start h.0 w.told.known line (works_of (drop (n + 1) lines)) (Cursor.Lists i p) h.1 h.2

    module _ (new : Driver G) (came : Operates tell here.hall new.hall line.session line.number (event.List i p)) where
      it-came : (start : Start G) (w : World) (lines : List Line) (n : ℕ) (at : slice_get lines n ≡ Some line)
          (d : AreDriven lines old.insts old.pages) (r : Reached tell start lines n old w)
          → Came tell new.hall line.session line.number (event.List i p) line (works_of (drop (n + 1) lines)) (Cursor.Lists i p) start
          (on start w lines n at d r).0
      it-came start w lines n at d r =
          let h = on start w lines n at d r in
          came start h.0 w.told.known line (works_of (drop (n + 1) lines)) (Cursor.Lists i p) h.1 h.2

      abbrev Told : Bool → Type 0
      Told b = (before : List Entry) (r : Reply)
          → new.hall.book.entries ≡ before ++ record { session = line.session; line = line.number; event = event.List i p; reply = r } ∷ [] → is_rows r ≡ b

      pub table-next : Told true → p + 1 < old.pages → InTable new (p + 1)
      table-next rows lt start w lines n at d r =
          let h = on start w lines n at d r in
          let c = it-came start w lines n at d r in
          listed-on tell start lines n line at is old w r i new p h.0 h.2 c (rows c.before c.reply c.noted) lt

      pub table-last : Told true → old.pages ≤ p + 1 → IsSame old new → new.txns ≡ old.txns → DrivesLine tell old new line
      table-last rows le same txns start w lines n at d r =
          let h = on start w lines n at d r in
          let c = it-came start w lines n at d r in
          listed-last tell start lines n line at is old w r i new p h.0 h.2 c (rows c.before c.reply c.noted) le same txns

      pub table-refused : Told false → IsSame old new → new.txns ≡ old.txns → DrivesLine tell old new line
      table-refused none same txns start w lines n at d r =
          let h = on start w lines n at d r in
          let c = it-came start w lines n at d r in
          listed-not tell start lines n line at is old w r i new p h.0 h.2 c (none c.before c.reply c.noted) same txns
