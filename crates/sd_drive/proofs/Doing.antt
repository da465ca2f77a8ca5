-- A line of one event is driven, in whatever script it stands. It serves the goals of `event` and `begin` in driver.rt.
use Rattle.std.proofs.Common.{◌≡◌, ℕ, ◌+◌, ◌<◌, Bool, true, false, List, [], ◌∷◌, ◌++◌, length, take, drop, refl, sym, ap, subst}
use Rattle.std.specs.Prelude.{Option, None, Some, slice_get}
use Rattle.sd_model.specs.declared.event.Entry.{Entry}
use Rattle.sd_model.specs.declared.event.Event.{Event}
use Rattle.sd_model.specs.declared.event.Event.TheVariants as event
use Rattle.sd_model.specs.declared.event.Reply.{Reply}
use Rattle.sd_script.specs.declared.line.Form.TheVariants as form
use Rattle.sd_script.specs.declared.line.Line.{Line}
use Rattle.sd_script.specs.Forms.{IsForm}
use Rattle.sd_script.specs.Order.{Follows, begun, has_name}
use Rattle.sd_world.specs.PageCauses.{names_page}
use Rattle.sd_world.specs.Serving.{Telling}
use Rattle.sd_hall.specs.Served.{IsServed}
use Rattle.sd_drive.specs.declared.driver.Driver.{Driver}
use Rattle.sd_drive.specs.Driven.{IsIn}
use Rattle.sd_drive.specs.Driving.{Cursor, World, works_of}
use Rattle.sd_drive.specs.Lines.{Names, event_of, way_of}
use Rattle.sd_drive.specs.Operating.{Came, DueIn, IsDueFor, Operates, OperatesSome}
use Rattle.sd_drive.specs.Reaching.{AreDriven, AtLine, DrivesLine, DrivesSome, IsPlain, IsSame, IsShort, Knows, Reached, ordinal_in}
use Rattle.sd_model.specs.Replies.{began_by}
use Rattle.sd_drive.proofs.Begins.{came-begin}
use Rattle.sd_drive.proofs.Lines.{came-plain, is-named, is-served, knows-now, once-due, ordinal-there, passed, plain-single}
use Rattle.sd_drive.specs.Running.{Start}

module _ {G : Type 0} (tell : Telling G) (old : Driver G) (line : Line) where
  -- as far as memory went nothing came
  pub nothing-came : DrivesSome tell old old line
  nothing-came start w lines n at d r = (w, r.there)

  pub ordinal-known : AtLine tell old line → (o : ℕ) → ordinal_in line.form ≡ Some o → o < length old.txns.items
  ordinal-known a o is =
      ordinal-there tell a.start a.lines a.n line.form (a.driven.each a.n line a.next).follows old a.world a.reached o is

  pub short-there : AtLine tell old line → IsShort line.form
  short-there a = (a.driven.each a.n line a.next).short

  -- what the line asks for, by the transactions that the driver knows
  abbrev Asks : Option Event → Type 0
  Asks o = (names : Names) → Knows old.txns.items names line.form → o ≡ event_of names line.form

  asked-now : (o : Option Event) → Asks o → (start : Start G) (w : World) (lines : List Line) (n : ℕ) → slice_get lines n ≡ Some line → AreDriven lines old.insts old.pages
      → Reached tell start lines n old w → event_of w.told.known.names line.form ≡ o
  asked-now o asks start w lines n at d r =
      sym (asks w.told.known.names (knows-now tell start lines n line.form (d.each n line at).follows old w r))

  pub event-passed : IsPlain line.form → Asks None → DrivesLine tell old old line
  event-passed plain asks start w lines n at d r = (w, passed tell start lines n line at old w r plain (asked-now None asks start w lines n at d r))

  module _ (plain : IsPlain line.form) (e : Event) (asks : Asks (Some e)) where
    pub event-served : AtLine tell old line → IsServed e
    event-served a = is-served a.world.told.known.names line.form e
        (asked-now (Some e) asks a.start a.world a.lines a.n a.next a.driven a.reached)

    pub event-named : AtLine tell old line → names_page e ≡ true
    event-named a = is-named a.world.told.known.names line.form e
        (asked-now (Some e) asks a.start a.world a.lines a.n a.next a.driven a.reached)

    due-now : (start : Start G) (w : World) (lines : List Line) (n : ℕ) (at : slice_get lines n ≡ Some line) → AreDriven lines old.insts old.pages
        → Reached tell start lines n old w
        → IsDueFor line.session line.number e w.told.known line (works_of (drop (n + 1) lines)) Cursor.Once w
    due-now start w lines n at d r =
        once-due tell start lines n line at old w r e (plain-single line.form plain) (asked-now (Some e) asks start w lines n at d r)

    pub event-due : AtLine tell old line → DueIn tell old.hall line.session line.number e
    event-due a = record {
      start = a.start;
      world = a.world;
      known = a.world.told.known;
      line = line;
      rest = works_of (drop (a.n + 1) a.lines);
      cursor = Cursor.Once;
      there = a.reached.there;
      due = due-now a.start a.world a.lines a.n a.next a.driven a.reached;
    }

    module _ (new : Driver G) where
      pub event-came : IsSame old new → new.txns ≡ old.txns → Operates tell old.hall new.hall line.session line.number e
          → DrivesLine tell old new line
      event-came same txns came start w lines n at d r =
          came-plain tell start lines n line at old w r new e plain same txns
          (came start w w.told.known line (works_of (drop (n + 1) lines)) Cursor.Once r.there (due-now start w lines n at d r))

      pub event-some : OperatesSome tell old.hall new.hall line.session line.number e → DrivesSome tell old new line
      event-some some start w lines n at d r =
          some start w w.told.known line (works_of (drop (n + 1) lines)) Cursor.Once r.there (due-now start w lines n at d r)

  -- a line that begins a transaction
  module _ (inst : ℕ) (name : List ℕ) (is : line.form ≡ form.Begin inst name) where
    begin-due-now : (start : Start G) (w : World) (lines : List Line) (n : ℕ) (at : slice_get lines n ≡ Some line)
        → Reached tell start lines n old w
        → IsDueFor line.session line.number (event.Begin inst) w.told.known line (works_of (drop (n + 1) lines)) Cursor.Once w
    begin-due-now start w lines n at r = once-due tell start lines n line at old w r (event.Begin inst)
        (ap way_of is) (ap (event_of w.told.known.names) is)

    pub begin-due : AtLine tell old line → DueIn tell old.hall line.session line.number (event.Begin inst)
    begin-due a = record {
      start = a.start;
      world = a.world;
      known = a.world.told.known;
      line = line;
      rest = works_of (drop (a.n + 1) a.lines);
      cursor = Cursor.Once;
      there = a.reached.there;
      due = begin-due-now a.start a.world a.lines a.n a.next a.reached;
    }

    -- it came, and its transaction, if one began, is kept
    pub begin-came : (mid new : Driver G) → IsSame old new → new.hall ≡ mid.hall
        → Operates tell old.hall mid.hall line.session line.number (event.Begin inst)
        → ((before : List Entry) (r : Reply)
        → mid.hall.book.entries ≡ before ++ record { session = line.session; line = line.number; event = event.Begin inst; reply = r } ∷ []
        → new.txns.items ≡ old.txns.items ++ began_by r ∷ [])
        → DrivesLine tell old new line
    begin-came mid new same hall came kept start w lines n at d r =
        let may = d.each n line at in
        let follows = subst (Follows (take n lines)) is may.follows in
        let fits = subst IsForm is may.form in
        let c = came start w w.told.known line (works_of (drop (n + 1) lines)) Cursor.Once r.there (begin-due-now start w lines n at r) in
        let fresh : has_name (begun (take n lines)) name ≡ false = isnt (has_name (begun (take n lines)) name) follows.1 in
        came-begin tell start lines n line at old w r inst name is fresh new same
        (subst (λ h. Came tell h line.session line.number (event.Begin inst) line (works_of (drop (n + 1) lines)) Cursor.Once start w) (sym hall) c)
        (kept c.before c.reply c.noted)
      where
        isnt : (b : Bool) → (b ≡ true → ⊥) → b ≡ false
        isnt true h = absurd (h refl)
        isnt false h = refl

    pub begin-some : (new : Driver G) → OperatesSome tell old.hall new.hall line.session line.number (event.Begin inst) → DrivesSome tell old new line
    begin-some new some start w lines n at d r =
        some start w w.told.known line (works_of (drop (n + 1) lines)) Cursor.Once r.there (begin-due-now start w lines n at r)

    -- it came, and there was no memory to keep its transaction
    pub begin-lost : (mid new : Driver G) → new.hall ≡ mid.hall → Operates tell old.hall mid.hall line.session line.number (event.Begin inst)
        → DrivesSome tell old new line
    begin-lost mid new hall came start w lines n at d r =
        let c = came start w w.told.known line (works_of (drop (n + 1) lines)) Cursor.Once r.there (begin-due-now start w lines n at r) in
        back c.there
      where
        back : {x : World} → IsIn tell start mid.hall x → (w' : World) × IsIn tell start new.hall w'
        back {x} i = (x, subst (λ h. IsIn tell start h x) (sym hall) i)
