-- The first event of a line that rolls a transaction back, and what such lines have. It serves the goals of `roll_back` in driver.rt.
use Rattle.std.proofs.Common.{◌≡◌, ℕ, ◌+◌, Bool, true, false, cond, List, [], ◌∷◌, ◌++◌, drop, refl, sym, ap, ◌∙◌, subst}
use Rattle.std.specs.Prelude.{Option, None, Some, IsSome, option_map, slice_get}
use Rattle.sd_base.specs.declared.ids.TxnId.{TxnId}
use Rattle.sd_model.specs.declared.event.Entry.{Entry}
use Rattle.sd_model.specs.declared.event.Event.{Event}
use Rattle.sd_model.specs.declared.event.Event.TheVariants as event
use Rattle.sd_model.specs.declared.event.Reply.{Reply}
use Rattle.sd_model.specs.declared.event.Reply.TheVariants as reply
use Rattle.sd_model.specs.Step.{Step}
use Rattle.sd_script.specs.declared.line.Form.{Form}
use Rattle.sd_script.specs.declared.line.Form.TheVariants as form
use Rattle.sd_script.specs.declared.line.Line.{Line}
use Rattle.sd_script.specs.Order.{begun_by}
use Rattle.sd_world.specs.PageCauses.{names_page}
use Rattle.sd_world.specs.Serving.{Core, Telling}
use Rattle.sd_hall.specs.Served.{IsServed}
use Rattle.sd_drive.specs.declared.driver.Driver.{Driver}
use Rattle.sd_model.specs.Replies.{is_did}
use Rattle.sd_drive.specs.Driving.{Cursor, Known, Work, World, goes_on, stays, works_of}
use Rattle.sd_drive.specs.Lines.{Names, Way, event_of, named_by, rolls_back, undo_of, way_of}
use Rattle.sd_drive.specs.Operating.{Came, DueIn, IsDueFor, Operates, OperatesSome}
use Rattle.sd_drive.specs.Pulls.{Pull}
use Rattle.sd_drive.specs.Reaching.{AreDriven, AtLine, DrivesLine, DrivesSome, IsRolledBack, IsSame, Knows, KnowsAll, Reached, RollsBack, UndoesAll, UndoesSome, at_ordinal, name_in, ordinal_in}
use Rattle.sd_drive.specs.Running.{Start}
use Rattle.sd_drive.proofs.Acts.{back-done}
use Rattle.sd_drive.proofs.Measures.{unlike}
use Rattle.sd_drive.proofs.Lines.{came-ended, goes-there, is-named, is-served, knows-more, knows-now, once-due, passes}

-- ---- lines that roll back

pub rolls-named : (f : Form) → rolls_back f ≡ true → IsSome (ordinal_in f)
rolls-named (form.Back name o mark) rolls = refl
rolls-named (form.Rollback name o) rolls = refl
rolls-named f rolls = unlike rolls refl

rolls-single : (f : Form) → rolls_back f ≡ true → way_of f ≡ Way.Single
rolls-single (form.Back name o mark) rolls = refl
rolls-single (form.Rollback name o) rolls = refl
rolls-single f rolls = unlike rolls refl

rolls-begins : (f : Form) → rolls_back f ≡ true → begun_by f ≡ []
rolls-begins (form.Back name o mark) rolls = refl
rolls-begins (form.Rollback name o) rolls = refl
rolls-begins f rolls = unlike rolls refl

pub rolls-names : (f : Form) → rolls_back f ≡ true → (r : Reply) (names : Names) → named_by f r names ≡ names
rolls-names (form.Back name o mark) rolls r names = refl
rolls-names (form.Rollback name o) rolls r names = refl
rolls-names f rolls r names = unlike rolls refl

-- the transaction of its name is that of its ordinal
name-known : (txns : List (Option TxnId)) (names : Names) (f : Form) (x : Option TxnId) → rolls_back f ≡ true → Knows txns names f
    → at_ordinal txns (ordinal_in f) ≡ x → names (name_in f) ≡ x
name-known txns names (form.Back name o mark) x rolls knows is = sym (knows o refl) ∙ is
name-known txns names (form.Rollback name o) x rolls knows is = sym (knows o refl) ∙ is
name-known txns names f x rolls knows is = unlike rolls refl

rolls-none : (names : Names) (f : Form) → rolls_back f ≡ true → names (name_in f) ≡ None → event_of names f ≡ None
rolls-none names (form.Back name o mark) rolls none = ap (option_map (λ t. event.Back t (Some mark))) none
rolls-none names (form.Rollback name o) rolls none = ap (option_map (λ t. event.Back t None)) none
rolls-none names f rolls none = unlike rolls refl

this : (a b : Event) → Some a ≡ Some b → a ≡ b
this a b is = cc

-- its first event is a Back, and its other ones are undos
rolls-first : (names : Names) (f : Form) (t : TxnId) (e : Event) → rolls_back f ≡ true → names (name_in f) ≡ Some t → event_of names f ≡ Some e
    → (mark : Option (List ℕ)) × (event.Back t mark ≡ e)
rolls-first names (form.Back name o mark) t e rolls named is =
    (Some mark, this (event.Back t (Some mark)) e (sym (ap (option_map (λ u. event.Back u (Some mark))) named) ∙ is))
rolls-first names (form.Rollback name o) t e rolls named is =
    (None, this (event.Back t None) e (sym (ap (option_map (λ u. event.Back u None)) named) ∙ is))
rolls-first names f t e rolls named is = unlike rolls refl

rolls-undo : (names : Names) (f : Form) (t : TxnId) → rolls_back f ≡ true → names (name_in f) ≡ Some t → undo_of names f ≡ Some (event.Undo t)
rolls-undo names (form.Back name o mark) t rolls named = ap (option_map (λ u. event.Undo u)) named
rolls-undo names (form.Rollback name o) t rolls named = ap (option_map (λ u. event.Undo u)) named
rolls-undo names f t rolls named = unlike rolls refl

pub undo-rolls : (names : Names) (f : Form) (e : Event) → undo_of names f ≡ Some e → rolls_back f ≡ true
undo-rolls names (form.Back name o mark) e is = refl
undo-rolls names (form.Rollback name o) e is = refl
undo-rolls names f e is = absurd (cc)

-- ---- how it goes on

did-is : (r : Reply) → is_did r ≡ true → r ≡ reply.Did
did-is reply.Did did = refl
did-is r did = unlike did refl

back-goes : (w : Core) (known : Known) (line : Line) → rolls_back line.form ≡ true
    → goes_on w known (Work.Do line) Cursor.Once reply.Did ≡ Some Cursor.Undoes
back-goes w known line rolls = ap (λ (b : Bool). cond {A = Option Cursor} b (Some Cursor.Undoes) None) rolls

back-ends : (w : Core) (known : Known) (line : Line) (r : Reply) → is_did r ≡ false → goes_on w known (Work.Do line) Cursor.Once r ≡ None
back-ends w known line reply.Did did = absurd (cc)
back-ends w known line r did = refl

pub none-is : (o : Option TxnId) → ((t : TxnId) → o ≡ Some t → ⊥) → o ≡ None
none-is None none = refl
none-is (Some t) none = absurd (none t refl)

-- ---- the first event

module _ {G : Type 0} (tell : Telling G) (old : Driver G) (line : Line) (rolls : rolls_back line.form ≡ true) where
  -- whatever holds of the names that are known
  named-as : (x : Option TxnId) → at_ordinal old.txns.items (ordinal_in line.form) ≡ x
      → (start : Start G) (w : World) (lines : List Line) (n : ℕ) → slice_get lines n ≡ Some line → AreDriven lines old.insts old.pages
      → Reached tell start lines n old w → w.told.known.names (name_in line.form) ≡ x
  named-as x is start w lines n at d r = name-known old.txns.items w.told.known.names line.form x rolls
      (knows-now tell start lines n line.form (d.each n line at).follows old w r) is

  -- a name without a transaction has nothing to roll back
  pub roll-none : at_ordinal old.txns.items (ordinal_in line.form) ≡ None → DrivesLine tell old old line
  roll-none none start w lines n at d r = (
    w,
    passes tell start lines n line at old w r (rolls-single line.form rolls) (rolls-begins line.form rolls)
        (rolls-none w.told.known.names line.form rolls (named-as None none start w lines n at d r)),
  )

  module _ (t : TxnId) (is : at_ordinal old.txns.items (ordinal_in line.form) ≡ Some t) (e : Event)
      (first : (names : Names) → names (name_in line.form) ≡ Some t → event_of names line.form ≡ Some e) where
    module _ (start : Start G) (w : World) (lines : List Line) (n : ℕ) (at : slice_get lines n ≡ Some line) (d : AreDriven lines old.insts old.pages)
        (r : Reached tell start lines n old w) where
      abbrev rest : List Work
      rest = works_of (drop (n + 1) lines)

      name-is : w.told.known.names (name_in line.form) ≡ Some t
      name-is = named-as (Some t) is start w lines n at d r

      event-is : event_of w.told.known.names line.form ≡ Some e
      event-is = first w.told.known.names name-is

      is-back : (mark : Option (List ℕ)) × (event.Back t mark ≡ e)
      is-back = rolls-first w.told.known.names line.form t e rolls name-is event-is

      due : IsDueFor line.session line.number e w.told.known line rest Cursor.Once w
      due = once-due tell start lines n line at old w r e (rolls-single line.form rolls) event-is

      knows : (new : Driver G) → IsSame old new → new.txns ≡ old.txns → KnowsAll lines (n + 1) new w.told.known
      knows new same txns = knows-more tell start lines n line at old w r new (rolls-begins line.form rolls) same txns

      module _ (new : Driver G) (came : Came tell new.hall line.session line.number e line rest Cursor.Once start w) where
        ended : is_did came.reply ≡ false → IsSame old new → new.txns ≡ old.txns → (w' : World) × Reached tell start lines (n + 1) new w'
        ended did same txns = came-ended tell start lines n line new e Cursor.Once w came
            (back-ends came.core w.told.known line came.reply did) (rolls-names line.form rolls) r.unfailed (knows new same txns)

        done : is_did came.reply ≡ true → IsSame old new → new.txns ≡ old.txns → (w' : World) × RollsBack tell start lines n line new t w'
        done did same txns =
            let is_done = did-is came.reply did in
            let m = came.core.scene.state in
            let goes = ap (goes_on came.core w.told.known (Work.Do line) Cursor.Once) is_done ∙ back-goes came.core w.told.known line rolls in (
              record { told = stays w.told (Work.Do line) rest Cursor.Undoes Pull.Idle; core = came.core },
              record {
                there = goes-there tell start lines n line new e Cursor.Once w came (Some Cursor.Undoes) goes;
                undoes = record {
                  stands = record {
                    known_is = refl;
                    first = refl;
                    at = refl;
                    idle = refl;
                    event = rolls-undo w.told.known.names line.form t rolls name-is;
                    unfailed = r.unfailed;
                  };
                  session_is = refl;
                  number_is = refl;
                };
                goes = back-done came.mid.scene.state t m is-back.0
                    (subst (λ (x : Event). Step came.mid.scene.state x reply.Did m) (sym is-back.1)
                    (subst (λ (x : Reply). Step came.mid.scene.state e x m) is_done came.turns.plays.step));
                knows = knows new same txns;
              },
            )

    pub back-served : AtLine tell old line → IsServed e
    back-served a =
        is-served a.world.told.known.names line.form e (event-is a.start a.world a.lines a.n a.next a.driven a.reached)

    pub back-named : AtLine tell old line → names_page e ≡ true
    back-named a =
        is-named a.world.told.known.names line.form e (event-is a.start a.world a.lines a.n a.next a.driven a.reached)

    pub back-due : AtLine tell old line → DueIn tell old.hall line.session line.number e
    back-due a = record {
      start = a.start;
      world = a.world;
      known = a.world.told.known;
      line = line;
      rest = works_of (drop (a.n + 1) a.lines);
      cursor = Cursor.Once;
      there = a.reached.there;
      due = due a.start a.world a.lines a.n a.next a.driven a.reached;
    }

    module _ (new : Driver G) where
      pub back-some : OperatesSome tell old.hall new.hall line.session line.number e → DrivesSome tell old new line
      back-some some start w lines n at d r =
          some start w w.told.known line (works_of (drop (n + 1) lines)) Cursor.Once r.there (due start w lines n at d r)

      module _ (same : IsSame old new) (txns : new.txns ≡ old.txns) (came : Operates tell old.hall new.hall line.session line.number e) where
        it-came : (start : Start G) (w : World) (lines : List Line) (n : ℕ) (at : slice_get lines n ≡ Some line) (d : AreDriven lines old.insts old.pages)
            (r : Reached tell start lines n old w)
            → Came tell new.hall line.session line.number e line (works_of (drop (n + 1) lines)) Cursor.Once start w
        it-came start w lines n at d r =
            came start w w.told.known line (works_of (drop (n + 1) lines)) Cursor.Once r.there (due start w lines n at d r)

        abbrev Told : Bool → Type 0
        Told b = (before : List Entry) (r : Reply)
            → new.hall.book.entries ≡ before ++ record { session = line.session; line = line.number; event = e; reply = r } ∷ [] → is_did r ≡ b

        -- it was refused
        pub back-not : Told false → DrivesLine tell old new line
        back-not told start w lines n at d r =
            let c = it-came start w lines n at d r in ended start w lines n at d r new c (told c.before c.reply c.noted) same txns

        module _ (told : Told true) where
          rolled : (start : Start G) (w : World) (lines : List Line) (n : ℕ) → slice_get lines n ≡ Some line → AreDriven lines old.insts old.pages
              → Reached tell start lines n old w → (w' : World) × RollsBack tell start lines n line new t w'
          rolled start w lines n at d r =
              let c = it-came start w lines n at d r in done start w lines n at d r new c (told c.before c.reply c.noted) same txns

          pub back-in : AtLine tell old line → IsRolledBack tell new line t
          back-in a =
              let h = rolled a.start a.world a.lines a.n a.next a.driven a.reached in
              record { start = a.start; world = h.0; lines = a.lines; n = a.n; rolls = h.1 }

          -- and is undone then
          pub back-all : (last : Driver G) → UndoesAll tell new last line t → DrivesLine tell old last line
          back-all last all start w lines n at d r = let h = rolled start w lines n at d r in all start h.0 lines n h.1

          pub back-part : (last : Driver G) → UndoesSome tell new last line t → DrivesSome tell old last line
          back-part last some start w lines n at d r = let h = rolled start w lines n at d r in some start h.0 lines n h.1
