-- A line's event is due, and the line is done behind its reply. It serves the goals of driver.rt.
use Rattle.std.proofs.Common.{◌≡◌, ℕ, ◌+◌, ◌<◌, Bool, true, false, cond, List, [], ◌∷◌, ◌++◌, length, take, drop, refl, sym, ap, ap₂, ◌∙◌, subst}
use Rattle.std.specs.Prelude.{Option, None, Some, is_some, option_map, slice_get}
use Rattle.std.proofs.lemmas.List.{append-nil}
use Rattle.sd_base.specs.declared.ids.TxnId.{TxnId}
use Rattle.sd_base.specs.declared.trouble.Trouble.{Trouble}
use Rattle.sd_model.specs.declared.event.Event.{Event}
use Rattle.sd_model.specs.declared.event.Event.TheVariants as event
use Rattle.sd_model.specs.declared.event.Reply.{Reply}
use Rattle.sd_model.specs.declared.event.Reply.TheVariants as reply
use Rattle.sd_model.specs.State.{State}
use Rattle.sd_script.specs.declared.line.Form.{Form}
use Rattle.sd_script.specs.declared.line.Form.TheVariants as form
use Rattle.sd_script.specs.declared.line.Line.{Line}
use Rattle.sd_script.specs.Order.{Follows, begun, begun_by, ordinal_of}
use Rattle.sd_world.specs.PageCauses.{names_page}
use Rattle.sd_world.specs.Serving.{Core, Telling}
use Rattle.sd_hall.specs.Served.{IsServed}
use Rattle.sd_drive.specs.declared.driver.Driver.{Driver}
use Rattle.sd_drive.specs.Driven.{IsIn}
use Rattle.sd_drive.specs.Driving.{Cursor, Known, Work, World, ahead, begins, cursor_in, followed, goes_on, left_from, start_of, works_of}
use Rattle.sd_drive.specs.Lines.{Names, Way, capacity_of, event_of, named_by, rolls_back, way_of}
use Rattle.sd_drive.specs.Operating.{Came, IsDueFor}
use Rattle.sd_drive.specs.Reaching.{IsPlain, IsSame, Knows, KnowsAll, Reached, at_ordinal, name_in, named, ordinal_in}
use Rattle.sd_drive.proofs.Naming.{begun-more, drop-at, ordinal-within}
use Rattle.sd_drive.specs.Running.{Start}

-- ---- what forms have

pub plain-single : (f : Form) → IsPlain f → way_of f ≡ Way.Single
plain-single form.Table plain = absurd plain
plain-single form.RecoverAll plain = absurd plain
plain-single (form.Recover inst by most) plain = absurd plain
plain-single form.JoinAll plain = absurd plain
plain-single f plain = refl

plain-begins : (f : Form) → IsPlain f → begun_by f ≡ []
plain-begins (form.Begin inst name) plain = absurd plain
plain-begins f plain = refl

pub plain-names : (f : Form) → IsPlain f → (r : Reply) (names : Names) → named_by f r names ≡ names
plain-names (form.Begin inst name) plain r names = absurd plain
plain-names f plain r names = refl

plain-rolls : (f : Form) → IsPlain f → rolls_back f ≡ false
plain-rolls (form.Back name o mark) plain = absurd plain
plain-rolls (form.Rollback name o) plain = absurd plain
plain-rolls f plain = refl

-- a line that doesn't roll back ends behind its one event
pub once-ends : (w : Core) (known : Known) (line : Line) (r : Reply) → rolls_back line.form ≡ false
    → goes_on w known (Work.Do line) Cursor.Once r ≡ None
once-ends w known line reply.Did single = ap (λ (b : Bool). cond {A = Option Cursor} b (Some Cursor.Undoes) None) single
once-ends w known line r single = refl

pub plain-else : (f : Form) → ((inst : ℕ) (name : List ℕ) → f ≡ form.Begin inst name → ⊥) → (f ≡ form.Table → ⊥)
    → ((inst by : ℕ) (most : Option ℕ) → f ≡ form.Recover inst by most → ⊥) → (f ≡ form.RecoverAll → ⊥) → (f ≡ form.JoinAll → ⊥)
    → ((name : List ℕ) (o : ℕ) (mark : List ℕ) → f ≡ form.Back name o mark → ⊥) → ((name : List ℕ) (o : ℕ) → f ≡ form.Rollback name o → ⊥) → IsPlain f
plain-else (form.Begin inst name) begin table one recover join back rollback = begin inst name refl
plain-else form.Table begin table one recover join back rollback = table refl
plain-else (form.Recover inst by most) begin table one recover join back rollback = one inst by most refl
plain-else form.RecoverAll begin table one recover join back rollback = recover refl
plain-else form.JoinAll begin table one recover join back rollback = join refl
plain-else (form.Back name o mark) begin table one recover join back rollback = back name o mark refl
plain-else (form.Rollback name o) begin table one recover join back rollback = rollback name o refl
plain-else f begin table one recover join back rollback = tt

-- a driver with the same transactions knows as much
pub knows-as : {G : Type 0} (lines : List Line) (n : ℕ) (old new : Driver G) (known : Known) → IsSame old new → new.txns ≡ old.txns
    → KnowsAll lines n old known → KnowsAll lines n new known
knows-as lines n old new known same txns k = record {
  insts = k.insts ∙ sym same.0;
  pages = k.pages ∙ sym same.1;
  names = λ q. ap (λ ts. named (begun (take n lines)) ts.items q) txns ∙ k.names q;
  count = ap (λ ts. length ts.items) txns ∙ k.count;
}

-- ---- one event of a line that has one at most

starts : (known : Known) (m : State) (f : Form) (e : Event) → way_of f ≡ Way.Single → event_of known.names f ≡ Some e
    → begins (way_of f) m known f ≡ Some Cursor.Once
starts known m f e single is =
    ap (λ (way : Way). begins way m known f) single ∙ ap (λ (o : Option Event). option_map (λ (x : Event). Cursor.Once) o) is

past : (known : Known) (m : State) (f : Form) → way_of f ≡ Way.Single → event_of known.names f ≡ None → begins (way_of f) m known f ≡ None
past known m f single is =
    ap (λ (way : Way). begins way m known f) single ∙ ap (λ (o : Option Event). option_map (λ (x : Event). Cursor.Once) o) is

module _ {G : Type 0} (tell : Telling G) (start : Start G) (lines : List Line) (n : ℕ) (line : Line) (at : slice_get lines n ≡ Some line)
    (old : Driver G) (w : World) (r : Reached tell start lines n old w) where
  abbrev known : Known
  known = w.told.known

  abbrev rest : List Work
  rest = works_of (drop (n + 1) lines)

  abbrev m : State
  m = w.core.scene.state

  left-here : ahead m known w.told.left ≡ ahead m known (Work.Do line ∷ rest)
  left-here = r.left ∙ ap (λ (ls : List Line). ahead m known (works_of ls)) (drop-at lines n line at)

  -- where it begins it is the next one
  pub first-here : is_some (start_of m known (Work.Do line)) ≡ true → left_from m known w.told.cursor w.told.left ≡ Work.Do line ∷ rest
  first-here has_one = ap (λ (o : Option Cursor). left_from m known o w.told.left) r.rests ∙ left-here
      ∙ ap (λ (b : Bool). cond {A = List Work} b (Work.Do line ∷ rest) (ahead m known rest)) has_one

  -- its event is due
  pub once-due : (e : Event) → way_of line.form ≡ Way.Single → event_of known.names line.form ≡ Some e
      → IsDueFor line.session line.number e known line rest Cursor.Once w
  once-due e single is =
      let starts_so = starts known m line.form e single is in
      record {
        stands = record {
          known_is = refl;
          first = first-here (ap (λ (o : Option Cursor). is_some o) starts_so);
          at = subst (λ (o : Option Cursor). cursor_in m known (Work.Do line) o ≡ Some Cursor.Once) (sym r.rests) starts_so;
          idle = r.idle;
          event = is;
          unfailed = r.unfailed;
        };
        session_is = refl;
        number_is = refl;
      }

  -- behind a line that begins no transaction the driver knows what it knew
  pub knows-more : (new : Driver G) → begun_by line.form ≡ [] → IsSame old new → new.txns ≡ old.txns → KnowsAll lines (n + 1) new known
  knows-more new none same txns =
      let begun_same = begun-more lines n line at ∙ ap (λ l. begun (take n lines) ++ l) none ∙ append-nil (begun (take n lines)) in
      let k = r.knows in
      record {
        insts = k.insts ∙ sym same.0;
        pages = k.pages ∙ sym same.1;
        names = λ q. ap₂ (λ l ts. named l ts.items q) begun_same txns ∙ k.names q;
        count = ap (λ ts. length ts.items) txns ∙ k.count ∙ ap (λ l. length l) (sym begun_same);
      }

  -- it has none
  pub passes-by : start_of m known (Work.Do line) ≡ None → begun_by line.form ≡ [] → Reached tell start lines (n + 1) old w
  passes-by none unbegun = record {
    there = r.there;
    rests = r.rests;
    idle = r.idle;
    unfailed = r.unfailed;
    left = left-here ∙ ap (λ (o : Option Cursor). cond {A = List Work} (is_some o) (Work.Do line ∷ rest) (ahead m known rest)) none;
    knows = knows-more old unbegun (refl, refl) refl;
  }

  pub passes : way_of line.form ≡ Way.Single → begun_by line.form ≡ [] → event_of known.names line.form ≡ None → Reached tell start lines (n + 1) old w
  passes single unbegun none = passes-by (past known m line.form single none) unbegun

  pub passed : IsPlain line.form → event_of known.names line.form ≡ None → Reached tell start lines (n + 1) old w
  passed plain none = passes (plain-single line.form plain) (plain-begins line.form plain) none

-- the last event of a line that begins no transaction came
module _ {G : Type 0} (tell : Telling G) (start : Start G) (lines : List Line) (n : ℕ) (line : Line) (new : Driver G) (e : Event) (c : Cursor)
    (w : World) (came : Came tell new.hall line.session line.number e line (works_of (drop (n + 1) lines)) c start w) where
  abbrev next : Option Cursor
  next = goes_on came.core w.told.known (Work.Do line) c came.reply

  abbrev then-at : Option Cursor → World
  then-at o = record { told = followed w.told (Work.Do line) (works_of (drop (n + 1) lines)) came.reply o; core = came.core }

  pub goes-there : (o : Option Cursor) → next ≡ o → IsIn tell start new.hall (then-at o)
  goes-there o same = subst (λ (x : Option Cursor). IsIn tell start new.hall (then-at x)) same came.there

  pub came-ended : next ≡ None → ((r : Reply) (names : Names) → named_by line.form r names ≡ names) → w.told.failed ≡ false
      → KnowsAll lines (n + 1) new w.told.known → (w' : World) × Reached tell start lines (n + 1) new w'
  came-ended ends unnamed unfailed knows = (
    then-at None,
    record {
      there = goes-there None ends;
      rests = refl;
      idle = refl;
      unfailed = unfailed;
      left = refl;
      knows = subst (KnowsAll lines (n + 1) new)
          (sym (ap (λ (names : Names). record w.told.known { names = names }) (unnamed came.reply w.told.known.names))) knows;
    },
  )

module _ {G : Type 0} (tell : Telling G) (start : Start G) (lines : List Line) (n : ℕ) (line : Line) (at : slice_get lines n ≡ Some line)
    (old : Driver G) (w : World) (r : Reached tell start lines n old w) where
  -- its one event came
  pub came-plain : (new : Driver G) (e : Event) → IsPlain line.form → IsSame old new → new.txns ≡ old.txns
      → Came tell new.hall line.session line.number e line (works_of (drop (n + 1) lines)) Cursor.Once start w
      → (w' : World) × Reached tell start lines (n + 1) new w'
  came-plain new e plain same txns came =
      came-ended tell start lines n line new e Cursor.Once w came
      (once-ends came.core w.told.known line came.reply (plain-rolls line.form plain)) (plain-names line.form plain)
      r.unfailed (knows-more tell start lines n line at old w r new (plain-begins line.form plain) same txns)

-- ---- events of lines are served

mapped : (g : TxnId → Event) (x : Option TxnId) (e : Event) → option_map g x ≡ Some e → (t : TxnId) × (x ≡ Some t) × (g t ≡ e)
mapped g None e is = absurd (cc)
mapped g (Some t) e is = (t, refl, same (g t) e is)
  where
    same : (a b : Event) → Some a ≡ Some b → a ≡ b
    same a b is = cc

this : (a b : Event) → Some a ≡ Some b → a ≡ b
this a b is = cc

served-by : (names : Names) (g : TxnId → Event) → ((t : TxnId) → IsServed (g t)) → (name : List ℕ) (e : Event) → option_map g (names name) ≡ Some e → IsServed e
served-by names g all name e is = let t = mapped g (names name) e is in subst IsServed t.2 (all t.0)

pub is-served : (names : Names) (f : Form) (e : Event) → event_of names f ≡ Some e → IsServed e
is-served names (form.Complex insts pages frames) e is = absurd (cc)
is-served names (form.Begin inst name) e is = subst IsServed (this (event.Begin inst) e is) tt
is-served names (form.Read name o r) e is = served-by names (λ t. event.Read t r) (λ t. tt) name e is
is-served names (form.Write name o r v) e is = served-by names (λ t. event.Write t r v) (λ t. tt) name e is
is-served names (form.Add name o r by) e is = served-by names (λ t. event.Add t r by) (λ t. tt) name e is
is-served names (form.Insert name o p v c) e is = served-by names (λ t. event.Insert t p v (capacity_of v c)) (λ t. tt) name e is
is-served names (form.Delete name o r) e is = served-by names (λ t. event.Delete t r) (λ t. tt) name e is
is-served names (form.Save name o k) e is = served-by names (λ t. event.Save t k) (λ t. tt) name e is
is-served names (form.Back name o k) e is = served-by names (λ t. event.Back t (Some k)) (λ t. tt) name e is
is-served names (form.Rollback name o) e is = served-by names (λ t. event.Back t None) (λ t. tt) name e is
is-served names (form.Commit name o) e is = served-by names (λ t. event.Commit t) (λ t. tt) name e is
is-served names (form.Ask i p mode) e is = subst IsServed (this (event.Ask i p mode) e is) tt
is-served names (form.Give i p) e is = subst IsServed (this (event.Give i p) e is) tt
is-served names (form.Take i p) e is = subst IsServed (this (event.Take i p) e is) tt
is-served names (form.Evict i p) e is = subst IsServed (this (event.Evict i p) e is) tt
is-served names (form.Flush i p) e is = subst IsServed (this (event.Flush i p) e is) tt
is-served names (form.Force i) e is = subst IsServed (this (event.Force i) e is) tt
is-served names (form.CheckBegin i) e is = subst IsServed (this (event.CheckBegin i) e is) tt
is-served names (form.CheckEnd i) e is = subst IsServed (this (event.CheckEnd i) e is) tt
is-served names (form.Fail i) e is = subst IsServed (this (event.Fail i) e is) tt
is-served names (form.Fuse k) e is = subst IsServed (this (event.Arm (Trouble.Fuse k)) e is) tt
is-served names (form.Fault k) e is = subst IsServed (this (event.Arm (Trouble.Fault k)) e is) tt
is-served names (form.FailAll pick) e is = subst IsServed (this (event.FailAll pick) e is) tt
is-served names form.Reopen e is = subst IsServed (this event.Reopen e is) tt
is-served names (form.Recover i by most) e is = absurd (cc)
is-served names (form.Join i) e is = subst IsServed (this (event.Join i) e is) tt
is-served names form.RecoverAll e is = absurd (cc)
is-served names form.JoinAll e is = absurd (cc)
is-served names (form.Where p) e is = subst IsServed (this (event.Show p) e is) tt
is-served names form.Table e is = absurd (cc)

-- ---- and name the page that they need, where they need one

abbrev IsNamed : Event → Type 0
IsNamed e = names_page e ≡ true

named-by : (names : Names) (g : TxnId → Event) → ((t : TxnId) → IsNamed (g t)) → (name : List ℕ) (e : Event) → option_map g (names name) ≡ Some e → IsNamed e
named-by names g all name e is = let t = mapped g (names name) e is in subst IsNamed t.2 (all t.0)

pub is-named : (names : Names) (f : Form) (e : Event) → event_of names f ≡ Some e → names_page e ≡ true
is-named names (form.Complex insts pages frames) e is = absurd (cc)
is-named names (form.Begin inst name) e is = subst IsNamed (this (event.Begin inst) e is) refl
is-named names (form.Read name o r) e is = named-by names (λ t. event.Read t r) (λ t. refl) name e is
is-named names (form.Write name o r v) e is = named-by names (λ t. event.Write t r v) (λ t. refl) name e is
is-named names (form.Add name o r by) e is = named-by names (λ t. event.Add t r by) (λ t. refl) name e is
is-named names (form.Insert name o p v c) e is = named-by names (λ t. event.Insert t p v (capacity_of v c)) (λ t. refl) name e is
is-named names (form.Delete name o r) e is = named-by names (λ t. event.Delete t r) (λ t. refl) name e is
is-named names (form.Save name o k) e is = named-by names (λ t. event.Save t k) (λ t. refl) name e is
is-named names (form.Back name o k) e is = named-by names (λ t. event.Back t (Some k)) (λ t. refl) name e is
is-named names (form.Rollback name o) e is = named-by names (λ t. event.Back t None) (λ t. refl) name e is
is-named names (form.Commit name o) e is = named-by names (λ t. event.Commit t) (λ t. refl) name e is
is-named names (form.Ask i p mode) e is = subst IsNamed (this (event.Ask i p mode) e is) refl
is-named names (form.Give i p) e is = subst IsNamed (this (event.Give i p) e is) refl
is-named names (form.Take i p) e is = subst IsNamed (this (event.Take i p) e is) refl
is-named names (form.Evict i p) e is = subst IsNamed (this (event.Evict i p) e is) refl
is-named names (form.Flush i p) e is = subst IsNamed (this (event.Flush i p) e is) refl
is-named names (form.Force i) e is = subst IsNamed (this (event.Force i) e is) refl
is-named names (form.CheckBegin i) e is = subst IsNamed (this (event.CheckBegin i) e is) refl
is-named names (form.CheckEnd i) e is = subst IsNamed (this (event.CheckEnd i) e is) refl
is-named names (form.Fail i) e is = subst IsNamed (this (event.Fail i) e is) refl
is-named names (form.Fuse k) e is = subst IsNamed (this (event.Arm (Trouble.Fuse k)) e is) refl
is-named names (form.Fault k) e is = subst IsNamed (this (event.Arm (Trouble.Fault k)) e is) refl
is-named names (form.FailAll pick) e is = subst IsNamed (this (event.FailAll pick) e is) refl
is-named names form.Reopen e is = subst IsNamed (this event.Reopen e is) refl
is-named names (form.Recover i by most) e is = absurd (cc)
is-named names (form.Join i) e is = subst IsNamed (this (event.Join i) e is) refl
is-named names form.RecoverAll e is = absurd (cc)
is-named names form.JoinAll e is = absurd (cc)
is-named names (form.Where p) e is = subst IsNamed (this (event.Show p) e is) refl
is-named names form.Table e is = absurd (cc)

-- ---- ordinals

pub follows-ordinal : (before : List Line) (f : Form) (o : ℕ) → Follows before f → ordinal_in f ≡ Some o → ordinal_of (begun before) (name_in f) ≡ Some o
follows-ordinal before (form.Read name k r) o at is = at.0 ∙ is
follows-ordinal before (form.Write name k r v) o at is = at.0 ∙ is
follows-ordinal before (form.Add name k r by) o at is = at.0 ∙ is
follows-ordinal before (form.Insert name k p v c) o at is = at.0 ∙ is
follows-ordinal before (form.Delete name k r) o at is = at.0 ∙ is
follows-ordinal before (form.Save name k mark) o at is = at ∙ is
follows-ordinal before (form.Back name k mark) o at is = at ∙ is
follows-ordinal before (form.Rollback name k) o at is = at ∙ is
follows-ordinal before (form.Commit name k) o at is = at ∙ is
follows-ordinal before f o at is = absurd (cc)

module _ {G : Type 0} (tell : Telling G) (start : Start G) (lines : List Line) (n : ℕ) (f : Form) (at : Follows (take n lines) f)
    (old : Driver G) (w : World) (r : Reached tell start lines n old w) where
  pub ordinal-there : (o : ℕ) → ordinal_in f ≡ Some o → o < length old.txns.items
  ordinal-there o is = ordinal-within (begun (take n lines)) (name_in f) o (length old.txns.items) (follows-ordinal (take n lines) f o at is) r.knows.count

  pub knows-now : Knows old.txns.items w.told.known.names f
  knows-now o is = sym (ap (at_ordinal old.txns.items) (follows-ordinal (take n lines) f o at is)) ∙ r.knows.names (name_in f)
