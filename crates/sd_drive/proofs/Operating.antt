-- An event of a line comes, and comes again behind a pull. It serves the goals of events.rt.
use Rattle.std.proofs.Common.{◌≡◌, ◌⊎◌, inl, inr, ⊎_elim, ℕ, Bool, true, false, List, [], refl, sym, ap, ◌∙◌, subst}
use Rattle.std.specs.Prelude.{Option, None, Some}
use Rattle.sd_base.specs.declared.place.Mode.{Mode}
use Rattle.sd_model.specs.declared.event.Entry.{Entry}
use Rattle.sd_model.specs.declared.event.Event.{Event}
use Rattle.sd_model.specs.declared.event.Reply.{Reply}
use Rattle.sd_pagelock.specs.Places.{holds_as}
use Rattle.sd_script.specs.declared.line.Line.{Line}
use Rattle.sd_world.specs.Serving.{Core, Telling}
use Rattle.sd_hall.specs.Bodies.{fits_in}
use Rattle.sd_hall.specs.declared.hall.Hall.{Hall}
use Rattle.sd_world.specs.PageCauses.{names_page}
use Rattle.sd_drive.specs.Driven.{HasEnded, IsIn, IsSomewhere, PulledIn, PullsAll, PullsSome, StaysIn}
use Rattle.sd_drive.specs.Driving.{Cursor, Known, Work, World, stays}
use Rattle.sd_drive.specs.Operating.{Came, DueIn, IsDueFor, Operates, OperatesSome}
use Rattle.sd_drive.specs.Pulls.{Pull, Puller, is_pulling}
use Rattle.sd_model.specs.Replies.{wants_page}
use Rattle.sd_drive.specs.Standing.{Pulling, Wants, need_of, wanted_of}
use Rattle.sd_drive.proofs.Acts.{page-stays, wants-stays}
use Rattle.sd_drive.proofs.Needs.{need-some, no-need, puller_in, wanted-none, wanted-some}
use Rattle.sd_drive.proofs.Steps.{Noted, moved, noted-some}
use Rattle.sd_drive.proofs.Telling.{own-again, own-done, own-pulls, pulling-begins}
use Rattle.sd_drive.specs.Running.{Start}

-- a pull that has ended stands still, and its instance has the page, unless it was in vain
pub has-ended : (for : Puller) (p : ℕ) (came : Bool) (next : Pull) (w : Core) → HasEnded for p came next w
    → ((next ≡ Pull.Idle) × (holds_as for.mode (w.pages.entry p) for.inst ≡ true)) ⊎ (next ≡ Pull.Ends)
has-ended for p true next w h = inl h
has-ended for p false next w h = inr h

module _ {G : Type 0} (tell : Telling G) (session number : ℕ) (e : Event) (names : names_page e ≡ true) (start : Start G) (w : World)
    (known : Known) (line : Line) (rest : List Work) (c : Cursor) (due : IsDueFor session number e known line rest c w) where
  abbrev entry : Reply → Entry
  entry r = record { session = session; line = number; event = e; reply = r }

  -- what it wanted where it came first
  abbrev Wanted : Reply → Option (ℕ × ℕ × Mode) → Type 0
  Wanted r o = wanted_of w.core.scene.state e r ≡ o

  -- no page is to be pulled
  pub came-once : (old new : Hall G) (r : Reply) → Noted tell old new (entry r) → IsIn tell start old w → Wanted r None
      → Came tell new session number e line rest c start w
  came-once old new r n i none =
      let m = moved tell old new (entry r) n start w i in
      record {
        reply = r;
        before = old.book.entries;
        noted = n.entries;
        mid = w.core;
        core = m.core;
        turns = m.turns;
        acts = λ t. refl;
        there = m.there _ (own-done known (Work.Do line) rest c e w due.stands m.core (entry r) due.session_is due.number_is refl
            (wanted-none w.core.scene.state e r names none));
      }

  -- the page is asked for
  pub came-first : (old new : Hall G) (r : Reply) → Noted tell old new (entry r) → IsIn tell start old w → (x : ℕ × ℕ × Mode) → Wanted r (Some x)
      → (w' : World) × IsIn tell start new w' × Pulling w (Work.Do line) rest c e (puller_in x) (Pull.Asks x.1) w'
  came-first old new r n i x wants =
      let m = moved tell old new (entry r) n start w i in
      let need = wanted-some w.core.scene.state e r x wants in
      let k = need-some w.core.scene.state e x need.1 in
      let same = wants-stays w.core.scene.state e r m.core.scene.state need.0 m.turns.plays.step in (
        record { told = stays w.told (Work.Do line) rest c (Pull.Asks x.1); core = m.core },
        m.there _ (own-pulls known (Work.Do line) rest c e w due.stands m.core (entry r) due.session_is due.number_is refl (puller_in x) (k.0 w.core.scene.state) x.1 k.2 need.0),
        pulling-begins known (Work.Do line) rest c e w due.stands m.core (entry r) due.session_is due.number_is refl (puller_in x) (k.0 w.core.scene.state) x.1 k.2 need.0 same,
      )

  -- the pull has ended, and the event came again
  pub came-again : (old new : Hall G) (r : Reply) → Noted tell old new (entry r) → (x : ℕ × ℕ × Mode) → need_of w.core.scene.state e ≡ Some x
      → (next : Pull) (w' : World) → IsIn tell start old w' → Pulling w (Work.Do line) rest c e (puller_in x) next w'
      → (came : Bool) → HasEnded (puller_in x) x.1 came next w'.core → Came tell new session number e line rest c start w
  came-again old new r n x need next w' i s came over =
      let m = moved tell old new (entry r) n start w' i in
      let k = need-some w.core.scene.state e x need in
      let page = k.1 ∙ sym (page-stays w.core.scene.state w'.core.scene.state e s.acts) in
      let ended = has-ended (puller_in x) x.1 came next w'.core over in
      let why : (wants_page r ≡ false) ⊎ (next ≡ Pull.Ends) = ⊎_elim
      (λ h. inl (no-need w'.core.scene.state w'.core.pages e (puller_in x) r m.core.scene.state m.core.pages k.3 (k.0 w'.core.scene.state)
      (subst (λ (p : ℕ). holds_as x.2 (w'.core.pages.entry p) x.0 ≡ true) page h.1) m.turns.moves))
      (λ h. inr h)
      ended in
      let rests : is_pulling next ≡ false = ⊎_elim (λ h. ap is_pulling h.0) (λ h. ap is_pulling h) ended in
      record {
        reply = r;
        before = old.book.entries;
        noted = n.entries;
        mid = w'.core;
        core = m.core;
        turns = m.turns;
        acts = s.acts;
        there = m.there _ (own-again w (Work.Do line) rest c e (puller_in x) next w' s m.core (entry r) s.borne rests due.session_is due.number_is refl why);
      }

  -- what the code found that it wanted
  pub wanted-is : (old new : Hall G) (r : Reply) → Noted tell old new (entry r) → IsIn tell start old w → (o : Option (ℕ × ℕ × Mode))
      → Wants tell new.body e r o → Wanted r o
  wanted-is old new r n i o wants = let m = moved tell old new (entry r) n start w i in sym (wants w.core m.core m.turns m.fits)

-- ---- as the code has it

module _ {G : Type 0} (tell : Telling G) (session number : ℕ) (e : Event) where
  pub stays-some : (old new : Hall G) → StaysIn tell old new → OperatesSome tell old new session number e
  stays-some old new stays start w known line rest c i due = (w, stays start w i)

  module _ (names : names_page e ≡ true) (old mid : Hall G) (r : Reply) (n : Noted tell old mid (record { session = session; line = number; event = e; reply = r })) where
    -- the complex fits a core when it is asked what the event wants
    pub fits-mid : DueIn tell old session number e → (w : Core) × fits_in tell.seen tell.leaves mid.body w
    fits-mid d =
        let m = moved tell old mid (record { session = session; line = number; event = e; reply = r }) n d.start d.world d.there in (m.core, m.fits)

    pub wants-as : (y : Entry) (o p : Option (ℕ × ℕ × Mode)) → y ≡ record { session = session; line = number; event = e; reply = r } → o ≡ p
        → Wants tell mid.body y.event y.reply o → Wants tell mid.body e r p
    wants-as y o p entry same wants = subst (Wants tell mid.body e r) same
        (subst (λ (x : Entry). Wants tell mid.body x.event x.reply o) entry wants)

    pub once-all : Wants tell mid.body e r None → Operates tell old mid session number e
    once-all none start w known line rest c i due =
        came-once tell session number e names start w known line rest c due old mid r n i
        (wanted-is tell session number e names start w known line rest c due old mid r n i None none)

    module _ (x : ℕ × ℕ × Mode) (wants : Wants tell mid.body e r (Some x)) where
      -- the event came, and a page is asked for
      asks : (start : Start G) (w : World) (known : Known) (line : Line) (rest : List Work) (c : Cursor)
          → IsIn tell start old w → IsDueFor session number e known line rest c w
          → (w' : World) × IsIn tell start mid w' × Pulling w (Work.Do line) rest c e (puller_in x) (Pull.Asks x.1) w'
      asks start w known line rest c i due = came-first tell session number e names start w known line rest c due old mid r n i x
          (wanted-is tell session number e names start w known line rest c due old mid r n i (Some x) wants)

      -- or there is no memory for that
      pub first-some : OperatesSome tell old mid session number e
      first-some start w known line rest c i due = let h = asks start w known line rest c i due in (h.0, h.1)

      pub pull-in : DueIn tell old session number e → PulledIn tell mid (puller_in x) (Pull.Asks x.1)
      pull-in d =
          let h = asks d.start d.world d.known d.line d.rest d.cursor d.there d.due in
          record {
            start = d.start;
            world = h.0;
            at = d.world;
            work = Work.Do d.line;
            rest = d.rest;
            cursor = d.cursor;
            own = e;
            there = h.1;
            pulls = h.2;
          }

      module _ (new : Hall G) where
        pub pulled-some : PullsSome tell mid new (puller_in x) (Pull.Asks x.1) → OperatesSome tell old new session number e
        pulled-some some start w known line rest c i due =
            let h = asks start w known line rest c i due in
            let k = some start h.0 w (Work.Do line) rest c e h.1 h.2 in (k.0, k.1)

        pub then-some : (came : Bool) → PullsAll tell mid new (puller_in x) x.1 came → (last : Hall G) → StaysIn tell new last → OperatesSome tell old last session number e
        then-some came all last stays start w known line rest c i due =
            let h = asks start w known line rest c i due in
            let k = all start h.0 w (Work.Do line) rest c e h.1 h.2 in
            (k.0, stays start k.0 k.2)

        -- it came again
        pub again-all : (came : Bool) → PullsAll tell mid new (puller_in x) x.1 came → (last : Hall G) (q : Reply)
            → Noted tell new last (record { session = session; line = number; event = e; reply = q }) → Operates tell old last session number e
        again-all came all last q m start w known line rest c i due =
            let h = asks start w known line rest c i due in
            let k = all start h.0 w (Work.Do line) rest c e h.1 h.2 in
            let wanted = wanted-is tell session number e names start w known line rest c due old mid r n i (Some x) wants in
            came-again tell session number e names start w known line rest c due new last q m x
            (wanted-some w.core.scene.state e r x wanted).1 k.1 k.0 k.2 k.3 came k.4

        -- the hall is somewhere when it comes again
        pub somewhere : (came : Bool) → PullsAll tell mid new (puller_in x) x.1 came → DueIn tell old session number e → IsSomewhere tell new
        somewhere came all d =
            let s = pull-in d in
            let k = all s.start s.world s.at s.work s.rest s.cursor s.own s.there s.pulls in
            (s.start, k.0, k.2)

-- an event that came was noted
pub came-some : {G : Type 0} (tell : Telling G) (old new : Hall G) (session number : ℕ) (e : Event) → Operates tell old new session number e
    → DueIn tell old session number e → new.book.entries ≡ [] → ⊥
came-some tell old new session number e came d none =
    let c = came d.start d.world d.known d.line d.rest d.cursor d.there d.due in
    noted-some c.before (record { session = session; line = number; event = e; reply = c.reply }) c.noted none
