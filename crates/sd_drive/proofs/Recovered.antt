-- An instance is recovered, by itself or by another. It serves the goals of recovery.rt.
use Rattle.std.proofs.Common.{◌≡◌, ◌⊎◌, inl, inr, ⊎_elim, ℕ, Bool, true, false, cond, List, [], ◌∷◌, refl, sym, ap, ◌∙◌, subst}
use Rattle.std.specs.Prelude.{Option, None, Some, is_some}
use Rattle.sd_base.specs.declared.place.Mode.TheVariants as modes
use Rattle.sd_base.specs.declared.place.Place.{Place}
use Rattle.sd_base.specs.declared.place.Status.{Status}
use Rattle.sd_base.specs.declared.place.Status.TheVariants as S
use Rattle.sd_base.specs.declared.refusal.Refusal.TheVariants as R
use Rattle.sd_model.specs.declared.cause.Cause.{Cause}
use Rattle.sd_model.specs.declared.event.Entry.{Entry}
use Rattle.sd_model.specs.declared.event.Event.{Event}
use Rattle.sd_model.specs.declared.event.Event.TheVariants as event
use Rattle.sd_model.specs.declared.event.Reply.{Reply}
use Rattle.sd_model.specs.declared.event.Reply.TheVariants as reply
use Rattle.sd_model.specs.Applies.{First, IsRecovering}
use Rattle.sd_model.specs.Causes.{has_cause, order}
use Rattle.sd_model.specs.State.{State}
use Rattle.sd_model.specs.Step.{Step}
use Rattle.sd_world.specs.PageCauses.{IsNeededPage}
use Rattle.sd_world.specs.Serving.{Core, Telling}
use Rattle.sd_hall.specs.Bodies.{AwaitsIn, IsAwaited, fits_in}
use Rattle.sd_hall.specs.declared.hall.Hall.{Hall}
use Rattle.sd_drive.specs.declared.recovery.Next.{Next}
use Rattle.sd_drive.specs.declared.recovery.Next.TheVariants as nexts
use Rattle.sd_drive.specs.declared.recovery.Outcome.{Outcome}
use Rattle.sd_drive.specs.declared.recovery.Outcome.TheVariants as outcomes
use Rattle.sd_drive.specs.declared.recovery.Owner.{Owner}
use Rattle.sd_drive.specs.Driven.{IsIn, IsSomewhere, PulledIn, PullsAll, PullsSome, StaysIn, ends_failed}
use Rattle.sd_model.specs.Replies.{is_did, wants_page}
use Rattle.sd_drive.specs.Driving.{Cursor, Progress, Work, World, behind, fails, followed, goes_further, goes_on, marked, one_less, stays}
use Rattle.sd_drive.specs.Pulls.{Pull, Puller, puller, recovers_for}
use Rattle.sd_drive.specs.Recoveries.{DoesSome, DueOf, EndsAs, GoesAs, GoneOn, IsDueOf, IsWanted, PulledAs, PulledSome, RecoversTo, StepsAs, StepsTo, WantsOf, at_steps, ending_as, is_opening, refused_as}
use Rattle.sd_drive.specs.Running.{Start}
use Rattle.sd_drive.specs.Standing.{IsBorne, Pulling}
use Rattle.sd_drive.proofs.Acts.{wants-stays}
use Rattle.sd_drive.proofs.Bodies.{fits-now}
use Rattle.sd_drive.proofs.Lined.{pulling-due}
use Rattle.sd_drive.proofs.Marks.{followed-fine, marked-same}
use Rattle.sd_drive.proofs.Needs.{need-is}
use Rattle.sd_drive.proofs.Steps.{Moved, Noted, moved}
use Rattle.sd_drive.proofs.Telling.{followed-stays, own-again, own-done, own-pulls, pulling-begins, unfails}

-- ---- what a reply makes of a recovery

opening-is : (work : Work) → is_opening work ≡ true → work ≡ Work.Opening
opening-is Work.Opening is = refl
opening-is (Work.Do line) is = absurd (cc)

opening-fails : (work : Work) (t : Progress) → is_opening work ≡ true → (marked work (reply.Refused R.Failed) t).failed ≡ true
opening-fails Work.Opening t is = refl
opening-fails (Work.Do line) t is = absurd (cc)

line-borne : (work : Work) (failed : Bool) → is_opening work ≡ false → IsBorne work failed → failed ≡ false
line-borne Work.Opening failed is borne = absurd (cc)
line-borne (Work.Do line) failed is borne = borne

not-true : (b : Bool) → (b ≡ true → ⊥) → b ≡ false
not-true true isnt = absurd (isnt refl)
not-true false isnt = refl

unlike : {A : Type 0} {b : Bool} → b ≡ true → b ≡ false → A
unlike {A} {b} is isnt = let clash : true ≡ false = sym is ∙ isnt in absurd (cc)

-- a bound stays one
bounded-less : (most : Option ℕ) → is_some (one_less most) ≡ is_some most
bounded-less None = refl
bounded-less (Some steps) = refl

bounded-last : (most : Option ℕ) → goes_further most ≡ false → is_some most ≡ true
bounded-last None last = absurd (cc)
bounded-last (Some steps) last = refl

line-fine : (work : Work) (r : Reply) → is_opening work ≡ false → fails work r ≡ false
line-fine Work.Opening r is = absurd (cc)
line-fine (Work.Do line) r is = refl

module _ {G : Type 0} (tell : Telling G) (of : Owner) (new : Hall G) (start : Start G) (w : World) (work : Work) (rest : List Work) (i : ℕ) (most : Option ℕ) (core : Core)
    (before : w.told.failed ≡ false) (is : of.is_opening ≡ is_opening work) where
  -- the work went on from there behind the reply
  abbrev At : Reply → Option Cursor → Type 0
  At r o = IsIn tell start new (record { told = marked work r (followed w.told work rest r o); core = core })

  unmarked : (r : Reply) (o : Option Cursor) → fails work r ≡ false → At r o
      → IsIn tell start new (record { told = followed w.told work rest r o; core = core })
  unmarked r o fine there = subst (λ (t : Progress). IsIn tell start new (record { told = t; core = core }))
      (marked-same work r (followed w.told work rest r o) fine (followed-fine w.told work rest r o before)) there

  pub refused-ends : (r : Reply) → At r (behind core.scene.state work i false) → EndsAs tell new of work rest i most start w (refused_as r of.is_opening)
  refused-ends (reply.Refused R.Failed) there = go of.is_opening refl
    where
      go : (b : Bool) → of.is_opening ≡ b → EndsAs tell new of work rest i most start w (refused_as (reply.Refused R.Failed) b)
      go true opens = record {
        opening = opens;
        world = record { told = marked work (reply.Refused R.Failed) (followed w.told work rest (reply.Refused R.Failed) (behind core.scene.state work i false)); core = core };
        there = there;
        failed = opening-fails work _ (sym is ∙ opens);
      }
      go false opens = record {
        reply = reply.Refused R.Failed;
        core = core;
        there = unmarked (reply.Refused R.Failed) _ (line-fine work (reply.Refused R.Failed) (sym is ∙ opens)) there;
      }
  refused-ends r there = record { reply = r; core = core; there = unmarked r _ (unfails work r refl) there }

  -- a step was done, and another one follows or not
  done-goes : (b : Bool) → goes_further most ≡ b → At reply.Step (cond {A = Option Cursor} b (Some (Cursor.Steps i (one_less most))) None)
      → GoesAs tell new of work rest i most start w (cond {A = Next} b (nexts.Again (one_less most)) (nexts.Over outcomes.Part))
  done-goes true further there =
      (bounded-less most, core, unmarked reply.Step (Some (Cursor.Steps i (one_less most))) (unfails work reply.Step refl) there)
  done-goes false last there = record {
    bounded = bounded-last most last;
    core = core;
    there = unmarked reply.Step None (unfails work reply.Step refl) there;
  }

  pub step-goes : (r : Reply) → At r (goes_on core w.told.known work (Cursor.Steps i most) r)
      → GoesAs tell new of work rest i most start w (ending_as r of.is_opening most)
  step-goes reply.Step there = done-goes (goes_further most) refl there
  step-goes reply.Finished there = record {
    reply = reply.Finished;
    core = core;
    there = unmarked reply.Finished (behind core.scene.state work i true) (unfails work reply.Finished refl) there;
  }
  step-goes r there = refused-ends r there

  module _ (by : ℕ) where
    pub begin-refused : (r : Reply) → is_did r ≡ false → At r (goes_on core w.told.known work (Cursor.Recovers i by most) r)
        → EndsAs tell new of work rest i most start w (refused_as r of.is_opening)
    begin-refused reply.Did refused there = absurd (cc)
    begin-refused r refused there = refused-ends r there

    pub begin-goes : (r : Reply) → is_did r ≡ true → At r (goes_on core w.told.known work (Cursor.Recovers i by most) r)
        → IsIn tell start new (at_steps w work rest i most core)
    begin-goes reply.Did did there = unmarked reply.Did (Some (Cursor.Steps i most)) (unfails work reply.Did refl) there
    begin-goes r did there = absurd (cc)

-- a step is due there
steps-due : (of : Owner) (work : Work) (rest : List Work) (i : ℕ) (most : Option ℕ) (c : Cursor) (e : Event) (w : World) → IsDueOf of work rest c e w → (core : Core)
    → IsDueOf of work rest (Cursor.Steps i most) (event.RecoverStep i) (at_steps w work rest i most core)
steps-due of work rest i most c e w due core = record {
  stands = record {
    known_is = refl;
    first = refl;
    at = refl;
    idle = refl;
    event = refl;
    unfailed = due.stands.unfailed;
  };
  session = due.session;
  line = due.line;
  opening = due.opening;
}

module _ {G : Type 0} (tell : Telling G) (of : Owner) (new : Hall G) (start : Start G) (w : World) (work : Work) (rest : List Work) (i : ℕ) (most : Option ℕ) (core : Core) where
  followed-there : (ended : Bool) → GoneOn tell new work rest i ended start (at_steps w work rest i most core) → GoneOn tell new work rest i ended start w
  followed-there ended gone = record {
    reply = gone.reply;
    core = gone.core;
    there = subst (λ (t : Progress). IsIn tell start new (record { told = t; core = gone.core }))
        (followed-stays w.told work rest (Cursor.Steps i most) Pull.Idle gone.reply (behind gone.core.scene.state work i ended)) gone.there;
  }

  module _ (before : Option ℕ) (bounds : is_some most ≡ is_some before) where
    -- what comes of the steps from there comes of those before
    from-steps : (how : Outcome) → EndsAs tell new of work rest i most start (at_steps w work rest i most core) how
        → EndsAs tell new of work rest i before start w how
    from-steps outcomes.Ended ends = followed-there true ends
    from-steps outcomes.Refused ends = followed-there false ends
    from-steps outcomes.Part ends = record {
      bounded = sym bounds ∙ ends.bounded;
      core = ends.core;
      there = subst (λ (t : Progress). IsIn tell start new (record { told = t; core = ends.core }))
          (followed-stays w.told work rest (Cursor.Steps i most) Pull.Idle reply.Step None) ends.there;
    }
    from-steps outcomes.Broken ends = ends

    steps-from : (next : Next) → GoesAs tell new of work rest i most start (at_steps w work rest i most core) next
        → GoesAs tell new of work rest i before start w next
    steps-from (nexts.Again left) goes = (goes.0 ∙ bounds, goes.1, goes.2)
    steps-from (nexts.Over how) ends = from-steps how ends

-- ---- an event of its own

-- a begin wants no page
begin-plain : (m m' : State) (i by : ℕ) (r : Reply) → Step m (event.RecoverBegin i by) r m' → wants_page r ≡ false
begin-plain m m' i by (reply.Refused (R.NeedPage place)) s = absurd (never s.0 s.1 s.3.0)
  where
    never : (c : Cause) → has_cause c (Cause.Away ∷ []) ≡ true → has_cause c (order (event.RecoverBegin i by)) ≡ true → ⊥
    never Cause.Away away there = absurd (cc)
    never c away there = absurd (cc)
begin-plain m m' i by r s = refl

module _ {G : Type 0} (tell : Telling G) (of : Owner) (old new : Hall G) (c : Cursor) (e : Event) (r : Reply)
    (n : Noted tell old new (record { session = of.session; line = of.line; event = e; reply = r })) where
  abbrev entry : Entry
  entry = record { session = of.session; line = of.line; event = e; reply = r }

  module _ (start : Start G) (w : World) (work : Work) (rest : List Work) (i : IsIn tell start old w) (due : IsDueOf of work rest c e w) where
    pub m : Moved tell old new start w entry
    m = moved tell old new entry n start w i

    pub done-there : wants_page r ≡ false
        → IsIn tell start new (record { told = marked work r (followed w.told work rest r (goes_on m.core w.told.known work c r)); core = m.core })
    done-there plain = m.there _ (own-done w.told.known work rest c e w due.stands m.core entry due.session due.line refl (inl plain))

  -- nothing came
  pub none-some : StaysIn tell old new → DoesSome tell old new of c e
  none-some stays start w work rest i due = (w, stays start w i, due.stands.first)

-- ---- the begin

module _ {G : Type 0} (tell : Telling G) (of : Owner) (i by : ℕ) (most : Option ℕ) (old mid : Hall G) (r : Reply)
    (n : Noted tell old mid (record { session = of.session; line = of.line; event = event.RecoverBegin i by; reply = r })) where
  abbrev Began : Type 0
  Began = DueOf tell old of (Cursor.Recovers i by most) (event.RecoverBegin i by)

  began-there : (start : Start G) (w : World) (work : Work) (rest : List Work) (k : IsIn tell start old w)
      (due : IsDueOf of work rest (Cursor.Recovers i by most) (event.RecoverBegin i by) w)
      → (core : Core) × IsIn tell start mid
      (record { told = marked work r (followed w.told work rest r (goes_on core w.told.known work (Cursor.Recovers i by most) r)); core = core })
  began-there start w work rest k due =
      let at = m tell of old mid (Cursor.Recovers i by most) (event.RecoverBegin i by) r n start w work rest k due in (
        at.core,
        done-there tell of old mid (Cursor.Recovers i by most) (event.RecoverBegin i by) r n start w work rest k due
            (begin-plain w.core.scene.state at.core.scene.state i by r at.turns.plays.step),
      )

  pub begin-ends : is_did r ≡ false → RecoversTo tell old mid of i by most (refused_as r of.is_opening)
  begin-ends refused start w work rest k due =
      let at = began-there start w work rest k due in
      begin-refused tell of mid start w work rest i most at.0 due.stands.unfailed due.opening by r refused at.1

  module _ (did : is_did r ≡ true) where
    begun : (start : Start G) (w : World) (work : Work) (rest : List Work) (k : IsIn tell start old w)
        (due : IsDueOf of work rest (Cursor.Recovers i by most) (event.RecoverBegin i by) w)
        → (core : Core) × IsIn tell start mid (at_steps w work rest i most core)
    begun start w work rest k due =
        let at = began-there start w work rest k due in
        (at.0, begin-goes tell of mid start w work rest i most at.0 due.stands.unfailed due.opening by r did at.1)

    pub begun-due : Began → DueOf tell mid of (Cursor.Steps i most) (event.RecoverStep i)
    begun-due d =
        let at = begun d.start d.world d.work d.rest d.there d.due in
        record {
          start = d.start;
          world = at_steps d.world d.work d.rest i most at.0;
          work = d.work;
          rest = d.rest;
          there = at.1;
          due = steps-due of d.work d.rest i most (Cursor.Recovers i by most) (event.RecoverBegin i by) d.world d.due at.0;
        }

    module _ (new : Hall G) where
      pub begun-some : DoesSome tell mid new of (Cursor.Steps i most) (event.RecoverStep i)
          → DoesSome tell old new of (Cursor.Recovers i by most) (event.RecoverBegin i by)
      begun-some some start w work rest k due =
          let at = begun start w work rest k due in
          some start (at_steps w work rest i most at.0) work rest at.1 (steps-due of work rest i most (Cursor.Recovers i by most) (event.RecoverBegin i by) w due at.0)

      pub begun-to : (how : Outcome) → StepsTo tell mid new of i most how → RecoversTo tell old new of i by most how
      begun-to how to start w work rest k due =
          let at = begun start w work rest k due in
          from-steps tell of new start w work rest i most at.0 most refl how
          (to start (at_steps w work rest i most at.0) work rest at.1 (steps-due of work rest i most (Cursor.Recovers i by most) (event.RecoverBegin i by) w due at.0))

-- ---- a step

-- a step that wants a page is that of a recovery that runs
pub is-recovering : (s : Status) → ((IsRecovering s → ⊥) → ⊥) → IsRecovering s
is-recovering (S.Recovering by) runs = (by, refl)
is-recovering s runs = absurd (runs (λ r. let is = r.1 in absurd (cc)))

needs-recovering : (m m' : State) (i : ℕ) (place : Place) → Step m (event.RecoverStep i) (reply.Refused (R.NeedPage place)) m'
    → (by : ℕ) × ((m.inst i).status ≡ S.Recovering by)
needs-recovering m m' i place s = go s.0 s.1 s.3
  where
    go : (c : Cause) → has_cause c (Cause.Away ∷ []) ≡ true → First m (event.RecoverStep i) c → (by : ℕ) × ((m.inst i).status ≡ S.Recovering by)
    go Cause.Away away first = is-recovering (m.inst i).status first.1.1.0
    go c away first = absurd (cc)

module _ {G : Type 0} (tell : Telling G) (of : Owner) (i : ℕ) (most : Option ℕ) (old mid : Hall G) (r : Reply)
    (n : Noted tell old mid (record { session = of.session; line = of.line; event = event.RecoverStep i; reply = r })) where
  pub step-plain : wants_page r ≡ false → StepsAs tell old mid of i most (ending_as r of.is_opening most)
  step-plain plain start w work rest k due =
      let at = m tell of old mid (Cursor.Steps i most) (event.RecoverStep i) r n start w work rest k due in
      step-goes tell of mid start w work rest i most at.core due.stands.unfailed due.opening r
      (done-there tell of old mid (Cursor.Steps i most) (event.RecoverStep i) r n start w work rest k due plain)

  module _ (need : wants_page r ≡ true) where
    -- where an undo is next a page is there that it waits for
    pub never-unwanted : DueOf tell old of (Cursor.Steps i most) (event.RecoverStep i)
        → ((w : Core) (by : ℕ) → fits_in tell.seen tell.leaves old.body w → AwaitsIn i old.body → (w.scene.state.inst i).status ≡ S.Recovering by → ⊥)
        → IsAwaited (event.RecoverStep i) r old.body → ⊥
    never-unwanted d none awaits =
        let at = m tell of old mid (Cursor.Steps i most) (event.RecoverStep i) r n d.start d.world d.work d.rest d.there d.due in
        let is = need-is r need in
        let by = needs-recovering d.world.core.scene.state at.core.scene.state i is.0
        (subst (λ (x : Reply). Step d.world.core.scene.state (event.RecoverStep i) x at.core.scene.state) is.1 at.turns.plays.step) in
        none d.world.core by.0 (fits-now tell d.start old d.world d.there)
        (subst (λ (x : Reply). IsAwaited (event.RecoverStep i) x old.body) is.1 awaits) by.1

    module _ (by p : ℕ)
        (waits : (w : Core) → fits_in tell.seen tell.leaves old.body w → ((w.scene.state.inst i).status ≡ S.Recovering by) × IsNeededPage w.scene.state i p) where
      abbrev for : Puller
      for = record { inst = by; mode = modes.Excl }

      wanted : (start : Start G) (w : World) (work : Work) (rest : List Work) → IsIn tell start old w
          → IsDueOf of work rest (Cursor.Steps i most) (event.RecoverStep i) w
          → (w' : World) × IsIn tell start mid w' × IsWanted of i most by p work rest w w'
      wanted start w work rest k due =
          let at = m tell of old mid (Cursor.Steps i most) (event.RecoverStep i) r n start w work rest k due in
          let has = waits w.core (fits-now tell start old w k) in
          let pulls : puller w.core.scene.state (event.RecoverStep i) ≡ Some (record { inst = by; mode = modes.Excl }) = ap recovers_for has.0 in
          let same = wants-stays w.core.scene.state (event.RecoverStep i) r at.core.scene.state need at.turns.plays.step in
          let x : Entry = record { session = of.session; line = of.line; event = event.RecoverStep i; reply = r } in (
            record { told = stays w.told work rest (Cursor.Steps i most) (Pull.Asks p); core = at.core },
            at.there _ (own-pulls w.told.known work rest (Cursor.Steps i most) (event.RecoverStep i) w due.stands at.core x due.session due.line refl for pulls p has.1 need),
            record {
              due = due;
              pulls = pulling-begins w.told.known work rest (Cursor.Steps i most) (event.RecoverStep i) w due.stands at.core x due.session due.line refl for pulls p has.1 need same;
            },
          )

      pub wants-of : DueOf tell old of (Cursor.Steps i most) (event.RecoverStep i) → WantsOf tell mid of i most by p
      wants-of d =
          let h = wanted d.start d.world d.work d.rest d.there d.due in
          record { start = d.start; at = d.world; world = h.0; work = d.work; rest = d.rest; there = h.1; wanted = h.2 }

      module _ (new : Hall G) where
        pub wanted-some : PulledSome tell mid new of i most by p → DoesSome tell old new of (Cursor.Steps i most) (event.RecoverStep i)
        wanted-some some start w work rest k due =
            let h = wanted start w work rest k due in some start w h.0 work rest h.1 h.2

        pub wanted-as : (next : Next) → PulledAs tell mid new of i most by p next → StepsAs tell old new of i most next
        wanted-as next goes start w work rest k due =
            let h = wanted start w work rest k due in goes start w h.0 work rest h.1 h.2

-- ---- behind the pull

module _ {G : Type 0} (tell : Telling G) (of : Owner) (i : ℕ) (most : Option ℕ) (by p : ℕ) (old mid : Hall G) where
  abbrev puller-is : Puller
  puller-is = record { inst = by; mode = modes.Excl }

  pub pull-in : WantsOf tell old of i most by p → PulledIn tell old puller-is (Pull.Asks p)
  pull-in s = record {
    start = s.start;
    world = s.world;
    at = s.at;
    work = s.work;
    rest = s.rest;
    cursor = Cursor.Steps i most;
    own = event.RecoverStep i;
    there = s.there;
    pulls = s.wanted.pulls;
  }

  pub pulled-some : PullsSome tell old mid puller-is (Pull.Asks p) → PulledSome tell old mid of i most by p
  pulled-some some start at here work rest k s = some start here at work rest (Cursor.Steps i most) (event.RecoverStep i) k s.pulls

  -- the page came: a step is due again
  pub pulled-came : PullsAll tell old mid puller-is p true → PulledAs tell old mid of i most by p (nexts.Again most)
  pulled-came all start at here work rest k s =
      let h = all start here at work rest (Cursor.Steps i most) (event.RecoverStep i) k s.pulls in
      let pulls = subst (λ (next : Pull). Pulling at work rest (Cursor.Steps i most) (event.RecoverStep i) puller-is next h.0) h.4.0 h.3 in
      let told : h.0.told ≡ stays at.told work rest (Cursor.Steps i most) Pull.Idle =
      pulls.told ∙ ap (λ (b : Bool). record (stays at.told work rest (Cursor.Steps i most) Pull.Idle) { failed = b }) (pulls.unfailed refl ∙ sym pulls.before) in
      (refl, h.0.core, subst (λ (t : Progress). IsIn tell start mid (record { told = t; core = h.0.core })) told h.2)

  module _ (all : PullsAll tell old mid puller-is p false) where
    -- it was in vain
    vain : (start : Start G) (at here : World) (work : Work) (rest : List Work) → IsIn tell start old here → IsWanted of i most by p work rest at here
        → (w : World) × IsIn tell start mid w × Pulling at work rest (Cursor.Steps i most) (event.RecoverStep i) puller-is Pull.Ends w
    vain start at here work rest k s =
        let h = all start here at work rest (Cursor.Steps i most) (event.RecoverStep i) k s.pulls in
        (h.0, h.2, subst (λ (next : Pull). Pulling at work rest (Cursor.Steps i most) (event.RecoverStep i) puller-is next h.0) h.4 h.3)

    pub vain-kept : WantsOf tell old of i most by p → IsSomewhere tell mid
    vain-kept s = let h = vain s.start s.at s.world s.work s.rest s.there s.wanted in (s.start, h.0, h.1)

    pub vain-some : (new : Hall G) → StaysIn tell mid new → PulledSome tell old new of i most by p
    vain-some new stays start at here work rest k s = let h = vain start at here work rest k s in (
      h.0,
      stays start h.0 h.1,
      pulling-due at work rest (Cursor.Steps i most) (event.RecoverStep i) puller-is Pull.Ends h.0 h.2,
    )

    -- a device failed, in the opening
    pub vain-broken : of.is_opening ≡ true → ends_failed mid.book.entries ≡ true → PulledAs tell old mid of i most by p (nexts.Over outcomes.Broken)
    vain-broken opens failed start at here work rest k s =
        let h = vain start at here work rest k s in
        let first : h.0.told.left ≡ Work.Opening ∷ rest = ap (λ (t : Progress). t.left) h.2.told
        ∙ ap (λ (x : Work). x ∷ rest) (opening-is work (sym s.due.opening ∙ opens)) in
        record {
          opening = opens;
          world = h.0;
          there = h.1;
          failed = h.1.marks.marked rest (Cursor.Steps i most) first (ap (λ (t : Progress). t.cursor) h.2.told) failed;
        }

    -- or none did, or not in the opening: the step came again
    unfailed-now : (b : Bool) → of.is_opening ≡ b → (b ≡ true → ends_failed mid.book.entries ≡ false)
        → (start : Start G) (at : World) (work : Work) (rest : List Work) (w : World) → IsIn tell start mid w
        → (s : Pulling at work rest (Cursor.Steps i most) (event.RecoverStep i) puller-is Pull.Ends w) → of.is_opening ≡ is_opening work → s.failed ≡ false
    unfailed-now true opens fine start at work rest w k s is =
        not-true s.failed (λ failed. unlike (k.marks.told (ap (λ (t : Progress). t.failed) s.told ∙ failed)) (fine refl))
    unfailed-now false opens fine start at work rest w k s is = line-borne work s.failed (sym is ∙ opens) s.borne

    pub vain-again : (of.is_opening ≡ true → ends_failed mid.book.entries ≡ false) → (new : Hall G) (r : Reply)
        → Noted tell mid new (record { session = of.session; line = of.line; event = event.RecoverStep i; reply = r })
        → PulledAs tell old new of i most by p (ending_as r of.is_opening most)
    vain-again fine new r n start at here work rest k s =
        let h = vain start at here work rest k s in
        let x : Entry = record { session = of.session; line = of.line; event = event.RecoverStep i; reply = r } in
        let to = moved tell mid new x n start h.0 h.1 in
        let unfailed = unfailed-now of.is_opening refl fine start at work rest h.0 h.1 h.2 s.due.opening in
        step-goes tell of new start at work rest i most to.core s.due.stands.unfailed s.due.opening r
        (to.there _ (own-again at work rest (Cursor.Steps i most) (event.RecoverStep i) puller-is Pull.Ends h.0 h.2 to.core x unfailed refl
        s.due.session s.due.line refl (inr refl)))

-- ---- step by step

-- the work stands at a step as it did, or steps were done, of which so many are left
abbrev pub IsLater : World → Work → List Work → ℕ → Option ℕ → Option ℕ → World → Type 0
IsLater w work rest i most left here =
    ((here ≡ w) × (left ≡ most)) ⊎ ((is_some left ≡ is_some most) × (core : Core) × (here ≡ at_steps w work rest i left core))

-- wherever a step was due, one still is
abbrev pub InSteps : {G : Type 0} → Telling G → Owner → ℕ → Option ℕ → Option ℕ → Hall G → Hall G → Type 0
InSteps {G} tell of i most left old here =
    (start : Start G) (w : World) (work : Work) (rest : List Work) → IsIn tell start old w
    → IsDueOf of work rest (Cursor.Steps i most) (event.RecoverStep i) w
    → (w' : World) × IsIn tell start here w' × IsLater w work rest i most left w'

module _ {G : Type 0} (tell : Telling G) (of : Owner) (i : ℕ) (most left : Option ℕ) (old here : Hall G) (on : InSteps tell of i most left old here) where
  later-due : (w : World) (work : Work) (rest : List Work) (w' : World) → IsLater w work rest i most left w'
      → IsDueOf of work rest (Cursor.Steps i most) (event.RecoverStep i) w → IsDueOf of work rest (Cursor.Steps i left) (event.RecoverStep i) w'
  later-due w work rest w' later due = ⊎_elim
      (λ same. subst (IsDueOf of work rest (Cursor.Steps i left) (event.RecoverStep i)) (sym same.0)
      (subst (λ (o : Option ℕ). IsDueOf of work rest (Cursor.Steps i o) (event.RecoverStep i) w) (sym same.1) due))
      (λ more. subst (IsDueOf of work rest (Cursor.Steps i left) (event.RecoverStep i)) (sym more.2)
      (steps-due of work rest i left (Cursor.Steps i most) (event.RecoverStep i) w due more.1))
      later

  pub steps-in : DueOf tell old of (Cursor.Steps i most) (event.RecoverStep i) → DueOf tell here of (Cursor.Steps i left) (event.RecoverStep i)
  steps-in d =
      let h = on d.start d.world d.work d.rest d.there d.due in
      record { start = d.start; world = h.0; work = d.work; rest = d.rest; there = h.1; due = later-due d.world d.work d.rest h.0 h.2 d.due }

  -- as far as memory went
  pub steps-part : DoesSome tell old here of (Cursor.Steps i most) (event.RecoverStep i)
  steps-part start w work rest k due =
      let h = on start w work rest k due in (h.0, h.1, (later-due w work rest h.0 h.2 due).stands.first)

  module _ (new : Hall G) where
    goes-on-as : (next : Next) → StepsAs tell here new of i left next → StepsAs tell old new of i most next
    goes-on-as next goes start w work rest k due =
        let h = on start w work rest k due in
        let now = goes start h.0 work rest h.1 (later-due w work rest h.0 h.2 due) in
        ⊎_elim
        (λ same. subst (λ (o : Option ℕ). GoesAs tell new of work rest i o start w next) same.1
        (subst (λ (x : World). GoesAs tell new of work rest i left start x next) same.0 now))
        (λ more. steps-from tell of new start w work rest i left more.1 most more.0 next
        (subst (λ (x : World). GoesAs tell new of work rest i left start x next) more.2 now))
        h.2

    pub steps-next : (then : Option ℕ) → StepsAs tell here new of i left (nexts.Again then) → InSteps tell of i most then old new
    steps-next then goes start w work rest k due =
        let h = goes-on-as (nexts.Again then) goes start w work rest k due in
        (at_steps w work rest i then h.1, h.2, inr (h.0, h.1, refl))

    pub steps-last : (how : Outcome) → StepsTo tell here new of i left how → StepsTo tell old new of i most how
    steps-last how ends = goes-on-as (nexts.Over how) ends

    pub steps-some : DoesSome tell here new of (Cursor.Steps i left) (event.RecoverStep i)
        → DoesSome tell old new of (Cursor.Steps i most) (event.RecoverStep i)
    steps-some some start w work rest k due =
        let h = on start w work rest k due in some start h.0 work rest h.1 (later-due w work rest h.0 h.2 due)
