-- The instances that are down recover, and then all join, before the first line; then pools are emptied. It serves the goals of `opening`,
-- `restart`, `join`, `open_by` and of what goes over them in opening.rt.
use Rattle.std.proofs.Common.{◌≡◌, inl, inr, ⊎_elim, ℕ, ◌+◌, ◌<◌, ◌≤◌, Bool, true, false, cond, ltb, List, [], refl, sym, ap, ap₂, ◌∙◌, subst, arith}
use Rattle.std.specs.Prelude.{Option, None, Some}
use Rattle.std.proofs.lemmas.Bool.{ltb-false, ltb-true}
use Rattle.sd_base.specs.declared.refusal.Refusal.TheVariants as R
use Rattle.sd_model.specs.declared.event.Entry.{Entry}
use Rattle.sd_model.specs.declared.event.Event.{Event}
use Rattle.sd_model.specs.declared.event.Event.TheVariants as event
use Rattle.sd_model.specs.declared.event.Reply.{Reply}
use Rattle.sd_model.specs.declared.event.Reply.TheVariants as reply
use Rattle.sd_rig.specs.Devices.{DeviceImages, Leaves}
use Rattle.sd_script.specs.declared.line.Line.{Line}
use Rattle.sd_world.specs.Leading.{Leads}
use Rattle.sd_world.specs.Serving.{Core, Telling}
use Rattle.sd_fits.specs.Bodies.{fits_body, rig_of}
use Rattle.sd_fits.specs.declared.body.Body.{Body}
use Rattle.sd_hall.specs.Bodies.{IsRigIn, fits_in}
use Rattle.sd_hall.specs.Keeping.{Keeps}
use Rattle.sd_drive.specs.declared.opening.Rise.{Rise}
use Rattle.sd_drive.specs.declared.recovery.Outcome.{Outcome}
use Rattle.sd_drive.specs.declared.recovery.Outcome.TheVariants as outcomes
use Rattle.sd_drive.specs.declared.recovery.Owner.{Owner}
use Rattle.sd_drive.specs.Bodies.{status_in}
use Rattle.sd_drive.specs.Driven.{IsIn, StaysIn}
use Rattle.sd_drive.specs.Driving.{Cursor, IsUnderWay, Known, TellsAt, Tells, Work, World, event_at, fails, followed, goes_on, leavers, left_from, next_down, opens, stays, untold, works_of}
use Rattle.sd_base.specs.Standing.{is_down}
use Rattle.sd_drive.specs.Emptying.{BreaksBy, BreaksIn, IsAlone, OpensAt, OpensBy, OpensTo, StopsIn, pools_from}
use Rattle.sd_drive.specs.Pulls.{Pull, is_pulling}
use Rattle.sd_drive.specs.Rising.{AllJoined, HasRisen, HaveJoined, IsOpening, IsSame, JoinBreaks, Joins, JoinsAll, JoinsNext, Opens, OpensOn, OpensSome, begin_of}
use Rattle.sd_drive.specs.Recoveries.{DoesSome, DueOf, GoneOn, IsDueOf, RecoversTo}
use Rattle.sd_drive.specs.Restarting.{IsRestarting, RestartBreaks, Restarts, RestartsNext, RestartsSome}
use Rattle.sd_drive.specs.Running.{Breaks, Ran, Start}
use Rattle.sd_model.specs.Replies.{is_failed}
use Rattle.sd_drive.proofs.Running.{ran-start}
use Rattle.sd_drive.proofs.Bodies.{fits-now, fits-some, status-is}
use Rattle.sd_drive.proofs.Pools.{pools-none}
use Rattle.sd_drive.proofs.Marks.{breaks-there}
use Rattle.sd_drive.proofs.Finding.{down-behind, down-here, opening-first}
use Rattle.sd_drive.proofs.Lined.{opening-due}
use Rattle.sd_drive.proofs.Steps.{Moved, Noted, moved}
use Rattle.sd_drive.proofs.Telling.{own-in-vain, tells-at, unfails}

-- where the opening goes on
join-goes : (known : Known) (w : Core) (i : ℕ) (r : Reply) (b : Bool) → ltb i known.insts ≡ b
    → goes_on w known Work.Opening (Cursor.Joins i) r ≡ cond {A = Option Cursor} b (Some (Cursor.Joins (i + 1))) (leavers w 1 8)
join-goes known w i r b is = ap (λ (x : Bool). cond {A = Option Cursor} x (Some (Cursor.Joins (i + 1))) (leavers w 1 8)) is

-- ---- before the first entry

module _ {G : Type 0} (tell : Telling G) (old : Rise G) (start : Core) (lines : List Line) (rig : G) (is : IsRigIn rig old.hall.body)
    (k : Keeps tell start old.hall) (empty : old.hall.book.entries ≡ [])
    (now : (d : G) (img : DeviceImages) → tell.since d (tell.moment d) img → Leaves (tell.leaves d) img) where
  abbrev pub first : Start G
  first = begin_of old lines start rig

  there-first : IsIn tell first old.hall first.world
  there-first =
      let core : start ≡ k.core = subst (λ (es : List Entry). Leads start es k.core) empty k.leads in
      let b = fits-some tell old.hall.body k.core k.fits in
      record {
        body = b.0;
        is = b.1;
        ran = subst (λ (es : List Entry). Ran tell first b.0 es first.world) (sym empty)
            (ran-start tell first b.0 (sym (subst (λ (x : Option (Body G)). IsRigIn rig x) b.1 is)) (now (rig_of b.0))
            (subst (λ (w : Core). fits_body tell.seen tell.leaves b.0 w) (sym core) b.2));
        keeps = k;
        table = refl;
        marks = record { told = λ failed. absurd (cc); marked = λ rest c left at failed. absurd (cc) };
        behind = λ opened. absurd (cc);
      }

  pub restarts-first : RestartsNext tell first lines old 1 first.world
  restarts-first = record { there = there-first; known = refl; left = refl; at = refl; idle = refl; unfailed = refl }

-- ---- a recovery

-- whose entries those of the opening are
abbrev pub opening-owner : Owner
opening-owner = record { session = 0; line = 0; is_opening = true }

module _ {G : Type 0} (tell : Telling G) (old : Rise G) (i : ℕ) (low : 1 ≤ i) (high : i ≤ 8) (start : Start G) (w : World) (lines : List Line)
    (at : RestartsNext tell start lines old i w) where
  stands-as : status_in old.hall.body i ≡ (w.core.scene.state.inst i).status
  stands-as = status-is tell old.hall.body w.core (fits-now tell start old.hall w at.there) i low high

  -- instance i isn't down
  restart-past : is_down (status_in old.hall.body i) ≡ false → RestartsNext tell start lines old (i + 1) w
  restart-past stands = record {
    there = at.there;
    known = at.known;
    left = at.left;
    at = at.at ∙ ap opens (down-behind w.core.scene.state i high (sym (ap is_down stands-as) ∙ stands));
    idle = at.idle;
    unfailed = at.unfailed;
  }

  -- or it is, and its recovery begins
  restart-due : is_down (status_in old.hall.body i) ≡ true
      → IsDueOf opening-owner Work.Opening (works_of lines) (Cursor.Recovers i i None) (event.RecoverBegin i i) w
  restart-due down = record {
    stands = record {
      known_is = refl;
      first = ap (λ (works : List Work). left_from w.core.scene.state w.told.known w.told.cursor works) at.left
          ∙ opening-first w.core.scene.state w.told.known w.told.cursor (works_of lines);
      at = at.at ∙ ap opens (down-here w.core.scene.state i high (sym (ap is_down stands-as) ∙ down));
      idle = at.idle;
      event = refl;
      unfailed = at.unfailed;
    };
    session = refl;
    line = refl;
    opening = refl;
  }

  -- behind it the next one that is down recovers, or instance 1 joins
  restart-on : (new : Rise G) → IsSame old new → (ended : Bool)
      → GoneOn tell new.hall Work.Opening (works_of lines) i ended start w → (w' : World) × RestartsNext tell start lines new (i + 1) w'
  restart-on new same ended gone = go (next_down gone.core.scene.state (i + 1)) refl
    where
      went : Option ℕ → World
      went o = record { told = followed w.told Work.Opening (works_of lines) gone.reply (opens o); core = gone.core }

      there : (o : Option ℕ) → next_down gone.core.scene.state (i + 1) ≡ o
          → IsIn tell start new.hall (record { told = followed w.told Work.Opening (works_of lines) gone.reply (opens o); core = gone.core })
      there o is = subst (λ (x : Option ℕ). IsIn tell start new.hall
          (record { told = followed w.told Work.Opening (works_of lines) gone.reply (opens x); core = gone.core })) is gone.there

      known_is : w.told.known ≡ (untold new.insts new.pages lines).known
      known_is = at.known ∙ ap₂ (λ (insts pages : ℕ). (untold insts pages lines).known) (sym same.0) (sym same.1)

      go : (o : Option ℕ) → next_down gone.core.scene.state (i + 1) ≡ o → (w' : World) × RestartsNext tell start lines new (i + 1) w'
      go None is = (
        record { told = stays w.told Work.Opening (works_of lines) (Cursor.Joins 1) Pull.Idle; core = gone.core },
        record {
          there = there None is;
          known = known_is;
          left = refl;
          at = sym (ap opens is);
          idle = refl;
          unfailed = at.unfailed;
        },
      )
      go (Some j) is = (
        record { told = stays w.told Work.Opening (works_of lines) (Cursor.Recovers j j None) Pull.Idle; core = gone.core },
        record {
          there = there (Some j) is;
          known = known_is;
          left = refl;
          at = sym (ap opens is);
          idle = refl;
          unfailed = at.unfailed;
        },
      )

module _ {G : Type 0} (tell : Telling G) (old : Rise G) (i : ℕ) (low : 1 ≤ i) (high : i ≤ 8) where
  -- the complex fits a core when it is asked how the instance stands
  pub restart-fits : IsRestarting tell old i → (w : Core) × fits_in tell.seen tell.leaves old.hall.body w
  restart-fits a = (a.world.core, fits-now tell a.start old.hall a.world a.restarts.there)

  pub restart-not : is_down (status_in old.hall.body i) ≡ false → Restarts tell old old i (i + 1)
  restart-not stands start w lines at = (w, restart-past tell old i low high start w lines at stands)

  module _ (down : is_down (status_in old.hall.body i) ≡ true) where
    pub restart-in : IsRestarting tell old i → DueOf tell old.hall opening-owner (Cursor.Recovers i i None) (event.RecoverBegin i i)
    restart-in a = record {
      start = a.start;
      world = a.world;
      work = Work.Opening;
      rest = works_of a.lines;
      there = a.restarts.there;
      due = restart-due tell old i low high a.start a.world a.lines a.restarts down;
    }

    module _ (new : Rise G) where
      pub restart-some : DoesSome tell old.hall new.hall opening-owner (Cursor.Recovers i i None) (event.RecoverBegin i i) → RestartsSome tell old new i
      restart-some some start w lines at =
          some start w Work.Opening (works_of lines) at.there (restart-due tell old i low high start w lines at down)

      pub restart-broken : RecoversTo tell old.hall new.hall opening-owner i i None outcomes.Broken → RestartBreaks tell old new i
      restart-broken to start w lines at =
          let h = to start w Work.Opening (works_of lines) at.there (restart-due tell old i low high start w lines at down) in (h.world, h.there, h.failed)

      module _ (same : IsSame old new) where
        restart-ended : RecoversTo tell old.hall new.hall opening-owner i i None outcomes.Ended → Restarts tell old new i (i + 1)
        restart-ended to start w lines at = restart-on tell old i low high start w lines at new same true
            (to start w Work.Opening (works_of lines) at.there (restart-due tell old i low high start w lines at down))

        restart-refused : RecoversTo tell old.hall new.hall opening-owner i i None outcomes.Refused → Restarts tell old new i (i + 1)
        restart-refused to start w lines at = restart-on tell old i low high start w lines at new same false
            (to start w Work.Opening (works_of lines) at.there (restart-due tell old i low high start w lines at down))

        -- no number of steps bounds it
        restart-part : RecoversTo tell old.hall new.hall opening-owner i i None outcomes.Part → Restarts tell old new i (i + 1)
        restart-part to start w lines at =
            let part = to start w Work.Opening (works_of lines) at.there (restart-due tell old i low high start w lines at down) in
            let clash : false ≡ true = part.bounded in absurd (cc)

        pub restart-then : (how : Outcome) → (how ≡ outcomes.Broken → ⊥) → RecoversTo tell old.hall new.hall opening-owner i i None how
            → Restarts tell old new i (i + 1)
        restart-then outcomes.Ended isnt to = restart-ended to
        restart-then outcomes.Refused isnt to = restart-refused to
        restart-then outcomes.Part isnt to = restart-part to
        restart-then outcomes.Broken isnt to = absurd (isnt refl)

-- ---- one recovery after another

module _ {G : Type 0} (tell : Telling G) (old here : Rise G) (i : ℕ) (on : Restarts tell old here 1 i) where
  pub restarts-in : IsRestarting tell old 1 → IsRestarting tell here i
  restarts-in a = let h = on a.start a.world a.lines a.restarts in record { start = a.start; world = h.0; lines = a.lines; restarts = h.1 }

  module _ (new : Rise G) where
    pub restarts-next : (j : ℕ) → Restarts tell here new i j → Restarts tell old new 1 j
    restarts-next j more start w lines at = let h = on start w lines at in more start h.0 lines h.1

    pub restarts-some : RestartsSome tell here new i → RestartsSome tell old new 1
    restarts-some some start w lines at = let h = on start w lines at in some start h.0 lines h.1

    pub restarts-broken : RestartBreaks tell here new i → RestartBreaks tell old new 1
    restarts-broken breaks start w lines at = let h = on start w lines at in breaks start h.0 lines h.1

-- ---- an event

module _ {G : Type 0} (tell : Telling G) (old new : Rise G) (e : Event) (alone : IsAlone e) (same : IsSame old new) (r : Reply)
    (n : Noted tell old.hall new.hall (record { session = 0; line = 0; event = e; reply = r })) where
  module _ (start : Start G) (w : World) (lines : List Line) (c : Cursor) (o : Opens tell start lines old c w)
      (is : event_at w.told.known Work.Opening c ≡ Some e) where
    abbrev x : Entry
    x = record { session = 0; line = 0; event = e; reply = r }

    m : Moved tell old.hall new.hall start w x
    m = moved tell old.hall new.hall x n start w o.there

    abbrev next : Option Cursor
    next = goes_on m.core w.told.known Work.Opening c r

    abbrev then-at : Option Cursor → World
    then-at d = record { told = record (followed w.told Work.Opening (works_of lines) r d) { failed = fails Work.Opening r }; core = m.core }

    tells : Tells w.core m.core w.told x (then-at next).told
    tells =
        let s = w.core.scene.state in
        tells-at w m.core Work.Opening (works_of lines) c x (then-at next).told o.unfailed
        (ap (λ (works : List Work). left_from s w.told.known w.told.cursor works) o.left ∙ opening-first s w.told.known w.told.cursor (works_of lines))
        o.at
        (subst (λ (p : Pull). TellsAt (is_pulling p) w.core m.core w.told Work.Opening (works_of lines) c x (then-at next).told) (sym o.idle)
        (refl, refl, is, own-in-vain s m.core w.told Work.Opening (works_of lines) c e r (inr (alone s))))

    pub there-after : (w' : World) × IsIn tell start new.hall w' × (w'.told.failed ≡ fails Work.Opening r)
    there-after = (then-at next, m.there (then-at next).told tells, refl)

    there : (d : Option Cursor) → next ≡ d → IsIn tell start new.hall (then-at d)
    there d goes = subst (λ (d : Option Cursor). IsIn tell start new.hall (then-at d)) goes (m.there (then-at next).told tells)

    known-is : w.told.known ≡ (untold new.insts new.pages lines).known
    known-is = o.known ∙ ap₂ (λ (insts pages : ℕ). (untold insts pages lines).known) (sym same.0) (sym same.1)

    module _ (fine : is_failed r ≡ false) where
      -- the opening goes on there, or the lines are to come
      stands : (d : Option Cursor) → next ≡ d → OpensOn tell start lines new d (then-at d)
      stands (Some d) goes = record {
        there = there (Some d) goes;
        known = known-is;
        left = refl;
        at = refl;
        idle = refl;
        unfailed = unfails Work.Opening r fine;
      }
      stands None goes = record {
        there = there None goes;
        known = known-is;
        left = refl;
        rests = refl;
        idle = refl;
        unfailed = unfails Work.Opening r fine;
      }

  pub opens-by : is_failed r ≡ false → OpensBy tell old new e r
  opens-by fine start w lines c o is =
      (then-at start w lines c o is (next start w lines c o is), stands start w lines c o is fine (next start w lines c o is) refl)

-- a device failed in it
pub breaks-by : {G : Type 0} (tell : Telling G) (old new : Rise G) (e : Event) → IsAlone e → IsSame old new
    → Noted tell old.hall new.hall (record { session = 0; line = 0; event = e; reply = reply.Refused R.Failed }) → BreaksBy tell old new e
breaks-by {G} tell old new e alone same n start w lines c o is =
    there-after tell old new e alone same (reply.Refused R.Failed) n start w lines c o is

-- ---- a join

module _ {G : Type 0} (tell : Telling G) (old new : Rise G) (i : ℕ) where
  pub joined : (r : Reply) → OpensBy tell old new (event.Join i) r → IsSame old new → Joins tell old new i
  joined r by same start w lines j = go (ltb i w.told.known.insts) refl
    where
      after : (w' : World) × OpensOn tell start lines new (goes_on w'.core w.told.known Work.Opening (Cursor.Joins i) r) w'
      after = by start w lines (Cursor.Joins i) j.opens refl

      insts_are : w.told.known.insts ≡ new.insts
      insts_are = ap (λ (k : Known). k.insts) j.opens.known ∙ sym same.0

      on : (b : Bool) → ltb i w.told.known.insts ≡ b
          → OpensOn tell start lines new (cond {A = Option Cursor} b (Some (Cursor.Joins (i + 1))) (leavers after.0.core 1 8)) after.0
      on b is = subst (λ (o : Option Cursor). OpensOn tell start lines new o after.0) (join-goes w.told.known after.0.core i r b is) after.1

      go : (b : Bool) → ltb i w.told.known.insts ≡ b → (w' : World) × HaveJoined tell start lines new (i + 1) w'
      go true is =
          let lt : i < w.told.known.insts = ltb-true i w.told.known.insts is in
          (after.0, inl (record { opens = on true is; most = omega (arith, lt, insts_are) }))
      go false is =
          let le : w.told.known.insts ≤ i = ltb-false i w.told.known.insts is in
          (after.0, inr (omega (arith, le, insts_are), on false is))

  pub broken : BreaksBy tell old new (event.Join i) → JoinBreaks tell old new i
  broken by start w lines j = by start w lines (Cursor.Joins i) j.opens refl

-- ---- one join after another

-- wherever instance 1 was to join, those below i have
abbrev pub InJoins : {G : Type 0} → Telling G → Rise G → Rise G → ℕ → Type 0
InJoins {G} tell old here i = (start : Start G) (w : World) (lines : List Line) → JoinsNext tell start lines old 1 w
    → (w' : World) × HaveJoined tell start lines here i w'

module _ {G : Type 0} (tell : Telling G) (old here : Rise G) (i : ℕ) (on : InJoins tell old here i) where
  module _ (le : i ≤ here.insts) where
    joins-here : (start : Start G) (w : World) (lines : List Line) → JoinsNext tell start lines old 1 w
        → (w' : World) × JoinsNext tell start lines here i w'
    joins-here start w lines j = let h = on start w lines j in (h.0, ⊎_elim (λ k. k) (λ late. absurd (omega (arith, late.0, le))) h.1)

    pub is-opening : IsOpening tell old 1 → IsOpening tell here i
    is-opening a = let h = joins-here a.start a.world a.lines a.joins in record { start = a.start; world = h.0; lines = a.lines; joins = h.1 }

    module _ (new : Rise G) where
      pub joins-next : Joins tell here new i → InJoins tell old new (i + 1)
      joins-next joins start w lines j = let h = joins-here start w lines j in joins start h.0 lines h.1

      pub joins-some : StaysIn tell here.hall new.hall → OpensSome tell old new 1
      joins-some stays_in start w lines j =
          let h = joins-here start w lines j in
          (h.0, stays_in start h.0 h.1.opens.there, opening-due tell start lines here (Cursor.Joins i) h.0 h.1.opens)

      pub joins-broken : JoinBreaks tell here new i → JoinBreaks tell old new 1
      joins-broken breaks start w lines j = let h = joins-here start w lines j in breaks start h.0 lines h.1

  -- behind the last one pools are to be emptied
  pub joins-all : here.insts < i → JoinsAll tell old here 1
  joins-all lt start w lines j =
      let h = on start w lines j in (h.0, ⊎_elim (λ k. let le = k.most in absurd (omega (arith, lt, le))) (λ late. late.1) h.1)

-- ---- all of it

module _ {G : Type 0} (tell : Telling G) (old : Rise G) (empty : old.hall.book.entries ≡ [])
    (now : (d : G) (img : DeviceImages) → tell.since d (tell.moment d) img → Leaves (tell.leaves d) img) where
  -- whatever it begins with, it comes to a world of which this holds
  abbrev pub Opened : (Start G → List Line → World → Type 0) → Type 0
  Opened P = (start : Core) (lines : List Line) (rig : G) → IsRigIn rig old.hall.body → Keeps tell start old.hall
      → (w : World) × P (begin_of old lines start rig) lines w

  rig-there : (start : Core) → Keeps tell start old.hall → (rig : G) × IsRigIn rig old.hall.body
  rig-there start k =
      let b = fits-some tell old.hall.body k.core k.fits in
      (rig_of b.0, subst (λ (x : Option (Body G)). IsRigIn (rig_of b.0) x) (sym b.1) refl)

  pub is-restarting : (start : Core) × Keeps tell start old.hall → IsRestarting tell old 1
  is-restarting s =
      let rig = rig-there s.0 s.1 in
      record {
        start = begin_of old [] s.0 rig.0;
        world = (begin_of old [] s.0 rig.0).world;
        lines = [];
        restarts = restarts-first tell old s.0 [] rig.0 rig.1 s.1 empty now;
      }

  restarted-from : (mid : Rise G) (P : Start G → List Line → World → Type 0)
      → ((start : Start G) (w : World) (lines : List Line) → RestartsNext tell start lines old 1 w → (w' : World) × P start lines w') → Opened P
  restarted-from mid P on start lines rig is k =
      on (begin_of old lines start rig) (begin_of old lines start rig).world lines (restarts-first tell old start lines rig is k empty now)

  -- the hall is kept where it is in a world
  pub opened-keeps : (new : Rise G) → Opened (λ start lines w. IsIn tell start new.hall w) → (start : Core) → Keeps tell start old.hall
      → Keeps tell start new.hall
  opened-keeps new on start k = let rig = rig-there start k in (on start [] rig.0 rig.1 k).1.keeps

  -- there was no memory for the rest, and it is still under way
  abbrev pub Lost : Rise G → Type 0
  Lost new = Opened (λ start lines w. IsIn tell start new.hall w × IsUnderWay Work.Opening (works_of lines) w)

  pub restart-lost : (new : Rise G) → RestartsSome tell old new 1 → Lost new
  restart-lost new some = restarted-from new (λ start lines w. IsIn tell start new.hall w × IsUnderWay Work.Opening (works_of lines) w)
      (λ start w lines at. let h = some start w lines at in (h.0, (h.1, h.2)))

  pub lost-in : (new : Rise G) → Lost new → (start : Core) (lines : List Line) (rig : G) → IsRigIn rig old.hall.body → Keeps tell start old.hall
      → (w : World) × IsIn tell (begin_of old lines start rig) new.hall w × IsUnderWay Work.Opening (works_of lines) w
  lost-in new lost start lines rig is k = let h = lost start lines rig is k in (h.0, h.1.0, h.1.1)

  pub lost-keeps : (new : Rise G) → Lost new → (start : Core) → Keeps tell start old.hall → Keeps tell start new.hall
  lost-keeps new lost = opened-keeps new (λ start lines rig is k. let h = lost start lines rig is k in (h.0, h.1.0))

  -- a device failed in it
  abbrev pub Fails : Rise G → Type 0
  Fails new = Opened (λ start lines w. IsIn tell start new.hall w × (w.told.failed ≡ true))

  pub restart-fails : (new : Rise G) → RestartBreaks tell old new 1 → Fails new
  restart-fails new breaks = restarted-from new (λ start lines w. IsIn tell start new.hall w × (w.told.failed ≡ true))
      (λ start w lines at. let h = breaks start w lines at in (h.0, (h.1, h.2)))

  pub fails-keeps : (new : Rise G) → Fails new → (start : Core) → Keeps tell start old.hall → Keeps tell start new.hall
  fails-keeps new fails = opened-keeps new (λ start lines rig is k. let h = fails start lines rig is k in (h.0, h.1.0))

  -- `seen` is the rig's law
  pub fails-break : (new : Rise G) → Fails new → ((d : G) (dev : ℕ) → dev ≤ 8 → tell.leaves d dev (tell.seen d dev))
      → (start : Core) (lines : List Line) (rig : G) → IsRigIn rig old.hall.body → Keeps tell start old.hall
      → (left : G) → IsRigIn left new.hall.body → Breaks tell (begin_of old lines start rig) left
  fails-break new fails seen start lines rig is k left there =
      let h = fails start lines rig is k in breaks-there tell (begin_of old lines start rig) new.hall h.0 h.1.0 h.1.1 seen left there

  module _ (mid : Rise G) (same : IsSame old mid) (some : 1 ≤ old.insts) (on : Restarts tell old mid 1 9) where
    joins-first : (start : Start G) (w : World) (lines : List Line) → RestartsNext tell start lines mid 9 w → JoinsNext tell start lines mid 1 w
    joins-first start w lines at = record {
      opens = record {
        there = at.there;
        known = at.known;
        left = at.left;
        at = at.at;
        idle = at.idle;
        unfailed = at.unfailed;
      };
      most = let insts = same.0 in omega (arith, insts, some);
    }

    pub joins-open : IsRestarting tell old 1 → IsOpening tell mid 1
    joins-open a =
        let h = on a.start a.world a.lines a.restarts in
        record { start = a.start; world = h.0; lines = a.lines; joins = joins-first a.start h.0 a.lines h.1 }

    joined-from : (P : Start G → List Line → World → Type 0)
        → ((start : Start G) (w : World) (lines : List Line) → JoinsNext tell start lines mid 1 w → (w' : World) × P start lines w') → Opened P
    joined-from P more = restarted-from mid P (λ start w lines at.
        let h = on start w lines at in more start h.0 lines (joins-first start h.0 lines h.1))

    module _ (new : Rise G) where
      pub joins-lost : OpensSome tell mid new 1 → Lost new
      joins-lost lost = joined-from (λ start lines w. IsIn tell start new.hall w × IsUnderWay Work.Opening (works_of lines) w)
          (λ start w lines at. let h = lost start w lines at in (h.0, (h.1, h.2)))

      pub joins-fail : JoinBreaks tell mid new 1 → Fails new
      joins-fail breaks = joined-from (λ start lines w. IsIn tell start new.hall w × (w.told.failed ≡ true))
          (λ start w lines at. let h = breaks start w lines at in (h.0, (h.1, h.2)))

    module _ (last : Rise G) (all : JoinsAll tell mid last 1) where
      pub pools-open : IsRestarting tell old 1 → OpensAt tell last (pools_from 1)
      pools-open a =
          let j = joins-open a in
          let h = all j.start j.world j.lines j.joins in
          record { start = j.start; world = h.0; lines = j.lines; on = h.1 }

      emptied-from : (P : Start G → List Line → World → Type 0)
          → ((start : Start G) (w : World) (lines : List Line) → AllJoined tell start lines last w → (w' : World) × P start lines w') → Opened P
      emptied-from P more = joined-from P (λ start w lines j. let h = all start w lines j in more start h.0 lines h.1)

      module _ (new : Rise G) where
        pub pools-lost : StopsIn tell last new (pools_from 1) → Lost new
        pools-lost lost = emptied-from (λ start lines w. IsIn tell start new.hall w × IsUnderWay Work.Opening (works_of lines) w)
            (λ start w lines on. let h = lost start w lines on in (h.0, (h.1, h.2)))

        pub pools-fail : BreaksIn tell last new (pools_from 1) → Fails new
        pools-fail breaks = emptied-from (λ start lines w. IsIn tell start new.hall w × (w.told.failed ≡ true))
            (λ start w lines on. let h = breaks start w lines on in (h.0, (h.1, h.2)))

        -- where no pool is left to be emptied, the lines are to come
        pub opened-all : OpensTo tell last new (pools_from 1) (pools_from 9) → Opened (λ start lines w. HasRisen tell start lines new w)
        opened-all empty = emptied-from (λ start lines w. HasRisen tell start lines new w) (λ start w lines on.
            let h = empty start w lines on in
            (h.0, subst (λ (o : Option Cursor). OpensOn tell start lines new o h.0) (pools-none h.0.core) h.1))

        pub reached-keeps : Opened (λ start lines w. HasRisen tell start lines new w) → (start : Core) → Keeps tell start old.hall
            → Keeps tell start new.hall
        reached-keeps all_ = opened-keeps new (λ start lines rig is k. let h = all_ start lines rig is k in (h.0, h.1.there))
