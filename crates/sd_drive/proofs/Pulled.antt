-- A pull goes round: an ask, what it is answered to, an ask again. It serves the goals of pull.rt.
use Rattle.std.proofs.Common.{◌≡◌, inl, inr, ⊎_elim, ℕ, ◌<◌, ◌≤◌, Bool, true, false, refl, sym, subst}
use Rattle.std.specs.Prelude.{Result, Ok, Err, IfOk, OnErr}
use Rattle.sd_base.specs.declared.place.Mode.{Mode}
use Rattle.sd_base.specs.declared.refusal.Memory.{Memory}
use Rattle.sd_base.specs.declared.refusal.Refusal.TheVariants as R
use Rattle.sd_model.specs.declared.cause.Cause.{Cause}
use Rattle.sd_model.specs.declared.event.Event.{Event}
use Rattle.sd_model.specs.declared.event.Event.TheVariants as event
use Rattle.sd_model.specs.declared.event.Reply.{Reply}
use Rattle.sd_model.specs.declared.event.Reply.TheVariants as reply
use Rattle.sd_world.specs.Pages.{Pages, held_count}
use Rattle.sd_world.specs.Serving.{Core, Telling}
use Rattle.sd_world.proofs.Causes.{cause-said}
use Rattle.sd_hall.specs.declared.hall.Hall.{Hall}
use Rattle.sd_drive.specs.declared.pull.Answer.{Answer}
use Rattle.sd_drive.specs.declared.pull.Answer.TheVariants as answers
use Rattle.sd_drive.specs.Bodies.{asks_in, entry_in}
use Rattle.sd_drive.specs.Driven.{Happens, Helped, IsFull, IsGiven, IsTaken, MakesRoom, PulledIn, PullsAll, PullsOn, PullsSome, Rounds, StaysIn, again_if, answer_as, next_if}
use Rattle.sd_drive.specs.Measure.{GivesUp, IsNearer, copies_of, distance}
use Rattle.sd_drive.specs.Pulls.{Pull, Puller, helped, is_pulling, IsDue}
use Rattle.sd_drive.specs.Standing.{Pulling}
use Rattle.sd_drive.proofs.Acts.{ask-open, take-open}
use Rattle.sd_drive.proofs.Answering.{ask-ends, asked-is, did-is, full-is, gave-is, give-ends, had-is, moving-is, take-ends}
use Rattle.sd_drive.proofs.Bodies.{asks-are, entry-is, fits-now}
use Rattle.sd_drive.proofs.Helps.{if-ok-then, on-err-then}
use Rattle.sd_drive.proofs.Lined.{pulling-due}
use Rattle.sd_drive.proofs.Measures.{same-distance}
use Rattle.sd_drive.proofs.Nearing.{free-nearer, give-nearer, moving-nearer, take-nearer}
use Rattle.sd_drive.proofs.Needs.{gets-holds}

-- ---- one after another

module _ {G : Type 0} (tell : Telling G) (for : Puller) where
  pub pulled-on : (old new : Hall G) (pull next : Pull) (P : Core → Core → Type 0) → PullsOn tell old new for pull next P
      → PulledIn tell old for pull → PulledIn tell new for next
  pulled-on old new pull next P on s =
      let h = on s.start s.world s.at s.work s.rest s.cursor s.own s.there s.pulls in
      record { start = s.start; world = h.0; at = s.at; work = s.work; rest = s.rest; cursor = s.cursor; own = s.own; there = h.1; pulls = h.2 }

  module _ (old mid new : Hall G) (pull next : Pull) (P : Core → Core → Type 0) (on : PullsOn tell old mid for pull next P) where
    pub then-on : (last : Pull) (Q V : Core → Core → Type 0) → PullsOn tell mid new for next last Q
        → ((a b c : Core) → P a b → Q b c → V a c) → PullsOn tell old new for pull last V
    then-on last Q V more both start w at work rest c e i s =
        let h = on start w at work rest c e i s in
        let k = more start h.0 at work rest c e h.1 h.2 in
        (k.0, k.1, k.2, both w.core h.0.core k.0.core h.3 k.3)

    pub then-some : PullsSome tell mid new for next → PullsSome tell old new for pull
    then-some some start w at work rest c e i s = let h = on start w at work rest c e i s in some start h.0 at work rest c e h.1 h.2

    pub then-stays : StaysIn tell mid new → PullsSome tell old new for pull
    then-stays stays start w at work rest c e i s = let h = on start w at work rest c e i s in
        (h.0, stays start h.0 h.1, pulling-due at work rest c e for next h.0 h.2)

  pub stays-some : (old new : Hall G) (pull : Pull) → StaysIn tell old new → PullsSome tell old new for pull
  stays-some old new pull stays start w at work rest c e i s = (w, stays start w i, pulling-due at work rest c e for pull w s)

  -- a pull in vain ends
  pub ends-all : (old new : Hall G) (p : ℕ) (P : Core → Core → Type 0) → PullsOn tell old new for (Pull.Asks p) Pull.Ends P → PullsAll tell old new for p false
  ends-all old new p P on start w at work rest c e i s =
      let h = on start w at work rest c e i s in (h.0, Pull.Ends, h.1, h.2, refl)

  -- a helping event that was due, with this reply
  pub helped-as : (old new : Hall G) (e : Event) (r : Reply) (pull next : Pull) → Helped tell old new e r → is_pulling pull ≡ true
      → ((w : Pages) → IsDue w for pull e) → helped pull e r ≡ next → PullsOn tell old new for pull next (Happens e r)
  helped-as old new e r pull next on pulls due goes start w at work rest c own i s =
      let h = on start w at work rest c own for pull i s pulls (due w.core.pages) in
      (h.0, h.1, subst (λ (x : Pull). Pulling at work rest c own for x h.0) goes h.2, h.3)

  -- the pool of i is full where room is to be made
  pub full-in : (old new : Hall G) (pull : Pull) (p i : ℕ) (P : Core → Core → Type 0) → PullsOn tell old new for pull (Pull.Room p i) P
      → ((a b : Core) → P a b → IsFull i b) → PulledIn tell old for pull → (k : PulledIn tell new for (Pull.Room p i)) × IsFull i k.world.core
  full-in old new pull p i P on full s =
      let h = on s.start s.world s.at s.work s.rest s.cursor s.own s.there s.pulls in (
        record { start = s.start; world = h.0; at = s.at; work = s.work; rest = s.rest; cursor = s.cursor; own = s.own; there = h.1; pulls = h.2 },
        full s.world.core h.0.core h.3,
      )

-- ---- an ask

module _ {G : Type 0} (tell : Telling G) (i p : ℕ) (mode : Mode) (old mid : Hall G) where
  abbrev for : Puller
  for = record { inst = i; mode = mode }

  abbrev ask : Event
  ask = event.Ask i p mode

  abbrev Asks : Reply → Type 0
  Asks r = Helped tell old mid (event.Ask i p mode) r

  on-as : (r : Reply) (next : Pull) → Asks r → helped (Pull.Asks p) (event.Ask i p mode) r ≡ next
      → PullsOn tell old mid (record { inst = i; mode = mode }) (Pull.Asks p) next (Happens (event.Ask i p mode) r)
  on-as r next on goes = helped-as tell (record { inst = i; mode = mode }) old mid (event.Ask i p mode) r (Pull.Asks p) next on refl (λ w. refl) goes

  module _ (r : Reply) (on : Asks r) where
    as-is : (q : Reply) → r ≡ q → Asks q
    as-is q is = subst Asks is on

    pub asked-on : (of : ℕ) → answer_as r ≡ answers.Asked of
        → PullsOn tell old mid (record { inst = i; mode = mode }) (Pull.Asks p) (Pull.Gives p of) (Happens (event.Ask i p mode) (reply.Asked of))
    asked-on of is = on-as (reply.Asked of) (Pull.Gives p of) (as-is (reply.Asked of) (asked-is r of is)) refl

    pub moving-on : (to : ℕ) → answer_as r ≡ answers.MovingTo to
        → PullsOn tell old mid (record { inst = i; mode = mode }) (Pull.Asks p) (Pull.Takes p to) (Happens (event.Ask i p mode) (reply.Refused (R.MovingTo to)))
    moving-on to is = on-as (reply.Refused (R.MovingTo to)) (Pull.Takes p to) (as-is (reply.Refused (R.MovingTo to)) (moving-is r to is)) refl

    pub full-on : answer_as r ≡ answers.NoFrame
        → PullsOn tell old mid (record { inst = i; mode = mode }) (Pull.Asks p) (Pull.Room p i) (Happens (event.Ask i p mode) (reply.Refused R.PoolFull))
    full-on is = on-as (reply.Refused R.PoolFull) (Pull.Room p i) (as-is (reply.Refused R.PoolFull) (full-is r is)) refl

    -- the last ask: the page is there
    pub asked-had : answer_as r ≡ answers.Had → PullsAll tell old mid (record { inst = i; mode = mode }) p true
    asked-had is start w at work rest c e there s =
        let h = on-as reply.Have Pull.Idle (as-is reply.Have (had-is r is)) refl start w at work rest c e there s in
        (h.0, Pull.Idle, h.1, h.2, (refl, gets-holds i p mode w.core.pages h.0.core.pages h.3.moves.1))

    -- or it can't be had
    pub asked-vain : (a : Answer) → answer_as r ≡ a → (a ≡ answers.Had → ⊥) → ((of : ℕ) → a ≡ answers.Asked of → ⊥)
        → ((to : ℕ) → a ≡ answers.MovingTo to → ⊥) → (a ≡ answers.NoFrame → ⊥) → PullsAll tell old mid (record { inst = i; mode = mode }) p false
    asked-vain a is had asked moving full = ends-all tell (record { inst = i; mode = mode }) old mid p (Happens (event.Ask i p mode) r)
        (on-as r Pull.Ends on (ask-ends p (event.Ask i p mode) r a is had asked moving full))

-- ---- what the ask is answered to

-- an ask that finds no frame leaves all as it was
full-asked : (i p : ℕ) (mode : Mode) (a b : Core) → Happens (event.Ask i p mode) (reply.Refused R.PoolFull) a b → b.pages ≡ a.pages
full-asked i p mode a b h = h.moves.leaves

pub full-inst : (i p : ℕ) (mode : Mode) (a b : Core) → Happens (event.Ask i p mode) (reply.Refused R.PoolFull) a b → IsFull i b
unfolding copies_of
full-inst i p mode a b h = (
  ask-open a.scene.state b.scene.state i p mode h.plays.step,
  subst (λ (w : Pages). w.frames ≤ held_count w.entry i 1024) (sym h.moves.leaves)
      (cause-said a.scene.state a.pages (event.Ask i p mode) R.PoolFull b.scene.state b.pages Cause.Frame h.moves refl refl).1,
)

pub full-taker : (to p : ℕ) (a b : Core) → Happens (event.Take to p) (reply.Refused R.PoolFull) a b → IsFull to b
unfolding copies_of
full-taker to p a b h = (
  take-open a.scene.state b.scene.state to p h.plays.step,
  subst (λ (w : Pages). w.frames ≤ held_count w.entry to 1024) (sym h.moves.leaves)
      (cause-said a.scene.state a.pages (event.Take to p) R.PoolFull b.scene.state b.pages Cause.Frame h.moves refl refl),
)

module _ (i p : ℕ) (mode : Mode) (a b c : Core) where
  gave-both : (of : ℕ) → Happens (event.Ask i p mode) (reply.Asked of) a b → IsGiven true of p b c → IsNearer i mode p a.pages c.pages
  gave-both of h g = give-nearer a.scene.state a.pages i p mode b.scene.state b.pages of h.moves g.0 c.scene.state c.pages g.1.moves

  took-both : (to : ℕ) → Happens (event.Ask i p mode) (reply.Refused (R.MovingTo to)) a b → IsTaken true to p b c → IsNearer i mode p a.pages c.pages
  took-both to h t = ⊎_elim
      (λ (took : Happens (event.Take to p) reply.Did b c). take-nearer a.scene.state a.pages i p mode b.scene.state b.pages to h.moves c.scene.state c.pages took.moves)
      (λ (room : MakesRoom true to b c). moving-nearer i p mode to room.0 a.pages c.pages (subst (λ (w : Pages). GivesUp to room.0 w c.pages) h.moves.leaves room.1) h.moves.place)
      t

  room-both : Happens (event.Ask i p mode) (reply.Refused R.PoolFull) a b → MakesRoom true i b c → IsNearer i mode p a.pages c.pages
  room-both h room = free-nearer i p mode i room.0 a.pages c.pages (subst (λ (w : Pages). GivesUp i room.0 w c.pages) (full-asked i p mode a b h) room.1)
      (cause-said a.scene.state a.pages (event.Ask i p mode) R.PoolFull b.scene.state b.pages Cause.Frame h.moves refl refl).0 refl

module _ {G : Type 0} (tell : Telling G) (i p : ℕ) (mode : Mode) (old mid new : Hall G) where
  pub gave-round : (of : ℕ) (b : Bool)
      → PullsOn tell old mid (record { inst = i; mode = mode }) (Pull.Asks p) (Pull.Gives p of) (Happens (event.Ask i p mode) (reply.Asked of))
      → PullsOn tell mid new (record { inst = i; mode = mode }) (Pull.Gives p of) (next_if b p) (IsGiven b of p)
      → Rounds tell old new (record { inst = i; mode = mode }) p (again_if b)
  gave-round of true on more = then-on tell (record { inst = i; mode = mode }) old mid new (Pull.Asks p) (Pull.Gives p of) _ on (Pull.Asks p) _ _ more
      (λ a b c h g. gave-both i p mode a b c of h g)
  gave-round of false on more = ends-all tell (record { inst = i; mode = mode }) old new p (λ a b. Unit {0})
      (then-on tell (record { inst = i; mode = mode }) old mid new (Pull.Asks p) (Pull.Gives p of) _ on Pull.Ends _ (λ a b. Unit {0}) more (λ a b c h g. tt))

  pub took-round : (to : ℕ) (b : Bool)
      → PullsOn tell old mid (record { inst = i; mode = mode }) (Pull.Asks p) (Pull.Takes p to) (Happens (event.Ask i p mode) (reply.Refused (R.MovingTo to)))
      → PullsOn tell mid new (record { inst = i; mode = mode }) (Pull.Takes p to) (next_if b p) (IsTaken b to p)
      → Rounds tell old new (record { inst = i; mode = mode }) p (again_if b)
  took-round to true on more = then-on tell (record { inst = i; mode = mode }) old mid new (Pull.Asks p) (Pull.Takes p to) _ on (Pull.Asks p) _ _ more
      (λ a b c h t. took-both i p mode a b c to h t)
  took-round to false on more = ends-all tell (record { inst = i; mode = mode }) old new p (λ a b. Unit {0})
      (then-on tell (record { inst = i; mode = mode }) old mid new (Pull.Asks p) (Pull.Takes p to) _ on Pull.Ends _ (λ a b. Unit {0}) more (λ a b c h t. tt))

  pub room-round : (b : Bool)
      → PullsOn tell old mid (record { inst = i; mode = mode }) (Pull.Asks p) (Pull.Room p i) (Happens (event.Ask i p mode) (reply.Refused R.PoolFull))
      → PullsOn tell mid new (record { inst = i; mode = mode }) (Pull.Room p i) (next_if b p) (MakesRoom b i)
      → Rounds tell old new (record { inst = i; mode = mode }) p (again_if b)
  room-round true on more = then-on tell (record { inst = i; mode = mode }) old mid new (Pull.Asks p) (Pull.Room p i) _ on (Pull.Asks p) _ _ more
      (λ a b c h room. room-both i p mode a b c h room)
  room-round false on more = ends-all tell (record { inst = i; mode = mode }) old new p (λ a b. Unit {0})
      (then-on tell (record { inst = i; mode = mode }) old mid new (Pull.Asks p) (Pull.Room p i) _ on Pull.Ends _ (λ a b. Unit {0}) more (λ a b c h room. tt))

-- What the events that fell due came to, done or not: the page is asked for again, or the pull has ended.
abbrev pub Went : {G : Type 0} → Telling G → Hall G → Hall G → Puller → ℕ → Result Bool Memory → Type 0
Went tell old new for p r = IfOk r (λ done. Rounds tell old new for p (again_if done)) × OnErr r (PullsSome tell old new for (Pull.Asks p))

module _ {G : Type 0} (tell : Telling G) (i p : ℕ) (mode : Mode) (old mid new : Hall G) (r : Result Bool Memory) where
  pub gave-went : (of : ℕ)
      → PullsOn tell old mid (record { inst = i; mode = mode }) (Pull.Asks p) (Pull.Gives p of) (Happens (event.Ask i p mode) (reply.Asked of))
      → IfOk r (λ given. (for : Puller) → PullsOn tell mid new for (Pull.Gives p of) (next_if given p) (IsGiven given of p))
      → OnErr r (StaysIn tell mid new) → Went tell old new (record { inst = i; mode = mode }) p r
  gave-went of on more some = (
    if-ok-then r _ _ (λ given goes. gave-round tell i p mode old mid new of given on (goes (record { inst = i; mode = mode }))) more,
    on-err-then r _ _ (λ stays. then-stays tell (record { inst = i; mode = mode }) old mid new (Pull.Asks p) (Pull.Gives p of) _ on stays) some,
  )

  pub took-went : (to : ℕ)
      → PullsOn tell old mid (record { inst = i; mode = mode }) (Pull.Asks p) (Pull.Takes p to) (Happens (event.Ask i p mode) (reply.Refused (R.MovingTo to)))
      → IfOk r (λ taken. (for : Puller) → PullsOn tell mid new for (Pull.Takes p to) (next_if taken p) (IsTaken taken to p))
      → OnErr r ((for : Puller) → PullsSome tell mid new for (Pull.Takes p to)) → Went tell old new (record { inst = i; mode = mode }) p r
  took-went to on more some = (
    if-ok-then r _ _ (λ taken goes. took-round tell i p mode old mid new to taken on (goes (record { inst = i; mode = mode }))) more,
    on-err-then r _ _ (λ goes. then-some tell (record { inst = i; mode = mode }) old mid new (Pull.Asks p) (Pull.Takes p to) _ on
        (goes (record { inst = i; mode = mode }))) some,
  )

  pub room-went :
      PullsOn tell old mid (record { inst = i; mode = mode }) (Pull.Asks p) (Pull.Room p i) (Happens (event.Ask i p mode) (reply.Refused R.PoolFull))
      → IfOk r (λ room. (for : Puller) (q : ℕ) → PullsOn tell mid new for (Pull.Room q i) (next_if room q) (MakesRoom room i))
      → OnErr r ((for : Puller) (q : ℕ) → PullsSome tell mid new for (Pull.Room q i)) → Went tell old new (record { inst = i; mode = mode }) p r
  room-went on more some = (
    if-ok-then r _ _ (λ room goes. room-round tell i p mode old mid new room on (goes (record { inst = i; mode = mode }) p)) more,
    on-err-then r _ _ (λ goes. then-some tell (record { inst = i; mode = mode }) old mid new (Pull.Asks p) (Pull.Room p i) _ on
        (goes (record { inst = i; mode = mode }) p)) some,
  )

-- as it went at another hall and another result that are these
pub went-as : {G : Type 0} (tell : Telling G) (old new here : Hall G) (for : Puller) (p : ℕ) (r there : Result Bool Memory) → here ≡ new → there ≡ r
    → Went tell old new for p r → Went tell old here for p there
went-as tell old new here for p r there h e went =
    subst (λ (hall : Hall _). Went tell old hall for p there) (sym h) (subst (λ (x : Result Bool Memory). Went tell old new for p x) (sym e) went)

module _ {G : Type 0} (tell : Telling G) (old new : Hall G) (for : Puller) (p : ℕ) (r : Result Bool Memory) (went : Went tell old new for p r) where
  pub went-on : (done said : Bool) → r ≡ Ok done → done ≡ said → Rounds tell old new for p (again_if said)
  went-on done said is says = subst (λ (b : Bool). Rounds tell old new for p (again_if b)) says
      (subst (λ (x : Result Bool Memory). IfOk x (λ b. Rounds tell old new for p (again_if b))) is went.0)

  pub went-some : (e : Memory) → r ≡ Err e → PullsSome tell old new for (Pull.Asks p)
  went-some e is = subst (λ (x : Result Bool Memory). OnErr x (PullsSome tell old new for (Pull.Asks p))) is went.1

-- ---- a give, and a take

module _ {G : Type 0} (tell : Telling G) (p : ℕ) (for : Puller) (old new : Hall G) where
  pub given-on : (of : ℕ) (r : Reply) → Helped tell old new (event.Give of p) r → answer_as r ≡ answers.Gave
      → PullsOn tell old new for (Pull.Gives p of) (Pull.Asks p) (IsGiven true of p)
  given-on of r on is start w at work rest c e i s =
      let g = gave-is r is in
      let h = helped-as tell for old new (event.Give of p) (reply.Gave g.0) (Pull.Gives p of) (Pull.Asks p)
      (subst (λ (x : Reply). Helped tell old new (event.Give of p) x) g.1 on) refl (λ w. refl) refl start w at work rest c e i s in
      (h.0, h.1, h.2, (g.0, h.3))

  pub given-not : (of : ℕ) (r : Reply) → Helped tell old new (event.Give of p) r → (answer_as r ≡ answers.Gave → ⊥)
      → PullsOn tell old new for (Pull.Gives p of) Pull.Ends (IsGiven false of p)
  given-not of r on isnt start w at work rest c e i s =
      let h = helped-as tell for old new (event.Give of p) r (Pull.Gives p of) Pull.Ends on refl (λ w. refl) (give-ends p of (event.Give of p) r isnt)
      start w at work rest c e i s in (h.0, h.1, h.2, tt)

  module _ (to : ℕ) (r : Reply) (on : Helped tell old new (event.Take to p) r) where
    pub taken-on : answer_as r ≡ answers.Did → PullsOn tell old new for (Pull.Takes p to) (Pull.Asks p) (IsTaken true to p)
    taken-on is start w at work rest c e i s =
        let h = helped-as tell for old new (event.Take to p) reply.Did (Pull.Takes p to) (Pull.Asks p)
        (subst (λ (x : Reply). Helped tell old new (event.Take to p) x) (did-is r is) on) refl (λ w. refl) refl start w at work rest c e i s in
        (h.0, h.1, h.2, inl h.3)

    pub taken-not : (answer_as r ≡ answers.Did → ⊥) → (answer_as r ≡ answers.NoFrame → ⊥)
        → PullsOn tell old new for (Pull.Takes p to) Pull.Ends (IsTaken false to p)
    taken-not did full start w at work rest c e i s =
        let h = helped-as tell for old new (event.Take to p) r (Pull.Takes p to) Pull.Ends on refl (λ w. refl) (take-ends p to (event.Take to p) r did full)
        start w at work rest c e i s in (h.0, h.1, h.2, tt)

    pub taken-full : answer_as r ≡ answers.NoFrame
        → PullsOn tell old new for (Pull.Takes p to) (Pull.Room p to) (Happens (event.Take to p) (reply.Refused R.PoolFull))
    taken-full is = helped-as tell for old new (event.Take to p) (reply.Refused R.PoolFull) (Pull.Takes p to) (Pull.Room p to)
        (subst (λ (x : Reply). Helped tell old new (event.Take to p) x) (full-is r is) on) refl (λ w. refl) refl

-- the receiver's pool had no frame, and got room
pub taken-room : {G : Type 0} (tell : Telling G) (p : ℕ) (for : Puller) (old mid new : Hall G) (to : ℕ) (b : Bool)
    → PullsOn tell old mid for (Pull.Takes p to) (Pull.Room p to) (Happens (event.Take to p) (reply.Refused R.PoolFull))
    → PullsOn tell mid new for (Pull.Room p to) (next_if b p) (MakesRoom b to) → PullsOn tell old new for (Pull.Takes p to) (next_if b p) (IsTaken b to p)
taken-room tell p for old mid new to true on more = then-on tell for old mid new (Pull.Takes p to) (Pull.Room p to) _ on (Pull.Asks p) _ _ more
    (λ a b c h room. inr (room.0, subst (λ (w : Pages). GivesUp to room.0 w c.pages) h.moves.leaves room.1))
taken-room tell p for old mid new to false on more = then-on tell for old mid new (Pull.Takes p to) (Pull.Room p to) _ on Pull.Ends _ _ more
    (λ a b c h room. tt)

-- ---- round after round

module _ {G : Type 0} (tell : Telling G) (i p : ℕ) (mode : Mode) (old here there : Hall G)
    (on : PullsOn tell old here (record { inst = i; mode = mode }) (Pull.Asks p) (Pull.Asks p) (λ a b. Unit {0})) where
  pub last-all : (came : Bool) → PullsAll tell here there (record { inst = i; mode = mode }) p came
      → PullsAll tell old there (record { inst = i; mode = mode }) p came
  last-all came all start w at work rest c e k s = let h = on start w at work rest c e k s in all start h.0 at work rest c e h.1 h.2

  module _ (round : PullsOn tell here there (record { inst = i; mode = mode }) (Pull.Asks p) (Pull.Asks p) (λ a b. IsNearer i mode p a.pages b.pages)) where
    pub round-on : PullsOn tell old there (record { inst = i; mode = mode }) (Pull.Asks p) (Pull.Asks p) (λ a b. Unit {0})
    round-on = then-on tell (record { inst = i; mode = mode }) old here there (Pull.Asks p) (Pull.Asks p) _ on (Pull.Asks p) _ _ round (λ a b c h k. tt)

    -- the page came nearer, as the directories tell
    pub comes-nearer : PulledIn tell here (record { inst = i; mode = mode }) (Pull.Asks p)
        → distance i mode p (entry_in there.body) (asks_in there.body p)
        < distance i mode p (entry_in here.body) (asks_in here.body p)
    comes-nearer s =
        let h = round s.start s.world s.at s.work s.rest s.cursor s.own s.there s.pulls in
        less _ _ _ _
        (same-distance i mode p (entry_in there.body) h.0.core.pages.entry (asks_in there.body p) (h.0.core.pages.asks p)
        (λ q. sym (entry-is tell there.body h.0.core (fits-now tell s.start there h.0 h.1) q)) (sym (asks-are tell there.body h.0.core (fits-now tell s.start there h.0 h.1) p)))
        (same-distance i mode p (entry_in here.body) s.world.core.pages.entry (asks_in here.body p)
        (s.world.core.pages.asks p) (λ q. sym (entry-is tell here.body s.world.core (fits-now tell s.start here s.world s.there) q)) (sym (asks-are tell here.body s.world.core (fits-now tell s.start here s.world s.there) p))) h.3
      where
        less : (x y u v : ℕ) → x ≡ u → y ≡ v → u < v → x < y
        less x y u v e f lt = subst (λ (k : ℕ). k < y) (sym e) (subst (λ (k : ℕ). u < k) (sym f) lt)
