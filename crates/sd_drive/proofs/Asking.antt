-- How the pool of an instance gets room. It serves the goals of pull.rt.
use Rattle.std.proofs.Common.{◌≡◌, ℕ, ◌<◌, Bool, true, false, cond, List, refl, sym, ap, ◌∙◌, subst}
use Rattle.std.specs.Prelude.{◌&&◌}
use Rattle.sd_model.specs.declared.event.Event.{Event}
use Rattle.sd_model.specs.declared.event.Event.TheVariants as event
use Rattle.sd_model.specs.declared.event.Reply.{Reply}
use Rattle.sd_model.specs.declared.event.Reply.TheVariants as reply
use Rattle.sd_pagelock.specs.Places.{PageEntry, changed, holds, receives}
use Rattle.sd_world.specs.Pages.{is_duty}
use Rattle.sd_world.specs.Serving.{Core, Telling, Turns}
use Rattle.sd_drive.specs.Bodies.{entry_in}
use Rattle.sd_hall.specs.declared.hall.Hall.{Hall}
use Rattle.sd_drive.specs.Driven.{Happens, Helped, IsIn, MakesRoom, PullsOn, next_if}
use Rattle.sd_model.specs.Replies.{is_did}
use Rattle.sd_drive.specs.Driving.{Cursor, Work, World}
use Rattle.sd_drive.specs.Pulls.{Pull, Puller, helped, makes_room}
use Rattle.sd_drive.specs.Standing.{Pulling}
use Rattle.sd_drive.proofs.Bodies.{entry-is, fits-now}
use Rattle.sd_drive.proofs.Rooms.{evict-gives, flush-gives, flush-still}
use Rattle.sd_drive.specs.Running.{Start}

gone-on : (i p v : ℕ) (r : Reply) → helped (Pull.Room p i) (event.Evict i v) r ≡ next_if (is_did r) p
gone-on i p v reply.Did = refl
gone-on i p v r = refl

gone-behind : (i p v : ℕ) (r : Reply) → helped (Pull.Evicts p i v) (event.Evict i v) r ≡ next_if (is_did r) p
gone-behind i p v reply.Did = refl
gone-behind i p v r = refl

-- a copy that is written goes next
written-on : (i p v : ℕ) (r : Reply) → is_did r ≡ true → helped (Pull.Room p i) (event.Flush i v) r ≡ Pull.Evicts p i v
written-on i p v reply.Did done = refl
written-on i p v r done = absurd (cc)

written-not : (i p v : ℕ) (r : Reply) → is_did r ≡ false → helped (Pull.Room p i) (event.Flush i v) r ≡ Pull.Ends
written-not i p v reply.Did done = absurd (cc)
written-not i p v r done = refl

is-did : (r : Reply) → is_did r ≡ true → r ≡ reply.Did
is-did reply.Did done = refl
is-did r done = absurd (cc)

frees : (r : Reply) (i v : ℕ) (w w' : Core) → v < 1024 → receives (w.pages.entry v) i ≡ false → Happens (event.Evict i v) r w w'
    → MakesRoom (is_did r) i w w'
frees reply.Did i v w w' lt still h = (v, evict-gives w.scene.state w.pages i v lt still w'.scene.state w'.pages h.moves)
frees r i v w w' lt still h = tt

-- it was written before
freed : (r : Reply) (i v : ℕ) (w mid new : Core) → v < 1024 → receives (w.pages.entry v) i ≡ false → Happens (event.Flush i v) reply.Did w mid
    → Happens (event.Evict i v) r mid new → MakesRoom (is_did r) i w new
freed reply.Did i v w mid new lt still f h =
    let then : receives (mid.pages.entry v) i ≡ false = flush-still w.scene.state w.pages i v lt still mid.scene.state mid.pages f.moves in (
      v,
      flush-gives w.scene.state w.pages i v lt still mid.scene.state mid.pages new.scene.state new.pages f.moves
          (evict-gives mid.scene.state mid.pages i v lt then new.scene.state new.pages h.moves),
    )
freed r i v w mid new lt still f h = tt

-- the copy may go at once, or is written first: its instance has it, and the pages say which
due-as : {G : Type 0} (tell : Telling G) (old : Hall G) (start : Start G) (w : World) → IsIn tell start old w → (i v : ℕ) (b : Bool)
    → (changed (entry_in old.body v) && is_duty i (entry_in old.body v)) ≡ b
    → makes_room w.core.pages i v ≡ cond {A = Event} b (event.Flush i v) (event.Evict i v)
due-as tell old start w there i v b is =
    ap (λ (c : Bool). cond {A = Event} c (event.Flush i v) (event.Evict i v))
    (ap (λ (e : PageEntry). changed e && is_duty i e) (entry-is tell old.body w.core (fits-now tell start old w there) v) ∙ is)

-- The copy of v may leave the pool of i: so far the pull came, and this the reply to the evict makes of it.
pub record Cleared {G : Type 0} (tell : Telling G) (old mid : Hall G) (i v : ℕ) : Type 0 where
  pub next : ℕ → Pull
  pub so_far : (for : Puller) (p : ℕ) → PullsOn tell old mid for (Pull.Room p i) (next p) (λ a b. Unit {0})
  pub goes : (new : Hall G) (r : Reply) → Helped tell mid new (event.Evict i v) r
      → (for : Puller) (p : ℕ) → PullsOn tell old new for (Pull.Room p i) (next_if (is_did r) p) (MakesRoom (is_did r) i)

module _ {G : Type 0} (tell : Telling G) (old : Hall G) (i v : ℕ) (lt : v < 1024)
    (has : holds (entry_in old.body v) i ≡ true) (rests : receives (entry_in old.body v) i ≡ false) where
  has-now : (start : Start G) (w : World) → IsIn tell start old w → holds (w.core.pages.entry v) i ≡ true
  has-now start w there = ap (λ (e : PageEntry). holds e i) (entry-is tell old.body w.core (fits-now tell start old w there) v) ∙ has

  rests-now : (start : Start G) (w : World) → IsIn tell start old w → receives (w.core.pages.entry v) i ≡ false
  rests-now start w there = ap (λ (e : PageEntry). receives e i) (entry-is tell old.body w.core (fits-now tell start old w there) v) ∙ rests

  pub room-evicted : (new : Hall G) (r : Reply)
      → (changed (entry_in old.body v) && is_duty i (entry_in old.body v)) ≡ false
      → Helped tell old new (event.Evict i v) r
      → (for : Puller) (p : ℕ) → PullsOn tell old new for (Pull.Room p i) (next_if (is_did r) p) (MakesRoom (is_did r) i)
  room-evicted new r clean on for p start w at work rest c e there s =
      let h = on start w at work rest c e for (Pull.Room p i) there s refl (v, has-now start w there, sym (due-as tell old start w there i v false clean)) in (
        h.0,
        h.1,
        subst (λ (next : Pull). Pulling at work rest c e for next h.0) (gone-on i p v r) h.2,
        frees r i v w.core h.0.core lt (rests-now start w there) h.3,
      )

  module _ (mid : Hall G) (r : Reply)
      (duty : (changed (entry_in old.body v) && is_duty i (entry_in old.body v)) ≡ true)
      (on : Helped tell old mid (event.Flush i v) r) (for : Puller) (p : ℕ) where
    flushed : (start : Start G) (w : World) (at : World) (work : Work) (rest : List Work) (c : Cursor) (e : Event) → IsIn tell start old w
        → Pulling at work rest c e for (Pull.Room p i) w
        → (w' : World) × IsIn tell start mid w' × Pulling at work rest c e for (helped (Pull.Room p i) (event.Flush i v) r) w'
        × Turns w.core (event.Flush i v) r w'.core
    flushed start w at work rest c e there s =
        on start w at work rest c e for (Pull.Room p i) there s refl (v, has-now start w there, sym (due-as tell old start w there i v true duty))

    pub room-failed : is_did r ≡ false → PullsOn tell old mid for (Pull.Room p i) Pull.Ends (MakesRoom false i)
    room-failed failed start w at work rest c e there s =
        let h = flushed start w at work rest c e there s in
        (h.0, h.1, subst (λ (next : Pull). Pulling at work rest c e for next h.0) (written-not i p v r failed) h.2, tt)

    pub room-written : is_did r ≡ true → PullsOn tell old mid for (Pull.Room p i) (Pull.Evicts p i v) (Happens (event.Flush i v) reply.Did)
    room-written done start w at work rest c e there s =
        let h = flushed start w at work rest c e there s in (
          h.0,
          h.1,
          subst (λ (next : Pull). Pulling at work rest c e for next h.0) (written-on i p v r done) h.2,
          subst (λ (x : Reply). Happens (event.Flush i v) x w.core h.0.core) (is-did r done) h.3,
        )

    pub room-gone : is_did r ≡ true → (new : Hall G) (q : Reply) → Helped tell mid new (event.Evict i v) q
        → PullsOn tell old new for (Pull.Room p i) (next_if (is_did q) p) (MakesRoom (is_did q) i)
    room-gone done new q on2 start w at work rest c e there s =
        let h = room-written done start w at work rest c e there s in
        let k = on2 start h.0 at work rest c e for (Pull.Evicts p i v) h.1 h.2 refl refl in (
          k.0,
          k.1,
          subst (λ (next : Pull). Pulling at work rest c e for next k.0) (gone-behind i p v q) k.2,
          freed q i v w.core h.0.core k.0.core lt (rests-now start w there) h.3 k.3,
        )

  -- a copy that needn't be written may go at once,
  pub cleared-clean : (changed (entry_in old.body v) && is_duty i (entry_in old.body v)) ≡ false → Cleared tell old old i v
  cleared-clean clean = record {
    next = λ p. Pull.Room p i;
    so_far = λ for p start w at work rest c e there s. (w, there, s, tt);
    goes = λ new r on for p. room-evicted new r clean on for p;
  }

  -- another once it was written
  pub cleared-written : (mid : Hall G) (r : Reply) → (changed (entry_in old.body v) && is_duty i (entry_in old.body v)) ≡ true
      → Helped tell old mid (event.Flush i v) r → is_did r ≡ true → Cleared tell old mid i v
  cleared-written mid r duty on done = record {
    next = λ p. Pull.Evicts p i v;
    so_far = λ for p start w at work rest c e there s. let h = room-written mid r duty on for p done start w at work rest c e there s in (h.0, h.1, h.2, tt);
    goes = λ new q on2 for p. room-gone mid r duty on for p done new q on2;
  }
