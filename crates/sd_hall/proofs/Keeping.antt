-- A hall keeps its run. It serves the goals of `call` in hall.rt.
use Rattle.std.proofs.Common.{◌≡◌, inl, inr, ℕ, ◌+◌, ◌-◌, ◌≤◌, List, [], ◌∷◌, ◌++◌, length, Option, None, Some, refl, sym, ap, ◌∙◌, subst, arith}
use Rattle.std.specs.List.{slice_get}
use Rattle.std.specs.Prelude.{Result, Ok, Err, OnErr}
use Rattle.std.proofs.lemmas.List.{length-append}
use Rattle.sd_base.specs.declared.refusal.Refusal.TheVariants as R
use Rattle.sd_base.proofs.Lists.{slice_get-push}
use Rattle.sd_model.specs.declared.event.Entry.{Entry}
use Rattle.sd_model.specs.declared.event.Event.{Event}
use Rattle.sd_model.specs.declared.event.Event.TheVariants as event
use Rattle.sd_model.specs.declared.event.Reply.{Reply}
use Rattle.sd_model.specs.declared.event.Reply.TheVariants as reply
use Rattle.sd_model.proofs.Few.{few-steps}
use Rattle.sd_world.specs.Leading.{Leads}
use Rattle.sd_world.specs.Serving.{Core, Telling, Turns}
use Rattle.sd_world.proofs.Leading.{leads-grow}
use Rattle.sd_rig.specs.Devices.{DeviceImages}
use Rattle.sd_state.specs.declared.complex.Shape.{Shape}
use Rattle.sd_fits.specs.declared.body.Body.{Body}
use Rattle.sd_fits.proofs.Framed.{turns-frames}
use Rattle.sd_hall.specs.declared.hall.Hall.{Hall}
use Rattle.sd_hall.specs.Bodies.{IsAwaited, IsAwaitedIn, IsDownAt, IsWorked, IsWorkedIn, ServesIn}
use Rattle.sd_hall.specs.Owed.{IsOwed}
use Rattle.sd_hall.specs.Served.{IsServed}
use Rattle.sd_hall.specs.Keeping.{HasPlace, Keeps, MakesPlace}
use Rattle.sd_hall.specs.Ledger.{entries_owed, owed_more}
use Rattle.sd_hall.proofs.Owes.{step-owed}
use Rattle.sd_hall.proofs.LedgerBodies.{fell-in, listed-in, next-in, paid-in, placed-in, same-in}
use Rattle.sd_hall.proofs.Paid.{HasFallen, owed-none, owed-some}

-- one entry more is owed at most
pub more-one : (e : Event) (r : Reply) → owed_more e r ≤ 1
more-one (event.Begin i) (reply.Began t) = omega arith
more-one (event.Write t r v) reply.Did = omega arith
more-one (event.Add t r by) reply.Did = omega arith
more-one (event.Insert t p v n) (reply.At r) = omega arith
more-one (event.Delete t r) reply.Did = omega arith
more-one (event.Back t k) reply.Did = omega arith
more-one (event.Join i) (reply.Joined epoch) = omega arith
more-one e r = omega arith

-- so says the reply of a call
pub awaited-of : {G : Type 0} (e : Event) (r : Reply) (body : Option (Body G)) → IsAwaitedIn e (Some r) body → IsAwaited e r body
awaited-of (event.RecoverStep i) (reply.Refused (R.NeedPage place)) body awaits = awaits i place refl refl
awaited-of e r body awaits = tt

-- so says the reply of a call
pub worked-of : {G : Type 0} (seen : G → DeviceImages) (e : Event) (r : Reply) (old new : Option (Body G))
    → IsWorkedIn seen e (Some r) old new → IsWorked seen e r old new
worked-of seen e r old new works = works r refl

-- the reply of the last entry
pub last-is : (es before : List Entry) (last : Entry) → es ≡ before ++ last ∷ [] → slice_get es (length es - 1) ≡ Some last
last-is es before last is =
    let size : length (before ++ last ∷ []) ≡ length before + 1 = length-append before (last ∷ []) in
    let at : length (before ++ last ∷ []) - 1 ≡ length before = omega (arith, size) in
    subst (λ (xs : List Entry). slice_get xs (length xs - 1) ≡ Some last) (sym is)
    (ap (λ (n : ℕ). slice_get (before ++ last ∷ []) n) at ∙ slice_get-push before last)

-- so two replies are the same that are noted last
abbrev reply-of : Reply → Option Entry → Reply
reply-of r None = r
reply-of r (Some x) = x.reply

pub same-reply : (es before : List Entry) (x y : Entry) → es ≡ before ++ x ∷ [] → es ≡ before ++ y ∷ [] → x.reply ≡ y.reply
same-reply es before x y one two =
    ap (reply-of x.reply) (sym (last-is es before x one) ∙ last-is es before y two)

-- a place has room for an entry
pub has-room : {G : Type 0} (tell : Telling G) (e : Event) (old new : Hall G) → HasPlace tell e old new → 1 ≤ new.book.spare
has-room tell e old new (inl p) = let less = p.less in let room = p.room in omega (arith, less, room)
has-room tell e old new (inr p) = let room = p.room in omega (arith, room)

pub made-place : {G : Type 0} (tell : Telling G) (e : Event) (old new : Hall G) → new.owed ≡ old.owed
    → new.owed + 2 ≤ new.book.spare → HasPlace tell e old new
made-place tell e old new same room = inr (record { same = same; room = room })

-- what holds anyway holds of an error
pub of-err : {T E : Type 0} (r : Result T E) (P : Type 0) → P → OnErr r P
of-err (Ok x) P holds = tt
of-err (Err e) P holds = holds

-- a call for which an entry is owed finds memory
pub no-place : {G : Type 0} (tell : Telling G) (start : Core) (e : Event) (old mid : Hall G) → Keeps tell start old
    → ((w : Core) → IsOwed w e → ⊥) → HasPlace tell e old mid → MakesPlace old mid
no-place tell start e old mid k none (inl p) = absurd (none k.core (p.owed k.core k.fits))
no-place tell start e old mid k none (inr p) = p

-- where an entry is owed for an event, the hall counts it
pub owed-counted : {G : Type 0} (tell : Telling G) (start : Core) (e : Event) (hall : Hall G) → (k : Keeps tell start hall)
    → IsOwed k.core e → 1 ≤ hall.owed
owed-counted tell start e hall k owed =
    let some = owed-some k.core e (listed-in tell hall.body k.core k.fits) owed in let counted = k.counted in omega (arith, some, counted)

module _ {G : Type 0} (tell : Telling G) (start : Core) (old mid new : Hall G) (k : Keeps tell start old) where
  -- what the next state owes is counted
  counted-next : (e : Event) (r : Reply) (w' : Core) → IsServed e → Turns k.core e r w' → HasFallen e r w'.scene.state
      → HasPlace tell e old mid → new.owed ≡ mid.owed + owed_more e r → entries_owed w'.scene.state ≤ new.owed
  counted-next e r w' is_served turns fell (inl p) counts =
      let owed = p.owed k.core k.fits in
      let paid = paid-in tell old.body k.core w' k.fits e r owed fell turns in
      let before = k.counted in
      let less = p.less in
      omega (arith, counts, paid, before, less)
  counted-next e r w' is_served turns fell (inr p) counts =
      let more = step-owed k.core.scene.state e r w'.scene.state (listed-in tell old.body k.core k.fits) is_served turns.plays.step in
      let before = k.counted in
      let same = p.same in
      omega (arith, counts, more, before, same)

  room-next : (e : Event) (r : Reply) → HasPlace tell e old mid → new.owed ≡ mid.owed + owed_more e r
      → mid.book.spare ≤ new.book.spare + 1 → new.owed ≤ new.book.spare
  room-next e r (inl p) counts spare =
      let none = owed-none k.core e r (p.owed k.core k.fits) in
      let less = p.less in
      let room = p.room in
      omega (arith, counts, none, less, room, spare)
  room-next e r (inr p) counts spare =
      let one = more-one e r in let room = p.room in omega (arith, counts, one, room, spare)

  -- an event is served, and noted
  pub keeps-more : (x : Entry) → IsServed x.event → HasPlace tell x.event old mid
      → new.book.entries ≡ old.book.entries ++ x ∷ [] → ServesIn tell x.event (Some x.reply) old.body new.body
      → IsDownAt x.event (Some x.reply) new.body → new.shape ≡ old.shape
      → new.owed ≡ mid.owed + owed_more x.event x.reply → mid.book.spare ≤ new.book.spare + 1 → Keeps tell start new
  keeps-more x is_served place noted served down shape counts spare =
      let next = next-in tell x.event x.reply old.body new.body k.core k.fits served in
      record {
        core = next.0;
        leads = subst (λ (es : List Entry). Leads start es next.0) (sym noted)
            (leads-grow old.book.entries x start k.core next.0 k.leads next.1);
        fits = next.2;
        frames = turns-frames k.core next.0 x.event x.reply next.1 ∙ k.frames ∙ sym (ap (λ (s : Shape). s.frames) shape);
        least = subst (λ (s : Shape). 1 ≤ s.frames) (sym shape) k.least;
        most = subst (λ (s : Shape). s.frames ≤ 1024) (sym shape) k.most;
        few = few-steps k.core.scene.state x.event x.reply next.0.scene.state next.1.plays.step (placed-in tell old.body k.core k.fits)
            (listed-in tell old.body k.core k.fits) k.few;
        counted = counted-next x.event x.reply next.0 is_served next.1
            (fell-in tell new.body next.0 next.2 x.event x.reply down) place counts;
        room = room-next x.event x.reply place counts spare;
      }

-- there was no memory
pub keeps-same : {G : Type 0} (tell : Telling G) (start : Core) (old new : Hall G) → Keeps tell start old → (e : Event)
    → new.book.entries ≡ old.book.entries → ServesIn tell e None old.body new.body → new.shape ≡ old.shape
    → new.owed ≡ old.owed → old.book.spare ≤ new.book.spare → Keeps tell start new
keeps-same tell start old new k e same spared shape counts room =
    let before = k.room in
    let owed = k.counted in
    record {
      core = k.core;
      leads = subst (λ (es : List Entry). Leads start es k.core) (sym same) k.leads;
      fits = same-in tell e old.body new.body k.core k.fits spared;
      frames = k.frames ∙ sym (ap (λ (s : Shape). s.frames) shape);
      least = subst (λ (s : Shape). 1 ≤ s.frames) (sym shape) k.least;
      most = subst (λ (s : Shape). s.frames ≤ 1024) (sym shape) k.most;
      few = k.few;
      counted = omega (arith, counts, owed);
      room = omega (arith, counts, before, room);
    }
