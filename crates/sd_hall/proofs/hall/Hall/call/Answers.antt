use Rattle.std.proofs.Common.{◌+◌, ◌≤◌, List, [], ◌∷◌, ◌++◌, Some, None, refl, sym, ap, ◌∙◌, subst, arith}
use Rattle.std.proofs.lemmas.Result.{err_from_is_err_and}
use Rattle.sd_model.specs.declared.event.Entry.{Entry}
use Rattle.sd_model.specs.declared.event.Reply.{Reply}
use Rattle.sd_model.specs.declared.event.Reply.TheVariants as reply
use Rattle.sd_world.specs.Serving.{Telling, telling}
use Rattle.sd_state.specs.declared.complex.Shape.{Shape}
use Rattle.sd_hall.specs.Closed.{ClosesIn}
use Rattle.sd_hall.specs.Bodies.{IsAwaited, IsAwaitedIn, IsWorked, IsWorkedIn, ServesIn, fits_in}
use Rattle.sd_hall.proofs.LedgerBodies.{spared-in}
use Rattle.sd_hall.proofs.Keeping.{awaited-of, has-room, keeps-more, keeps-same, more-one, no-place, same-reply, worked-of}
use Rattle.sd_hall.proofs.hall.Hall.call.Goals as goal

pub returns-in_err-take_place-clause-spared : goal.returns-in_err-take_place-clause-spared
returns-in_err-take_place-clause-spared g c =
    let tell : Telling _ = telling g.G.Rig.seen g.G.Rig.leaves g.G.Rig.moment g.G.Rig.since g.G.Rig.faults in
    let p = err_from_is_err_and c.from_residual.result c.from_residual.ensures.1 in
    let k = c.requires.kept.1 in
    rw p.1 (spared-in tell c.args.e c.args.self.now.body c.take_place.new.self.body k.core k.fits (sym c.take_place.ensures.body)
    (λ d img since. g.met.G.Rig.only_now d img since))

pub returns-in_err-take_place-clause-there : goal.returns-in_err-take_place-clause-there
returns-in_err-take_place-clause-there g c =
    let p = err_from_is_err_and c.from_residual.result c.from_residual.ensures.1 in rw p.1 c.in_err-take_place.ensures.free

pub returns-in_err-take_place-clause-keeps : goal.returns-in_err-take_place-clause-keeps
returns-in_err-take_place-clause-keeps g c =
    let tell : Telling _ = telling g.G.Rig.seen g.G.Rig.leaves g.G.Rig.moment g.G.Rig.since g.G.Rig.faults in
    let place = c.take_place.ensures in
    λ start k. keeps-same tell start c.args.self.now c.take_place.new.self k c.args.e place.entries
    (spared-in tell c.args.e c.args.self.now.body c.take_place.new.self.body k.core k.fits (sym place.body)
    (λ d img since. g.met.G.Rig.only_now d img since))
    place.shape c.in_err-take_place.ensures.owed place.spare

pub turn-requires-clause-fits : goal.turn-requires-clause-fits
turn-requires-clause-fits g c =
    let k = c.requires.kept.1 in
    let place = c.take_place.ensures in (
      k.core,
      subst (λ b. fits_in g.G.Rig.seen g.G.Rig.leaves b k.core) (sym place.body) k.fits,
      k.frames ∙ sym (ap (λ (s : Shape). s.frames) place.shape),
    )

pub turn-requires-clause-few : goal.turn-requires-clause-few
turn-requires-clause-few g c =
    let k = c.requires.kept.1 in
    (k.core, subst (λ b. fits_in g.G.Rig.seen g.G.Rig.leaves b k.core) (sym c.take_place.ensures.body) k.fits, k.few)

pub returns-in_err-turn-clause-same : goal.returns-in_err-turn-clause-same
returns-in_err-turn-clause-same g c =
    let p = err_from_is_err_and c.from_residual-in_err-turn.result c.from_residual-in_err-turn.ensures.1 in
    rw p.1 (ap (λ b. b.entries) c.turn.ensures.book ∙ c.take_place.ensures.entries)

pub returns-in_err-turn-clause-spared : goal.returns-in_err-turn-clause-spared
returns-in_err-turn-clause-spared g c =
    let tell : Telling _ = telling g.G.Rig.seen g.G.Rig.leaves g.G.Rig.moment g.G.Rig.since g.G.Rig.faults in
    let p = err_from_is_err_and c.from_residual-in_err-turn.result c.from_residual-in_err-turn.ensures.1 in
    rw p.1 (subst (λ b. ServesIn tell c.args.e None b c.turn.new.self.body) c.take_place.ensures.body c.in_err-turn.ensures.served)

pub returns-in_err-turn-clause-there : goal.returns-in_err-turn-clause-there
returns-in_err-turn-clause-there g c =
    let p = err_from_is_err_and c.from_residual-in_err-turn.result c.from_residual-in_err-turn.ensures.1 in
    rw p.1 (λ w f owed. c.in_err-turn.ensures.there w owed refl)

pub returns-in_err-turn-clause-keeps : goal.returns-in_err-turn-clause-keeps
returns-in_err-turn-clause-keeps g c =
    let tell : Telling _ = telling g.G.Rig.seen g.G.Rig.leaves g.G.Rig.moment g.G.Rig.since g.G.Rig.faults in
    let place = c.take_place.ensures in
    let turn = c.turn.ensures in
    λ start k.
    let made = no-place tell start c.args.e c.args.self.now c.take_place.new.self k
    (λ w owed. c.in_err-turn.ensures.there w owed refl) c.in_ok-take_place.ensures.place in
    keeps-same tell start c.args.self.now c.turn.new.self k c.args.e
    (ap (λ b. b.entries) turn.book ∙ place.entries)
    (subst (λ b. ServesIn tell c.args.e None b c.turn.new.self.body) place.body c.in_err-turn.ensures.served)
    (turn.shape ∙ place.shape) (turn.owed ∙ made.same)
    (subst (λ b. c.args.self.now.book.spare ≤ b.spare) (sym turn.book) place.spare)

pub overflow_add-self : goal.overflow_add-self
overflow_add-self g c =
    let fits = c.in_ok-take_place.ensures.fits in
    let more = c.more.ensures in
    let same = c.turn.ensures.owed in
    let one = more-one c.args.e c.turn.new.answer in omega (arith, fits, more, same, one)

pub note-requires : goal.note-requires
note-requires g c =
    let tell : Telling _ = telling g.G.Rig.seen g.G.Rig.leaves g.G.Rig.moment g.G.Rig.since g.G.Rig.faults in
    record {
      room = subst (λ b. 1 ≤ b.spare) (sym c.turn.ensures.book)
          (has-room tell c.args.e c.args.self.now c.take_place.new.self c.in_ok-take_place.ensures.place);
    }

pub returns-clause-noted : goal.returns-clause-noted
returns-clause-noted g c =
    let tell : Telling _ = telling g.G.Rig.seen g.G.Rig.leaves g.G.Rig.moment g.G.Rig.since g.G.Rig.faults in
    let entry : Entry = record { session = c.args.session; line = c.args.line; event = c.args.e; reply = c.turn.new.answer } in (
      c.turn.new.answer,
      c.note.ensures.entries ∙ ap (λ (es : List Entry). es ++ entry ∷ [])
          (ap (λ b. b.entries) c.turn.ensures.book ∙ c.take_place.ensures.entries),
      subst (λ b. ServesIn tell c.args.e (Some c.turn.new.answer) b c.turn.new.self.body) c.take_place.ensures.body
          c.in_ok-turn.ensures.served,
    )

pub returns-clause-awaits : goal.returns-clause-awaits
returns-clause-awaits g c = λ r again.
    let entry : Entry = record { session = c.args.session; line = c.args.line; event = c.args.e; reply = c.turn.new.answer } in
    let other : Entry = record { session = c.args.session; line = c.args.line; event = c.args.e; reply = r } in
    let noted = c.note.ensures.entries ∙ ap (λ (es : List Entry). es ++ entry ∷ [])
    (ap (λ b. b.entries) c.turn.ensures.book ∙ c.take_place.ensures.entries) in
    let awaits = subst (λ b. IsAwaitedIn c.args.e (Some c.turn.new.answer) b) c.take_place.ensures.body c.in_ok-turn.ensures.awaits in
    subst (λ (x : Reply). IsAwaited c.args.e x c.args.self.now.body)
    (same-reply c.note.new.self.entries c.args.self.now.book.entries entry other noted again)
    (awaited-of c.args.e c.turn.new.answer c.args.self.now.body awaits)

pub returns-clause-works : goal.returns-clause-works
returns-clause-works g c = λ r again.
    let entry : Entry = record { session = c.args.session; line = c.args.line; event = c.args.e; reply = c.turn.new.answer } in
    let other : Entry = record { session = c.args.session; line = c.args.line; event = c.args.e; reply = r } in
    let noted = c.note.ensures.entries ∙ ap (λ (es : List Entry). es ++ entry ∷ [])
    (ap (λ b. b.entries) c.turn.ensures.book ∙ c.take_place.ensures.entries) in
    let works = subst (λ b. IsWorkedIn g.G.Rig.seen c.args.e (Some c.turn.new.answer) b c.turn.new.self.body) c.take_place.ensures.body
    c.in_ok-turn.ensures.works in
    subst (λ (x : Reply). IsWorked g.G.Rig.seen c.args.e x c.args.self.now.body c.turn.new.self.body)
    (same-reply c.note.new.self.entries c.args.self.now.book.entries entry other noted again)
    (worked-of g.G.Rig.seen c.args.e c.turn.new.answer c.args.self.now.body c.turn.new.self.body works)

pub returns-clause-reopens : goal.returns-clause-reopens
returns-clause-reopens g c = λ again is.
    let entry : Entry = record { session = c.args.session; line = c.args.line; event = c.args.e; reply = c.turn.new.answer } in
    let other : Entry = record { session = c.args.session; line = c.args.line; event = c.args.e; reply = reply.Did } in
    let noted = c.note.ensures.entries ∙ ap (λ (es : List Entry). es ++ entry ∷ [])
    (ap (λ b. b.entries) c.turn.ensures.book ∙ c.take_place.ensures.entries) in
    c.in_ok-turn.ensures.reopens is (ap (λ (r : Reply). Some r)
    (same-reply c.note.new.self.entries c.args.self.now.book.entries entry other noted again))

pub returns-clause-closes : goal.returns-clause-closes
returns-clause-closes g c =
    let tell : Telling _ = telling g.G.Rig.seen g.G.Rig.leaves g.G.Rig.moment g.G.Rig.since g.G.Rig.faults in
    subst (λ b. ClosesIn tell c.args.e b c.turn.new.self.body) c.take_place.ensures.body c.turn.ensures.closes

pub returns-clause-opening : goal.returns-clause-opening
returns-clause-opening g c =
    c.note.ensures.opening ∙ ap (λ b. b.opening) c.turn.ensures.book ∙ c.take_place.ensures.opening

pub returns-clause-keeps : goal.returns-clause-keeps
returns-clause-keeps g c =
    let tell : Telling _ = telling g.G.Rig.seen g.G.Rig.leaves g.G.Rig.moment g.G.Rig.since g.G.Rig.faults in
    let entry : Entry = record { session = c.args.session; line = c.args.line; event = c.args.e; reply = c.turn.new.answer } in
    let more = c.more.ensures in
    let place = c.take_place.ensures in
    let turn = c.turn.ensures in
    λ start k. keeps-more tell start c.args.self.now c.take_place.new.self
    (record {
      alloc = c.turn.new.self.alloc;
      body = c.turn.new.self.body;
      shape = c.turn.new.self.shape;
      book = c.note.new.self;
      owed = c.turn.new.self.owed + c.more.result;
    }) k entry
    c.requires.served c.in_ok-take_place.ensures.place
    (c.note.ensures.entries ∙ ap (λ (es : List Entry). es ++ entry ∷ []) (ap (λ b. b.entries) turn.book ∙ place.entries))
    (subst (λ b. ServesIn tell c.args.e (Some c.turn.new.answer) b c.turn.new.self.body) place.body c.in_ok-turn.ensures.served)
    c.in_ok-turn.ensures.down (turn.shape ∙ place.shape)
    (let same = turn.owed in omega (arith, same, more))
    (subst (λ b. b.spare ≤ c.note.new.self.spare + 1) turn.book c.note.ensures.spare)
