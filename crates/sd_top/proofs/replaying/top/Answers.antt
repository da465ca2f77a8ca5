use Rattle.std.proofs.Common.{◌≡◌, ◌∙◌, inl, inr, refl, sym}
use Rattle.std.specs.Prelude.{Option, None, Some, IsSome, map, string_bytes}
use Rattle.sd_world.specs.Serving.{Telling, telling}
use Rattle.sd_top.specs.Sides.{SourceSide}
use Rattle.sd_top.specs.declared.status.Status.TheVariants as status
use Rattle.sd_top.specs.declared.words.Request.{Request}
use Rattle.sd_top.specs.declared.words.Request.TheVariants as want
use Rattle.sd_top.specs.Words.{asked_of}
use Rattle.sd_top.specs.Outcome.{Ends}
use Rattle.sd_top.proofs.Answered.{answers_unbegun, completes, damages, fine_of_number, is_command, never_both, no_command, other_asked, tells_no_usage, tells_unsound, unread_as, unread_same, untaken}
use Rattle.sd_top.proofs.Commands.{count_most}
use Rattle.sd_top.proofs.replaying.top.Goals as goal

pub returns-in-Ok-Some-clause-outcome : goal.returns-in-Ok-Some-clause-outcome
returns-in-Ok-Some-clause-outcome g c =
    let source = c.args.source.now in
    let sink = c.args.sink.now in
    let tell : Telling g.row.G.Denot = telling g.G.Rig.seen g.G.Rig.leaves g.G.Rig.moment g.G.Rig.since g.G.Rig.faults in
    let from : SourceSide = record { left = g.S.Source.left source; faults = g.S.Source.faults source } in
    let left : SourceSide = record { left = g.S.Source.left c.run_asked.new.source; faults = g.S.Source.faults c.run_asked.new.source } in
    let old : Ends g.row.G.Denot = record { sink = record { written = g.K.Sink.written sink; faults = g.K.Sink.faults sink }; rig = c.args.rig } in
    let new : Ends g.row.G.Denot = record {
      sink = record { written = g.K.Sink.written c.run_asked.new.sink; faults = g.K.Sink.faults c.run_asked.new.sink };
      rig = c.run_asked.result.rig;
    } in
    let words = map string_bytes c.args.words.now in
    let is : asked_of words ≡ Some c.in-Ok-Some.asked = sym c.in-Ok-Some.ensures ∙ c.in-Ok-Some.field-0-is in
    λ asked due. other_asked tell c.in-Ok-Some.asked asked c.run_asked.result.status from left old new c.run_asked.result.book c.run_asked.result.bad
    (sym is ∙ due) c.run_asked.ensures.outcome

pub returns-in-Ok-Some-clause-generated : goal.returns-in-Ok-Some-clause-generated
returns-in-Ok-Some-clause-generated g c =
    let source = c.args.source.now in
    let sink = c.args.sink.now in
    let tell : Telling g.row.G.Denot = telling g.G.Rig.seen g.G.Rig.leaves g.G.Rig.moment g.G.Rig.since g.G.Rig.faults in
    let from : SourceSide = record { left = g.S.Source.left source; faults = g.S.Source.faults source } in
    let left : SourceSide = record { left = g.S.Source.left c.run_asked.new.source; faults = g.S.Source.faults c.run_asked.new.source } in
    let old : Ends g.row.G.Denot = record { sink = record { written = g.K.Sink.written sink; faults = g.K.Sink.faults sink }; rig = c.args.rig } in
    let new : Ends g.row.G.Denot = record {
      sink = record { written = g.K.Sink.written c.run_asked.new.sink; faults = g.K.Sink.faults c.run_asked.new.sink };
      rig = c.run_asked.result.rig;
    } in
    let words = map string_bytes c.args.words.now in
    let is : asked_of words ≡ Some c.in-Ok-Some.asked = sym c.in-Ok-Some.ensures ∙ c.in-Ok-Some.field-0-is in
    λ number count due. fine_of_number tell number count c.run_asked.result.status from left old new c.run_asked.result.book c.run_asked.result.bad
    (count_most words number count due)
    (other_asked tell c.in-Ok-Some.asked (want.Gen number count) c.run_asked.result.status from left old new c.run_asked.result.book c.run_asked.result.bad
    (sym is ∙ due) c.run_asked.ensures.outcome)

pub returns-in-Ok-Some-clause-complete : goal.returns-in-Ok-Some-clause-complete
returns-in-Ok-Some-clause-complete g c =
    let source = c.args.source.now in
    let sink = c.args.sink.now in
    let tell : Telling g.row.G.Denot = telling g.G.Rig.seen g.G.Rig.leaves g.G.Rig.moment g.G.Rig.since g.G.Rig.faults in
    let from : SourceSide = record { left = g.S.Source.left source; faults = g.S.Source.faults source } in
    let left : SourceSide = record { left = g.S.Source.left c.run_asked.new.source; faults = g.S.Source.faults c.run_asked.new.source } in
    let old : Ends g.row.G.Denot = record { sink = record { written = g.K.Sink.written sink; faults = g.K.Sink.faults sink }; rig = c.args.rig } in
    let new : Ends g.row.G.Denot = record {
      sink = record { written = g.K.Sink.written c.run_asked.new.sink; faults = g.K.Sink.faults c.run_asked.new.sink };
      rig = c.run_asked.result.rig;
    } in
    let words = map string_bytes c.args.words.now in
    let is : asked_of words ≡ Some c.in-Ok-Some.asked = sym c.in-Ok-Some.ensures ∙ c.in-Ok-Some.field-0-is in
    λ asked text lines due given script sound reads writes.
    completes tell asked c.run_asked.result.status from left old new c.run_asked.result.book c.run_asked.result.bad text lines
    (other_asked tell c.in-Ok-Some.asked asked c.run_asked.result.status from left old new c.run_asked.result.book c.run_asked.result.bad
    (sym is ∙ due) c.run_asked.ensures.outcome) given script sound reads writes

pub returns-in-Ok-Some-clause-damaged : goal.returns-in-Ok-Some-clause-damaged
returns-in-Ok-Some-clause-damaged g c =
    let source = c.args.source.now in
    let sink = c.args.sink.now in
    let tell : Telling g.row.G.Denot = telling g.G.Rig.seen g.G.Rig.leaves g.G.Rig.moment g.G.Rig.since g.G.Rig.faults in
    let from : SourceSide = record { left = g.S.Source.left source; faults = g.S.Source.faults source } in
    let left : SourceSide = record { left = g.S.Source.left c.run_asked.new.source; faults = g.S.Source.faults c.run_asked.new.source } in
    let old : Ends g.row.G.Denot = record { sink = record { written = g.K.Sink.written sink; faults = g.K.Sink.faults sink }; rig = c.args.rig } in
    let new : Ends g.row.G.Denot = record {
      sink = record { written = g.K.Sink.written c.run_asked.new.sink; faults = g.K.Sink.faults c.run_asked.new.sink };
      rig = c.run_asked.result.rig;
    } in
    let words = map string_bytes c.args.words.now in
    let is : asked_of words ≡ Some c.in-Ok-Some.asked = sym c.in-Ok-Some.ensures ∙ c.in-Ok-Some.field-0-is in (
      tells_unsound tell c.in-Ok-Some.asked c.run_asked.result.status from left old new c.run_asked.result.book c.run_asked.result.bad c.run_asked.ensures.outcome,
      λ asked text lines due given script unsound reads.
          damages tell asked c.run_asked.result.status from left old new c.run_asked.result.book c.run_asked.result.bad text lines
          (other_asked tell c.in-Ok-Some.asked asked c.run_asked.result.status from left old new c.run_asked.result.book c.run_asked.result.bad
          (sym is ∙ due) c.run_asked.ensures.outcome) given script unsound reads,
    )

pub returns-in-Ok-Some-clause-usage : goal.returns-in-Ok-Some-clause-usage
returns-in-Ok-Some-clause-usage g c =
    let source = c.args.source.now in
    let sink = c.args.sink.now in
    let tell : Telling g.row.G.Denot = telling g.G.Rig.seen g.G.Rig.leaves g.G.Rig.moment g.G.Rig.since g.G.Rig.faults in
    let from : SourceSide = record { left = g.S.Source.left source; faults = g.S.Source.faults source } in
    let left : SourceSide = record { left = g.S.Source.left c.run_asked.new.source; faults = g.S.Source.faults c.run_asked.new.source } in
    let old : Ends g.row.G.Denot = record { sink = record { written = g.K.Sink.written sink; faults = g.K.Sink.faults sink }; rig = c.args.rig } in
    let new : Ends g.row.G.Denot = record {
      sink = record { written = g.K.Sink.written c.run_asked.new.sink; faults = g.K.Sink.faults c.run_asked.new.sink };
      rig = c.run_asked.result.rig;
    } in
    let words = map string_bytes c.args.words.now in
    let is : asked_of words ≡ Some c.in-Ok-Some.asked = sym c.in-Ok-Some.ensures ∙ c.in-Ok-Some.field-0-is in (
      λ faulty command. tells_no_usage tell c.in-Ok-Some.asked c.run_asked.result.status from left old new c.run_asked.result.book c.run_asked.result.bad
          c.run_asked.ensures.outcome faulty,
      λ no_command. absurd (no_command (is_command words c.in-Ok-Some.asked is)),
    )

pub returns-in-Ok-Some-clause-untouched : goal.returns-in-Ok-Some-clause-untouched
returns-in-Ok-Some-clause-untouched g c =
    let words = map string_bytes c.args.words.now in
    let is : asked_of words ≡ Some c.in-Ok-Some.asked = sym c.in-Ok-Some.ensures ∙ c.in-Ok-Some.field-0-is in
    λ no_command. absurd (no_command (is_command words c.in-Ok-Some.asked is))

pub returns-in-Ok-Some-clause-unread : goal.returns-in-Ok-Some-clause-unread
returns-in-Ok-Some-clause-unread g c =
    let source = c.args.source.now in
    let sink = c.args.sink.now in
    let tell : Telling g.row.G.Denot = telling g.G.Rig.seen g.G.Rig.leaves g.G.Rig.moment g.G.Rig.since g.G.Rig.faults in
    let from : SourceSide = record { left = g.S.Source.left source; faults = g.S.Source.faults source } in
    let left : SourceSide = record { left = g.S.Source.left c.run_asked.new.source; faults = g.S.Source.faults c.run_asked.new.source } in
    let old : Ends g.row.G.Denot = record { sink = record { written = g.K.Sink.written sink; faults = g.K.Sink.faults sink }; rig = c.args.rig } in
    let new : Ends g.row.G.Denot = record {
      sink = record { written = g.K.Sink.written c.run_asked.new.sink; faults = g.K.Sink.faults c.run_asked.new.sink };
      rig = c.run_asked.result.rig;
    } in
    let words = map string_bytes c.args.words.now in
    let is : asked_of words ≡ Some c.in-Ok-Some.asked = sym c.in-Ok-Some.ensures ∙ c.in-Ok-Some.field-0-is in
    λ asked due. unread_as c.in-Ok-Some.asked asked from left (sym is ∙ due) c.run_asked.ensures.unread

pub returns-in-Ok-Some-clause-bounded : goal.returns-in-Ok-Some-clause-bounded
returns-in-Ok-Some-clause-bounded g c = c.run_asked.ensures.bounded

pub returns-in-Ok-None-clause-outcome : goal.returns-in-Ok-None-clause-outcome
returns-in-Ok-None-clause-outcome g c =
    let none : asked_of (map string_bytes c.args.words.now) ≡ None = sym c.in-Ok-None.ensures ∙ c.in-Ok-None.field-0-is in
    λ asked due. absurd (never_both none due)

pub returns-in-Ok-None-clause-unread : goal.returns-in-Ok-None-clause-unread
returns-in-Ok-None-clause-unread g c =
    let none : asked_of (map string_bytes c.args.words.now) ≡ None = sym c.in-Ok-None.ensures ∙ c.in-Ok-None.field-0-is in
    λ asked due. absurd (never_both none due)

pub returns-in-Ok-None-clause-usage : goal.returns-in-Ok-None-clause-usage
returns-in-Ok-None-clause-usage g c =
    let none : asked_of (map string_bytes c.args.words.now) ≡ None = sym c.in-Ok-None.ensures ∙ c.in-Ok-None.field-0-is in
    (λ is command. no_command (map string_bytes c.args.words.now) none command, λ faulty. inl c.without_book.ensures.status)

pub returns-in-Ok-None-clause-untouched : goal.returns-in-Ok-None-clause-untouched
returns-in-Ok-None-clause-untouched g c = λ faulty.
    (refl, refl, refl, refl, c.without_book.ensures.book, c.without_book.ensures.rig)

pub returns-in-Ok-None-clause-bounded : goal.returns-in-Ok-None-clause-bounded
returns-in-Ok-None-clause-bounded g c = untaken (g.S.Source.left c.args.source.now)

pub returns-in-Ok-None-clause-generated : goal.returns-in-Ok-None-clause-generated
returns-in-Ok-None-clause-generated g c =
    let none : asked_of (map string_bytes c.args.words.now) ≡ None = sym c.in-Ok-None.ensures ∙ c.in-Ok-None.field-0-is in
    λ number count due. absurd (never_both none due)

pub returns-in-Ok-None-clause-complete : goal.returns-in-Ok-None-clause-complete
returns-in-Ok-None-clause-complete g c =
    let none : asked_of (map string_bytes c.args.words.now) ≡ None = sym c.in-Ok-None.ensures ∙ c.in-Ok-None.field-0-is in
    λ asked text lines due. absurd (never_both none due)

pub returns-in-Ok-None-clause-damaged : goal.returns-in-Ok-None-clause-damaged
returns-in-Ok-None-clause-damaged g c =
    let none : asked_of (map string_bytes c.args.words.now) ≡ None = sym c.in-Ok-None.ensures ∙ c.in-Ok-None.field-0-is in (
      λ is sound. let differ : status.Usage ≡ status.Damaged = sym c.without_book.ensures.status ∙ is in cc,
      λ asked text lines due. absurd (never_both none due),
    )

pub returns-in-Err-clause-outcome : goal.returns-in-Err-clause-outcome
returns-in-Err-clause-outcome g c = λ asked due.
    let source = c.args.source.now in
    let sink = c.args.sink.now in
    let tell : Telling g.row.G.Denot = telling g.G.Rig.seen g.G.Rig.leaves g.G.Rig.moment g.G.Rig.since g.G.Rig.faults in
    let from : SourceSide = record { left = g.S.Source.left source; faults = g.S.Source.faults source } in
    let old : Ends g.row.G.Denot = record { sink = record { written = g.K.Sink.written sink; faults = g.K.Sink.faults sink }; rig = c.args.rig } in
    let done = c.without_book-in-Err in
    let new : Ends g.row.G.Denot = record {
      sink = record { written = g.K.Sink.written sink; faults = g.K.Sink.faults sink };
      rig = done.result.rig;
    } in
    answers_unbegun tell asked done.result.status from from old new done.result.book done.result.bad done.ensures.status done.ensures.book refl done.ensures.rig

pub returns-in-Err-clause-unread : goal.returns-in-Err-clause-unread
returns-in-Err-clause-unread g c = λ asked due. unread_same asked _

pub returns-in-Err-clause-usage : goal.returns-in-Err-clause-usage
returns-in-Err-clause-usage g c = (
  λ is command. let differ : status.NoMemory ≡ status.Usage = sym c.without_book-in-Err.ensures.status ∙ is in cc,
  λ faulty. inr c.without_book-in-Err.ensures.status,
)

pub returns-in-Err-clause-untouched : goal.returns-in-Err-clause-untouched
returns-in-Err-clause-untouched g c = λ faulty.
    (refl, refl, refl, refl, c.without_book-in-Err.ensures.book, c.without_book-in-Err.ensures.rig)

pub returns-in-Err-clause-bounded : goal.returns-in-Err-clause-bounded
returns-in-Err-clause-bounded g c = untaken (g.S.Source.left c.args.source.now)

pub returns-in-Err-clause-generated : goal.returns-in-Err-clause-generated
returns-in-Err-clause-generated g c = λ number count due is.
    let differ : status.NoMemory ≡ status.BadLine = sym c.without_book-in-Err.ensures.status ∙ is in cc

pub returns-in-Err-clause-complete : goal.returns-in-Err-clause-complete
returns-in-Err-clause-complete g c = λ asked text lines due given script sound reads writes. inr (inl c.without_book-in-Err.ensures.status)

pub returns-in-Err-clause-damaged : goal.returns-in-Err-clause-damaged
returns-in-Err-clause-damaged g c = (
  λ is sound. let differ : status.NoMemory ≡ status.Damaged = sym c.without_book-in-Err.ensures.status ∙ is in cc,
  λ asked text lines due given script unsound reads. inr (inl c.without_book-in-Err.ensures.status),
)
