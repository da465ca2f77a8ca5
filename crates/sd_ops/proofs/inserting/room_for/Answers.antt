use Rattle.std.proofs.Common.{sym, ◌∙◌, subst}
use Rattle.std.proofs.lemmas.Result.{err_from_is_err_and}
use Rattle.sd_page.specs.Page.{Page}
use Rattle.sd_state.specs.Complexes.{parts}
use Rattle.sd_ops.specs.Vacancies.{IsFullFor, IsVacant, LacksPlace}
use Rattle.sd_ops.proofs.Vacating.{copy-is, dead-vacant, err-if, lacks-place, next-vacant}
use Rattle.sd_ops.proofs.inserting.room_for.Goals as goal

pub returns-in_err-image-clause-lacks : goal.returns-in_err-image-clause-lacks
returns-in_err-image-clause-lacks g c =
    let e = err_from_is_err_and c.from_residual.result c.from_residual.ensures.1 in
    err-if c.from_residual.result e.0 c.in_err-image.field-0.0
    (LacksPlace c.args.t.now c.args.p c.args.capacity (parts c.args.c.now))
    e.1 e.2 (lacks-place c.args.t.now c.args.p c.args.capacity
    (parts c.args.c.now) c.in_err-image.field-0.0 c.in_err-image.ensures.lacks)

pub returns-in-Some-clause-vacant : goal.returns-in-Some-clause-vacant
returns-in-Some-clause-vacant g c = subst
    (λ (x : Page). IsVacant x c.args.t.now c.args.p c.args.capacity
    (parts c.args.c.now) c.in-Some.dead.slot c.in-Some.dead.capacity)
    (copy-is c.args.t.now c.args.p (parts c.args.c.now) c.in_ok-image.image.now c.in_ok-image.ensures.image)
    (dead-vacant c.in_ok-image.image.now c.args.t.now c.args.p c.args.capacity (parts c.args.c.now) c.keeps.ensures.fits
    c.in-Some.dead.slot c.in-Some.dead.capacity c.in-Some.ensures)

pub returns-then-not-room-clause-lacks : goal.returns-then-not-room-clause-lacks
returns-then-not-room-clause-lacks g c = (
  c.in_ok-image.ensures.held,
  subst (λ (x : Page). IsFullFor x c.args.t.now c.args.p c.args.capacity (parts c.args.c.now))
      (copy-is c.args.t.now c.args.p (parts c.args.c.now) c.in_ok-image.image.now c.in_ok-image.ensures.image)
      ((λ room. let f = sym c.if-not-room.true ∙ c.room.ensures.1 room in absurd (cc)), c.in_default.ensures),
)

pub returns-clause-vacant : goal.returns-clause-vacant
returns-clause-vacant g c = subst
    (λ (x : Page). IsVacant x c.args.t.now c.args.p c.args.capacity (parts c.args.c.now) c.count.result c.args.capacity)
    (copy-is c.args.t.now c.args.p (parts c.args.c.now) c.in_ok-image.image.now c.in_ok-image.ensures.image)
    (next-vacant c.in_ok-image.image.now c.args.t.now c.args.p c.args.capacity (parts c.args.c.now) c.keeps.ensures.fits
    c.count.result c.count.ensures.value (c.room.ensures.0 c.if-not-room.false) c.requires.small c.in_default.ensures)
