use Rattle.std.proofs.lemmas.Result.{err_from_is_err_and}
use Rattle.sd_recovered.proofs.Refusals.{came}
use Rattle.sd_recovered.proofs.reading.recovered.Goals as goal

pub returns-in_err-opened-clause-unsound : goal.returns-in_err-opened-clause-unsound
returns-in_err-opened-clause-unsound c = λ dev at is.
    let p = err_from_is_err_and c.from_residual.result c.from_residual.ensures.1 in
    c.in_err-opened.ensures.unsound dev at (came c.from_residual.result p.0 c.in_err-opened.field-0.0 dev at p.1 p.2 is)

pub returns-in_err-opened-clause-place : goal.returns-in_err-opened-clause-place
returns-in_err-opened-clause-place c = λ dev at is.
    let p = err_from_is_err_and c.from_residual.result c.from_residual.ensures.1 in
    c.in_err-opened.ensures.place dev at (came c.from_residual.result p.0 c.in_err-opened.field-0.0 dev at p.1 p.2 is)
