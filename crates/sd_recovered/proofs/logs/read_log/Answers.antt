use Rattle.std.proofs.Common.{inl, inr, ⊎_elim}
use Rattle.std.proofs.lemmas.Result.{err_from_is_err_and}
use Rattle.sd_recovered.proofs.Kept.{unread}
use Rattle.sd_recovered.proofs.LogFaults.{txns_fail}
use Rattle.sd_recovered.proofs.Refusals.{came, told_dev, told_on}
use Rattle.sd_recovered.proofs.logs.read_log.Goals as goal

pub returns-in_err-losers-clause-unsound : goal.returns-in_err-losers-clause-unsound
returns-in_err-losers-clause-unsound c =
    let log = c.in_ok-log.field-0.log in
    let turn = unread c.args.inst c.args.device.now log c.in_ok-log.ensures.kept c.in_ok-log.ensures.tail in
    let told = ⊎_elim (λ m. inl m) (λ d. inr (d.0, d.1, d.2, turn d.3)) c.in_err-losers.ensures.untidy in
    let p = err_from_is_err_and c.from_residual-in_err-losers.result c.from_residual-in_err-losers.ensures.1 in
    told_on _ c.from_residual-in_err-losers.result p.0 c.in_err-losers.field-0.0 p.1 p.2 told

pub returns-in_err-log-clause-place : goal.returns-in_err-log-clause-place
returns-in_err-log-clause-place c = λ dev at is.
    let p = err_from_is_err_and c.from_residual.result c.from_residual.ensures.1 in
    let named = came c.from_residual.result p.0 c.in_err-log.field-0.0 dev at p.1 p.2 is in (
      told_dev c.args.inst c.in_err-log.field-0.0 dev at c.in_err-log.ensures.refusals named,
      elim (c.in_err-log.ensures.place dev at named) [ inl first ↦ inl first | inr second ↦ inr (inl second) ],
    )

pub returns-in_err-losers-clause-place : goal.returns-in_err-losers-clause-place
returns-in_err-losers-clause-place c = λ dev at is.
    let log = c.in_ok-log.field-0.log in
    let p = err_from_is_err_and c.from_residual-in_err-losers.result c.from_residual-in_err-losers.ensures.1 in
    let f = c.in_err-losers.ensures.place dev at
    (came c.from_residual-in_err-losers.result p.0 c.in_err-losers.field-0.0 dev at p.1 p.2 is) in (
      f.0,
      inr (inr (
        c.in_ok-log.ensures.master,
        c.in_ok-log.ensures.groups,
        (
          f.1.found.place,
          txns_fail c.args.device.now log at c.in_ok-log.ensures.kept c.in_ok-log.ensures.tail f.1,
          f.1.at_is,
        ),
      )),
    )
