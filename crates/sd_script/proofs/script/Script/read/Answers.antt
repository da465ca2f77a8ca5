use Rattle.std.proofs.Common.{◌+◌, Ok, Err, arith}
use Rattle.std.proofs.lemmas.Result.{err_from_is_err_and}
use Rattle.sd_base.specs.declared.refusal.Refusal.TheVariants as refusal
use Rattle.sd_base.specs.declared.refusal.LineError.TheVariants.{Order}
use Rattle.sd_script.proofs.Steps.{exact, exact_bad, no_line}
use Rattle.sd_script.proofs.script.Script.read.Goals as goal

pub returns-in_err-lines-clause-exact : goal.returns-in_err-lines-clause-exact
returns-in_err-lines-clause-exact c =
    let p = err_from_is_err_and c.from_residual.result c.from_residual.ensures.1 in
    rw (p.1, p.2) (exact c.args.text.now _ tt c.in_err-lines.ensures.refused)

pub returns-in_err-lines-clause-exact_bad : goal.returns-in_err-lines-clause-exact_bad
returns-in_err-lines-clause-exact_bad c =
    let p = err_from_is_err_and c.from_residual.result c.from_residual.ensures.1 in
    rw (p.1, p.2) (exact_bad c.args.text.now _ tt c.in_err-lines.ensures.refused)

pub returns-then-is_empty-clause-exact_bad : goal.returns-then-is_empty-clause-exact_bad
returns-then-is_empty-clause-exact_bad c = exact_bad c.args.text.now (Err (refusal.BadLine (c.in_ok-lines.count + 1) Order)) tt
    (no_line c.args.text.now c.in_ok-lines.lines.items c.in_ok-lines.count c.in_ok-lines.ensures.read c.in_ok-lines.ensures.whole c.in_ok-lines.ensures.count (grind arith))

pub returns-clause-exact : goal.returns-clause-exact
returns-clause-exact c = exact c.args.text.now (Ok c.in_ok-lines.lines.items) (record { read = c.in_ok-lines.ensures.read; whole = c.in_ok-lines.ensures.whole; some = grind arith }) tt

pub returns-clause-exact_bad : goal.returns-clause-exact_bad
returns-clause-exact_bad c = exact_bad c.args.text.now (Ok c.in_ok-lines.lines.items) (record { read = c.in_ok-lines.ensures.read; whole = c.in_ok-lines.ensures.whole; some = grind arith }) tt
