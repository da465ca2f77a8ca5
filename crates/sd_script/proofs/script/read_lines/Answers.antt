use Rattle.std.proofs.Common.{List, length, sym, ap, ◌∙◌, subst, arith}
use Rattle.std.proofs.lemmas.Result.{err_from_is_err_and}
use Rattle.sd_script.specs.declared.line.Line.{Line}
use Rattle.sd_script.proofs.Steps.{IsCut, IsUpTo, some_left, begins, goes_on_to, refused_at, all_counted, all_read}
use Rattle.sd_script.proofs.script.read_lines.Goals as goal

pub loop-rest-init : goal.loop-rest-init
loop-rest-init c = subst (λ (l : List Line). IsUpTo c.args.text.now l 0 c.args.text.now) (sym c.new-reader.ensures) (begins c.args.text.now)

pub returns-in_err-read_line-clause-refused : goal.returns-in_err-read_line-clause-refused
returns-in_err-read_line-clause-refused c =
    let p = err_from_is_err_and c.from_residual.result c.from_residual.ensures.1 in
    let cut : IsCut c.loop-rest.rest.now c.first_line-printed.result.0.now c.first_line-printed.result.1.now = record { some = some_left c.is_empty.result (length c.loop-rest.rest.now) c.is_empty.ensures c.loop-rest-test.true; lines = c.first_line-printed.ensures.lines; bytes = c.first_line-printed.ensures.bytes } in
    rw (p.1, p.2) (refused_at c.args.text.now c.loop-rest.rest.now c.first_line-printed.result.0.now c.first_line-printed.result.1.now c.loop-rest.reader c.loop-rest.count c.loop-rest.invariant cut _ c.in_err-read_line.ensures.refused)

pub loop-rest-preserved : goal.loop-rest-preserved
loop-rest-preserved c =
    let cut : IsCut c.loop-rest.rest.now c.first_line-printed.result.0.now c.first_line-printed.result.1.now = record { some = some_left c.is_empty.result (length c.loop-rest.rest.now) c.is_empty.ensures c.loop-rest-test.true; lines = c.first_line-printed.ensures.lines; bytes = c.first_line-printed.ensures.bytes } in
    goes_on_to c.args.text.now c.loop-rest.rest.now c.first_line-printed.result.0.now c.first_line-printed.result.1.now c.loop-rest.reader c.loop-rest.count c.loop-rest.invariant cut c.read_line.new.self c.in_ok-read_line.ensures.read

pub returns-clause-whole : goal.returns-clause-whole
returns-clause-whole c = ap length c.into_lines.ensures ∙ all_read c.args.text.now c.loop-rest.rest.now c.loop-rest.reader c.loop-rest.count c.loop-rest.invariant (grind arith)

pub returns-clause-count : goal.returns-clause-count
returns-clause-count c = all_counted c.args.text.now c.loop-rest.rest.now c.loop-rest.reader c.loop-rest.count c.loop-rest.invariant (grind arith)
