use Rattle.std.proofs.Common.{length, sym, ◌∙◌, arith}
use Rattle.sd_script.proofs.Steps.{some_left}
use Rattle.sd_script.proofs.Words.{line_to_space, line_without_space, space_within}
use Rattle.sd_script.proofs.word.next_word.Goals as goal

pub overflow_add-result : goal.overflow_add-result
overflow_add-result c = omega (arith, space_within c.loop-end.rest.now c.in-Some.end (sym c.in-Some.ensures), c.loop-end.invariant.1)

pub returns-then-end-gt0-clause-found : goal.returns-then-end-gt0-clause-found
returns-then-end-gt0-clause-found c = c.loop-end.invariant.0
    ∙ line_to_space c.loop-end.rest.now c.in-Some.end (sym c.in-Some.ensures) (omega (arith, c.if-end-gt0.true))

pub returns-clause-found : goal.returns-clause-found
returns-clause-found c = c.loop-end.invariant.0
    ∙ line_without_space c.loop-end.rest.now (sym c.space_in.ensures ∙ c.in_default.is)
    (some_left c.is_empty.result (length c.loop-end.rest.now) c.is_empty.ensures c.if-is_empty.false)
