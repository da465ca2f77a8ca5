use Rattle.std.proofs.Common.{sym, arith}
use Rattle.std.proofs.lemmas.Bool.{true≢false}
use Rattle.sd_script.specs.Words.{words_of}
use Rattle.sd_script.proofs.Trying.{none_passes, one_more}
use Rattle.sd_script.proofs.causes.some_passes.Goals as goal

pub loop-kind-preserved : goal.loop-kind-preserved
loop-kind-preserved c = one_more c.args.reader.now (words_of c.args.line.now) c.args.cause c.loop-kind.kind-index _ c.loop-kind.invariant
    (λ passed. true≢false (sym (c.if-passes.ensures.1 passed)))

pub returns-clause-none : goal.returns-clause-none
returns-clause-none c = λ no k. none_passes c.args.reader.now (words_of c.args.line.now) c.args.cause c.loop-kind.kind-index
    c.loop-kind.invariant (omega (arith, c.loop-kind-test.false)) k
