use Rattle.sd_script.specs.Words.{words_of}
use Rattle.sd_script.proofs.Trying.{NonePass}
use Rattle.sd_script.proofs.causes.some_passes.Given as goal

abbrev pub invariant-loop-kind : goal.invariant-loop-kind
invariant-loop-kind l = NonePass l.reader (words_of l.line) l.cause l.kind-index
