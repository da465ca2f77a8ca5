use Rattle.std.proofs.Common.{◌≡◌, ◌≤◌, length}
use Rattle.sd_script.specs.Words.{words_of}
use Rattle.sd_script.proofs.word.next_word.Given as goal

abbrev pub invariant-loop-end : goal.invariant-loop-end
invariant-loop-end l = (words_of l.line ≡ words_of l.rest) × (length l.rest ≤ length l.line)

abbrev pub decreases-loop-end : goal.decreases-loop-end
decreases-loop-end l = length l.rest
