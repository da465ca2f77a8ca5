use Rattle.std.proofs.Common.{refl, arith}
use Rattle.sd_script.proofs.Numbers as numbers
use Rattle.sd_script.proofs.Numbers.{Writes, decimal_writes}
use Rattle.sd_script.proofs.word.number_of.Goals as goal
use Rattle.sd_script.proofs.word.number_of.Goals.{then-is_empty-via-then-is_empty, then-is_empty-via-else-is_empty+then-word-gt10, then-is_empty-via-else-is_empty+else-word-gt10+then-has_leading_zero}

pub returns-then-is_empty-clause-none : goal.returns-then-is_empty-clause-none
returns-then-is_empty-clause-none c = λ n lt e.
    let w : Writes n c.args.word.now = decimal_writes n c.args.word.now lt e in
    let some = w.some in
    let most = w.most in
    elim c.then-is_empty.branch [
      | then-is_empty-via-then-is_empty v ↦ grind arith
      | then-is_empty-via-else-is_empty+then-word-gt10 v ↦ omega arith
      | then-is_empty-via-else-is_empty+else-word-gt10+then-has_leading_zero v ↦ let zero = v.if-has_leading_zero.ensures.0 refl in w.first zero.0 zero.1
    ]

pub returns-clause-found : goal.returns-clause-found
returns-clause-found c = numbers.found c.digits_of.result c.args.word.now (grind arith) (omega arith) (λ long zero. grind (arith, c.if-has_leading_zero.ensures.1 (long, zero))) c.digits_of.ensures.found c.digits_of.ensures.digits

pub returns-clause-short : goal.returns-clause-short
returns-clause-short c = numbers.short c.digits_of.result c.args.word.now (omega arith) c.digits_of.ensures.found c.digits_of.ensures.digits

pub returns-clause-none : goal.returns-clause-none
returns-clause-none c = numbers.none c.digits_of.result c.args.word.now c.digits_of.ensures.none
