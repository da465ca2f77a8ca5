use Rattle.std.proofs.Common.{◌≡◌, false, arith, rules}
use Rattle.sd_logrec.specs.Spelling.{is_before}
use Rattle.sd_logrec.proofs.Rising.{falls_at, rises_to}
use Rattle.sd_logrec.proofs.take.spans_rise.Goals as goal

pub returns-then-not-is_before : goal.returns-then-not-is_before
returns-then-not-is_before c =
    let h : false ≡ is_before c.index-spans-i.result.0 c.index-spans-i-in-loop-i.result.0 = search rules in
    falls_at (λ s t. is_before s.0 t.0) c.args.spans.now c.loop-i.i c.index-spans-i.result c.index-spans-i-in-loop-i.result (omega arith) (omega arith) c.index-spans-i.is c.index-spans-i-in-loop-i.is h

pub returns : goal.returns
returns c = rises_to (λ s t. is_before s.0 t.0) c.args.spans.now c.loop-i.i c.loop-i-test.false c.loop-i.invariant
