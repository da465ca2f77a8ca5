use Rattle.std.proofs.Common.{◌≡◌, false, nat_lt, arith, ap, sym, ◌∙◌}
use Rattle.std.proofs.lemmas.Bool.{le-ltb}
use Rattle.sd_logrec.specs.Spelling.{Changed}
use Rattle.sd_logrec.proofs.Rising.{falls_at, rises_to}
use Rattle.sd_logrec.proofs.take.recs_rise.Goals as goal

pub returns-then-get : goal.returns-then-get
returns-then-get c =
    let first : c.get.result ≡ c.index-recs-i.result.0 = c.get.ensures.value ∙ ap (λ (y : Changed). y.0) (sym c.index-recs-i.is) in
    let second : c.get-in-loop-i.result ≡ c.index-recs-i-in-loop-i.result.0 = c.get-in-loop-i.ensures.value ∙ ap (λ (y : Changed). y.0) (sym c.index-recs-i-in-loop-i.is) in
    let h : false ≡ nat_lt c.index-recs-i.result.0 c.index-recs-i-in-loop-i.result.0 = sym (le-ltb _ _ (omega arith)) in
    falls_at (λ s t. nat_lt s.0 t.0) c.args.recs.now c.loop-i.i c.index-recs-i.result c.index-recs-i-in-loop-i.result (omega arith) (omega arith) c.index-recs-i.is c.index-recs-i-in-loop-i.is h

pub returns : goal.returns
returns c = rises_to (λ s t. nat_lt s.0 t.0) c.args.recs.now c.loop-i.i c.loop-i-test.false c.loop-i.invariant
