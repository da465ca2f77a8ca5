use Rattle.std.proofs.Common.{◌<◌, ◌+◌, List, ◌++◌, length, reverse, take, drop, ap, ◌∙◌, arith}
use Rattle.sd_logrec.specs.View.{Rec}
use Rattle.sd_recovered.specs.Others.{seen_in}
use Rattle.sd_recovered.specs.Taking.{picked}
use Rattle.sd_recovered.proofs.Walks.{picked-more, picked-parts, walk-more, walk-stops}
use Rattle.sd_recovered.proofs.taking_back.take_back_stack.Goals as goal

pub loop-k-preserved : goal.loop-k-preserved
loop-k-preserved c =
    let log = c.args.log.now in let open_ones = c.args.stack.now in let k = c.loop-k.k in
    let lt : k < length open_ones = omega arith in
    let done = c.if-not-take_back_at.false in
    walk-more (seen_in c.args.last.now) c.args.pages.now c.loop-k.pages c.take_back_at.new.pages
    (picked log (take k (reverse open_ones))) _ _ c.loop-k.invariant
    (c.take_back_at.ensures.fits done) (c.take_back_at.ensures.taken done) (picked-more log open_ones k lt)

pub returns-then-not-take_back_at-clause-misfit : goal.returns-then-not-take_back_at-clause-misfit
returns-then-not-take_back_at-clause-misfit c = λ _ may.
    let log = c.args.log.now in let open_ones = c.args.stack.now in let k = c.loop-k.k in
    let lt : k < length open_ones = omega arith in
    walk-stops (seen_in c.args.last.now) c.args.pages.now c.loop-k.pages (picked log (take k (reverse open_ones))) _
    (picked log (drop (k + 1) (reverse open_ones))) _ c.loop-k.invariant.1
    (c.take_back_at.ensures.misfit c.if-not-take_back_at.true)
    (picked-parts log (reverse open_ones) (k + 1)
    ∙ ap (λ (l : List Rec). l ++ picked log (drop (k + 1) (reverse open_ones))) (picked-more log open_ones k lt)) may
