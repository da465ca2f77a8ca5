use Rattle.std.proofs.Common.{◌≡◌, ◌<◌, ◌+◌, ℕ, List, ◌++◌, Err, Result, length, reverse, take, drop, subst, ap, ◌∙◌, arith}
use Rattle.sd_logrec.specs.View.{Rec}
use Rattle.sd_recovered.specs.Others.{seen_in}
use Rattle.sd_recovered.specs.Taking.{MayTake, Taken, lowest_place, picked, stacks_in}
use Rattle.sd_recovered.specs.declared.undo_pass.UndoError.{UndoError}
use Rattle.sd_recovered.specs.declared.undo_pass.UndoError.TheVariants as F
use Rattle.sd_recovered.proofs.Stopping.{listed, stops_in}
use Rattle.sd_recovered.proofs.Walks.{stacks-more, stacks-parts, walk-more, walk-stops}
use Rattle.sd_recovered.proofs.taking_back.take_back_log.Goals as goal

pub loop-loser-preserved : goal.loop-loser-preserved
loop-loser-preserved c =
    let log = c.args.log.now in let losers = c.args.losers.now in let i = c.loop-loser.loser-index in
    let x = c.loser-item.result in let lt : i < length losers = omega arith in
    let done = c.if-not-take_back_stack.false in let top = seen_in c.args.last.now in
    let b = c.loop-loser.pages in let n = c.take_back_stack.new.pages in
    walk-more top c.args.pages.now b n (stacks_in log (take i losers)) (picked log (reverse x.open)) _ c.loop-loser.invariant
    (subst (λ (o : List ℕ). MayTake b top (picked log (reverse o))) c.items.ensures (c.take_back_stack.ensures.fits done))
    (subst (λ (o : List ℕ). Taken b n (picked log (reverse o))) c.items.ensures (c.take_back_stack.ensures.taken done))
    (stacks-more log losers i x lt c.loser-item.is)

pub returns-then-not-take_back_stack-clause-misfit : goal.returns-then-not-take_back_stack-clause-misfit
returns-then-not-take_back_stack-clause-misfit c = λ inst place _ may.
    let log = c.args.log.now in let losers = c.args.losers.now in let i = c.loop-loser.loser-index in
    let x = c.loser-item.result in let lt : i < length losers = omega arith in let top = seen_in c.args.last.now in
    walk-stops top c.args.pages.now c.loop-loser.pages (stacks_in log (take i losers)) (picked log (reverse x.open))
    (stacks_in log (drop (i + 1) losers)) _ c.loop-loser.invariant.1
    (subst (λ (o : List ℕ). MayTake c.loop-loser.pages top (picked log (reverse o)) → ⊥) c.items.ensures
    (c.take_back_stack.ensures.misfit c.if-not-take_back_stack.true))
    (stacks-parts log losers (i + 1)
    ∙ ap (λ (l : List Rec). l ++ stacks_in log (drop (i + 1) losers)) (stacks-more log losers i x lt c.loser-item.is)) may

-- the loser and the place that a misfit names
named : {T : Type 0} (e : UndoError) (inst place inst' place' : ℕ) → e ≡ F.Misfit inst' place' → ◌≡◌ {A = Result T UndoError} (Err e) (Err (F.Misfit inst place))
    → (inst ≡ inst') × (place ≡ place')
named e inst place inst' place' f is = (cc, cc)

pub returns-then-not-take_back_stack-clause-first : goal.returns-then-not-take_back_stack-clause-first
returns-then-not-take_back_stack-clause-first c = λ inst place is.
    let log = c.args.log.now in let losers = c.args.losers.now in let i = c.loop-loser.loser-index in
    let x = c.loser-item.result in let lt : i < length losers = omega arith in let top = seen_in c.args.last.now in
    let names = named {T = Unit {0}} c.misfit.result inst place x.txn.inst (lowest_place log x.open) c.misfit.ensures is in
    stops_in top c.args.pages.now c.loop-loser.pages log losers i x inst place (listed losers i x lt c.loser-item.is) names.0 names.1
    c.loop-loser.invariant
    (subst (λ (o : List ℕ). MayTake c.loop-loser.pages top (picked log (reverse o)) → ⊥) c.items.ensures
    (c.take_back_stack.ensures.misfit c.if-not-take_back_stack.true))
