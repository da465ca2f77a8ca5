use Rattle.std.proofs.Common.{◌≡◌, ◌<◌, ◌+◌, List, ◌++◌, Err, length, take, drop, sym, subst, ap, ◌∙◌, arith}
use Rattle.std.proofs.lemmas.Result.{err_from_is_err_and}
use Rattle.sd_logrec.specs.View.{Rec}
use Rattle.sd_log.specs.declared.placed.Placed.{Placed}
use Rattle.sd_log.specs.Logs.{scanned}
use Rattle.sd_recovered.specs.declared.losers.Loser.{Loser}
use Rattle.sd_recovered.specs.Others.{seen_in}
use Rattle.sd_recovered.specs.Taking.{MayTake, Taken, open_in, stacks_in}
use Rattle.sd_recovered.specs.Stops.{StopsIn}
use Rattle.sd_recovered.proofs.Stopping.{listed, stops_at}
use Rattle.sd_recovered.proofs.Walks.{open-more, open-parts, walk-more, walk-stops}
use Rattle.sd_recovered.proofs.taking_back.take_back_all.Goals as goal

pub loop-j-preserved : goal.loop-j-preserved
loop-j-preserved c =
    let logs = c.args.logs.now in let losers = c.args.losers.now in let j = c.loop-j.j in
    let log = c.index-logs-j.result in let first = c.index-losers-j.result in
    let lt : j < length logs = omega arith in let top = seen_in c.args.last.now in
    let b = c.loop-j.pages in let n = c.take_back_log.new.pages in
    let one : c.scan.result.now ≡ scanned log = c.scan.ensures in
    let two : c.items.result.now ≡ first = c.items.ensures in
    let same = ap (λ (l : List Placed). stacks_in l c.items.result.now) one ∙ ap (stacks_in (scanned log)) two in
    walk-more top c.args.pages.now b n (open_in (take j logs) (take j losers)) (stacks_in (scanned log) first) _ c.loop-j.invariant
    (subst (MayTake b top) same c.in_ok-take_back_log.ensures.fits)
    (subst (Taken b n) same c.in_ok-take_back_log.ensures.taken)
    (open-more logs losers j log first lt c.requires.losers c.index-logs-j.is c.index-losers-j.is)

pub returns-in_err-take_back_log-clause-misfit : goal.returns-in_err-take_back_log-clause-misfit
returns-in_err-take_back_log-clause-misfit c = λ inst place is may.
    let logs = c.args.logs.now in let losers = c.args.losers.now in let j = c.loop-j.j in
    let log = c.index-logs-j.result in let first = c.index-losers-j.result in
    let lt : j < length logs = omega arith in let top = seen_in c.args.last.now in
    let one : c.scan.result.now ≡ scanned log = c.scan.ensures in
    let two : c.items.result.now ≡ first = c.items.ensures in
    let same = ap (λ (l : List Placed). stacks_in l c.items.result.now) one ∙ ap (stacks_in (scanned log)) two in
    let p = err_from_is_err_and c.from_residual.result c.from_residual.ensures.1 in
    walk-stops top c.args.pages.now c.loop-j.pages (open_in (take j logs) (take j losers)) (stacks_in (scanned log) first)
    (open_in (drop (j + 1) logs) (drop (j + 1) losers)) _ c.loop-j.invariant.1
    (subst (λ (l : List Rec). MayTake c.loop-j.pages top l → ⊥) same
    (c.in_err-take_back_log.ensures.misfit inst place (ap Err (sym p.2) ∙ sym p.1 ∙ is)))
    (open-parts logs losers (j + 1) (omega (arith, lt)) c.requires.losers
    ∙ ap (λ (l : List Rec). l ++ open_in (drop (j + 1) logs) (drop (j + 1) losers))
    (open-more logs losers j log first lt c.requires.losers c.index-logs-j.is c.index-losers-j.is)) may

pub returns-in_err-take_back_log-clause-first : goal.returns-in_err-take_back_log-clause-first
returns-in_err-take_back_log-clause-first c = λ inst place is.
    let logs = c.args.logs.now in let losers = c.args.losers.now in let j = c.loop-j.j in
    let log = c.index-logs-j.result in let own = c.index-losers-j.result in
    let lt : j < length logs = omega arith in let top = seen_in c.args.last.now in
    let lt' : j < length losers = omega (arith, lt, c.requires.losers) in
    let p = err_from_is_err_and c.from_residual.result c.from_residual.ensures.1 in
    stops_at top c.args.pages.now c.loop-j.pages logs losers j log own inst place (listed logs j log lt c.index-logs-j.is)
    (listed losers j own lt' c.index-losers-j.is) c.loop-j.invariant
    (subst (λ (l : List Placed). StopsIn c.loop-j.pages top l own inst place) c.scan.ensures
    (subst (λ (ls : List Loser). StopsIn c.loop-j.pages top c.scan.result.now ls inst place) c.items.ensures
    (c.in_err-take_back_log.ensures.first inst place (ap Err (sym p.2) ∙ sym p.1 ∙ is))))
