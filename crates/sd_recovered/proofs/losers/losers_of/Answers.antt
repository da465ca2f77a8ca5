use Rattle.std.proofs.Common.{◌≡◌, [], ◌∷◌, ◌++◌, List, sym, ap, subst, rules, ◌∙◌}
use Rattle.sd_log.specs.Logs.{flats}
use Rattle.sd_chain.specs.Faults.{IsFirstMisplaced}
use Rattle.sd_recovered.specs.Losers.{AreLosers}
use Rattle.sd_recovered.specs.declared.losers.Loser.{Loser}
use Rattle.sd_recovered.proofs.Ending.{Ending, Row, all_covered, all_losers, ending_all, ending_open, ending_shut, ending_start, first_of_all, loser_of, lsn-at, none_at_all, row_within}
use Rattle.sd_recovered.proofs.losers.losers_of.Goals as goal

pub loop-txn-init : goal.loop-txn-init
loop-txn-init c =
    let log = c.args.log.now in
    let rows = c.args.known.rows.entries in
    let gives = c.into_iter-txn-iterator.ensures.into_iter_gives in
    subst (λ (left : List Row). Ending log rows left c.new-losers.result.items c.args.worst) (sym gives.0)
    (subst (λ (losers : List Loser). Ending log rows rows losers c.args.worst) (sym c.new-losers.ensures.items) (ending_start log c.args.known.closed rows c.args.worst gives.5 c.requires.known c.requires.least))

pub loop-txn-preserved-then-is_some : goal.loop-txn-preserved-then-is_some
loop-txn-preserved-then-is_some c =
    let log = c.args.log.now in
    let rows = c.args.known.rows.entries in
    let row : Row = (c.in-Some.txn, c.in-Some.seen) in
    ending_shut log rows c.next.new.self row c.loop-txn.losers.items c.loop-txn.worst
    (subst (λ (left : List Row). Ending log rows left c.loop-txn.losers.items c.loop-txn.worst) c.in-Some.ensures.steps c.loop-txn.invariant) (sym c.is_some.ensures ∙ c.if-is_some.true)

pub loop-txn-preserved : goal.loop-txn-preserved
loop-txn-preserved c =
    let log = c.args.log.now in
    let rows = c.args.known.rows.entries in
    let row : Row = (c.in-Some.txn, c.in-Some.seen) in
    let ending = subst (λ (left : List Row). Ending log rows left c.loop-txn.losers.items c.loop-txn.worst) c.in-Some.ensures.steps
    c.loop-txn.invariant in
    let inside = row_within log rows c.next.new.self row c.loop-txn.losers.items c.loop-txn.worst ending in
    let first = lsn-at log row.1.first c.index-log-seen.result c.lsn.result inside c.lsn.ensures in
    let pushed : c.push.new.self.items ≡ c.loop-txn.losers.items ++ loser_of log row ∷ [] =
    c.in_ok-push.ensures.items ∙ ap (λ (l : Loser). c.loop-txn.losers.items ++ l ∷ [])
    (λ i. record { txn = row.0; «open» = c.of.ensures i; first = first i; last = row.1.last }) in
    subst (λ (losers : List Loser). Ending log rows c.next.new.self losers c.least-worst.result) (sym pushed)
    (ending_open log rows c.next.new.self row c.loop-txn.losers.items c.loop-txn.worst c.late.result c.least-worst.result ending
    (sym c.is_some.ensures ∙ c.if-is_some.false) c.late.ensures c.least-worst.ensures.either c.least-worst.ensures.covers)

pub returns-in-Some-worst-clause-first : goal.returns-in-Some-worst-clause-first
returns-in-Some-worst-clause-first c at is =
    let log = c.args.log.now in
    let rows = c.args.known.rows.entries in
    let left : c.loop-txn.txn-iterator ≡ [] = search rules in
    let ending = subst (λ (left : List Row). Ending log rows left c.loop-txn.losers.items c.loop-txn.worst) left c.loop-txn.invariant in
    let same : c.in-Some-worst.at ≡ at = cc in
    subst (IsFirstMisplaced (flats log)) same
    (first_of_all (flats log) c.loop-txn.worst c.in-Some-worst.at c.in-Some-worst.is ending.hit
    (all_covered log c.args.known.closed rows c.loop-txn.worst c.requires.known ending.off (ending_all log rows c.loop-txn.losers.items c.loop-txn.worst ending).1))

pub returns-clause-in_order : goal.returns-clause-in_order
returns-clause-in_order c =
    let log = c.args.log.now in
    let rows = c.args.known.rows.entries in
    let left : c.loop-txn.txn-iterator ≡ [] = search rules in
    let ending = subst (λ (left : List Row). Ending log rows left c.loop-txn.losers.items c.loop-txn.worst) left c.loop-txn.invariant in
    none_at_all (flats log) c.loop-txn.worst c.in-None-worst.is
    (all_covered log c.args.known.closed rows c.loop-txn.worst c.requires.known ending.off (ending_all log rows c.loop-txn.losers.items c.loop-txn.worst ending).1)

pub returns-clause-losers : goal.returns-clause-losers
returns-clause-losers c =
    let log = c.args.log.now in
    let rows = c.args.known.rows.entries in
    let left : c.loop-txn.txn-iterator ≡ [] = search rules in
    let all = ending_all log rows c.loop-txn.losers.items c.loop-txn.worst
    (subst (λ (left : List Row). Ending log rows left c.loop-txn.losers.items c.loop-txn.worst) left c.loop-txn.invariant) in
    subst (AreLosers log) (sym (c.of-in-None-worst.ensures ∙ all.0))
    (all_losers log c.args.known.closed rows c.into_iter-txn-iterator.ensures.into_iter_gives.5 c.requires.known)
