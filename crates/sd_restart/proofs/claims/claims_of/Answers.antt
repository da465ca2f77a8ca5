use Rattle.std.proofs.Common.{◌≡◌, true, List, Some, length, refl, sym, ◌∙◌, subst}
use Rattle.std.specs.Prelude.{slice_get}
use Rattle.std.proofs.lemmas.Option.{slice_get_read, slice_get_within}
use Rattle.sd_recovered.specs.Losers.{AreLosers}
use Rattle.sd_recovered.specs.declared.losers.Loser.{Loser}
use Rattle.sd_log.specs.declared.placed.Placed.{Placed}
use Rattle.sd_log.specs.Logs.{LogState, flats}
use Rattle.sd_restart.specs.Claims.{LosersAreApart, opens_in}
use Rattle.sd_restart.proofs.Claiming.{AreClaimed, logs_all, logs_free, logs_more, losers_apart, losers_at, turn}
use Rattle.sd_restart.proofs.claims.claims_of.Goals as goal

pub bounds-losers-i : goal.bounds-losers-i
bounds-losers-i c =
    let logs : List LogState = c.args.logs.now in
    let i = c.loop-i.i in
    let log : LogState = c.index-logs-i.result in
    let there : slice_get logs i ≡ Some log = slice_get_read logs (length logs) i log refl c.loop-i-test.true c.index-logs-i.is in
    let l = losers_at logs c.args.losers.now i log c.requires.losers there in
    slice_get_within c.args.losers.now i l.found l.there

pub claim_all-requires-clause-losers : goal.claim_all-requires-clause-losers
claim_all-requires-clause-losers c =
    let logs : List LogState = c.args.logs.now in
    let i = c.loop-i.i in
    let log : LogState = c.index-logs-i.result in
    let there : slice_get logs i ≡ Some log = slice_get_read logs (length logs) i log refl c.loop-i-test.true c.index-logs-i.is in
    let found : List Loser = c.index-losers-i.result in
    subst (λ (ps : List Placed). AreLosers ps found) (sym c.scan.ensures)
    (turn logs c.args.losers.now i log found c.requires.losers there c.index-losers-i.is).losers_are

pub claim_all-requires-clause-apart : goal.claim_all-requires-clause-apart
claim_all-requires-clause-apart c =
    let logs : List LogState = c.args.logs.now in
    let i = c.loop-i.i in
    let log : LogState = c.index-logs-i.result in
    let there : slice_get logs i ≡ Some log = slice_get_read logs (length logs) i log refl c.loop-i-test.true c.index-logs-i.is in
    let found : List Loser = c.index-losers-i.result in
    let are = turn logs c.args.losers.now i log found c.requires.losers there c.index-losers-i.is in
    subst (λ (ps : List Placed). LosersAreApart (flats ps) found) (sym c.scan.ensures)
    (losers_apart logs c.args.losers.now i log found there are c.requires.apart)

pub claim_all-requires-clause-free : goal.claim_all-requires-clause-free
claim_all-requires-clause-free c = λ t u r listed open_one ne.
    let logs : List LogState = c.args.logs.now in
    let i = c.loop-i.i in
    let log : LogState = c.index-logs-i.result in
    let there : slice_get logs i ≡ Some log = slice_get_read logs (length logs) i log refl c.loop-i-test.true c.index-logs-i.is in
    let found : List Loser = c.index-losers-i.result in
    let are = turn logs c.args.losers.now i log found c.requires.losers there c.index-losers-i.is in
    logs_free logs c.args.losers.now i log found there are c.loop-i.locks c.requires.apart c.loop-i.invariant.0 t u r listed
    (subst (λ (ps : List Placed). opens_in (flats ps) t r ≡ true) c.scan.ensures open_one) ne

pub loop-i-preserved : goal.loop-i-preserved
loop-i-preserved c =
    let logs : List LogState = c.args.logs.now in
    let i = c.loop-i.i in
    let log : LogState = c.index-logs-i.result in
    let there : slice_get logs i ≡ Some log = slice_get_read logs (length logs) i log refl c.loop-i-test.true c.index-logs-i.is in
    let found : List Loser = c.index-losers-i.result in
    let are = turn logs c.args.losers.now i log found c.requires.losers there c.index-losers-i.is in (
      logs_more logs c.args.losers.now i log found there are c.loop-i.locks c.claim_all.new.locks c.loop-i.invariant.0
          (subst (λ (ps : List Placed). AreClaimed ps found c.loop-i.locks c.claim_all.new.locks) c.scan.ensures c.in_ok-claim_all.ensures.claimed),
      c.in_ok-claim_all.ensures.waits ∙ c.loop-i.invariant.1,
    )

pub returns-clause-held : goal.returns-clause-held
returns-clause-held c = logs_all c.args.logs.now c.loop-i.locks c.loop-i.i c.loop-i.invariant.0 c.loop-i-test.false
