use Rattle.std.proofs.Common.{◌≡◌, ℕ, suc, ◌+◌, List, Option, Some, length, refl, take, sym, subst, arith}
use Rattle.std.specs.Prelude.{IfSome, slice_get}
use Rattle.std.proofs.lemmas.Option.{slice_get_read, slice_get_within}
use Rattle.sd_recovered.specs.declared.losers.Loser.{Loser}
use Rattle.sd_log.specs.Logs.{LogState}
use Rattle.sd_txn.specs.Transactions.{Transactions}
use Rattle.sd_restart.specs.Reading.{IsTableOf, Matches}
use Rattle.sd_restart.proofs.Claiming.{losers_at, turn}
use Rattle.sd_restart.proofs.Matching.{matches_more}
use Rattle.sd_restart.proofs.parts.tables_of.Goals as goal

pub bounds-losers-i : goal.bounds-losers-i
bounds-losers-i c =
    let logs : List LogState = c.args.logs.now in
    let i = c.loop-i.i in
    let log : LogState = c.index-logs-i.result in
    let there : slice_get logs i ≡ Some log = slice_get_read logs (length logs) i log refl c.loop-i-test.true c.index-logs-i.is in
    let l = losers_at logs c.args.losers.now i log c.requires.losers there in
    slice_get_within c.args.losers.now i l.found l.there

pub table_of-requires : goal.table_of-requires
table_of-requires c =
    let logs : List LogState = c.args.logs.now in
    let i = c.loop-i.i in
    let log : LogState = c.index-logs-i.result in
    let there : slice_get logs i ≡ Some log = slice_get_read logs (length logs) i log refl c.loop-i-test.true c.index-logs-i.is in
    let found : List Loser = c.index-losers-i.result in
    (turn logs c.args.losers.now i log found c.requires.losers there c.index-losers-i.is).losers_are

pub loop-i-preserved : goal.loop-i-preserved
loop-i-preserved c =
    let logs : List LogState = c.args.logs.now in
    let i : ℕ = c.loop-i.i in
    let log : LogState = c.index-logs-i.result in
    let there : slice_get logs i ≡ Some log = slice_get_read logs (length logs) i log refl c.loop-i-test.true c.index-logs-i.is in
    let table : Transactions = c.in_ok-table_of.field-0 in
    let number : c.unwrap-inst.result ≡ i + 1 = subst (λ (r : Option ℕ). IfSome r (λ x. x ≡ i + 1)) c.unwrap-inst.ensures c.new.ensures.value in
    let next : c.unwrap-inst.result ≡ suc i = omega (arith, number) in
    subst (λ (ts : List Transactions). Matches (λ k l t. IsTableOf (suc k) l t) (take (i + 1) logs) ts) (sym c.in_ok-push.ensures.items)
    (matches_more (λ k l t. IsTableOf (suc k) l t) logs c.loop-i.tables.items i log table c.loop-i.invariant there
    (subst (λ (n : ℕ). IsTableOf n log table) next c.in_ok-table_of.ensures))
