use Rattle.std.proofs.Common.{◌≡◌, List, ◌∙◌}
use Rattle.sd_log.specs.Logs.{scanned}
use Rattle.sd_recovered.proofs.Relisted.{Who}
use Rattle.sd_restart.proofs.Tables.{retained, retained-rise, retained_all, table-is}
use Rattle.sd_restart.proofs.parts.table_of.Goals as goal

pub relist-requires-clause-rising : goal.relist-requires-clause-rising
relist-requires-clause-rising c =
    let who : List Who = c.deref.result.now in
    let is : who ≡ retained c.args.losers.now = c.deref.ensures.value
    ∙ retained_all c.items-loser-items.result.now c.args.losers.now c.loop-loser.who.items c.loop-loser.loser-index
    c.items-loser-items.ensures c.loop-loser.invariant c.loop-loser.auto.loser-index-end c.loop-loser-test.false in
    retained-rise (scanned c.args.log.now) c.args.losers.now who c.requires is

pub returns : goal.returns
returns c =
    let who : List Who = c.deref.result.now in
    let is : who ≡ retained c.args.losers.now = c.deref.ensures.value
    ∙ retained_all c.items-loser-items.result.now c.args.losers.now c.loop-loser.who.items c.loop-loser.loser-index
    c.items-loser-items.ensures c.loop-loser.invariant c.loop-loser.auto.loser-index-end c.loop-loser-test.false in
    table-is c.relist.result c.args.inst c.args.log.now c.scan.result.now c.args.losers.now who c.requires c.scan.ensures is
    c.relist.ensures.order c.relist.ensures.rows c.relist.ensures.fresh
