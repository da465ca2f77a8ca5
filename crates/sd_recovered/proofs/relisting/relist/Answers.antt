use Rattle.std.proofs.Common.{length, refl, arith}
use Rattle.std.proofs.lemmas.Option.{slice_get_read, slice_get_within}
use Rattle.sd_log.specs.Logs.{flats}
use Rattle.sd_recovered.proofs.RelistedOwe.{table-owes, table-reserves}
use Rattle.sd_recovered.proofs.Relisted.{absent, relisted_more, relisted_order, relisted_rows, relisted_start}
use Rattle.sd_recovered.proofs.relisting.relist.Goals as goal

pub loop-txn-init : goal.loop-txn-init
loop-txn-init c =
    relisted_start c.args.inst c.args.who.now (flats c.args.log.now) c.items-losers.result.now c.new-table.result c.new-table.ensures

pub add-requires : goal.add-requires
add-requires c =
    let who = c.args.who.now in
    let i = c.loop-txn.txn-index in
    let w = c.loop-txn-item.result in
    absent c.args.inst who (flats c.args.log.now) c.items-losers.result.now c.loop-txn.table c.loop-txn.next i w c.requires.rising
    c.loop-txn.invariant (slice_get_read who (length who) i w refl c.loop-txn-test.true c.loop-txn-item.is)

pub skip_below-next-requires : goal.skip_below-next-requires
skip_below-next-requires c =
    let who = c.args.who.now in
    let i = c.loop-txn.txn-index in
    let w = c.loop-txn-item.result in
    c.loop-txn.invariant.below i w (omega arith) (slice_get_read who (length who) i w refl c.loop-txn-test.true c.loop-txn-item.is)

pub loop-txn-preserved : goal.loop-txn-preserved
loop-txn-preserved c =
    let who = c.args.who.now in
    let i = c.loop-txn.txn-index in
    let w = c.loop-txn-item.result in
    let added = c.in_ok-add.ensures in
    let given = c.in_ok-reopen_at.ensures in
    relisted_more c.args.inst who (flats c.args.log.now) c.items-losers.result.now c.loop-txn.table c.add.new.table c.reopen_at.new.table
    c.loop-txn.next c.skip_below-next.result i w c.requires.rising c.loop-txn.invariant
    (slice_get_read who (length who) i w refl c.loop-txn-test.true c.loop-txn-item.is) added.added added.last added.others added.counts
    c.skip_below-next.ensures given.kept given.others given.order

pub returns-clause-order : goal.returns-clause-order
returns-clause-order c =
    relisted_order c.args.inst c.args.who.now (flats c.args.log.now) c.items-losers.result.now c.loop-txn.table c.loop-txn.next
    c.loop-txn.txn-index c.loop-txn.invariant c.loop-txn.auto.txn-index-end c.loop-txn-test.false

pub returns-clause-rows : goal.returns-clause-rows
returns-clause-rows c =
    relisted_rows c.args.inst c.args.who.now (flats c.args.log.now) c.items-losers.result.now c.loop-txn.table c.loop-txn.next
    c.loop-txn.txn-index c.loop-txn.invariant c.loop-txn-test.false

pub returns-clause-owes : goal.returns-clause-owes
returns-clause-owes c among =
    table-owes c.args.log.now c.args.losers.now c.args.who.now c.loop-txn.table c.requires.losers c.requires.rising
    (relisted_order c.args.inst c.args.who.now (flats c.args.log.now) c.items-losers.result.now c.loop-txn.table c.loop-txn.next
    c.loop-txn.txn-index c.loop-txn.invariant c.loop-txn.auto.txn-index-end c.loop-txn-test.false)
    (λ k w there. c.loop-txn.invariant.rows k w
    (let within = slice_get_within c.args.who.now k w there in omega (arith, within, c.loop-txn-test.false)) there) among

pub returns-clause-reserves : goal.returns-clause-reserves
returns-clause-reserves c among =
    table-reserves c.args.log.now c.args.losers.now c.args.who.now c.loop-txn.table c.requires.losers c.requires.rising
    (relisted_order c.args.inst c.args.who.now (flats c.args.log.now) c.items-losers.result.now c.loop-txn.table c.loop-txn.next
    c.loop-txn.txn-index c.loop-txn.invariant c.loop-txn.auto.txn-index-end c.loop-txn-test.false)
    (λ k w there. c.loop-txn.invariant.rows k w
    (let within = slice_get_within c.args.who.now k w there in omega (arith, within, c.loop-txn-test.false)) there) among

pub returns-clause-fresh : goal.returns-clause-fresh
returns-clause-fresh c = c.loop-txn.invariant.counts
