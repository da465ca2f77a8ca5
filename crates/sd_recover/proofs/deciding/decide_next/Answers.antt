use Rattle.std.proofs.Common.{ap, ◌∙◌, subst}
use Rattle.sd_log.specs.Logs.{LogState, scanned}
use Rattle.sd_logrec.specs.View.{flat}
use Rattle.sd_chain.specs.Fates.{commits}
use Rattle.std.specs.List.{IsDistinct, list_any}
use Rattle.sd_state.specs.Complexes.{parts}
use Rattle.sd_world.specs.Serving.{Telling, telling}
use Rattle.sd_base.specs.Ids.{same_txn}
use Rattle.sd_chain.specs.Records.{home}
use Rattle.sd_state.specs.Parts.{Parts, txns_at}
use Rattle.sd_update.proofs.Deciding.{has-row}
use Rattle.sd_txn.specs.Transactions.{Transactions, ids}
use Rattle.sd_txn.specs.declared.state.TxnState.{TxnState}
use Rattle.sd_recover.specs.Tasks.{tasks_in}
use Rattle.sd_recover.proofs.Doing.{decide-does}
use Rattle.sd_recover.proofs.Left.{decided-fewer}
use Rattle.sd_recover.proofs.Decides.{decides, doubt-then, fits-mid, kept-then, no-tail, recovers-then, settled-then}
use Rattle.sd_recover.proofs.deciding.decide_next.Goals as goal

pub log-requires : goal.log-requires
log-requires g c =
    let tell : Telling _ = telling g.G.Rig.seen g.G.Rig.leaves g.G.Rig.moment g.G.Rig.since g.G.Rig.faults in
    let r = c.requires in
    let n = c.keeps.ensures in
    (fits-mid tell c.args.by c.args.t.now c.args.c.now c.at_rest.new.c n.low n.high r.recovers r.settled r.doubt c.in-Ok.ensures.spared
    c.in-Ok.ensures.parts r.fits.0 r.fits.1).good.shape

pub decide-requires-clause-good : goal.decide-requires-clause-good
decide-requires-clause-good g c =
    let tell : Telling _ = telling g.G.Rig.seen g.G.Rig.leaves g.G.Rig.moment g.G.Rig.since g.G.Rig.faults in
    let r = c.requires in
    let n = c.keeps.ensures in (
      r.fits.0.scene.state,
      (fits-mid tell c.args.by c.args.t.now c.args.c.now c.at_rest.new.c n.low n.high r.recovers r.settled r.doubt
          c.in-Ok.ensures.spared c.in-Ok.ensures.parts r.fits.0 r.fits.1).good,
    )

pub decide-requires-clause-doubt : goal.decide-requires-clause-doubt
decide-requires-clause-doubt g c =
    let tell : Telling _ = telling g.G.Rig.seen g.G.Rig.leaves g.G.Rig.moment g.G.Rig.since g.G.Rig.faults in
    let r = c.requires in
    let n = c.keeps.ensures in
    doubt-then tell c.args.by c.args.t.now c.args.c.now c.at_rest.new.c n.low n.high r.recovers r.settled r.doubt c.in-Ok.ensures.spared
    c.in-Ok.ensures.parts

pub decide-requires-clause-recovering : goal.decide-requires-clause-recovering
decide-requires-clause-recovering g c =
    let tell : Telling _ = telling g.G.Rig.seen g.G.Rig.leaves g.G.Rig.moment g.G.Rig.since g.G.Rig.faults in
    let r = c.requires in
    let n = c.keeps.ensures in (
      c.args.by,
      recovers-then tell c.args.by c.args.t.now c.args.c.now c.at_rest.new.c n.low n.high r.recovers r.settled r.doubt
          c.in-Ok.ensures.spared c.in-Ok.ensures.parts,
    )

pub decide-requires-clause-settled : goal.decide-requires-clause-settled
decide-requires-clause-settled g c =
    let tell : Telling _ = telling g.G.Rig.seen g.G.Rig.leaves g.G.Rig.moment g.G.Rig.since g.G.Rig.faults in
    let r = c.requires in
    let n = c.keeps.ensures in
    settled-then tell c.args.by c.args.t.now c.args.c.now c.at_rest.new.c n.low n.high r.recovers r.settled r.doubt c.in-Ok.ensures.spared
    c.in-Ok.ensures.parts

pub decide-requires-clause-no_tail : goal.decide-requires-clause-no_tail
decide-requires-clause-no_tail g c =
    let tell : Telling _ = telling g.G.Rig.seen g.G.Rig.leaves g.G.Rig.moment g.G.Rig.since g.G.Rig.faults in
    let r = c.requires in
    let n = c.keeps.ensures in
    no-tail tell c.args.by c.args.t.now c.args.c.now c.at_rest.new.c n.low n.high r.recovers r.settled r.doubt c.in-Ok.ensures.spared
    c.in-Ok.ensures.parts r.fits.0 r.fits.1

pub decide-requires-clause-kept : goal.decide-requires-clause-kept
decide-requires-clause-kept g c =
    let tell : Telling _ = telling g.G.Rig.seen g.G.Rig.leaves g.G.Rig.moment g.G.Rig.since g.G.Rig.faults in
    let r = c.requires in
    let n = c.keeps.ensures in
    kept-then tell c.args.by c.args.t.now c.args.c.now c.at_rest.new.c n.low n.high r.recovers r.settled r.doubt c.in-Ok.ensures.spared
    c.in-Ok.ensures.parts r.fits.0 r.fits.1 c.has_commit-committed.result
    (c.has_commit-committed.ensures ∙ ap (λ (l : LogState). list_any (λ q. commits c.args.t.now (flat q.rec)) (scanned l)) c.log.ensures)

pub returns-in-Ok-clause-served : goal.returns-in-Ok-clause-served
returns-in-Ok-clause-served g c =
    let tell : Telling _ = telling g.G.Rig.seen g.G.Rig.leaves g.G.Rig.moment g.G.Rig.since g.G.Rig.faults in
    let r = c.requires in
    let n = c.keeps.ensures in
    let d = c.decide.ensures in
    decides tell c.args.by c.args.t.now c.args.c.now c.at_rest.new.c n.low n.high r.recovers r.settled r.doubt c.in-Ok.ensures.spared
    c.in-Ok.ensures.parts c.decide.new.c d.rig d.parts d.good

pub txns-requires : goal.txns-requires
txns-requires g c =
    let tell : Telling _ = telling g.G.Rig.seen g.G.Rig.leaves g.G.Rig.moment g.G.Rig.since g.G.Rig.faults in
    let r = c.requires in
    let n = c.keeps.ensures in
    (fits-mid tell c.args.by c.args.t.now c.args.c.now c.at_rest.new.c n.low n.high r.recovers r.settled r.doubt c.in-Ok.ensures.spared
    c.in-Ok.ensures.parts r.fits.0 r.fits.1).good.shape

pub returns-in-Ok-clause-fewer : goal.returns-in-Ok-clause-fewer
returns-in-Ok-clause-fewer g c =
    let tell : Telling _ = telling g.G.Rig.seen g.G.Rig.leaves g.G.Rig.moment g.G.Rig.since g.G.Rig.faults in
    let t = c.args.t.now in
    let mid = c.at_rest.new.c in
    let r = c.requires in
    let n = c.keeps.ensures in
    let d = c.decide.ensures in
    let row = has-row (txns_at (parts mid) (home t)) t TxnState.Doubt
    (doubt-then tell c.args.by t c.args.c.now mid n.low n.high r.recovers r.settled r.doubt c.in-Ok.ensures.spared c.in-Ok.ensures.parts) in
    let once : IsDistinct same_txn (ids (txns_at (parts mid) (home t))) =
    subst (λ (tb : Transactions). IsDistinct same_txn (ids tb)) c.txns.ensures c.keeps-in-Ok.ensures.once in
    decided-fewer (txns_at (parts mid) (home t)) (txns_at (parts c.decide.new.c) (home t)) t row.x c.has_commit-committed.result once row.row
    row.state d.row d.others d.order
    ∙ ap (λ (p : Parts). tasks_in (txns_at p (home t))) c.in-Ok.ensures.parts

pub returns-in-Ok-clause-did : goal.returns-in-Ok-clause-did
returns-in-Ok-clause-did g c =
    let tell : Telling _ = telling g.G.Rig.seen g.G.Rig.leaves g.G.Rig.moment g.G.Rig.since g.G.Rig.faults in
    let t = c.args.t.now in
    let old = c.args.c.now in
    let mid = c.at_rest.new.c in
    let new = c.decide.new.c in
    let r = c.requires in
    let n = c.keeps.ensures in
    let d = c.decide.ensures in
    let row = has-row (txns_at (parts mid) (home t)) t TxnState.Doubt
    (doubt-then tell c.args.by t old mid n.low n.high r.recovers r.settled r.doubt c.in-Ok.ensures.spared c.in-Ok.ensures.parts) in
    let once : IsDistinct same_txn (ids (txns_at (parts mid) (home t))) =
    subst (λ (tb : Transactions). IsDistinct same_txn (ids tb)) c.txns.ensures c.keeps-in-Ok.ensures.once in
    decide-does t c.args.by (tell.seen old.rig) (tell.seen new.rig) (parts old) (parts mid) (parts new) row.x c.has_commit-committed.result
    r.settled
    (kept-then tell c.args.by t old mid n.low n.high r.recovers r.settled r.doubt c.in-Ok.ensures.spared c.in-Ok.ensures.parts r.fits.0 r.fits.1
    c.has_commit-committed.result
    (c.has_commit-committed.ensures ∙ ap (λ (l : LogState). list_any (λ q. commits t (flat q.rec)) (scanned l)) c.log.ensures))
    c.in-Ok.ensures.parts d.parts row.row d.row d.others d.order
    (decided-fewer (txns_at (parts mid) (home t)) (txns_at (parts new) (home t)) t row.x c.has_commit-committed.result once row.row
    row.state d.row d.others d.order
    ∙ ap (λ (p : Parts). tasks_in (txns_at p (home t))) c.in-Ok.ensures.parts)
