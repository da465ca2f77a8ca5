use Rattle.std.proofs.Common.{◌≡◌, ◌⊎◌, inl, ℕ, suc, false, sym, subst, ap, ◌∙◌}
use Rattle.std.specs.Prelude.{IsSome, None, Option, Some}
use Rattle.sd_base.specs.declared.place.Status.TheVariants as S
use Rattle.sd_base.specs.declared.refusal.Refusal.TheVariants as R
use Rattle.sd_base.proofs.Results.{when_ok}
use Rattle.sd_chain.specs.Records.{home}
use Rattle.sd_pagelock.specs.Directory.{entry_at}
use Rattle.sd_pagelock.specs.Places.{is_lost, seen}
use Rattle.sd_fits.specs.Serving.{Serving}
use Rattle.sd_model.specs.declared.event.Event.TheVariants.{RecoverStep}
use Rattle.sd_model.specs.declared.event.Reply.{Reply}
use Rattle.sd_model.specs.declared.event.Reply.TheVariants as reply
use Rattle.sd_state.specs.Complexes.{parts}
use Rattle.sd_state.specs.Parts.{Parts, is_loose, owed_at, status_at, txns_at}
use Rattle.sd_txn.specs.Transactions.{span_at, state_at, top_at}
use Rattle.sd_txn.specs.declared.state.OpenRec.{OpenRec}
use Rattle.sd_txn.specs.declared.state.TxnState.{TxnState}
use Rattle.sd_world.specs.Serving.{Telling, answered, telling}
use Rattle.sd_recover.specs.Rebuilding.{LeavesLost}
use Rattle.sd_recover.specs.Recovering.{AwaitsPage, HasOnlyRead, IsAway, IsStandingBy}
use Rattle.sd_recover.specs.Tasks.{IsNext, tasks_in}
use Rattle.sd_recover.specs.Doing.{Does, StepFell}
use Rattle.sd_recover.specs.declared.tasks.Task.{Task}
use Rattle.sd_recover.specs.declared.tasks.Task.TheVariants as task
use Rattle.sd_recover.proofs.Wanting.{lost-none, none-wanted, standing-by, wanted-so, when-any, when-err}
use Rattle.sd_recover.proofs.Cleared.{next-cleared, opposite, there-cleared}
use Rattle.sd_recover.proofs.Doing.{forced-untouched, same-untouched}
use Rattle.sd_recover.proofs.Owns.{bare, doubtful, ended-loser, open-loser, own-row, spoken}
use Rattle.sd_recover.proofs.recovering.work_on.Goals as goal

pub decide_next-requires-clause-recovers : goal.decide_next-requires-clause-recovers
decide_next-requires-clause-recovers g c =
    let old : Parts = parts c.args.c.now in
    let rig = c.args.c.now.rig in
    let i : ℕ = c.args.i in
    let n = c.keeps.ensures in
    let f = c.requires.fits in
    let next = subst (IsNext old i) c.in-Decide.is c.requires.next in
    let stands = doubtful (txns_at old i) c.in-Decide.t next.1 in
    let own : home c.in-Decide.t ≡ i = own-row i (g.G.Rig.seen rig) (g.G.Rig.leaves rig) old f.0 f.1 n.low n.high c.in-Decide.t TxnState.Doubt stands in
    subst (λ (j : ℕ). status_at old j ≡ S.Recovering c.args.by) (sym own) c.requires.recovers

pub decide_next-requires-clause-settled : goal.decide_next-requires-clause-settled
decide_next-requires-clause-settled g c =
    let old : Parts = parts c.args.c.now in
    let rig = c.args.c.now.rig in
    let i : ℕ = c.args.i in
    let n = c.keeps.ensures in
    let f = c.requires.fits in
    let next = subst (IsNext old i) c.in-Decide.is c.requires.next in
    let stands = doubtful (txns_at old i) c.in-Decide.t next.1 in
    let own : home c.in-Decide.t ≡ i = own-row i (g.G.Rig.seen rig) (g.G.Rig.leaves rig) old f.0 f.1 n.low n.high c.in-Decide.t TxnState.Doubt stands in
    subst (λ (j : ℕ). is_loose old j ≡ false) (sym own) (next.0.0 i n.high)

pub decide_next-requires-clause-doubt : goal.decide_next-requires-clause-doubt
decide_next-requires-clause-doubt g c =
    let old : Parts = parts c.args.c.now in
    let rig = c.args.c.now.rig in
    let i : ℕ = c.args.i in
    let n = c.keeps.ensures in
    let f = c.requires.fits in
    let next = subst (IsNext old i) c.in-Decide.is c.requires.next in
    let stands = doubtful (txns_at old i) c.in-Decide.t next.1 in
    let own : home c.in-Decide.t ≡ i = own-row i (g.G.Rig.seen rig) (g.G.Rig.leaves rig) old f.0 f.1 n.low n.high c.in-Decide.t TxnState.Doubt stands in
    subst (λ (j : ℕ). state_at (txns_at old j) c.in-Decide.t ≡ Some TxnState.Doubt) (sym own) stands

pub undo_next-requires-clause-recovers : goal.undo_next-requires-clause-recovers
undo_next-requires-clause-recovers g c =
    let old : Parts = parts c.args.c.now in
    let rig = c.args.c.now.rig in
    let i : ℕ = c.args.i in
    let n = c.keeps.ensures in
    let f = c.requires.fits in
    let next = subst (IsNext old i) c.in-Undo.is c.requires.next in
    let stands = (open-loser (txns_at old i) c.in-Undo.txn next.1.1).0 in
    let own : home c.in-Undo.txn ≡ i = own-row i (g.G.Rig.seen rig) (g.G.Rig.leaves rig) old f.0 f.1 n.low n.high c.in-Undo.txn TxnState.Retained stands in
    subst (λ (j : ℕ). status_at old j ≡ S.Recovering c.args.by) (sym own) c.requires.recovers

pub undo_next-requires-clause-there : goal.undo_next-requires-clause-there
undo_next-requires-clause-there g c =
    let old : Parts = parts c.args.c.now in
    let rig = c.args.c.now.rig in
    let i : ℕ = c.args.i in
    let n = c.keeps.ensures in
    let f = c.requires.fits in
    let next = subst (IsNext old i) c.in-Undo.is c.requires.next in
    let stands = (open-loser (txns_at old i) c.in-Undo.txn next.1.1).0 in
    let own : home c.in-Undo.txn ≡ i = own-row i (g.G.Rig.seen rig) (g.G.Rig.leaves rig) old f.0 f.1 n.low n.high c.in-Undo.txn TxnState.Retained stands in
    next.0

pub undo_next-requires-clause-loser : goal.undo_next-requires-clause-loser
undo_next-requires-clause-loser g c =
    let old : Parts = parts c.args.c.now in
    let rig = c.args.c.now.rig in
    let i : ℕ = c.args.i in
    let n = c.keeps.ensures in
    let f = c.requires.fits in
    let next = subst (IsNext old i) c.in-Undo.is c.requires.next in
    let stands = (open-loser (txns_at old i) c.in-Undo.txn next.1.1).0 in
    let own : home c.in-Undo.txn ≡ i = own-row i (g.G.Rig.seen rig) (g.G.Rig.leaves rig) old f.0 f.1 n.low n.high c.in-Undo.txn TxnState.Retained stands in
    subst (λ (j : ℕ). state_at (txns_at old j) c.in-Undo.txn ≡ Some TxnState.Retained) (sym own) stands

pub undo_next-requires-clause-last : goal.undo_next-requires-clause-last
undo_next-requires-clause-last g c =
    let old : Parts = parts c.args.c.now in
    let rig = c.args.c.now.rig in
    let i : ℕ = c.args.i in
    let n = c.keeps.ensures in
    let f = c.requires.fits in
    let next = subst (IsNext old i) c.in-Undo.is c.requires.next in
    let stands = (open-loser (txns_at old i) c.in-Undo.txn next.1.1).0 in
    let own : home c.in-Undo.txn ≡ i = own-row i (g.G.Rig.seen rig) (g.G.Rig.leaves rig) old f.0 f.1 n.low n.high c.in-Undo.txn TxnState.Retained stands in
    subst (λ (j : ℕ). (o : OpenRec) × (top_at (txns_at old j) c.in-Undo.txn ≡ Some o) × (c.in-Undo.page ≡ o.rid.page)) (sym own) next.1.2

pub end_next-requires-clause-recovers : goal.end_next-requires-clause-recovers
end_next-requires-clause-recovers g c =
    let old : Parts = parts c.args.c.now in
    let rig = c.args.c.now.rig in
    let i : ℕ = c.args.i in
    let n = c.keeps.ensures in
    let f = c.requires.fits in
    let next = subst (IsNext old i) c.in-End.is c.requires.next in
    let stands = ended-loser (txns_at old i) c.in-End.t next.1.2 in
    let own : home c.in-End.t ≡ i = own-row i (g.G.Rig.seen rig) (g.G.Rig.leaves rig) old f.0 f.1 n.low n.high c.in-End.t TxnState.Retained stands in
    subst (λ (j : ℕ). status_at old j ≡ S.Recovering c.args.by) (sym own) c.requires.recovers

pub end_next-requires-clause-settled : goal.end_next-requires-clause-settled
end_next-requires-clause-settled g c =
    let old : Parts = parts c.args.c.now in
    let rig = c.args.c.now.rig in
    let i : ℕ = c.args.i in
    let n = c.keeps.ensures in
    let f = c.requires.fits in
    let next = subst (IsNext old i) c.in-End.is c.requires.next in
    let stands = ended-loser (txns_at old i) c.in-End.t next.1.2 in
    let own : home c.in-End.t ≡ i = own-row i (g.G.Rig.seen rig) (g.G.Rig.leaves rig) old f.0 f.1 n.low n.high c.in-End.t TxnState.Retained stands in
    subst (λ (j : ℕ). is_loose old j ≡ false) (sym own) (next.0.0 i n.high)

pub end_next-requires-clause-loser : goal.end_next-requires-clause-loser
end_next-requires-clause-loser g c =
    let old : Parts = parts c.args.c.now in
    let rig = c.args.c.now.rig in
    let i : ℕ = c.args.i in
    let n = c.keeps.ensures in
    let f = c.requires.fits in
    let next = subst (IsNext old i) c.in-End.is c.requires.next in
    let stands = ended-loser (txns_at old i) c.in-End.t next.1.2 in
    let own : home c.in-End.t ≡ i = own-row i (g.G.Rig.seen rig) (g.G.Rig.leaves rig) old f.0 f.1 n.low n.high c.in-End.t TxnState.Retained stands in
    subst (λ (j : ℕ). state_at (txns_at old j) c.in-End.t ≡ Some TxnState.Retained) (sym own) stands

pub end_next-requires-clause-empty : goal.end_next-requires-clause-empty
end_next-requires-clause-empty g c =
    let old : Parts = parts c.args.c.now in
    let rig = c.args.c.now.rig in
    let i : ℕ = c.args.i in
    let n = c.keeps.ensures in
    let f = c.requires.fits in
    let next = subst (IsNext old i) c.in-End.is c.requires.next in
    let stands = ended-loser (txns_at old i) c.in-End.t next.1.2 in
    let own : home c.in-End.t ≡ i = own-row i (g.G.Rig.seen rig) (g.G.Rig.leaves rig) old f.0 f.1 n.low n.high c.in-End.t TxnState.Retained stands in
    subst (λ (j : ℕ). top_at (txns_at old j) c.in-End.t ≡ None) (sym own) (bare (txns_at old i) c.in-End.t next.1.1 next.1.2)

pub end_next-requires-clause-there : goal.end_next-requires-clause-there
end_next-requires-clause-there g c =
    let old : Parts = parts c.args.c.now in
    let rig = c.args.c.now.rig in
    let i : ℕ = c.args.i in
    let n = c.keeps.ensures in
    let f = c.requires.fits in
    let next = subst (IsNext old i) c.in-End.is c.requires.next in
    let stands = ended-loser (txns_at old i) c.in-End.t next.1.2 in
    let own : home c.in-End.t ≡ i = own-row i (g.G.Rig.seen rig) (g.G.Rig.leaves rig) old f.0 f.1 n.low n.high c.in-End.t TxnState.Retained stands in
    subst (λ (j : ℕ). IsSome (span_at (txns_at old j) c.in-End.t)) (sym own) (spoken (txns_at old i) c.in-End.t next.1.2)

pub settle_next-requires-clause-device : goal.settle_next-requires-clause-device
settle_next-requires-clause-device g c = (subst (IsNext (parts c.args.c.now) c.args.i) c.in-Settle.is c.requires.next).0

pub settle_next-requires-clause-loose : goal.settle_next-requires-clause-loose
settle_next-requires-clause-loose g c = (subst (IsNext (parts c.args.c.now) c.args.i) c.in-Settle.is c.requires.next).1

pub settle_next-requires-clause-lowest : goal.settle_next-requires-clause-lowest
settle_next-requires-clause-lowest g c = (subst (IsNext (parts c.args.c.now) c.args.i) c.in-Settle.is c.requires.next).2

pub rebuild_next-requires-clause-settled : goal.rebuild_next-requires-clause-settled
rebuild_next-requires-clause-settled g c = (subst (IsNext (parts c.args.c.now) c.args.i) c.in-Rebuild.is c.requires.next).0

pub rebuild_next-requires-clause-lowest : goal.rebuild_next-requires-clause-lowest
rebuild_next-requires-clause-lowest g c = (subst (IsNext (parts c.args.c.now) c.args.i) c.in-Rebuild.is c.requires.next).1

pub finish-requires-clause-there : goal.finish-requires-clause-there
finish-requires-clause-there g c = (subst (IsNext (parts c.args.c.now) c.args.i) c.in-Done.is c.requires.next).0

pub finish-requires-clause-done : goal.finish-requires-clause-done
finish-requires-clause-done g c = (subst (IsNext (parts c.args.c.now) c.args.i) c.in-Done.is c.requires.next).1

pub returns-in-Settle-clause-served : goal.returns-in-Settle-clause-served
returns-in-Settle-clause-served g c =
    let tell : Telling _ = telling g.G.Rig.seen g.G.Rig.leaves g.G.Rig.moment g.G.Rig.since g.G.Rig.faults in
    subst (λ (a : Option Reply). Serving tell (RecoverStep c.args.i) a c.args.c.now c.settle_next.new.c) (sym c.stepped.ensures.reply) c.settle_next.ensures.served

pub returns-in-Rebuild-clause-served : goal.returns-in-Rebuild-clause-served
returns-in-Rebuild-clause-served g c =
    let tell : Telling _ = telling g.G.Rig.seen g.G.Rig.leaves g.G.Rig.moment g.G.Rig.since g.G.Rig.faults in
    subst (λ (a : Option Reply). Serving tell (RecoverStep c.args.i) a c.args.c.now c.rebuild_next.new.c) (sym c.stepped-in-Rebuild.ensures.reply) c.rebuild_next.ensures.served

pub returns-in-Decide-clause-served : goal.returns-in-Decide-clause-served
returns-in-Decide-clause-served g c =
    let tell : Telling _ = telling g.G.Rig.seen g.G.Rig.leaves g.G.Rig.moment g.G.Rig.since g.G.Rig.faults in
    let old : Parts = parts c.args.c.now in
    let rig = c.args.c.now.rig in
    let i : ℕ = c.args.i in
    let n = c.keeps.ensures in
    let f = c.requires.fits in
    let next = subst (IsNext old i) c.in-Decide.is c.requires.next in
    let stands = doubtful (txns_at old i) c.in-Decide.t next.1 in
    let own : home c.in-Decide.t ≡ i = own-row i (g.G.Rig.seen rig) (g.G.Rig.leaves rig) old f.0 f.1 n.low n.high c.in-Decide.t TxnState.Doubt stands in
    subst (λ (a : Option Reply). Serving tell (RecoverStep i) a c.args.c.now c.decide_next.new.c) (sym c.stepped-in-Decide.ensures.reply)
    (subst (λ (j : ℕ). Serving tell (RecoverStep j) (answered (λ _. reply.Step) c.decide_next.result) c.args.c.now c.decide_next.new.c) own c.decide_next.ensures.served)

pub returns-in-Undo-clause-served : goal.returns-in-Undo-clause-served
returns-in-Undo-clause-served g c =
    let tell : Telling _ = telling g.G.Rig.seen g.G.Rig.leaves g.G.Rig.moment g.G.Rig.since g.G.Rig.faults in
    let old : Parts = parts c.args.c.now in
    let rig = c.args.c.now.rig in
    let i : ℕ = c.args.i in
    let n = c.keeps.ensures in
    let f = c.requires.fits in
    let next = subst (IsNext old i) c.in-Undo.is c.requires.next in
    let stands = (open-loser (txns_at old i) c.in-Undo.txn next.1.1).0 in
    let own : home c.in-Undo.txn ≡ i = own-row i (g.G.Rig.seen rig) (g.G.Rig.leaves rig) old f.0 f.1 n.low n.high c.in-Undo.txn TxnState.Retained stands in
    subst (λ (a : Option Reply). Serving tell (RecoverStep i) a c.args.c.now c.undo_next.new.c) (sym c.stepped-in-Undo.ensures.reply)
    (subst (λ (j : ℕ). Serving tell (RecoverStep j) (answered (λ _. reply.Step) c.undo_next.result) c.args.c.now c.undo_next.new.c) own c.undo_next.ensures.served)

pub returns-in-End-clause-served : goal.returns-in-End-clause-served
returns-in-End-clause-served g c =
    let tell : Telling _ = telling g.G.Rig.seen g.G.Rig.leaves g.G.Rig.moment g.G.Rig.since g.G.Rig.faults in
    let old : Parts = parts c.args.c.now in
    let rig = c.args.c.now.rig in
    let i : ℕ = c.args.i in
    let n = c.keeps.ensures in
    let f = c.requires.fits in
    let next = subst (IsNext old i) c.in-End.is c.requires.next in
    let stands = ended-loser (txns_at old i) c.in-End.t next.1.2 in
    let own : home c.in-End.t ≡ i = own-row i (g.G.Rig.seen rig) (g.G.Rig.leaves rig) old f.0 f.1 n.low n.high c.in-End.t TxnState.Retained stands in
    subst (λ (a : Option Reply). Serving tell (RecoverStep i) a c.args.c.now c.end_next.new.c) (sym c.stepped-in-End.ensures.reply)
    (subst (λ (j : ℕ). Serving tell (RecoverStep j) (answered (λ _. reply.Step) c.end_next.result) c.args.c.now c.end_next.new.c) own c.end_next.ensures.served)

pub returns-in-Done-clause-served : goal.returns-in-Done-clause-served
returns-in-Done-clause-served g c =
    let tell : Telling _ = telling g.G.Rig.seen g.G.Rig.leaves g.G.Rig.moment g.G.Rig.since g.G.Rig.faults in
    subst (λ (a : Option Reply). Serving tell (RecoverStep c.args.i) a c.args.c.now c.finish.new.c) (sym c.ended.ensures.reply) c.finish.ensures.served

pub returns-in-Decide-clause-stepped : goal.returns-in-Decide-clause-stepped
returns-in-Decide-clause-stepped g c = λ fine there.
    let old : Parts = parts c.args.c.now in
    let rig = c.args.c.now.rig in
    let i : ℕ = c.args.i in
    let n = c.keeps.ensures in
    let f = c.requires.fits in
    let next = subst (IsNext old i) c.in-Decide.is c.requires.next in
    let stands = doubtful (txns_at old i) c.in-Decide.t next.1 in
    let own : home c.in-Decide.t ≡ i = own-row i (g.G.Rig.seen rig) (g.G.Rig.leaves rig) old f.0 f.1 n.low n.high c.in-Decide.t TxnState.Doubt stands in
    subst (λ (j : ℕ). suc (tasks_in (txns_at (parts c.decide_next.new.c) j)) ≡ tasks_in (txns_at old j)) own
    (when_ok c.decide_next.result tt _ (c.stepped-in-Decide.ensures.fine fine) c.decide_next.ensures.fewer)

pub returns-in-Undo-clause-stepped : goal.returns-in-Undo-clause-stepped
returns-in-Undo-clause-stepped g c = λ fine there.
    let old : Parts = parts c.args.c.now in
    let rig = c.args.c.now.rig in
    let i : ℕ = c.args.i in
    let n = c.keeps.ensures in
    let f = c.requires.fits in
    let next = subst (IsNext old i) c.in-Undo.is c.requires.next in
    let stands = (open-loser (txns_at old i) c.in-Undo.txn next.1.1).0 in
    let own : home c.in-Undo.txn ≡ i = own-row i (g.G.Rig.seen rig) (g.G.Rig.leaves rig) old f.0 f.1 n.low n.high c.in-Undo.txn TxnState.Retained stands in
    subst (λ (j : ℕ). suc (tasks_in (txns_at (parts c.undo_next.new.c) j)) ≡ tasks_in (txns_at old j)) own
    (when_ok c.undo_next.result tt _ (c.stepped-in-Undo.ensures.fine fine) c.undo_next.ensures.fewer)

pub returns-in-End-clause-stepped : goal.returns-in-End-clause-stepped
returns-in-End-clause-stepped g c = λ fine there.
    let old : Parts = parts c.args.c.now in
    let rig = c.args.c.now.rig in
    let i : ℕ = c.args.i in
    let n = c.keeps.ensures in
    let f = c.requires.fits in
    let next = subst (IsNext old i) c.in-End.is c.requires.next in
    let stands = ended-loser (txns_at old i) c.in-End.t next.1.2 in
    let own : home c.in-End.t ≡ i = own-row i (g.G.Rig.seen rig) (g.G.Rig.leaves rig) old f.0 f.1 n.low n.high c.in-End.t TxnState.Retained stands in
    subst (λ (j : ℕ). suc (tasks_in (txns_at (parts c.end_next.new.c) j)) ≡ tasks_in (txns_at old j)) own
    (when_ok c.end_next.result tt _ (c.stepped-in-End.ensures.fine fine) c.end_next.ensures.fewer)

pub returns-in-Settle-clause-stepped : goal.returns-in-Settle-clause-stepped
returns-in-Settle-clause-stepped g c = λ fine there.
    let next = subst (IsNext (parts c.args.c.now) c.args.i) c.in-Settle.is c.requires.next in
    absurd (opposite (is_loose (parts c.args.c.now) c.in-Settle.dev) next.1 (there.0 c.in-Settle.dev next.0))

pub returns-in-Rebuild-clause-stepped : goal.returns-in-Rebuild-clause-stepped
returns-in-Rebuild-clause-stepped g c = λ fine there.
    let next = subst (IsNext (parts c.args.c.now) c.args.i) c.in-Rebuild.is c.requires.next in
    absurd (opposite (is_lost (entry_at (parts c.args.c.now).directory c.in-Rebuild.p)) next.1.0 (there.1 c.in-Rebuild.p))

pub returns-in-Done-clause-stepped : goal.returns-in-Done-clause-stepped
returns-in-Done-clause-stepped g c = λ fine. absurd (c.ended.ensures.last fine)

pub returns-in-Settle-clause-cleared : goal.returns-in-Settle-clause-cleared
returns-in-Settle-clause-cleared g c = λ fine.
    let old : Parts = parts c.args.c.now in
    let new : Parts = parts c.settle_next.new.c in
    next-cleared old new c.args.i (task.Settle c.in-Settle.dev) (subst (IsNext old c.args.i) c.in-Settle.is c.requires.next)
    (when_ok c.settle_next.result tt _ (c.stepped.ensures.fine fine) c.settle_next.ensures.settled)

pub returns-in-Rebuild-clause-cleared : goal.returns-in-Rebuild-clause-cleared
returns-in-Rebuild-clause-cleared g c = λ fine.
    let old : Parts = parts c.args.c.now in
    let new : Parts = parts c.rebuild_next.new.c in
    let next = subst (IsNext old c.args.i) c.in-Rebuild.is c.requires.next in
    let is = when_ok c.rebuild_next.result tt _ (c.stepped-in-Rebuild.ensures.fine fine) c.rebuild_next.ensures.stays in
    let set = when_ok c.rebuild_next.result tt _ (c.stepped-in-Rebuild.ensures.fine fine) c.rebuild_next.ensures.place in
    next-cleared old new c.args.i (task.Rebuild c.in-Rebuild.p) next
    (λ d le. ap (λ (k : Parts). is_loose k d) is ∙ next.0 d le, set.entry, set.others)

pub returns-in-Decide-clause-cleared : goal.returns-in-Decide-clause-cleared
returns-in-Decide-clause-cleared g c = λ fine.
    there-cleared (parts c.args.c.now) (parts c.decide_next.new.c)
    (subst (IsNext (parts c.args.c.now) c.args.i) c.in-Decide.is c.requires.next).0

pub returns-in-Undo-clause-cleared : goal.returns-in-Undo-clause-cleared
returns-in-Undo-clause-cleared g c = λ fine.
    there-cleared (parts c.args.c.now) (parts c.undo_next.new.c)
    (subst (IsNext (parts c.args.c.now) c.args.i) c.in-Undo.is c.requires.next).0

pub returns-in-End-clause-cleared : goal.returns-in-End-clause-cleared
returns-in-End-clause-cleared g c = λ fine.
    there-cleared (parts c.args.c.now) (parts c.end_next.new.c)
    (subst (IsNext (parts c.args.c.now) c.args.i) c.in-End.is c.requires.next).0

pub returns-in-Done-clause-cleared : goal.returns-in-Done-clause-cleared
returns-in-Done-clause-cleared g c = λ fine. absurd (c.ended.ensures.last fine)

-- ---- a page is wanted

pub returns-in-Settle-clause-awaits : goal.returns-in-Settle-clause-awaits
returns-in-Settle-clause-awaits g c =
    let old : Parts = parts c.args.c.now in
    let rig = c.settle_next.new.c.rig in
    none-wanted c.stepped.result c.settle_next.result (λ place. AwaitsPage old c.args.i (seen place)) c.stepped.ensures.same
    (lost-none (g.G.Rig.seen rig) (g.G.Rig.leaves rig) c.in-Settle.dev c.settle_next.result c.args.by old (parts c.settle_next.new.c) c.settle_next.ensures.left)

pub returns-in-Settle-clause-waits : goal.returns-in-Settle-clause-waits
returns-in-Settle-clause-waits g c =
    let old : Parts = parts c.args.c.now in
    let rig = c.settle_next.new.c.rig in
    none-wanted c.stepped.result c.settle_next.result (λ place. (parts c.settle_next.new.c ≡ old) × IsStandingBy old (seen place)) c.stepped.ensures.same
    (lost-none (g.G.Rig.seen rig) (g.G.Rig.leaves rig) c.in-Settle.dev c.settle_next.result c.args.by old (parts c.settle_next.new.c) c.settle_next.ensures.left)

pub returns-in-Rebuild-clause-awaits : goal.returns-in-Rebuild-clause-awaits
returns-in-Rebuild-clause-awaits g c =
    let old : Parts = parts c.args.c.now in
    let rig = c.rebuild_next.new.c.rig in
    none-wanted c.stepped-in-Rebuild.result c.rebuild_next.result (λ place. AwaitsPage old c.args.i (seen place)) c.stepped-in-Rebuild.ensures.same
    (lost-none (g.G.Rig.seen rig) (g.G.Rig.leaves rig) 0 c.rebuild_next.result c.args.by old (parts c.rebuild_next.new.c) c.rebuild_next.ensures.left)

pub returns-in-Rebuild-clause-waits : goal.returns-in-Rebuild-clause-waits
returns-in-Rebuild-clause-waits g c =
    let old : Parts = parts c.args.c.now in
    let rig = c.rebuild_next.new.c.rig in
    none-wanted c.stepped-in-Rebuild.result c.rebuild_next.result (λ place. (parts c.rebuild_next.new.c ≡ old) × IsStandingBy old (seen place)) c.stepped-in-Rebuild.ensures.same
    (lost-none (g.G.Rig.seen rig) (g.G.Rig.leaves rig) 0 c.rebuild_next.result c.args.by old (parts c.rebuild_next.new.c) c.rebuild_next.ensures.left)

pub returns-in-Decide-clause-awaits : goal.returns-in-Decide-clause-awaits
returns-in-Decide-clause-awaits g c =
    let old : Parts = parts c.args.c.now in
    none-wanted c.stepped-in-Decide.result c.decide_next.result (λ place. AwaitsPage old c.args.i (seen place)) c.stepped-in-Decide.ensures.same c.decide_next.ensures.only

pub returns-in-Decide-clause-waits : goal.returns-in-Decide-clause-waits
returns-in-Decide-clause-waits g c =
    let old : Parts = parts c.args.c.now in
    none-wanted c.stepped-in-Decide.result c.decide_next.result (λ place. (parts c.decide_next.new.c ≡ old) × IsStandingBy old (seen place)) c.stepped-in-Decide.ensures.same
    c.decide_next.ensures.only

pub returns-in-Undo-clause-awaits : goal.returns-in-Undo-clause-awaits
returns-in-Undo-clause-awaits g c =
    let old : Parts = parts c.args.c.now in
    let by : ℕ = c.args.by in
    let p : ℕ = c.in-Undo.page in
    wanted-so c.stepped-in-Undo.result c.undo_next.result (λ place. (parts c.undo_next.new.c ≡ old) × IsAway by p old (R.NeedPage place))
    (λ place. AwaitsPage old c.args.i (seen place)) c.stepped-in-Undo.ensures.same
    (λ place h. (c.in-Undo.txn, p, by, subst (IsNext old c.args.i) c.in-Undo.is c.requires.next, c.requires.recovers, h.1.1, h.1.0))
    c.undo_next.ensures.awaits

pub returns-in-Undo-clause-waits : goal.returns-in-Undo-clause-waits
returns-in-Undo-clause-waits g c =
    let old : Parts = parts c.args.c.now in
    let rig = c.args.c.now.rig in
    let p : ℕ = c.in-Undo.page in
    let f = c.requires.fits in
    wanted-so c.stepped-in-Undo.result c.undo_next.result
    (λ place. (parts c.undo_next.new.c ≡ old) × IsAway c.args.by p old (R.NeedPage place))
    (λ place. (parts c.undo_next.new.c ≡ old) × IsStandingBy old (seen place)) c.stepped-in-Undo.ensures.same
    (λ place h. (
      h.0,
      standing-by (g.G.Rig.seen rig) (g.G.Rig.leaves rig) old f.0 f.1 (subst (IsNext old c.args.i) c.in-Undo.is c.requires.next).0 p
          (seen place) h.1.1,
    ))
    c.undo_next.ensures.awaits

pub returns-in-End-clause-awaits : goal.returns-in-End-clause-awaits
returns-in-End-clause-awaits g c =
    let old : Parts = parts c.args.c.now in
    none-wanted c.stepped-in-End.result c.end_next.result (λ place. AwaitsPage old c.args.i (seen place)) c.stepped-in-End.ensures.same c.end_next.ensures.only

pub returns-in-End-clause-waits : goal.returns-in-End-clause-waits
returns-in-End-clause-waits g c =
    let old : Parts = parts c.args.c.now in
    none-wanted c.stepped-in-End.result c.end_next.result (λ place. (parts c.end_next.new.c ≡ old) × IsStandingBy old (seen place)) c.stepped-in-End.ensures.same
    c.end_next.ensures.only

pub returns-in-Done-clause-awaits : goal.returns-in-Done-clause-awaits
returns-in-Done-clause-awaits g c =
    let old : Parts = parts c.args.c.now in
    none-wanted c.ended.result c.finish.result (λ place. AwaitsPage old c.args.i (seen place)) c.ended.ensures.same c.finish.ensures.only

pub returns-in-Done-clause-waits : goal.returns-in-Done-clause-waits
returns-in-Done-clause-waits g c =
    let old : Parts = parts c.args.c.now in
    none-wanted c.ended.result c.finish.result (λ place. (parts c.finish.new.c ≡ old) × IsStandingBy old (seen place)) c.ended.ensures.same
    c.finish.ensures.only

-- ---- a device failed

pub returns-in-Settle-clause-fell : goal.returns-in-Settle-clause-fell
returns-in-Settle-clause-fell g c = λ e.
    let old : Parts = parts c.args.c.now in
    let new : Parts = parts c.settle_next.new.c in
    let rig = c.settle_next.new.c.rig in
    subst (λ (k : Task). StepFell c.args.i c.args.by k old new ⊎ HasOnlyRead (g.G.Rig.seen rig) (g.G.Rig.leaves rig) old new) (sym c.in-Settle.is)
    (when-err c.settle_next.result R.Failed (λ n. LeavesLost (g.G.Rig.seen rig) (g.G.Rig.leaves rig) c.in-Settle.dev n c.args.by old new)
    (c.stepped.ensures.same R.Failed e) c.settle_next.ensures.left)

pub returns-in-Settle-clause-short : goal.returns-in-Settle-clause-short
returns-in-Settle-clause-short g c = λ e.
    let old : Parts = parts c.args.c.now in
    let new : Parts = parts c.settle_next.new.c in
    let rig = c.settle_next.new.c.rig in
    same-untouched old new
    (when-err c.settle_next.result R.Memory (λ n. LeavesLost (g.G.Rig.seen rig) (g.G.Rig.leaves rig) c.in-Settle.dev n c.args.by old new)
    (c.stepped.ensures.same R.Memory e) c.settle_next.ensures.left)

pub returns-in-Rebuild-clause-fell : goal.returns-in-Rebuild-clause-fell
returns-in-Rebuild-clause-fell g c = λ e.
    let old : Parts = parts c.args.c.now in
    let new : Parts = parts c.rebuild_next.new.c in
    let rig = c.rebuild_next.new.c.rig in
    subst (λ (k : Task). StepFell c.args.i c.args.by k old new ⊎ HasOnlyRead (g.G.Rig.seen rig) (g.G.Rig.leaves rig) old new) (sym c.in-Rebuild.is)
    (when-err c.rebuild_next.result R.Failed (λ n. LeavesLost (g.G.Rig.seen rig) (g.G.Rig.leaves rig) 0 n c.args.by old new)
    (c.stepped-in-Rebuild.ensures.same R.Failed e) c.rebuild_next.ensures.left)

pub returns-in-Rebuild-clause-short : goal.returns-in-Rebuild-clause-short
returns-in-Rebuild-clause-short g c = λ e.
    let old : Parts = parts c.args.c.now in
    let new : Parts = parts c.rebuild_next.new.c in
    let rig = c.rebuild_next.new.c.rig in
    same-untouched old new
    (when-err c.rebuild_next.result R.Memory (λ n. LeavesLost (g.G.Rig.seen rig) (g.G.Rig.leaves rig) 0 n c.args.by old new)
    (c.stepped-in-Rebuild.ensures.same R.Memory e) c.rebuild_next.ensures.left)

pub returns-in-Decide-clause-fell : goal.returns-in-Decide-clause-fell
returns-in-Decide-clause-fell g c = λ e.
    let old = c.args.c.now in
    let new : Parts = parts c.decide_next.new.c in
    let i : ℕ = c.args.i in
    let n = c.keeps.ensures in
    let f = c.requires.fits in
    let next = subst (IsNext (parts old) i) c.in-Decide.is c.requires.next in
    let stands = doubtful (txns_at (parts old) i) c.in-Decide.t next.1 in
    let own : home c.in-Decide.t ≡ i = own-row i (g.G.Rig.seen old.rig) (g.G.Rig.leaves old.rig) (parts old) f.0 f.1 n.low n.high c.in-Decide.t TxnState.Doubt stands in
    inl (subst (λ (k : Task). StepFell i c.args.by k (parts old) new) (sym c.in-Decide.is)
    (subst (λ (j : ℕ). StepFell j c.args.by (task.Decide c.in-Decide.t) (parts old) new) own
    (when-any c.decide_next.result R.Failed _ (c.stepped-in-Decide.ensures.same R.Failed e) c.decide_next.ensures.fell)))

pub returns-in-Undo-clause-fell : goal.returns-in-Undo-clause-fell
returns-in-Undo-clause-fell g c = λ e.
    let old = c.args.c.now in
    let new : Parts = parts c.undo_next.new.c in
    let i : ℕ = c.args.i in
    let n = c.keeps.ensures in
    let f = c.requires.fits in
    let next = subst (IsNext (parts old) i) c.in-Undo.is c.requires.next in
    let stands = (open-loser (txns_at (parts old) i) c.in-Undo.txn next.1.1).0 in
    let own : home c.in-Undo.txn ≡ i = own-row i (g.G.Rig.seen old.rig) (g.G.Rig.leaves old.rig) (parts old) f.0 f.1 n.low n.high c.in-Undo.txn TxnState.Retained stands in
    inl (subst (λ (k : Task). StepFell i c.args.by k (parts old) new) (sym c.in-Undo.is)
    (subst (λ (j : ℕ). StepFell j c.args.by (task.Undo c.in-Undo.txn c.in-Undo.page) (parts old) new) own
    (c.undo_next.ensures.fell (c.stepped-in-Undo.ensures.same R.Failed e))))

pub returns-in-End-clause-fell : goal.returns-in-End-clause-fell
returns-in-End-clause-fell g c = λ e.
    let old = c.args.c.now in
    let new : Parts = parts c.end_next.new.c in
    let i : ℕ = c.args.i in
    let n = c.keeps.ensures in
    let f = c.requires.fits in
    let next = subst (IsNext (parts old) i) c.in-End.is c.requires.next in
    let stands = ended-loser (txns_at (parts old) i) c.in-End.t next.1.2 in
    let own : home c.in-End.t ≡ i = own-row i (g.G.Rig.seen old.rig) (g.G.Rig.leaves old.rig) (parts old) f.0 f.1 n.low n.high c.in-End.t TxnState.Retained stands in
    inl (subst (λ (k : Task). StepFell i c.args.by k (parts old) new) (sym c.in-End.is)
    (subst (λ (j : ℕ). StepFell j c.args.by (task.End c.in-End.t) (parts old) new) own
    (c.end_next.ensures.fell (c.stepped-in-End.ensures.same R.Failed e))))

pub returns-in-Done-clause-fell : goal.returns-in-Done-clause-fell
returns-in-Done-clause-fell g c = λ e.
    inl (subst (λ (k : Task). StepFell c.args.i c.args.by k (parts c.args.c.now) (parts c.finish.new.c)) (sym c.in-Done.is)
    (when-any c.finish.result R.Failed _ (c.ended.ensures.same R.Failed e) c.finish.ensures.fell))

-- ---- there was no memory

pub returns-in-Decide-clause-short : goal.returns-in-Decide-clause-short
returns-in-Decide-clause-short g c = λ e. absurd (c.decide_next.ensures.there (c.stepped-in-Decide.ensures.same R.Memory e))

pub returns-in-Undo-clause-short : goal.returns-in-Undo-clause-short
returns-in-Undo-clause-short g c = λ e.
    forced-untouched c.args.by (owed_at (parts c.undo_next.new.c) c.args.by) (parts c.args.c.now) (parts c.undo_next.new.c)
    (c.undo_next.ensures.short (c.stepped-in-Undo.ensures.same R.Memory e))

pub returns-in-End-clause-short : goal.returns-in-End-clause-short
returns-in-End-clause-short g c = λ e.
    same-untouched (parts c.args.c.now) (parts c.end_next.new.c) (c.end_next.ensures.short (c.stepped-in-End.ensures.same R.Memory e))

pub returns-in-Done-clause-short : goal.returns-in-Done-clause-short
returns-in-Done-clause-short g c = λ e. absurd (c.finish.ensures.memory (c.ended.ensures.same R.Memory e))

-- ---- the recovery ended

pub returns-in-Settle-clause-ended : goal.returns-in-Settle-clause-ended
returns-in-Settle-clause-ended g c = λ last. absurd (c.stepped.ensures.further last)

pub returns-in-Rebuild-clause-ended : goal.returns-in-Rebuild-clause-ended
returns-in-Rebuild-clause-ended g c = λ last. absurd (c.stepped-in-Rebuild.ensures.further last)

pub returns-in-Decide-clause-ended : goal.returns-in-Decide-clause-ended
returns-in-Decide-clause-ended g c = λ last. absurd (c.stepped-in-Decide.ensures.further last)

pub returns-in-Undo-clause-ended : goal.returns-in-Undo-clause-ended
returns-in-Undo-clause-ended g c = λ last. absurd (c.stepped-in-Undo.ensures.further last)

pub returns-in-End-clause-ended : goal.returns-in-End-clause-ended
returns-in-End-clause-ended g c = λ last. absurd (c.stepped-in-End.ensures.further last)

pub returns-in-Done-clause-ended : goal.returns-in-Done-clause-ended
returns-in-Done-clause-ended g c = λ last. when_ok c.finish.result tt _ (c.ended.ensures.fine last) c.finish.ensures.ended

-- ---- the task is done

pub returns-in-Settle-clause-did : goal.returns-in-Settle-clause-did
returns-in-Settle-clause-did g c = λ fine.
    let old = c.args.c.now in
    let new = c.settle_next.new.c in
    subst (λ (k : Task). Does c.args.i c.args.by (g.G.Rig.seen old.rig) (g.G.Rig.seen new.rig) k (parts old) (parts new)) (sym c.in-Settle.is)
    (when_ok c.settle_next.result tt _ (c.stepped.ensures.fine fine) c.settle_next.ensures.did)

pub returns-in-Rebuild-clause-did : goal.returns-in-Rebuild-clause-did
returns-in-Rebuild-clause-did g c = λ fine.
    let old = c.args.c.now in
    let new = c.rebuild_next.new.c in
    subst (λ (k : Task). Does c.args.i c.args.by (g.G.Rig.seen old.rig) (g.G.Rig.seen new.rig) k (parts old) (parts new)) (sym c.in-Rebuild.is)
    (when_ok c.rebuild_next.result tt _ (c.stepped-in-Rebuild.ensures.fine fine) c.rebuild_next.ensures.did)

pub returns-in-Decide-clause-did : goal.returns-in-Decide-clause-did
returns-in-Decide-clause-did g c = λ fine.
    let old = c.args.c.now in
    let new = c.decide_next.new.c in
    let seen = g.G.Rig.seen old.rig in
    let i : ℕ = c.args.i in
    let n = c.keeps.ensures in
    let f = c.requires.fits in
    let next = subst (IsNext (parts old) i) c.in-Decide.is c.requires.next in
    let stands = doubtful (txns_at (parts old) i) c.in-Decide.t next.1 in
    let own : home c.in-Decide.t ≡ i = own-row i seen (g.G.Rig.leaves old.rig) (parts old) f.0 f.1 n.low n.high c.in-Decide.t TxnState.Doubt stands in
    subst (λ (k : Task). Does i c.args.by seen (g.G.Rig.seen new.rig) k (parts old) (parts new)) (sym c.in-Decide.is)
    (subst (λ (j : ℕ). Does j c.args.by seen (g.G.Rig.seen new.rig) (task.Decide c.in-Decide.t) (parts old) (parts new)) own
    (when_ok c.decide_next.result tt _ (c.stepped-in-Decide.ensures.fine fine) c.decide_next.ensures.did))

pub returns-in-Undo-clause-did : goal.returns-in-Undo-clause-did
returns-in-Undo-clause-did g c = λ fine.
    let old = c.args.c.now in
    let new = c.undo_next.new.c in
    let seen = g.G.Rig.seen old.rig in
    let i : ℕ = c.args.i in
    let n = c.keeps.ensures in
    let f = c.requires.fits in
    let next = subst (IsNext (parts old) i) c.in-Undo.is c.requires.next in
    let stands = (open-loser (txns_at (parts old) i) c.in-Undo.txn next.1.1).0 in
    let own : home c.in-Undo.txn ≡ i = own-row i seen (g.G.Rig.leaves old.rig) (parts old) f.0 f.1 n.low n.high c.in-Undo.txn TxnState.Retained stands in
    subst (λ (k : Task). Does i c.args.by seen (g.G.Rig.seen new.rig) k (parts old) (parts new)) (sym c.in-Undo.is)
    (subst (λ (j : ℕ). Does j c.args.by seen (g.G.Rig.seen new.rig) (task.Undo c.in-Undo.txn c.in-Undo.page) (parts old) (parts new)) own
    (when_ok c.undo_next.result tt _ (c.stepped-in-Undo.ensures.fine fine) c.undo_next.ensures.did))

pub returns-in-End-clause-did : goal.returns-in-End-clause-did
returns-in-End-clause-did g c = λ fine.
    let old = c.args.c.now in
    let new = c.end_next.new.c in
    let seen = g.G.Rig.seen old.rig in
    let i : ℕ = c.args.i in
    let n = c.keeps.ensures in
    let f = c.requires.fits in
    let next = subst (IsNext (parts old) i) c.in-End.is c.requires.next in
    let stands = ended-loser (txns_at (parts old) i) c.in-End.t next.1.2 in
    let own : home c.in-End.t ≡ i = own-row i seen (g.G.Rig.leaves old.rig) (parts old) f.0 f.1 n.low n.high c.in-End.t TxnState.Retained stands in
    subst (λ (k : Task). Does i c.args.by seen (g.G.Rig.seen new.rig) k (parts old) (parts new)) (sym c.in-End.is)
    (subst (λ (j : ℕ). Does j c.args.by seen (g.G.Rig.seen new.rig) (task.End c.in-End.t) (parts old) (parts new)) own
    (when_ok c.end_next.result tt _ (c.stepped-in-End.ensures.fine fine) c.end_next.ensures.did))

pub returns-in-Done-clause-did : goal.returns-in-Done-clause-did
returns-in-Done-clause-did g c = λ fine. absurd (c.ended.ensures.last fine)

-- ---- nothing was left

pub returns-in-Settle-clause-done : goal.returns-in-Settle-clause-done
returns-in-Settle-clause-done g c = λ last. absurd (c.stepped.ensures.further last)

pub returns-in-Rebuild-clause-done : goal.returns-in-Rebuild-clause-done
returns-in-Rebuild-clause-done g c = λ last. absurd (c.stepped-in-Rebuild.ensures.further last)

pub returns-in-Decide-clause-done : goal.returns-in-Decide-clause-done
returns-in-Decide-clause-done g c = λ last. absurd (c.stepped-in-Decide.ensures.further last)

pub returns-in-Undo-clause-done : goal.returns-in-Undo-clause-done
returns-in-Undo-clause-done g c = λ last. absurd (c.stepped-in-Undo.ensures.further last)

pub returns-in-End-clause-done : goal.returns-in-End-clause-done
returns-in-End-clause-done g c = λ last. absurd (c.stepped-in-End.ensures.further last)

pub returns-in-Done-clause-done : goal.returns-in-Done-clause-done
returns-in-Done-clause-done g c = λ last. when_ok c.finish.result tt _ (c.ended.ensures.fine last) c.finish.ensures.none
