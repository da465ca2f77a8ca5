use Rattle.std.proofs.Common.{sym, ap, ◌∙◌, refl, subst}
use Rattle.std.specs.Prelude.{IsSome}
use Rattle.sd_txn.specs.Transactions.{Transactions, span_at, without}
use Rattle.sd_world.specs.Serving.{Telling, telling}
use Rattle.sd_fits.proofs.Disk.{leaves-same}
use Rattle.sd_ops.proofs.Committing.{bare-served}
use Rattle.sd_state.specs.Complexes.{parts}
use Rattle.sd_state.specs.Parts.{txns_at}
use Rattle.sd_ops.proofs.Leaving.{working-untouched}
use Rattle.sd_ops.proofs.Endings.{none-some}
use Rattle.sd_ops.proofs.transactions.commit_running.Goals as goal

pub committed_bare-requires-clause-bare : goal.committed_bare-requires-clause-bare
committed_bare-requires-clause-bare g c =
    ap (λ (tb : Transactions). span_at tb c.args.t.now) (sym c.txns.ensures) ∙ sym c.in-None.ensures

pub returns-in-None-clause-served : goal.returns-in-None-clause-served
returns-in-None-clause-served g c =
    let tell : Telling _ = telling g.G.Rig.seen g.G.Rig.leaves g.G.Rig.moment g.G.Rig.since g.G.Rig.faults in
    let old = c.args.c.now in
    let e = c.committed_bare.ensures in
    bare-served tell c.args.t.now old c.committed_bare.new.self e.rig (λ img s. g.met.G.Rig.only_now old.rig img s) c.keeps.ensures.low
    c.keeps.ensures.high c.requires.up c.requires.runs e.parts e.waits e.good

pub returns-in-None-clause-disk_leaves : goal.returns-in-None-clause-disk_leaves
returns-in-None-clause-disk_leaves g c =
    let tell : Telling _ = telling g.G.Rig.seen g.G.Rig.leaves g.G.Rig.moment g.G.Rig.since g.G.Rig.faults in
    leaves-same tell c.args.c.now.rig c.committed_bare.new.self.rig c.committed_bare.ensures.rig

pub commit_recorded-requires-clause-there : goal.commit_recorded-requires-clause-there
commit_recorded-requires-clause-there g c =
    subst IsSome (c.in-Some.ensures ∙ ap (λ (tb : Transactions). span_at tb c.args.t.now) c.txns.ensures) refl

pub returns-in-Some-clause-bare : goal.returns-in-Some-clause-bare
returns-in-Some-clause-bare g c = λ none.
    let clash = c.in-Some.ensures ∙ ap (λ (tb : Transactions). span_at tb c.args.t.now) c.txns.ensures ∙ none in absurd (cc)

pub returns-in-None-clause-untouched : goal.returns-in-None-clause-untouched
returns-in-None-clause-untouched g c =
    let i = c.args.t.now.inst in
    let old = parts c.args.c.now in
    let new = parts c.committed_bare.new.self in
    working-untouched i (without (txns_at old i) c.args.t.now) new.locks old new c.committed_bare.ensures.parts

pub returns-in-None-clause-tick : goal.returns-in-None-clause-tick
returns-in-None-clause-tick g c some =
    absurd (none-some (span_at (txns_at (parts c.args.c.now) c.args.t.now.inst) c.args.t.now)
    (ap (λ (tb : Transactions). span_at tb c.args.t.now) (sym c.txns.ensures) ∙ sym c.in-None.ensures) some)

pub returns-in-Some-clause-tick : goal.returns-in-Some-clause-tick
returns-in-Some-clause-tick g c some = c.commit_recorded.ensures.tick
