use Rattle.std.proofs.Common.{inl, sym, ap, ◌∙◌}
use Rattle.std.specs.Prelude.{None}
use Rattle.sd_world.specs.Serving.{Telling, telling}
use Rattle.sd_state.specs.Complexes.{parts}
use Rattle.sd_fits.proofs.Undoing.{rolling-open}
use Rattle.sd_ops.proofs.Finishing.{bare-served}
use Rattle.sd_ops.proofs.Undone.{rolling}
use Rattle.sd_state.specs.Parts.{txns_at}
use Rattle.sd_txn.specs.Transactions.{Transactions, span_at, without}
use Rattle.sd_ops.proofs.Leaving.{working-untouched}
use Rattle.sd_ops.proofs.Endings.{none-some}
use Rattle.sd_ops.proofs.ending.finish.Goals as goal

pub rolled_back-requires-clause-ended : goal.rolled_back-requires-clause-ended
rolled_back-requires-clause-ended g c =
    let rig = c.args.c.now.rig in
    let n = c.keeps.ensures in
    let f = c.requires.fits in
    inl (rolling-open c.args.t.now None (g.G.Rig.seen rig) (g.G.Rig.leaves rig) (parts c.args.c.now) f.0 f.1
    (rolling c.args.t.now (g.G.Rig.seen rig) (g.G.Rig.leaves rig) (parts c.args.c.now) n.low n.high f.0 f.1 None c.requires.up c.requires.rolls)
    n.low n.high c.requires.up)

pub returns-in-None-clause-served : goal.returns-in-None-clause-served
returns-in-None-clause-served g c =
    let tell : Telling _ = telling g.G.Rig.seen g.G.Rig.leaves g.G.Rig.moment g.G.Rig.since g.G.Rig.faults in
    let old = c.args.c.now in
    let e = c.rolled_back.ensures in
    bare-served tell c.args.t.now old c.rolled_back.new.self e.rig (λ img s. g.met.G.Rig.only_now old.rig img s) c.keeps.ensures.low
    c.keeps.ensures.high c.requires.up c.requires.rolls c.requires.empty e.parts e.waits e.good

pub returns-in-None-clause-untouched : goal.returns-in-None-clause-untouched
returns-in-None-clause-untouched g c =
    let i = c.args.t.now.inst in
    let old = parts c.args.c.now in
    let new = parts c.rolled_back.new.self in
    working-untouched i (without (txns_at old i) c.args.t.now) new.locks old new c.rolled_back.ensures.parts

pub returns-in-None-clause-tick : goal.returns-in-None-clause-tick
returns-in-None-clause-tick g c some =
    absurd (none-some (span_at (txns_at (parts c.args.c.now) c.args.t.now.inst) c.args.t.now)
    (ap (λ (tb : Transactions). span_at tb c.args.t.now) (sym c.txns.ensures) ∙ sym c.in-None.ensures) some)

pub returns-in-Some-clause-tick : goal.returns-in-Some-clause-tick
returns-in-Some-clause-tick g c some = c.finish_recorded.ensures.tick

pub returns-in-Some-clause-bare : goal.returns-in-Some-clause-bare
returns-in-Some-clause-bare g c none =
    let clash = c.in-Some.ensures ∙ ap (λ (tb : Transactions). span_at tb c.args.t.now) c.txns.ensures ∙ none in absurd (cc)
