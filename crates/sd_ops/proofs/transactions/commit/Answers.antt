use Rattle.std.proofs.Common.{◌≡◌, ◌+◌, sym, ◌∙◌, subst}
use Rattle.std.specs.Prelude.{Result, Err, Some, IfErr, OnOk}
use Rattle.sd_base.specs.declared.refusal.Refusal.{Refusal}
use Rattle.sd_base.specs.declared.refusal.Refusal.TheVariants as R
use Rattle.sd_model.specs.declared.event.Event.TheVariants.{Commit}
use Rattle.sd_state.specs.Complexes.{parts}
use Rattle.sd_world.specs.Serving.{Telling, did, telling}
use Rattle.sd_fits.specs.Serving.{Serving}
use Rattle.sd_fits.proofs.Disk.{leaves-same}
use Rattle.sd_ops.proofs.Committing.{off-served, off-there}
use Rattle.sd_ops.specs.Leaving.{EndLeaves}
use Rattle.sd_ops.proofs.Logging.{ends-only}
use Rattle.sd_ops.proofs.Endings.{off-end}
use Rattle.sd_ops.proofs.transactions.commit.Goals as goal

pub returns-in-Err-clause-served : goal.returns-in-Err-clause-served
returns-in-Err-clause-served g c =
    let tell : Telling _ = telling g.G.Rig.seen g.G.Rig.leaves g.G.Rig.moment g.G.Rig.since g.G.Rig.faults in
    let old = c.args.c.now in
    let a = c.in-Err.ensures in
    let e = c.refuse.ensures in
    subst (λ (r : Result (Unit {0}) Refusal). Serving tell (Commit c.args.t.now) (did r) old c.refuse.new.c) (sym e.refused)
    (off-served tell c.args.t.now old c.refuse.new.c e.rig (λ img s. g.met.G.Rig.only_now old.rig img s) a.low a.high
    c.in-Err.refusal a.off e.ended)

pub returns-in-Err-clause-there : goal.returns-in-Err-clause-there
returns-in-Err-clause-there g c = λ e.
    let same : Err c.in-Err.refusal ≡ Err R.Memory = sym c.refuse.ensures.refused ∙ e in
    off-there c.args.t.now (parts c.args.c.now) c.in-Err.refusal c.in-Err.ensures.off (cc)

pub returns-in-Err-clause-disk_leaves : goal.returns-in-Err-clause-disk_leaves
returns-in-Err-clause-disk_leaves g c =
    let tell : Telling _ = telling g.G.Rig.seen g.G.Rig.leaves g.G.Rig.moment g.G.Rig.since g.G.Rig.faults in
    leaves-same tell c.args.c.now.rig c.refuse.new.c.rig c.refuse.ensures.rig

pub returns-in-Err-clause-untouched : goal.returns-in-Err-clause-untouched
returns-in-Err-clause-untouched g c =
    let t = c.args.t.now in
    let old = parts c.args.c.now in
    let new = parts c.refuse.new.c in
    let n : Refusal = c.in-Err.refusal in
    subst (λ (r : Result (Unit {0}) Refusal). EndLeaves t.inst r old new) (sym c.refuse.ensures.refused)
    (off-end t t.inst old old new n c.in-Err.ensures.off (ends-only t (Some n) old new c.refuse.ensures.ended))

pub returns-in-Err-clause-tick : goal.returns-in-Err-clause-tick
returns-in-Err-clause-tick g c some = subst (λ (r : Result (Unit {0}) Refusal).
    OnOk r (g.G.Rig.moment c.refuse.new.c.rig ≡ g.G.Rig.moment c.args.c.now.rig + 4)) (sym c.refuse.ensures.refused) tt

pub returns-in-Err-clause-still : goal.returns-in-Err-clause-still
returns-in-Err-clause-still g c = subst (λ (r : Result (Unit {0}) Refusal).
    IfErr r (λ n. (n ≡ R.CutCommit → ⊥) → c.refuse.new.c.rig ≡ c.args.c.now.rig)) (sym c.refuse.ensures.refused) (λ ne. c.refuse.ensures.rig)
