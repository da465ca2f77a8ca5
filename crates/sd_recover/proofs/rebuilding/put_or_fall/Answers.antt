use Rattle.std.proofs.Common.{◌≡◌, inl, inr, false, ap, ◌∙◌, subst, arith}
use Rattle.sd_model.specs.declared.event.Event.TheVariants.{RecoverStep}
use Rattle.sd_moves.specs.Putting.{left_after}
use Rattle.sd_moves.specs.declared.writing.Unput.{Unput}
use Rattle.sd_moves.proofs.PutCalls.{disk-same}
use Rattle.sd_state.specs.Complexes.{parts}
use Rattle.sd_state.specs.Parts.{Parts}
use Rattle.sd_state.specs.Values.{Pending}
use Rattle.sd_world.specs.Serving.{telling}
use Rattle.sd_transfer.proofs.Unput.{unread-served, unwritten-served}
use Rattle.sd_recover.proofs.Fallen.{put-touches}
use Rattle.sd_recover.proofs.Rebuilt.{may-rebuild, rebuild-served, settled-read, step-breaks}
use Rattle.sd_recover.proofs.rebuilding.put_or_fall.Goals as goal

pub rebuild-requires-clause-good : goal.rebuild-requires-clause-good
rebuild-requires-clause-good g c =
    let fits = c.requires.fits in
    (Pending.Idle, fits.0.scene.state, fits.1.good)

pub rebuild-requires-clause-may : goal.rebuild-requires-clause-may
rebuild-requires-clause-may g c =
    may-rebuild c.args.p (parts c.args.c.now) c.requires.lowest c.requires.settled c.requires.fits.1.idle

pub returns-in-Ok-clause-served : goal.returns-in-Ok-clause-served
returns-in-Ok-clause-served g c =
    let tell = telling g.G.Rig.seen g.G.Rig.leaves g.G.Rig.moment g.G.Rig.since g.G.Rig.faults in
    let put = c.in-Ok.ensures in
    rebuild-served tell c.args.c.now c.args.i c.args.by c.args.p c.keeps.ensures.low c.keeps.ensures.high
    c.requires.recovers c.rebuild.new.c c.requires.lowest (c.requires.settled 0 (omega arith))
    put.good put.images put.time put.versions put.others_leave put.parts put.place put.quiet

pub returns-in-Err-Unread-clause-served : goal.returns-in-Err-Unread-clause-served
returns-in-Err-Unread-clause-served g c =
    let tell = telling g.G.Rig.seen g.G.Rig.leaves g.G.Rig.moment g.G.Rig.since g.G.Rig.faults in
    let put = c.in-Err-Unread.ensures in
    unread-served tell c.args.c.now c.rebuild.new.c c.args.by (RecoverStep c.args.i)
    (λ w f. step-breaks tell c.args.c.now c.args.i c.args.by c.args.p c.keeps.ensures.low c.keeps.ensures.high
    c.requires.recovers w f)
    put.good put.images put.time put.versions put.others_leave put.cause
    (subst (λ (e : Unput). parts c.rebuild.new.c ≡ left_after e (parts c.args.c.now)) c.in-Err-Unread.field-0-is put.errors)

pub returns-in-Err-Unread-clause-left : goal.returns-in-Err-Unread-clause-left
returns-in-Err-Unread-clause-left g c =
    let p : Parts = parts c.args.c.now in
    inr (settled-read (g.G.Rig.seen c.rebuild.new.c.rig) (g.G.Rig.leaves c.rebuild.new.c.rig) p (parts c.rebuild.new.c) c.requires.settled
    (subst (λ (e : Unput). parts c.rebuild.new.c ≡ left_after e p) c.in-Err-Unread.field-0-is c.in-Err-Unread.ensures.errors
    ∙ disk-same p false (c.requires.settled 0 (omega arith))))

pub down-requires-clause-good : goal.down-requires-clause-good
down-requires-clause-good g c =
    let fits = c.requires.fits in
    (Pending.Idle, fits.0.scene.state, c.in-Err-Unwritten.ensures.good Pending.Idle fits.0.scene.state fits.1.good)

pub down-requires-clause-due : goal.down-requires-clause-due
down-requires-clause-due g c =
    inl (ap (λ (k : Parts). k.due)
    (subst (λ (e : Unput). parts c.rebuild.new.c ≡ left_after e (parts c.args.c.now)) c.in-Err-Unwritten.field-0-is
    c.in-Err-Unwritten.ensures.errors)
    ∙ c.requires.fits.1.idle)

pub returns-in-Err-Unwritten-clause-served : goal.returns-in-Err-Unwritten-clause-served
returns-in-Err-Unwritten-clause-served g c =
    let tell = telling g.G.Rig.seen g.G.Rig.leaves g.G.Rig.moment g.G.Rig.since g.G.Rig.faults in
    let put = c.in-Err-Unwritten.ensures in
    let down = c.down.ensures in
    unwritten-served tell c.args.c.now c.rebuild.new.c c.args.by (RecoverStep c.args.i)
    (λ w f. step-breaks tell c.args.c.now c.args.i c.args.by c.args.p c.keeps.ensures.low c.keeps.ensures.high
    c.requires.recovers w f)
    put.good put.images put.time put.versions put.others_leave put.cause c.keeps-2.ensures.low c.keeps-2.ensures.high
    (subst (λ (e : Unput). parts c.rebuild.new.c ≡ left_after e (parts c.args.c.now)) c.in-Err-Unwritten.field-0-is put.errors)
    c.down.new.c down.rig down.parts down.fallen down.good

pub returns-in-Err-Unwritten-clause-left : goal.returns-in-Err-Unwritten-clause-left
returns-in-Err-Unwritten-clause-left g c =
    inl (put-touches c.args.by (parts c.args.c.now) (parts c.rebuild.new.c) (parts c.down.new.c) c.keeps-2.ensures.low
    c.requires.fits.1.good.shape.loose
    (subst (λ (e : Unput). parts c.rebuild.new.c ≡ left_after e (parts c.args.c.now)) c.in-Err-Unwritten.field-0-is
    c.in-Err-Unwritten.ensures.errors)
    c.down.ensures.parts c.down.ensures.fallen)
