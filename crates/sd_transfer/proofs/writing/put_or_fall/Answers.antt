use Rattle.std.proofs.Common.{◌≡◌, false, inl, inr, refl, sym, ap, ◌∙◌, subst, rules}
use Rattle.sd_model.specs.declared.event.Event.TheVariants.{Flush}
use Rattle.sd_fits.proofs.Falling.{fallen-down}
use Rattle.sd_fits.specs.Untouched.{none_of, only}
use Rattle.sd_moves.specs.Putting.{left_after, with_loose_disk}
use Rattle.sd_moves.specs.declared.writing.Unput.{Unput}
use Rattle.sd_state.specs.Complexes.{parts}
use Rattle.sd_pagelock.specs.Directory.{entry_at}
use Rattle.sd_pagelock.specs.Moves.{IsMove}
use Rattle.sd_pagelock.specs.Rows.{written}
use Rattle.sd_base.specs.Standing.{active_as}
use Rattle.sd_fits.proofs.Refused.{unlike}
use Rattle.sd_state.specs.Parts.{Parts, is_loose, status_at}
use Rattle.sd_state.specs.Values.{Pending}
use Rattle.sd_world.specs.Serving.{telling}
use Rattle.sd_transfer.proofs.Rested.{fell-rests, moved-lost, of-disk, settled-rest, written-rest}
use Rattle.sd_transfer.proofs.Touched.{put-marks, put-so, put-ticks, put-touches, same-untouched}
use Rattle.sd_transfer.proofs.Unput.{unread-served, unwritten-served}
use Rattle.sd_transfer.proofs.Writes.{flush-breaks, put-served, put-stands}
use Rattle.sd_transfer.proofs.writing.put_or_fall.Goals as goal

pub put_page-requires-clause-good : goal.put_page-requires-clause-good
put_page-requires-clause-good g c =
    let fits = c.requires.fits in
    (Pending.Idle, fits.0.scene.state, fits.1.good)

pub put_page-requires-clause-idle : goal.put_page-requires-clause-idle
put_page-requires-clause-idle g c = c.requires.fits.1.idle

pub returns-in-Ok-clause-served : goal.returns-in-Ok-clause-served
returns-in-Ok-clause-served g c =
    let tell = telling g.G.Rig.seen g.G.Rig.leaves g.G.Rig.moment g.G.Rig.since g.G.Rig.faults in
    let put = c.in-Ok.ensures in
    put-served tell c.args.c.now c.args.i c.args.p c.keeps.ensures.low c.keeps.ensures.high c.put_page.new.c
    c.requires.may
    put.good put.images put.time put.versions put.others_leave put.written put.place put.quiet

pub returns-in-Ok-clause-written : goal.returns-in-Ok-clause-written
returns-in-Ok-clause-written g c =
    let tell = telling g.G.Rig.seen g.G.Rig.leaves g.G.Rig.moment g.G.Rig.since g.G.Rig.faults in
    let put = c.in-Ok.ensures in
    put-stands tell c.args.c.now c.args.i c.args.p c.keeps.ensures.low c.keeps.ensures.high c.put_page.new.c
    c.requires.may
    put.good put.images put.time put.versions put.others_leave put.written put.place put.quiet c.requires.fits c.requires.changed

pub returns-in-Err-Unread-clause-served : goal.returns-in-Err-Unread-clause-served
returns-in-Err-Unread-clause-served g c =
    let tell = telling g.G.Rig.seen g.G.Rig.leaves g.G.Rig.moment g.G.Rig.since g.G.Rig.faults in
    let put = c.in-Err-Unread.ensures in
    unread-served tell c.args.c.now c.put_page.new.c c.args.i (Flush c.args.i c.args.p)
    (λ w f. flush-breaks tell c.args.c.now c.args.i c.args.p c.keeps.ensures.low c.keeps.ensures.high w f c.requires.may)
    put.good put.images put.time put.versions put.others_leave put.cause
    (subst (λ (e : Unput). parts c.put_page.new.c ≡ left_after e (parts c.args.c.now)) c.in-Err-Unread.field-0-is put.errors)

pub down-requires-clause-good : goal.down-requires-clause-good
down-requires-clause-good g c =
    let fits = c.requires.fits in
    (Pending.Idle, fits.0.scene.state, c.in-Err-Unwritten.ensures.good Pending.Idle fits.0.scene.state fits.1.good)

pub down-requires-clause-due : goal.down-requires-clause-due
down-requires-clause-due g c =
    inl (ap (λ (k : Parts). k.due)
    (subst (λ (e : Unput). parts c.put_page.new.c ≡ left_after e (parts c.args.c.now)) c.in-Err-Unwritten.field-0-is
    c.in-Err-Unwritten.ensures.errors)
    ∙ c.requires.fits.1.idle)

pub returns-in-Err-Unwritten-clause-served : goal.returns-in-Err-Unwritten-clause-served
returns-in-Err-Unwritten-clause-served g c =
    let tell = telling g.G.Rig.seen g.G.Rig.leaves g.G.Rig.moment g.G.Rig.since g.G.Rig.faults in
    let put = c.in-Err-Unwritten.ensures in
    let down = c.down.ensures in
    unwritten-served tell c.args.c.now c.put_page.new.c c.args.i (Flush c.args.i c.args.p)
    (λ w f. flush-breaks tell c.args.c.now c.args.i c.args.p c.keeps.ensures.low c.keeps.ensures.high w f c.requires.may)
    put.good put.images put.time put.versions put.others_leave put.cause c.keeps.ensures.low c.keeps.ensures.high
    (subst (λ (e : Unput). parts c.put_page.new.c ≡ left_after e (parts c.args.c.now)) c.in-Err-Unwritten.field-0-is put.errors)
    c.down.new.c down.rig down.parts down.fallen down.good

pub returns-in-Err-Unread-clause-failed : goal.returns-in-Err-Unread-clause-failed
returns-in-Err-Unread-clause-failed g c = λ e.
    inr (subst (λ (u : Unput). parts c.put_page.new.c ≡ left_after u (parts c.args.c.now)) c.in-Err-Unread.field-0-is
    c.in-Err-Unread.ensures.errors)

pub returns-in-Err-Unwritten-clause-failed : goal.returns-in-Err-Unwritten-clause-failed
returns-in-Err-Unwritten-clause-failed g c = λ e. inl (search (rules, fallen-down))

-- who wasn't down isn't, where a read failed
pub returns-in-Err-Unread-clause-spared : goal.returns-in-Err-Unread-clause-spared
returns-in-Err-Unread-clause-spared g c e down =
    let same = subst (λ (u : Unput). parts c.put_page.new.c ≡ left_after u (parts c.args.c.now)) c.in-Err-Unread.field-0-is
    c.in-Err-Unread.ensures.errors in
    unlike (ap (active_as c.args.i) (sym (ap (λ (k : Parts). status_at k c.args.i) same) ∙ down)) c.requires.may.active

pub returns-in-Err-Unwritten-clause-spared : goal.returns-in-Err-Unwritten-clause-spared
returns-in-Err-Unwritten-clause-spared g c e down =
    let old : Parts = parts c.args.c.now in
    put-marks c.args.i old (parts c.put_page.new.c) (parts c.down.new.c) c.keeps.ensures.low
    c.requires.fits.1.good.shape.loose
    (subst (λ (u : Unput). parts c.put_page.new.c ≡ left_after u old) c.in-Err-Unwritten.field-0-is c.in-Err-Unwritten.ensures.errors)
    c.down.ensures.fallen

-- ---- what no world has, and a recovery that is under way

pub returns-in-Ok-clause-put : goal.returns-in-Ok-clause-put
returns-in-Ok-clause-put g c =
    put-so c.args.p (parts c.args.c.now) (parts c.put_page.new.c) c.in-Ok.ensures.written c.in-Ok.ensures.place c.requires.changed

pub returns-in-Ok-clause-rest : goal.returns-in-Ok-clause-rest
returns-in-Ok-clause-rest g c =
    let old : Parts = parts c.args.c.now in
    written-rest old (parts c.put_page.new.c) c.requires.fits.1.good.shape.loose c.in-Ok.ensures.written
    (moved-lost c.args.p (written (entry_at old.directory c.args.p)) old.directory (parts c.put_page.new.c).directory
    c.in-Ok.ensures.place (c.keeps-2.ensures.formed c.args.p) (IsMove.write c.requires.changed refl))

pub returns-in-Ok-clause-tick : goal.returns-in-Ok-clause-tick
returns-in-Ok-clause-tick g c = put-ticks (is_loose (parts c.args.c.now) 0) (g.G.Rig.moment c.args.c.now.rig)
    (g.G.Rig.moment c.put_page.new.c.rig) c.in-Ok.ensures.tick c.in-Ok.ensures.tock

pub returns-in-Err-Unread-clause-unput : goal.returns-in-Err-Unread-clause-unput
returns-in-Err-Unread-clause-unput g c =
    let old : Parts = parts c.args.c.now in
    inl (same-untouched none_of none_of (with_loose_disk false old) (parts c.put_page.new.c)
    (subst (λ (e : Unput). parts c.put_page.new.c ≡ left_after e old) c.in-Err-Unread.field-0-is c.in-Err-Unread.ensures.errors))

pub returns-in-Err-Unread-clause-rest : goal.returns-in-Err-Unread-clause-rest
returns-in-Err-Unread-clause-rest g c =
    let old : Parts = parts c.args.c.now in
    settled-rest old (parts c.put_page.new.c) c.requires.fits.1.good.shape.loose
    (subst (λ (e : Unput). parts c.put_page.new.c ≡ left_after e old) c.in-Err-Unread.field-0-is c.in-Err-Unread.ensures.errors)

pub returns-in-Err-Unwritten-clause-unput : goal.returns-in-Err-Unwritten-clause-unput
returns-in-Err-Unwritten-clause-unput g c =
    let old : Parts = parts c.args.c.now in
    inr (put-touches c.args.i old (parts c.put_page.new.c) (parts c.down.new.c) c.keeps.ensures.low
    c.requires.fits.1.good.shape.loose
    (subst (λ (e : Unput). parts c.put_page.new.c ≡ left_after e old) c.in-Err-Unwritten.field-0-is c.in-Err-Unwritten.ensures.errors)
    c.down.ensures.parts c.down.ensures.fallen)

pub returns-in-Err-Unwritten-clause-rest : goal.returns-in-Err-Unwritten-clause-rest
returns-in-Err-Unwritten-clause-rest g c =
    let old : Parts = parts c.args.c.now in
    fell-rests c.args.i (only 0) none_of old (parts c.down.new.c)
    (put-touches c.args.i old (parts c.put_page.new.c) (parts c.down.new.c) c.keeps.ensures.low
    c.requires.fits.1.good.shape.loose
    (subst (λ (e : Unput). parts c.put_page.new.c ≡ left_after e old) c.in-Err-Unwritten.field-0-is c.in-Err-Unwritten.ensures.errors)
    c.down.ensures.parts c.down.ensures.fallen)
    c.requires.may.active c.keeps.ensures.high (of-disk c.args.i)
