use Rattle.std.proofs.Common.{ℕ, List, sym, subst}
use Rattle.std.proofs.lemmas.Result.{err_from_is_err_and}
use Rattle.sd_recovered.specs.Devices.{IsRecovered, devices_of}
use Rattle.sd_recovered.proofs.Refusals.{came}
use Rattle.sd_restart.specs.Devices.{AgreeOnNine, images_of}
use Rattle.sd_restart.proofs.Alike.{sound-same}
use Rattle.sd_restart.proofs.Calm.{calm-same, calm-then}
use Rattle.sd_restart.proofs.Failing.{fails-same, opened-same}
use Rattle.sd_restart.proofs.Found.{apart, eight, found-opens, masters-count, of-losers}
use Rattle.sd_restart.proofs.Reopened.{agree, left-only, recovered-on, same-devices}
use Rattle.sd_restart.proofs.restarting.found_on.Goals as goal

pub restored_of-requires-clause-eight : goal.restored_of-requires-clause-eight
restored_of-requires-clause-eight g c =
    eight (images_of (g.G.Rig.seen c.settle_devices.new.rig)) c.in_ok-opened.opened c.in_ok-opened.ensures.read

pub restored_of-requires-clause-masters : goal.restored_of-requires-clause-masters
restored_of-requires-clause-masters g c =
    masters-count (images_of (g.G.Rig.seen c.settle_devices.new.rig)) c.in_ok-opened.opened c.in_ok-opened.ensures.read

pub restored_of-requires-clause-losers : goal.restored_of-requires-clause-losers
restored_of-requires-clause-losers g c =
    of-losers (images_of (g.G.Rig.seen c.settle_devices.new.rig)) c.in_ok-opened.opened c.in_ok-opened.ensures.read

pub restored_of-requires-clause-apart : goal.restored_of-requires-clause-apart
restored_of-requires-clause-apart g c =
    apart (images_of (g.G.Rig.seen c.settle_devices.new.rig)) c.in_ok-opened.opened c.in_ok-opened.ensures.read

pub returns-clause-sound : goal.returns-clause-sound
returns-clause-sound g c =
    let r = g.G.Rig in
    let old = c.args.rig.now in
    let mid = c.settle_devices.new.rig in
    let images : List (List ℕ) = images_of (r.seen mid) in
    let same : AgreeOnNine (devices_of images) (r.seen old) = agree (r.seen old) (r.seen mid) c.in_ok-settle_devices.ensures.calms.reads in
    sound-same (devices_of images) (r.seen old) same c.in_ok-opened.ensures.read.sound

pub returns-clause-recovered : goal.returns-clause-recovered
returns-clause-recovered g c =
    let r = g.G.Rig in
    let old = c.args.rig.now in
    let mid = c.settle_devices.new.rig in
    let images : List (List ℕ) = images_of (r.seen mid) in
    let same : AgreeOnNine (devices_of images) (r.seen old) = agree (r.seen old) (r.seen mid) c.in_ok-settle_devices.ensures.calms.reads in
    subst (IsRecovered (r.seen old)) (sym c.in_ok-restored_of.ensures.table)
    (recovered-on (devices_of images) (r.seen old) same c.in_ok-opened.opened.table c.in_ok-opened.ensures.recovered)

pub returns-clause-found : goal.returns-clause-found
returns-clause-found g c = λ frames.
    let r = g.G.Rig in
    let old = c.args.rig.now in
    let mid = c.settle_devices.new.rig in
    let images : List (List ℕ) = images_of (r.seen mid) in
    let same : AgreeOnNine (devices_of images) (r.seen old) = agree (r.seen old) (r.seen mid) c.in_ok-settle_devices.ensures.calms.reads in
    opened-same (devices_of images) (r.seen old) same frames _
    (found-opens images c.in_ok-opened.opened c.in_ok-restored_of.field-0.0 frames c.in_ok-opened.ensures.read c.in_ok-restored_of.ensures.made)

pub returns-clause-settled : goal.returns-clause-settled
returns-clause-settled g c = λ d le.
    let r = g.G.Rig in
    left-only (r.seen c.args.rig.now d) (r.leaves c.settle_devices.new.rig d) (r.leaves c.read_devices.new.rig d)
    (c.in_ok-settle_devices.ensures.settled d le) (c.in_ok-opened.ensures.stays.outcomes d)

pub returns-clause-calms : goal.returns-clause-calms
returns-clause-calms g c =
    let r = g.G.Rig in
    let old = c.args.rig.now in
    let mid = c.settle_devices.new.rig in
    let new = c.read_devices.new.rig in
    calm-then (r.seen old) (r.seen mid) (r.seen new) (r.leaves old) (r.leaves mid) (r.leaves new) (r.moment old) (r.moment mid) (r.moment new)
    (r.since old) (r.since mid) (r.since new) (λ t u img le s. g.met.G.Rig.earlier new t u img le s) c.in_ok-settle_devices.ensures.calms
    (calm-same (r.seen mid) (r.seen new) (r.leaves mid) (r.leaves new) (r.moment mid) (r.moment new) (r.since mid) (r.since new)
    (λ img s. g.met.G.Rig.only_now mid img s) c.in_ok-opened.ensures.stays)

pub returns-in_err-restored_of-clause-calms : goal.returns-in_err-restored_of-clause-calms
returns-in_err-restored_of-clause-calms g c =
    let r = g.G.Rig in
    let old = c.args.rig.now in
    let mid = c.settle_devices.new.rig in
    let new = c.read_devices.new.rig in
    calm-then (r.seen old) (r.seen mid) (r.seen new) (r.leaves old) (r.leaves mid) (r.leaves new) (r.moment old) (r.moment mid) (r.moment new)
    (r.since old) (r.since mid) (r.since new) (λ t u img le s. g.met.G.Rig.earlier new t u img le s) c.in_ok-settle_devices.ensures.calms
    (calm-same (r.seen mid) (r.seen new) (r.leaves mid) (r.leaves new) (r.moment mid) (r.moment new) (r.since mid) (r.since new)
    (λ img s. g.met.G.Rig.only_now mid img s) c.in_ok-opened.ensures.stays)

pub returns-in_err-opened-clause-calms : goal.returns-in_err-opened-clause-calms
returns-in_err-opened-clause-calms g c =
    let r = g.G.Rig in
    let old = c.args.rig.now in
    let mid = c.settle_devices.new.rig in
    let new = c.read_devices.new.rig in
    calm-then (r.seen old) (r.seen mid) (r.seen new) (r.leaves old) (r.leaves mid) (r.leaves new) (r.moment old) (r.moment mid) (r.moment new)
    (r.since old) (r.since mid) (r.since new) (λ t u img le s. g.met.G.Rig.earlier new t u img le s) c.in_ok-settle_devices.ensures.calms
    (calm-same (r.seen mid) (r.seen new) (r.leaves mid) (r.leaves new) (r.moment mid) (r.moment new) (r.since mid) (r.since new)
    (λ img s. g.met.G.Rig.only_now mid img s) c.in_err-opened.ensures.stays)

pub returns-in_err-opened-clause-unsound : goal.returns-in_err-opened-clause-unsound
returns-in_err-opened-clause-unsound g c = λ dev at is sound.
    let r = g.G.Rig in
    let old = c.args.rig.now in
    let mid = c.settle_devices.new.rig in
    let images : List (List ℕ) = images_of (r.seen mid) in
    let same : AgreeOnNine (devices_of images) (r.seen old) = agree (r.seen old) (r.seen mid) c.in_ok-settle_devices.ensures.calms.reads in
    let p = err_from_is_err_and c.from_residual-in_err-opened.result c.from_residual-in_err-opened.ensures.1 in
    c.in_err-opened.ensures.unsound dev at (came c.from_residual-in_err-opened.result p.0 c.in_err-opened.field-0.0 dev at p.1 p.2 is)
    (sound-same (r.seen old) (devices_of images) (same-devices (devices_of images) (r.seen old) same) sound)

pub returns-in_err-opened-clause-place : goal.returns-in_err-opened-clause-place
returns-in_err-opened-clause-place g c = λ dev at is.
    let r = g.G.Rig in
    let old = c.args.rig.now in
    let mid = c.settle_devices.new.rig in
    let images : List (List ℕ) = images_of (r.seen mid) in
    let same : AgreeOnNine (devices_of images) (r.seen old) = agree (r.seen old) (r.seen mid) c.in_ok-settle_devices.ensures.calms.reads in
    let p = err_from_is_err_and c.from_residual-in_err-opened.result c.from_residual-in_err-opened.ensures.1 in
    fails-same (devices_of images) (r.seen old) same dev at
    (c.in_err-opened.ensures.place dev at (came c.from_residual-in_err-opened.result p.0 c.in_err-opened.field-0.0 dev at p.1 p.2 is))
