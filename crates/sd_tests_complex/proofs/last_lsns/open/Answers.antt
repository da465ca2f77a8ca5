use Rattle.std.proofs.Common.{◌≡◌, sym, subst, arith}
use mathlib.Core.Path.{fun_ext}
use Rattle.sd_rig.specs.Devices.{DeviceImages}
use Rattle.sd_state.specs.Complexes.{parts}
use Rattle.sd_fits.specs.Opened.{IsOpenedOn}
use Rattle.sd_fits.proofs.Opened.{opened-world}
use Rattle.sd_one.proofs.Ready.{ready}
use Rattle.sd_tests_complex.proofs.last_lsns.open.Goals as goal

pub returns : goal.returns
returns g c =
    let old = c.args.rig in
    let k = c.in_ok-complex.ensures in
    let x = c.in_ok-complex.complex in
    let size = g.met.G.Rig.whole old 0 (g.G.Rig.seen old 0) (omega arith) (g.met.G.Rig.leaves_seen old 0 (omega arith)) in
    let same : g.G.Rig.seen old ≡ g.G.Rig.seen x.rig = fun_ext (λ d. sym (k.calms.reads d)) in
    let on = subst (λ (devices : DeviceImages). IsOpenedOn 2 devices (g.G.Rig.leaves x.rig) (parts x)) same
    (record { only = k.settled; size = size; opened = k.opened }) in
    let fits = opened-world (g.G.Rig.leaves x.rig) 2 (g.G.Rig.seen x.rig) (parts x) on in
    ready fits.idle fits.good
