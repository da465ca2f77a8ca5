use Rattle.std.proofs.Common.{◌≡◌, inl, inr, refl, sym, ◌∙◌, arith}
use Rattle.std.proofs.lemmas.List.{length-take-le}
use Rattle.std.proofs.lemmas.Result.{IfOk-weaker, err_from_is_err_and}
use Rattle.sd_chain.specs.Checks.{DevicesAreSound}
use Rattle.sd_chain.specs.Faults.{FailsFirstAt}
use Rattle.sd_recovered.specs.Devices.{IsRecovered, devices_of, log_devices}
use Rattle.sd_recovered.specs.declared.logs.ReadLogs.{ReadLogs}
use Rattle.sd_recovered.proofs.LogFaults.{fails_in_log}
use Rattle.sd_recovered.proofs.Refusals.{came}
use Rattle.sd_recovered.proofs.Whole.{some_bad}
use Rattle.sd_restart.specs.Devices.{images_of}
use Rattle.sd_restart.proofs.Calm.{unchanged-then}
use Rattle.sd_restart.proofs.Ended.{is-reading, none-failed, none-memory, of-nine, on-nine}
use Rattle.sd_restart.proofs.devices.read_into.Goals as goal

pub slice_bounds-read_logs-end : goal.slice_bounds-read_logs-end
slice_bounds-read_logs-end g c = let size = c.requires in omega (arith, size)

pub slice_bounds-read_logs-end-2 : goal.slice_bounds-read_logs-end-2
slice_bounds-read_logs-end-2 g c = let size = c.requires in sym (length-take-le 2097282 c.args.bytes.now (omega (arith, size)))

pub read_logs-requires : goal.read_logs-requires
read_logs-requires g c = let size = c.requires in length-take-le 2097282 c.args.bytes.now (omega (arith, size))

pub returns-in_err-logs-clause-unsound : goal.returns-in_err-logs-clause-unsound
returns-in_err-logs-clause-unsound g c = λ dev at is sound.
    let seen = g.G.Rig.seen c.args.rig.now in
    let e = c.in_err-logs.field-0.0 in
    let p = err_from_is_err_and c.from_residual.result c.from_residual.ensures.1 in
    let named = came {U = ReadLogs} c.from_residual.result p.0 e dev at p.1 p.2 is in
    elim c.in_err-logs.ensures.unsound [
      | inl failed ↦ none-failed e dev at failed named
      | inr others ↦ elim others [
        | inl memory ↦ none-memory e dev at memory named
        | inr d ↦ some_bad (seen 0) (log_devices (images_of seen)) refl d.3 sound
      ]
    ]

pub returns-in_err-logs-clause-place : goal.returns-in_err-logs-clause-place
returns-in_err-logs-clause-place g c = λ dev at is.
    let seen = g.G.Rig.seen c.args.rig.now in
    let p = err_from_is_err_and c.from_residual.result c.from_residual.ensures.1 in
    inl (fails_in_log (seen 0) (log_devices (images_of seen)) dev at refl
    (c.in_err-logs.ensures.place dev at (came c.from_residual.result p.0 c.in_err-logs.field-0.0 dev at p.1 p.2 is)))

pub returns-clause-read : goal.returns-clause-read
returns-clause-read g c =
    let seen = g.G.Rig.seen c.args.rig.now in
    let is : c.read_device.new.bytes ≡ seen 0 = c.in_ok-read_device.ensures.bytes ∙ c.in_ok-logs.ensures.stays.reads 0 in
    let e = c.finish.ensures in
    is-reading seen c.read_device.new.bytes c.in_ok-logs.logs is c.in_ok-logs.ensures.read c.finish.result
    (λ d le. g.met.G.Rig.whole c.args.rig.now d (seen d) le (g.met.G.Rig.leaves_seen c.args.rig.now d le))
    e.sound e.read e.masters e.counts e.disk e.first

pub returns-clause-recovered : goal.returns-clause-recovered
returns-clause-recovered g c =
    let seen = g.G.Rig.seen c.args.rig.now in
    let is : c.read_device.new.bytes ≡ seen 0 = c.in_ok-read_device.ensures.bytes ∙ c.in_ok-logs.ensures.stays.reads 0 in
    IfOk-weaker c.finish.result _ _
    (λ o f. of-nine seen c.read_device.new.bytes c.in_ok-logs.logs is c.in_ok-logs.ensures.read (λ l. IsRecovered (devices_of l) o.table) f)
    c.finish.ensures.recovered

pub returns-clause-stays : goal.returns-clause-stays
returns-clause-stays g c =
    let r = g.G.Rig in
    let old = c.args.rig.now in
    let mid = c.read_logs.new.rig in
    let new = c.read_device.new.rig in
    unchanged-then (r.seen old) (r.seen mid) (r.seen new) (r.leaves old) (r.leaves mid) (r.leaves new) (r.moment old) (r.moment mid) (r.moment new)
    (r.since old) (r.since mid) (r.since new) c.in_ok-logs.ensures.stays c.in_ok-read_device.ensures.stays

pub returns-clause-unsound : goal.returns-clause-unsound
returns-clause-unsound g c = λ dev at is sound.
    let seen = g.G.Rig.seen c.args.rig.now in
    let bytes = c.read_device.new.bytes in
    let same : bytes ≡ seen 0 = c.in_ok-read_device.ensures.bytes ∙ c.in_ok-logs.ensures.stays.reads 0 in
    c.finish.ensures.unsound dev at is (log_devices (images_of seen)) c.in_ok-logs.ensures.read
    (on-nine seen bytes c.in_ok-logs.logs same c.in_ok-logs.ensures.read (λ l. DevicesAreSound (devices_of l)) sound)

pub returns-clause-place : goal.returns-clause-place
returns-clause-place g c = λ dev at is.
    let seen = g.G.Rig.seen c.args.rig.now in
    let bytes = c.read_device.new.bytes in
    let same : bytes ≡ seen 0 = c.in_ok-read_device.ensures.bytes ∙ c.in_ok-logs.ensures.stays.reads 0 in
    of-nine seen bytes c.in_ok-logs.logs same c.in_ok-logs.ensures.read (λ l. FailsFirstAt (devices_of l) dev at)
    (c.finish.ensures.place dev at is)
