use Rattle.std.proofs.Common.{◌≡◌, inl, inr, ⊎_elim, ℕ, ◌+◌, List, [], length, get_or, refl, ◌∙◌, subst, arith}
use Rattle.std.proofs.lemmas.Result.{err_from_is_err_and}
use Rattle.sd_recovered.specs.Devices.{log_devices}
use Rattle.sd_recovered.specs.Reading.{IsUnread}
use Rattle.sd_recovered.proofs.Growing.{count-taken, fails-next, read-all, read-next, unread-next}
use Rattle.sd_recovered.proofs.Refusals.{came, told_on}
use Rattle.sd_restart.specs.Devices.{images_of}
use Rattle.sd_restart.proofs.Calm.{unchanged-none, unchanged-then}
use Rattle.sd_restart.proofs.Nine.{log-there}
use Rattle.sd_restart.proofs.devices.read_logs.Goals as goal

pub loop-i-init : goal.loop-i-init
loop-i-init g c =
    let r = g.G.Rig in
    let rig = c.args.rig.now in
    record {
      read = c.new-logs.ensures;
      stays = unchanged-none (r.seen rig) (r.leaves rig) (r.moment rig) (r.since rig);
      quiet = refl;
      size = c.requires;
    }

pub read_next-requires-clause-next : goal.read_next-requires-clause-next
read_next-requires-clause-next g c =
    let i = c.loop-i.i in
    let ds = log_devices (images_of (g.G.Rig.seen c.args.rig.now)) in
    let lt = c.loop-i-test.true in
    let n = count-taken ds i c.loop-i.logs c.loop-i.invariant.read (omega (arith, lt)) in
    omega (arith, n)

pub loop-i-preserved : goal.loop-i-preserved
loop-i-preserved g c =
    let r = g.G.Rig in
    let old = c.args.rig.now in
    let mid = c.loop-i.rig in
    let new = c.read_next.new.rig in
    let i = c.loop-i.i in
    let so_far = c.loop-i.invariant in
    let e = c.in_ok-logs.ensures in
    let ds = log_devices (images_of (r.seen old)) in
    let lt = c.loop-i-test.true in
    let here : r.seen mid (i + 1) ≡ get_or ds i [] = so_far.stays.reads (i + 1) ∙ log-there (r.seen old) [] i (omega (arith, lt)) in
    record {
      read = read-next ds i (r.seen mid (i + 1)) [] c.in_ok-logs.logs (omega (arith, lt)) here (e.read _ so_far.read);
      stays = unchanged-then (r.seen old) (r.seen mid) (r.seen new) (r.leaves old) (r.leaves mid) (r.leaves new) (r.moment old) (r.moment mid)
          (r.moment new) (r.since old) (r.since mid) (r.since new) so_far.stays e.stays;
      quiet = e.quiet (λ is. absurd (cc)) ∙ so_far.quiet;
      size = c.read_next.auto.bytes ∙ so_far.size;
    }

pub returns-in_err-logs-clause-stays : goal.returns-in_err-logs-clause-stays
returns-in_err-logs-clause-stays g c =
    let r = g.G.Rig in
    let old = c.args.rig.now in
    let mid = c.loop-i.rig in
    let new = c.read_next.new.rig in
    unchanged-then (r.seen old) (r.seen mid) (r.seen new) (r.leaves old) (r.leaves mid) (r.leaves new) (r.moment old) (r.moment mid)
    (r.moment new) (r.since old) (r.since mid) (r.since new) c.loop-i.invariant.stays c.in_err-logs.ensures.stays

pub returns-in_err-logs-clause-unsound : goal.returns-in_err-logs-clause-unsound
returns-in_err-logs-clause-unsound g c =
    let r = g.G.Rig in
    let old = c.args.rig.now in
    let mid = c.loop-i.rig in
    let i = c.loop-i.i in
    let so_far = c.loop-i.invariant in
    let ds = log_devices (images_of (r.seen old)) in
    let lt = c.loop-i-test.true in
    let d : List ℕ = r.seen mid (i + 1) in
    let here : d ≡ get_or ds i [] = so_far.stays.reads (i + 1) ∙ log-there (r.seen old) [] i (omega (arith, lt)) in
    let n = count-taken ds i c.loop-i.logs so_far.read (omega (arith, lt)) in
    let next : i + 1 ≡ 1 + length c.loop-i.logs.logs.items = omega (arith, n) in
    let told = ⊎_elim (λ f. inl f) (⊎_elim (λ m. inr (inl m)) (λ x. inr (inr (
      x.0,
      x.1,
      x.2,
      unread-next ds i c.loop-i.logs so_far.read d [] (omega (arith, lt)) here (subst (λ (k : ℕ). IsUnread k d) next x.3),
    )))) c.in_err-logs.ensures.unsound in
    let p = err_from_is_err_and c.from_residual.result c.from_residual.ensures.1 in
    told_on _ c.from_residual.result p.0 c.in_err-logs.field-0.0 p.1 p.2 told

pub returns-in_err-logs-clause-place : goal.returns-in_err-logs-clause-place
returns-in_err-logs-clause-place g c = λ dev at is.
    let r = g.G.Rig in
    let old = c.args.rig.now in
    let mid = c.loop-i.rig in
    let i = c.loop-i.i in
    let so_far = c.loop-i.invariant in
    let ds = log_devices (images_of (r.seen old)) in
    let lt = c.loop-i-test.true in
    let d : List ℕ = r.seen mid (i + 1) in
    let here : d ≡ get_or ds i d = so_far.stays.reads (i + 1) ∙ log-there (r.seen old) d i (omega (arith, lt)) in
    let n = count-taken ds i c.loop-i.logs so_far.read (omega (arith, lt)) in
    let p = err_from_is_err_and c.from_residual.result c.from_residual.ensures.1 in
    let f = c.in_err-logs.ensures.place dev at (came c.from_residual.result p.0 c.in_err-logs.field-0.0 dev at p.1 p.2 is) in
    let is_next = f.0 in
    fails-next ds i c.loop-i.logs so_far.read d dev at (omega (arith, lt)) here (omega (arith, is_next, n)) f.1

pub returns-clause-read : goal.returns-clause-read
returns-clause-read g c =
    let ds = log_devices (images_of (g.G.Rig.seen c.args.rig.now)) in
    let end = c.loop-i-test.false in
    let most = c.loop-i.auto.i-end in
    read-all ds c.loop-i.i c.loop-i.logs c.loop-i.invariant.read (omega (arith, most)) (omega (arith, end))
