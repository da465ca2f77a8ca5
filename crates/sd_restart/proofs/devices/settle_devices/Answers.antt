use Rattle.std.proofs.Common.{ℕ, refl, ◌∙◌, arith}
use Rattle.sd_restart.proofs.Calm.{calm-none, calm-then, settled-next}
use Rattle.sd_restart.proofs.devices.settle_devices.Goals as goal

pub loop-dev-init : goal.loop-dev-init
loop-dev-init g c =
    let r = g.G.Rig in
    let rig = c.args.rig.now in
    record {
      calms = calm-none (r.seen rig) (r.leaves rig) (r.moment rig) (r.since rig) (λ img s. g.met.G.Rig.only_now rig img s);
      settled = λ d lt. absurd (omega (arith, lt));
      tick = omega arith;
      quiet = refl;
    }

pub loop-dev-preserved : goal.loop-dev-preserved
loop-dev-preserved g c =
    let r = g.G.Rig in
    let old = c.args.rig.now in
    let mid = c.loop-dev.rig in
    let new = c.settle.new.rig in
    let dev : ℕ = c.loop-dev.dev in
    let so_far = c.loop-dev.invariant in
    let e = c.in_ok-settle.ensures in
    record {
      calms = calm-then (r.seen old) (r.seen mid) (r.seen new) (r.leaves old) (r.leaves mid) (r.leaves new) (r.moment old) (r.moment mid) (r.moment new)
          (r.since old) (r.since mid) (r.since new) (λ t u img le s. g.met.G.Rig.earlier new t u img le s) so_far.calms e.calms;
      settled = settled-next (r.seen old) (r.seen mid) (r.seen new) (r.leaves mid) (r.leaves new) dev so_far.calms.reads e.calms.reads e.calms.less
          (λ d le. g.met.G.Rig.leaves_seen new d le) (let lt = c.loop-dev-test.true in omega (arith, lt)) e.settled so_far.settled;
      tick = let a = e.tick in let b = so_far.tick in omega (arith, a, b);
      quiet = e.quiet ∙ so_far.quiet;
    }

pub returns-in_err-settle-clause-calms : goal.returns-in_err-settle-clause-calms
returns-in_err-settle-clause-calms g c =
    let r = g.G.Rig in
    let old = c.args.rig.now in
    let mid = c.loop-dev.rig in
    let new = c.settle.new.rig in
    calm-then (r.seen old) (r.seen mid) (r.seen new) (r.leaves old) (r.leaves mid) (r.leaves new) (r.moment old) (r.moment mid) (r.moment new)
    (r.since old) (r.since mid) (r.since new) (λ t u img le s. g.met.G.Rig.earlier new t u img le s) c.loop-dev.invariant.calms
    c.in_err-settle.ensures.calms

pub returns-clause-settled : goal.returns-clause-settled
returns-clause-settled g c = λ d le. c.loop-dev.invariant.settled d (let end = c.loop-dev-test.false in omega (arith, le, end))
