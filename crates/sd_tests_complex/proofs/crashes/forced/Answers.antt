use Rattle.std.proofs.Common.{◌≡◌, false, ap, ◌∙◌, refl, arith}
use Rattle.sd_state.specs.Complexes.{parts}
use Rattle.sd_state.specs.Parts.{Parts, is_loose}
use Rattle.sd_state.specs.Values.{Pending}
use Rattle.sd_state.proofs.WorkingGood.{working-settled}
use Rattle.sd_one.proofs.Ready.{ready}
use Rattle.sd_tests_complex.proofs.crashes.forced.Goals as goal

pub returns : goal.returns
returns g c =
    let settled : is_loose (parts c.args.c.now) 1 ≡ false = working-settled (g.G.Rig.seen c.args.c.now.rig)
    (g.G.Rig.leaves c.args.c.now.rig) Pending.Idle (parts c.args.c.now) c.requires.m 1 c.requires.good c.requires.idle
    (omega arith) (c.if-not-is_up.ensures refl) in
    let here : is_loose (parts c.args.c.now) c.first.result ≡ false =
    ap (λ n. is_loose (parts c.args.c.now) n) c.first.ensures ∙ settled in
    ready (ap (λ (p : Parts). p.due) (c.in_ok-force_log.ensures.forced here) ∙ c.requires.idle)
    (c.force_log.ensures.good Pending.Idle c.requires.m c.requires.good)
