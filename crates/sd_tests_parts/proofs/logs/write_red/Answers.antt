use Rattle.std.proofs.Common.{◌≡◌, ◌∙◌, sym, ap, subst}
use Rattle.sd_rig.specs.Devices.{LeavesOnly}
use Rattle.sd_log.specs.Logs.{LogState}
use Rattle.sd_tests_parts.proofs.logs.write_red.Goals as goal

pub force-requires-clause-stable : goal.force-requires-clause-stable
force-requires-clause-stable g c some =
    let same : c.append-2.new.self.inst ≡ c.args.log.now.inst = ap (λ (s : LogState). s.inst) c.in_ok-append-2.ensures.ok
    ∙ ap (λ (s : LogState). s.inst) c.in_ok-append.ensures.ok in
    subst (λ i. LeavesOnly (g.G.Rig.seen c.args.rig.now i) (g.G.Rig.leaves c.args.rig.now i)) (sym same) c.requires.stable
