use Rattle.sd_rig.specs.Spans.{elapses-then}
use Rattle.sd_rig.proofs.gate.write_synced.Goals as goal

pub returns-clause-time : goal.returns-clause-time
returns-clause-time g c =
    elapses-then _ _ _ _ (g.G.Rig.since c.write.new.self) _ (λ t u img le since. g.met.G.Rig.earlier c.sync.new.self t u img le since) c.in_ok-write.ensures.time c.sync.ensures.time
