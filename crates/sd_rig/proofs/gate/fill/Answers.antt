use Rattle.std.proofs.Common.{◌≡◌, ◌+◌, length, ◌∙◌, arith}
use Rattle.sd_base.specs.Twin.{body_at}
use Rattle.sd_rig.specs.Spans.{elapses-then, span-then, span-weaker}
use Rattle.sd_rig.specs.Gates.{Fills, Writes}
use Rattle.sd_rig.proofs.Gates.{fills_while_written, fills_while_opened, outside_slot, same_body, written_body, written_gate}
use Rattle.sd_rig.proofs.gate.fill.Goals as goal
use Rattle.sd_base.proofs.Results.{on_ok}

pub returns-clause-filled : goal.returns-clause-filled
returns-clause-filled g c =
    let r = g.G.Rig in
    let laws = g.met.G.Rig in
    let dev = c.args.dev in
    let one = c.write_synced.new.rig in
    let two = c.write_synced-2.new.rig in
    let len = laws.whole c.args.rig.now dev (r.seen c.args.rig.now dev) c.requires.device (laws.leaves_seen c.args.rig.now dev c.requires.device) in
    let len' = laws.whole one dev (r.seen one dev) c.requires.device (laws.leaves_seen one dev c.requires.device) in
    let range = c.requires.range in
    let whole : body_at (length c.args.body.now) c.args.gate (r.seen one dev) ≡ c.args.body.now = written_body c.args.gate c.args.body.now (r.seen c.args.rig.now dev) (r.seen one dev) (omega arith) c.in_ok-write_synced.ensures.written in
    on_ok c.write_synced-2.result _ _
    (λ made. (written_gate c.args.gate 165 (r.seen one dev) (r.seen two dev) (omega arith) made, same_body c.args.gate (length c.args.body.now) (r.seen one dev) (r.seen two dev) c.write_synced-2.ensures.outside ∙ whole))
    c.write_synced-2.ensures.written

pub returns-clause-any_moment : goal.returns-clause-any_moment
returns-clause-any_moment g c =
    let r = g.G.Rig in
    let laws = g.met.G.Rig in
    let dev = c.args.dev in
    let gate = c.args.gate in
    let body = c.args.body.now in
    let zero = c.args.rig.now in
    let one = c.write_synced.new.rig in
    let two = c.write_synced-2.new.rig in
    let len = laws.whole zero dev (r.seen zero dev) c.requires.device (laws.leaves_seen zero dev c.requires.device) in
    let range = c.requires.range in
    let whole : body_at (length body) gate (r.seen one dev) ≡ body = written_body gate body (r.seen zero dev) (r.seen one dev) (omega arith) c.in_ok-write_synced.ensures.written in
    let time = c.in_ok-write_synced.ensures.time in
    span-then (r.moment zero) (r.moment one) (r.moment two) (r.since one) (r.since two) (Fills dev gate (length body) body (r.seen zero) (r.leaves zero)) time.later c.write_synced-2.ensures.time
    (span-weaker (r.moment zero) (r.since one) (Writes dev (gate + 1) (length body) (r.seen zero) (r.leaves zero)) (Fills dev gate (length body) body (r.seen zero) (r.leaves zero))
    (λ img w. fills_while_written dev gate body (r.seen zero) (r.leaves zero) img c.requires.closed w) c.in_ok-write_synced.ensures.any_moment)
    (span-weaker (r.moment one) (r.since two) (Writes dev gate 1 (r.seen one) (r.leaves one)) (Fills dev gate (length body) body (r.seen zero) (r.leaves zero))
    (λ img w. fills_while_opened dev gate body (r.seen zero) (r.seen one) (r.leaves zero) (r.leaves one) img c.in_ok-write_synced.ensures.outside whole c.in_ok-write_synced.ensures.others_leave w) c.write_synced-2.ensures.any_moment)

pub returns-clause-outside : goal.returns-clause-outside
returns-clause-outside g c =
    let r = g.G.Rig in
    outside_slot c.args.gate (length c.args.body.now) (r.seen c.args.rig.now c.args.dev) (r.seen c.write_synced.new.rig c.args.dev) (r.seen c.write_synced-2.new.rig c.args.dev) c.in_ok-write_synced.ensures.outside c.write_synced-2.ensures.outside

pub returns-clause-time : goal.returns-clause-time
returns-clause-time g c =
    elapses-then _ _ _ _ (g.G.Rig.since c.write_synced.new.rig) _ (λ t u img le since. g.met.G.Rig.earlier c.write_synced-2.new.rig t u img le since) c.in_ok-write_synced.ensures.time c.write_synced-2.ensures.time
