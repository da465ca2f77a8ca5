use Rattle.std.proofs.Common.{◌≡◌, ◌∙◌, ap, sym, [], drop, length, arith}
use Rattle.sd_model.specs.Acts.{live}
use Rattle.sd_oracle.proofs.Loops.{fold-next, drop-all}
use Rattle.sd_oracle.proofs.Scans.{count_from, count_one, count-one, count-live}
use Rattle.sd_oracle.proofs.values.count_live.Goals as goal
use Rattle.sd_oracle.proofs.values.count_live.Goals.{in-Read, in-Put, in-Undo}

pub loop-act-init : goal.loop-act-init
loop-act-init c = record { few = omega arith; same = count-live [] c.args.acts.now }

pub loop-act-preserved : goal.loop-act-preserved
loop-act-preserved c =
    let next = fold-next count_from count_one count-one c.loop-act.count c.match-act.count c.act-item.result c.args.acts.now c.loop-act.act-index (length (live c.args.acts.now)) c.loop-act-test.true c.act-item.is in
    let h = c.loop-act.invariant.same in
    elim c.match-act.branch [
      | in-Read w ↦ record { few = let e = w.count-is in omega arith; same = next (ap (count_one c.loop-act.count) w.in-Read.is ∙ sym w.count-is) h }
      | in-Put w ↦ record { few = let e = w.count-is in omega arith; same = next (ap (count_one c.loop-act.count) w.in-Put.is ∙ sym w.count-is) h }
      | in-Undo w ↦ record { few = let e = w.count-is ∙ w.saturating_sub-count.ensures in omega arith; same = next (ap (count_one c.loop-act.count) w.in-Undo.is ∙ sym (w.count-is ∙ w.saturating_sub-count.ensures)) h }
    ]

pub returns : goal.returns
returns c = let e : c.loop-act.act-index ≡ length c.args.acts.now = omega arith in
    sym (ap (count_from c.loop-act.count) (ap (λ n. drop n c.args.acts.now) e ∙ drop-all c.args.acts.now)) ∙ c.loop-act.invariant.same
