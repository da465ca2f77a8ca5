use Rattle.std.proofs.Common.{length, map, refl, sym, ap, ◌∙◌, take}
use Rattle.std.proofs.lemmas.Option.{slice_get_read}
use Rattle.sd_chain.specs.Checks.{Past}
use Rattle.sd_chain.specs.Logs.{after_records}
use Rattle.sd_moves.proofs.SettledRead.{epoch-more}
use Rattle.sd_moves.proofs.reread.last_epoch.Goals as goal

pub loop-placed-preserved : goal.loop-placed-preserved
loop-placed-preserved c past is =
    let log = c.args.log.now in
    let k = c.loop-placed.placed-index in
    let p = c.placed-item.result in
    c.epoch_after-last.ensures (after_records past (map (λ p. p.rec) (take k log))) (sym (c.loop-placed.invariant past is))
    ∙ sym (ap (λ (x : Past). x.epoch)
    (epoch-more log k p past (slice_get_read log (length log) k p refl c.loop-placed-test.true c.placed-item.is)))
