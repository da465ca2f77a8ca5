use Rattle.std.proofs.Common.{◌∙◌, ◌++◌, map, ap, sym}
use Rattle.std.specs.Prelude.{filter}
use Rattle.sd_redo.specs.Changes.{is_of}
use Rattle.sd_redo.specs.Spots.{found_at}
use Rattle.sd_redo.proofs.Gathered.{placed_in-next, turn_more}
use Rattle.sd_redo.proofs.change.spots_of.Goals as goal

pub loop-log-preserved : goal.loop-log-preserved
loop-log-preserved c =
    let test = is_of c.args.page in
    let old = map found_at c.loop-log.spots.items in
    let next = placed_in-next c.args.logs.now c.loop-log.log-index c.log-item.result c.loop-log-test.true c.log-item.is in (
      c.in_ok-gather_spots.ensures.told,
      turn_more c.args.logs.now c.loop-log.log-index test old (map found_at c.gather_spots.new.spots.items) c.loop-log.invariant.1
          (c.in_ok-gather_spots.ensures.gathered ∙ ap (λ l. old ++ filter test l) (sym next)),
    )
