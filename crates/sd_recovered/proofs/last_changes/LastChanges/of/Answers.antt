use Rattle.std.proofs.Common.{◌<◌, List, [], ◌∷◌, ◌++◌, length, take, sym, ap, ◌∙◌, arith}
use Rattle.std.proofs.lemmas.List.{take_more}
use Rattle.sd_log.specs.declared.placed.Placed.{Placed}
use Rattle.sd_log.specs.Logs.{LogState, flats}
use Rattle.sd_recovered.specs.Others.{all_in, last_of_others}
use Rattle.sd_recovered.proofs.Lasts.{last-log}
use Rattle.sd_recovered.proofs.last_changes.LastChanges.of.Goals as goal

pub loop-log-preserved : goal.loop-log-preserved
loop-log-preserved c = λ t p s.
    let logs = c.args.logs.now in let i = c.loop-log.log-index in let x = c.log-item.result in
    let lt : i < length logs = omega arith in
    let more = take_more logs i x lt ∙ ap (λ (y : LogState). take i logs ++ y ∷ []) (sym c.log-item.is) in
    let all = ap (λ (ys : List LogState). last_of_others t p s (all_in ys)) more ∙ last-log t p s (take i logs) x in
    let before = c.loop-log.invariant t p s in
    let scanned_is = ap (λ (ps : List Placed). last_of_others t p s (flats ps)) c.scan.ensures in
    let step = c.in_ok-note_all.ensures t p s in
    omega (arith, all, before, scanned_is, step)
