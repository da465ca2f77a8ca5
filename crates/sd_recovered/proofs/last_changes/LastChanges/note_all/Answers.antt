use Rattle.std.proofs.Common.{◌<◌, List, [], ◌∷◌, ◌++◌, length, take, sym, ap, ◌∙◌, arith}
use Rattle.std.proofs.lemmas.List.{take_more}
use Rattle.sd_log.specs.declared.placed.Placed.{Placed}
use Rattle.sd_log.specs.Logs.{flats}
use Rattle.sd_recovered.specs.Others.{last_of_others}
use Rattle.sd_recovered.proofs.Lasts.{last-placed}
use Rattle.sd_recovered.proofs.last_changes.LastChanges.note_all.Goals as goal

pub loop-placed-preserved : goal.loop-placed-preserved
loop-placed-preserved c = λ t p s.
    let log = c.args.log.now in let i = c.loop-placed.placed-index in let x = c.placed-item.result in
    let lt : i < length log = omega arith in
    let more = take_more log i x lt ∙ ap (λ (y : Placed). take i log ++ y ∷ []) (sym c.placed-item.is) in
    let all = ap (λ (ys : List Placed). last_of_others t p s (flats ys)) more ∙ last-placed t p s (take i log) x in
    let before = c.loop-placed.invariant t p s in
    let step = c.in_ok-note.ensures t p s in
    omega (arith, all, before, step)
