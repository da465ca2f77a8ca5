use Rattle.std.proofs.Common.{◌∙◌, ap, sym, subst}
use Rattle.sd_pagelock.specs.Places.{place_at, Formed}
use Rattle.sd_pagelock.specs.Rows.{fallen}
use Rattle.sd_pagelock.proofs.Forms.{formed-fallen}
use Rattle.sd_pagelock.proofs.table.PlaceTable.fall_at.Goals as goal

pub write-requires : goal.write-requires
write-requires c = subst Formed (sym (c.fallen-left.ensures ∙ ap (fallen c.args.i) c.place.ensures)) (formed-fallen c.args.i (place_at c.args.self.now c.args.p) (c.keeps.ensures.formed c.args.p))
