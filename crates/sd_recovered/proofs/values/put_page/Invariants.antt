use Rattle.std.proofs.Common.{◌≡◌}
use Rattle.sd_base.specs.declared.ids.Rid.{Rid}
use Rattle.sd_model.specs.Tables.{contents}
use Rattle.sd_recovered.proofs.Rows.{upto}
use Rattle.sd_recovered.proofs.values.put_page.Given as goal

abbrev pub invariant-loop-slot : goal.invariant-loop-slot
invariant-loop-slot l = (r : Rid) → contents l.table r ≡ upto l.page l.slot l.image.slots (contents l.initial.table) r
