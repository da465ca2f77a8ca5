use Rattle.std.proofs.Common.{◌≡◌}
use Rattle.sd_base.specs.declared.ids.Rid.{Rid}
use Rattle.sd_model.specs.Tables.{contents}
use Rattle.sd_recovered.proofs.Rows.{pages_upto}
use Rattle.sd_recovered.proofs.values.table_of.Given as goal

abbrev pub invariant-loop-p : goal.invariant-loop-p
invariant-loop-p l = (r : Rid) → contents l.table r ≡ pages_upto l.pages l.p r
