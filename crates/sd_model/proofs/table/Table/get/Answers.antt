use Rattle.std.proofs.Common.{◌∙◌, ap, List, ℕ, Some}
use Rattle.sd_base.specs.declared.ids.Rid.{Rid}
use Rattle.sd_model.specs.Tables.{contents}
use Rattle.sd_model.proofs.Tables.{look-up}
use Rattle.sd_model.proofs.table.Table.get.Goals as goal

pub returns-in-Some : goal.returns-in-Some
returns-in-Some c = record {
  value = ap (λ (v : List ℕ). Some v) c.items.ensures ∙ (c.in-Some.ensures.value ∙ look-up c.args.rid c.self.inside.records.entries)
      ∙ ap (λ (rows : List (Rid × List ℕ)). contents rows c.args.rid) c.self.view_is;
}

pub returns-in-None : goal.returns-in-None
returns-in-None c = record {
  value = (c.in-None.ensures.value ∙ look-up c.args.rid c.self.inside.records.entries) ∙ ap (λ (rows : List (Rid × List ℕ)). contents rows c.args.rid) c.self.view_is;
}
