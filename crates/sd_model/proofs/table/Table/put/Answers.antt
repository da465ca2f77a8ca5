use Rattle.std.proofs.Common.{◌≡◌, subst, List, ℕ, Some, cond}
use Rattle.sd_base.specs.declared.ids.Rid.{Rid}
use Rattle.sd_base.specs.Ids.{same_rid}
use Rattle.sd_model.specs.Tables.{contents}
use Rattle.sd_model.proofs.Tables.{put-look-up}
use Rattle.sd_model.proofs.table.Table.put.Goals as goal

pub returns-clause-put : goal.returns-clause-put
returns-clause-put c = λ r. subst (λ (old : List (Rid × List ℕ)). contents c.insert.new.self.entries r ≡ cond (same_rid c.args.rid r) (Some c.args.value) (contents old r)) c.self.view_is
    (put-look-up c.args.rid r c.args.value c.self.inside.records.entries c.insert.new.self.entries (c.in_ok-insert.ensures.updates.0 r))
