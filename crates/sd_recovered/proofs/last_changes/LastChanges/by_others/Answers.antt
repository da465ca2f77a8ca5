use Rattle.std.proofs.Common.{List, Option, ap, ◌∙◌}
use Rattle.sd_base.specs.declared.ids.Rid.{Rid}
use Rattle.sd_recovered.specs.declared.last_changes.Last.{Last}
use Rattle.sd_recovered.specs.Others.{seen_in, told}
use Rattle.sd_recovered.proofs.Lasts.{told-seen}
use Rattle.sd_recovered.proofs.last_changes.LastChanges.by_others.Goals as goal

pub returns-in-Some : goal.returns-in-Some
returns-in-Some c =
    let rid = c.args.rid in let txn = c.args.txn in
    c.others.ensures ∙ ap (λ (o : Option Last). told o txn) c.in-Some.ensures.value
    ∙ told-seen rid c.self.inside.lasts.entries txn
    ∙ ap (λ (rows : List (Rid × Last)). seen_in rows txn rid.page rid.slot) c.self.view_is

pub returns-in-None : goal.returns-in-None
returns-in-None c =
    let rid = c.args.rid in let txn = c.args.txn in
    ap (λ (o : Option Last). told o txn) c.in-None.ensures.value ∙ told-seen rid c.self.inside.lasts.entries txn
    ∙ ap (λ (rows : List (Rid × Last)). seen_in rows txn rid.page rid.slot) c.self.view_is
