use Rattle.std.proofs.Common.{List, ◌∙◌, subst}
use Rattle.sd_recovered.specs.declared.losers.Loser.{Loser}
use Rattle.sd_recovered.specs.UndoPass.{AreLosersFrom}
use Rattle.sd_recovered.proofs.Sums.{first_and_rest, nothing, owed_none, owed_more}
use Rattle.sd_recovered.proofs.ends.+owed_by.Goals as goal

pub returns-in-empty : goal.returns-in-empty
returns-in-empty t c = λ j logs are.
    owed_none j logs (subst (λ (ls : List (List Loser)). AreLosersFrom j logs ls) (nothing c.args.losers.now c.in-empty.len_below) are)

pub returns-in-len1-up : goal.returns-in-len1-up
returns-in-len1-up t c =
    λ j logs are.
    let whole = first_and_rest c.args.losers.now c.first-item.result c.first-item.result c.in-len1-up.len_at_least c.first-item.is in
    c.saturating_add.ensures
    ∙ owed_more c.owed.result c.owed_by.result c.first-item.result _ c.owed.ensures c.owed_by.ensures j logs
    (subst (λ (ls : List (List Loser)). AreLosersFrom j logs ls) whole are)
