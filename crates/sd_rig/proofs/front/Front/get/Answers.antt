use Rattle.std.proofs.Common.{ℕ, List, get_or, length, ap, ◌∙◌, sym, rules, ◌≤◌}
use Rattle.std.proofs.lemmas.List.{get_or_past}
use Rattle.sd_rig.proofs.Fronts.{get_or-filled}
use Rattle.sd_rig.proofs.front.Front.get.Goals as goal

pub returns-else-at-len : goal.returns-else-at-len
returns-else-at-len c =
    let kept = c.self.inside.kept.items in
    let past : length kept ≤ c.args.at = search rules in
    sym (get_or_past kept c.args.at 0 past) ∙ sym (get_or-filled c.self.inside.len c.args.at kept) ∙ ap (λ (bytes : List ℕ). get_or bytes c.args.at 0) c.self.view_is
