use Rattle.std.proofs.Common.{◌≡◌, ◌++◌, ℕ, List, length, take, drop, ap, ◌∙◌, sym, arith}
use Rattle.std.proofs.lemmas.List.{take_all}
use Rattle.sd_rig.proofs.Fronts.{length_filled}
use Rattle.sd_rig.proofs.front.Front.image.Goals as goal

pub returns : goal.returns
returns c =
    let now = c.args.self.now in
    let len = c.self.inside.len in
    let size : length now ≡ len = ap length (sym c.self.view_is) ∙ length_filled len c.self.inside.kept.items c.self.invariant.within in
    c.copy.ensures.items ∙ ap (λ (l : List ℕ). l ++ take len (drop 0 now)) c.in_ok-image.ensures.items ∙ take_all len now (omega arith)
