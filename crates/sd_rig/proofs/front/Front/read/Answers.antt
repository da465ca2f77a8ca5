use Rattle.std.proofs.Common.{rules, ◌≡◌, ◌-◌, ◌++◌, ℕ, List, length, replicate, ap, ◌∙◌, sym}
use Rattle.sd_rig.specs.Disk.{copies-is}
use Rattle.sd_rig.proofs.front.Front.read.Goals as goal

pub returns : goal.returns
returns c =
    let known = c.known-known.result.now in
    let n = length c.args.out.now - length known in
    let zeros : c.fill.new.self ≡ replicate n 0 = search rules in
    ap (λ (l : List ℕ). l ++ c.fill.new.self) c.copy_from_slice.ensures.after ∙ ap (λ (l : List ℕ). known ++ l) (zeros ∙ sym (copies-is n 0)) ∙ c.known-known.ensures.part
