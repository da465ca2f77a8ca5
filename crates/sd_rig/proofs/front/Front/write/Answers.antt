use Rattle.std.proofs.Common.{rules, ◌≡◌, ◌+◌, ◌<◌, ◌≤◌, ◌-◌, ◌++◌, length, take, replicate, cond, is_ok, vec_len, ap, ◌∙◌, sym, subst}
use Rattle.std.proofs.lemmas.Slice.{pushed}
use Rattle.sd_rig.specs.Devices.{overwritten}
use Rattle.sd_rig.proofs.Fronts.{grown, length_filled}
use Rattle.sd_rig.proofs.front.Front.write.Goals as goal

pub returns-else-end-kept : goal.returns-else-end-kept
returns-else-end-kept c =
    let kept = c.self.inside.kept.items in
    let len = c.self.inside.len in
    let at = c.args.at in
    let bytes = c.args.bytes.now in
    let had = vec_len c.self.inside.kept in
    let had_is : had ≡ length kept = search rules in
    let behind : length kept < at + length bytes = search rules in
    let size = length_filled len kept c.self.invariant.within in
    let fits : at + length bytes ≤ len = subst (λ n. at + length bytes ≤ n) (ap length (sym c.self.view_is) ∙ size) c.requires in
    let front : c.resize.new.self.items ≡ take at kept ++ replicate (at - length kept) 0 =
    c.resize.ensures.items ∙ ap (λ r. cond (is_ok r) (take at kept ++ replicate (at - had) 0) kept) c.unwrap.ensures ∙ ap (λ n. take at kept ++ replicate (at - n) 0) had_is in
    let is = pushed {was = c.resize.new.self.items} bytes front c.unwrap-else-end-kept.ensures c.extend_from_slice.ensures.items in
    grown len at bytes kept c.extend_from_slice.new.self.items c.self.invariant.within fits behind is ∙ ap (overwritten at bytes) c.self.view_is
