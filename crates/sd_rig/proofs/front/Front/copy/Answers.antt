use Rattle.std.proofs.Common.{rules, ◌≡◌, ◌+◌, ◌-◌, ◌++◌, ℕ, List, length, take, drop, replicate, cond, is_ok, refl, vec_len, ap, ◌∙◌, arith, length-append}
use Rattle.std.proofs.lemmas.Slice.{pushed}
use Rattle.sd_rig.proofs.Fronts.{copied}
use Rattle.sd_rig.proofs.front.Front.copy.Goals as goal

pub returns-clause-items : goal.returns-clause-items
returns-clause-items c =
    let to = c.args.to.now.items in
    let count = c.args.count in
    let known = c.known.result.now in
    let mid = c.extend_from_slice.new.self.items in
    let len = c.len.result + count in
    let had = vec_len c.extend_from_slice.new.self in
    let was : c.len.result ≡ length to = search rules in
    let had_is : had ≡ length mid = search rules in
    let front : mid ≡ to ++ known = pushed {was = to} known refl c.unwrap.ensures c.extend_from_slice.ensures.items in
    let is = c.resize.ensures.items ∙ ap (λ r. cond (is_ok r) (take len mid ++ replicate (len - had) 0) mid) c.unwrap-2.ensures ∙ ap (λ (l : List ℕ). take len l ++ replicate (len - had) 0) front in
    copied count len had to known (take count (drop c.args.at c.args.self.now)) c.resize.new.self.items is (omega arith) (omega (arith, ap length front, length-append to known)) c.known.ensures.fits c.known.ensures.part
