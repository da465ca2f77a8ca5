use Rattle.std.proofs.Common.{rules, ◌≡◌, ◌+◌, ◌++◌, ◌-◌, Bool, List, length, take, drop, replicate, cond, false, is_ok, refl, sym, vec_len, ap, ◌∙◌, arith}
use Rattle.std.proofs.lemmas.List.{take_all}
use Rattle.sd_rig.specs.Disk.{copies, copies-is}
use Rattle.sd_rig.proofs.Parts.{back-whole, whole-same}
use Rattle.sd_rig.proofs.disk.cover_back.Goals as goal

pub returns-then-from-end-clause-same : goal.returns-then-from-end-clause-same
returns-then-from-end-clause-same c =
    let seen = c.args.seen.now in
    let synced = c.args.synced.now.items in
    let pending = c.args.pending.now.items in
    let base = c.args.base in
    let end = c.args.end in
    let from = base + c.len.result in
    let from_is : from ≡ base + length synced = search rules in
    let n = end - from in
    let mid = take n (drop from seen) in
    let front = c.copy.ensures.items in
    let len = vec_len c.args.pending.now in
    let len_is : len ≡ length pending = search rules in
    let less = c.if-from-end.true in
    let left : (end - base) - len ≡ n = omega (arith, c.requires.even, len_is, from_is) in
    let marks : c.resize.new.self.items ≡ pending ++ copies n false =
    c.resize.ensures.items ∙ ap (λ r. cond (is_ok r) (take (end - base) pending ++ replicate ((end - base) - len) false) pending) c.unwrap.ensures
    ∙ ap (λ (l : List Bool). l ++ replicate ((end - base) - len) false) (take_all (end - base) pending (omega (arith, c.requires.even, less, from_is)))
    ∙ ap (λ (l : List Bool). pending ++ l) (ap (λ k. replicate k false) left ∙ sym (copies-is n false)) in
    whole-same base refl front marks ∙ back-whole base n seen synced mid pending c.requires.even (ap (λ k. take n (drop k seen)) from_is) (omega (arith, from_is, c.requires.fits, less))
