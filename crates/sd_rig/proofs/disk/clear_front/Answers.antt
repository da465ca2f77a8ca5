use Rattle.std.proofs.Common.{rules, ◌≡◌, ◌+◌, ◌-◌, ◌++◌, ℕ, Bool, List, length, take, drop, replicate, cond, false, is_ok, refl, sym, vec_len, ap, ◌∙◌, arith}
use Rattle.std.proofs.lemmas.List.{drop_at, take_all, take_at}
use Rattle.sd_rig.specs.Disk.{copies, copies-is}
use Rattle.sd_rig.proofs.disk.clear_front.Goals as goal

pub returns-clause-items : goal.returns-clause-items
returns-clause-items c =
    let old = c.args.to.now.items in
    let count = c.args.count in
    let end = c.len-len.result + count in
    let len = vec_len c.args.to.now in
    let len_is : len ≡ length old = search rules in
    let whole : end ≡ vec_len c.resize.new.self = search rules in
    let rest : (vec_len c.resize.new.self) - count ≡ length old = omega (arith, whole, len_is) in
    let more : end - len ≡ count = omega arith in
    let longer : c.resize.new.self.items ≡ old ++ copies count false =
    c.resize.ensures.items ∙ ap (λ r. cond (is_ok r) (take end old ++ replicate (end - len) false) old) c.unwrap.ensures
    ∙ ap (λ (l : List Bool). l ++ replicate (end - len) false) (take_all end old (omega (arith, len_is)))
    ∙ ap (λ (l : List Bool). old ++ l) (ap (λ k. replicate k false) more ∙ sym (copies-is count false)) in
    c.rotate_right.ensures.items
    ∙ ap (λ (n : ℕ). drop n c.resize.new.self.items ++ take n c.resize.new.self.items) rest
    ∙ ap (λ (l : List Bool). drop (length old) l ++ take (length old) l) longer
    ∙ ap (λ (l : List Bool). l ++ take (length old) (old ++ copies count false)) (drop_at old (copies count false) (length old) refl)
    ∙ ap (λ (l : List Bool). copies count false ++ l) (take_at old (copies count false) (length old) refl)
