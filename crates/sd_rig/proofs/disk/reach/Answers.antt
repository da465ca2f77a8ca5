use Rattle.std.proofs.Common.{rules, ◌≡◌, ◌++◌, ◌-◌, List, ℕ, [], length, take, drop, replicate, cond, true, is_ok, sym, vec_len, ap, ◌∙◌, arith}
use Rattle.std.proofs.lemmas.List.{nil_from_length, take_all}
use Rattle.sd_rig.specs.Disk.{copies, copies-is}
use Rattle.sd_rig.proofs.Parts.{first-whole}
use Rattle.sd_rig.proofs.disk.reach.Goals as goal

pub returns-then-is_empty-clause-written : goal.returns-then-is_empty-clause-written
returns-then-is_empty-clause-written c = λ bytes len.
    let seen = c.args.seen.now in
    let synced = c.args.synced.now.items in
    let pending = c.args.pending.now.items in
    let at = c.args.at in
    let count = c.args.count in
    let zero : length synced ≡ 0 = search rules in
    let none : synced ≡ [] = nil_from_length synced zero in
    let none' : pending ≡ [] = nil_from_length pending (c.requires.even ∙ zero) in
    let is = c.copy.ensures.items ∙ ap (λ (l : List ℕ). l ++ take count (drop at seen)) none ∙ ap (λ k. take k (drop at seen)) (sym len) in
    let had = vec_len c.args.pending.now in
    let had_is : had ≡ length pending = search rules in
    let more : count - had ≡ length bytes = omega (arith, had_is, c.requires.even, zero, len) in
    let marks : c.resize.new.self.items ≡ copies (length bytes) true =
    c.resize.ensures.items ∙ ap (λ r. cond (is_ok r) (take count pending ++ replicate (count - had) true) pending) c.unwrap.ensures
    ∙ ap (λ l. l ++ replicate (count - had) true) (take_all count pending (omega (arith, c.requires.even, zero)) ∙ none')
    ∙ ap (λ k. replicate k true) more ∙ sym (copies-is (length bytes) true) in
    first-whole c.args.base at bytes seen synced c.copy.new.to.items pending c.resize.new.self.items none none' is marks (omega (arith, len, c.requires.fits))
