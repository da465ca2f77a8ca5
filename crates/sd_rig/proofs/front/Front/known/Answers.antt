use Rattle.std.proofs.Common.{rules, ◌≡◌, ◌+◌, ◌≤◌, ◌-◌, min, ℕ, List, length, take, drop, ap, ◌∙◌, subst, sym, arith, length-drop}
use Rattle.std.proofs.lemmas.List.{take_all}
use Rattle.sd_rig.proofs.Fronts.{known-part, length_filled}
use Rattle.sd_rig.proofs.front.Front.known.Goals as goal

pub returns-clause-part : goal.returns-clause-part
returns-clause-part c =
    let kept = c.self.inside.kept.items in
    let len = c.self.inside.len in
    let at = c.args.at in
    let count = c.args.count in
    let size = length_filled len kept c.self.invariant.within in
    let fits : at + count ≤ len = subst (λ n. at + count ≤ n) (ap length (sym c.self.view_is) ∙ size) c.requires in
    let had : c.len.result ≡ length kept = search rules in
    let from : c.min.result ≡ min at (length kept) = c.min.ensures ∙ ap (min at) had in
    let behind : take (length c.deref.result.now - c.min.result) (drop c.min.result c.deref.result.now) ≡ drop (min at (length kept)) kept =
    take_all (length c.deref.result.now - c.min.result) (drop c.min.result c.deref.result.now) (omega (arith, length-drop c.min.result c.deref.result.now))
    ∙ ap (λ n. drop n c.deref.result.now) from ∙ ap (drop (min at (length kept))) c.deref.ensures.value in
    let is = ap (λ n. take n (take (length c.deref.result.now - c.min.result) (drop c.min.result c.deref.result.now))) c.min-2.ensures ∙ ap (λ (l : List ℕ). take (min count (length l)) l) behind in
    known-part len at count kept (take c.min-2.result (take (length c.deref.result.now - c.min.result) (drop c.min.result c.deref.result.now))) c.self.invariant.within fits is
    ∙ ap (λ (bytes : List ℕ). take count (drop at bytes)) c.self.view_is
