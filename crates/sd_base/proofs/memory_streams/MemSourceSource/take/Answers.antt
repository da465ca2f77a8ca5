use Rattle.std.proofs.Common.{◌≡◌, ◌+◌, ◌-◌, ℕ, List, length, take, drop, min, ◌++◌, refl, sym, ap, ◌∙◌, arith, length-drop}
use Rattle.std.proofs.lemmas.List.{take-append-drop, drop-drop, take_all}
use Rattle.std.proofs.Math.ListN.{drop_of_length-le}
use Rattle.sd_base.proofs.memory_streams.MemSourceSource.take.Goals as goal

-- what is left is what was moved and the rest
pub returns-clause-gives : goal.returns-clause-gives
returns-clause-gives c =
    let n = c.fill-n.result in
    let left = c.args.self.now.left in
    let bytes = c.self.inside.bytes.items in
    let at = c.self.inside.at in
    let view : drop at bytes ≡ left = ap (λ s. s.left) c.self.view_is in
    let from : c.deref-2.result.now ≡ bytes = c.deref-2.ensures.value in
    let whole : (l : List ℕ) → take (length l - at) (drop at l) ≡ drop at l = λ l. take_all _ (drop at l) (omega (arith, length-drop at l)) in
    let from_there : take (length c.deref-2.result.now - at) (drop at c.deref-2.result.now) ≡ drop at bytes = whole c.deref-2.result.now ∙ ap (drop at) from in
    let moved : take n c.fill-n.new.out ≡ take n (drop at bytes) = c.fill-n.ensures.bytes ∙ ap (take n) from_there in
    let rest : drop n (drop at bytes) ≡ drop (at + n) bytes = drop-drop n at bytes in
    let split : left ≡ take n c.fill-n.new.out ++ drop (at + n) bytes =
    sym view ∙ sym (take-append-drop n (drop at bytes)) ∙ ap (λ (l : List ℕ). l ++ drop n (drop at bytes)) (sym moved) ∙ ap (λ (l : List ℕ). take n c.fill-n.new.out ++ l) rest in
    let count : n ≡ min (length c.args.out.now) (length (drop at bytes)) = c.fill-n.ensures.count ∙ ap (λ (l : List ℕ). min (length c.args.out.now) (length l)) from_there in
    let same : length c.fill-n.new.out ≡ length c.args.out.now = c.fill-n.auto.out in
    (drop (at + n) bytes, split, refl, λ none some. drop_of_length-le bytes (omega (arith, length-drop at bytes)))
