use Rattle.std.proofs.Common.{◌≡◌, ℕ, length, List, [], ◌∷◌, ◌++◌, refl, ap, ◌∙◌, append_assoc, arith}
use Rattle.sd_logrec.specs.Spelling.{four}
use Rattle.sd_logrec.proofs.Lengths.{length-four}
use Rattle.sd_log.proofs.buffer.frame.Goals as goal

nothing : (xs : List ℕ) → length xs ≡ 0 → xs ≡ []
nothing [] e = refl
nothing (x ∷ xs) e = absurd (cc)

pub put_u32-requires : goal.put_u32-requires
put_u32-requires c =
    let none = c.requires.none in
    let room = c.requires.room in
    omega (arith, length-four (length c.args.text.now))

pub put_bytes-requires : goal.put_bytes-requires
put_bytes-requires c =
    let none = c.requires.none in
    let room = c.requires.room in
    omega (arith, length-four (length c.args.text.now), c.put_u32.ensures.len, c.put_u32.ensures.capacity)

pub push_reserved-requires : goal.push_reserved-requires
push_reserved-requires c =
    let none = c.requires.none in
    let room = c.requires.room in
    omega (arith, length-four (length c.args.text.now), c.put_u32.ensures.len, c.put_u32.ensures.capacity, c.put_bytes.ensures.len, c.put_bytes.ensures.capacity)

pub returns-clause-items : goal.returns-clause-items
returns-clause-items c =
    let text : List ℕ = c.args.text.now in
    let n : ℕ = length text in
    let none : c.args.bytes.now.items ≡ [] = nothing c.args.bytes.now.items (omega (arith, c.requires.none, c.args.bytes.now.ok.0)) in
    let head : c.put_u32.new.out.items ≡ four n = c.put_u32.ensures.items ∙ ap (λ (l : List ℕ). l ++ four n) none in
    c.push_reserved.ensures.items ∙ ap (λ (l : List ℕ). l ++ 0 ∷ []) (c.put_bytes.ensures.items ∙ ap (λ (l : List ℕ). l ++ text) head)
    ∙ append_assoc (four n) text (0 ∷ [])
