use Rattle.std.proofs.Common.{◌≡◌, ◌≢◌, ℕ, ℤ, ◌+◌, ◌-◌, ◌^◌, ◌<◌, List, ◌∷◌, take, drop, length, sym, ap, ◌∙◌, Option, None, Some}
use Rattle.std.specs.Prelude.{IfNone}
use Rattle.std.specs.Fmt.{decimal, signed_decimal}
use Rattle.sd_script.specs.Forms.{IsAmount}
use Rattle.sd_script.proofs.Parting.{rest_of}
use Rattle.sd_script.proofs.Spellings.{below_none, minus_first}
use Rattle.sd_script.proofs.parts.signed_of.Goals as goal

none_below : (word rest : List ℕ) (r : Option ℤ) → word ≡ 45 ∷ rest → IfNone r ((n : ℕ) → n + 1 < 10 ^ 10
    → decimal (n + 1) ≢ rest)
    → IfNone r ((z : ℤ) → IsAmount z → signed_decimal z ≢ word)
none_below word rest None minus none = below_none word rest minus none
none_below word rest (Some z) minus none = tt

pub returns-clause-none : goal.returns-clause-none
returns-clause-none c =
    let word = c.args.word.now in
    none_below word (take (length word - 1) (drop 1 word)) c.below_zero.result
    (minus_first word c.if-word-ne45.false ∙ ap (λ (l : List ℕ). 45 ∷ l) (sym (rest_of word 1))) c.below_zero.ensures.none
