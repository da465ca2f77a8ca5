use Rattle.std.proofs.Common.{◌≡◌, ◌<◌, ◌≤◌, length, true, sym, ◌∙◌, arith}
use Rattle.std.specs.Prelude.{Err}
use Rattle.std.specs.Str.{all_ascii_digits}
use Rattle.sd_top.proofs.Commands.{number_parsed}
use Rattle.sd_top.proofs.words.number_in.Goals as goal

-- what isn't read as a number of 64 bits has no number
pub returns-in_default-2-clause-number : goal.returns-in_default-2-clause-number
returns-in_default-2-clause-number c =
    let word = c.args.word.now in
    let all : all_ascii_digits word ≡ true = grind (arith, c.are_digits.ensures, c.if-not-are_digits.false) in
    let some : 0 < length word = grind (arith, c.is_empty.ensures, c.if-is_empty.false) in
    let few : length word ≤ c.args.digits = omega (arith, c.if-word-digits.false) in
    number_parsed c.args.digits c.args.greatest word (Err c.in_default.field-0) c.in_default.ensures.value.0 all some few c.ranges.greatest.fits
