use Rattle.std.proofs.Common.{◌≡◌, List, ℕ, ◌++◌, subst, sym}
use Rattle.std.specs.Prelude.{OnOk}
use Rattle.std.proofs.lemmas.Fmt.{decimal_digit}
use Rattle.sd_report.proofs.words.push_digits.Goals as goal

pub returns-then-n-lt10 : goal.returns-then-n-lt10
returns-then-n-lt10 c =
    subst (λ (l : List ℕ). OnOk c.push_byte.result (c.push_byte.new.out.items ≡ c.args.out.now.items ++ l))
    (sym (decimal_digit c.args.n c.if-n-lt10.true)) c.push_byte.ensures
