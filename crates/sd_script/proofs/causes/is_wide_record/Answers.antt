use Rattle.std.proofs.Common.{◌≡◌, false, true, refl, sym}
use Rattle.std.proofs.lemmas.Bool.{true≢false}
use Rattle.sd_script.proofs.Spellings.{has_dot, wide_is, wide_page, wide_slot}
use Rattle.sd_script.proofs.causes.is_wide_record.Goals as goal

pub returns-then-is_number_in : goal.returns-then-is_number_in
returns-then-is_number_in c = (
  λ yes. wide_is c.args.word.now c.in-Some.dot (sym c.in-Some.ensures) (c.if-is_number_in.ensures.0 refl)
      (c.is_number_in-then-is_number_in.ensures.0 yes),
  λ wide. c.is_number_in-then-is_number_in.ensures.1 (wide_slot c.args.word.now c.in-Some.dot (sym c.in-Some.ensures) wide),
)

pub returns-else-is_number_in : goal.returns-else-is_number_in
returns-else-is_number_in c = (
  λ yes. let clash : false ≡ true = c.if-is_number_in.ensures.1 (c.is_number_in.ensures.0 yes) in absurd (cc),
  λ wide. c.is_number_in.ensures.1 (wide_page c.args.word.now c.in-Some.dot (sym c.in-Some.ensures) wide),
)

pub returns-in-None : goal.returns-in-None
returns-in-None c = (
  λ e. absurd (true≢false (sym e)),
  λ wide. absurd (has_dot c.args.word.now wide.0 wide.1 wide.3 (sym c.in-None.ensures)),
)
