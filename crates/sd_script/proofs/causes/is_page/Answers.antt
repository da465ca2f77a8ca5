use Rattle.std.proofs.Common.{◌≡◌, sym, ◌∙◌, arith}
use Rattle.sd_script.proofs.Spellings.{same_number}
use Rattle.sd_script.proofs.causes.is_page.Goals as goal

pub returns-in-Some : goal.returns-in-Some
returns-in-Some c = (
  λ yes. (c.in-Some.page, c.in-Some.ensures.range, c.has_page.ensures.0 yes, c.in-Some.ensures.found),
  λ x.
      let range = c.in-Some.ensures.range in
      let same : x.0 ≡ c.in-Some.page = same_number x.0 c.in-Some.page (omega (arith, x.1)) (omega (arith, range)) (x.3 ∙ sym c.in-Some.ensures.found) in
      c.has_page.ensures.1 (omega (arith, same, x.2)),
)
