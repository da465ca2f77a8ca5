use Rattle.std.proofs.Common.{◌≡◌, ap, sym, ◌∙◌, arith}
use Rattle.sd_base.specs.declared.ids.Rid.{Rid}
use Rattle.sd_script.proofs.Spellings.{same_rid}
use Rattle.sd_script.proofs.causes.is_record.Goals as goal

pub returns-in-Some : goal.returns-in-Some
returns-in-Some c = (
  λ yes. (c.in-Some.rid, c.in-Some.ensures.range, c.has_page.ensures.0 yes, c.in-Some.ensures.found),
  λ x.
      let same : x.0 ≡ c.in-Some.rid = same_rid x.0 c.in-Some.rid x.1 c.in-Some.ensures.range (x.3 ∙ sym c.in-Some.ensures.found) in
      c.has_page.ensures.1 (omega (arith, ap (λ (r : Rid). r.page) same, x.2)),
)
