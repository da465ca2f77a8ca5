use Rattle.std.proofs.Common.{◌≡◌, inr, ◌+◌, ap, ◌∙◌, arith}
use Rattle.sd_base.specs.declared.refusal.Refusal.TheVariants as R
use Rattle.sd_recovered.proofs.scanning.broken.Goals as goal

pub overflow_add-place_of : goal.overflow_add-place_of
overflow_add-place_of c = let is = c.place_of.ensures c.requires.0 c.requires.1 in let small = c.requires.2 in omega arith

pub returns-in-None : goal.returns-in-None
returns-in-None c =
    let is : c.place_of.result ≡ c.requires.0 = c.place_of.ensures c.requires.0 c.requires.1 in
    (c.requires.0, inr (c.in-None.ensures, c.requires.1), c.damaged-in-None.ensures ∙ ap (λ n. R.Damaged c.args.inst (130 + n)) is)
