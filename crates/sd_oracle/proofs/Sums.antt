-- A sum with a value that was found. It serves the goals of records.rt.
use Rattle.std.proofs.Common.{◌≡◌, ℕ, ℤ, List, None, Some, Result, Ok, Err, sym, ◌∙◌, subst}
use Rattle.std.specs.Prelude.{IfOk, MatchOption}
use Rattle.sd_model.specs.Numbers.{IsSum}
use Rattle.sd_model.specs.Tables.{Content}
use Rattle.sd_oracle.specs.Judging.{IsSumAt}
use Rattle.sd_oracle.proofs.NumberSums.{the_value}

pub sum-found : {E : Type 0} (r : Result Content E) (u : List ℕ) (v : Content) (by : ℤ) → Some u ≡ v → IfOk r (λ found. MatchOption found ((w : List ℕ) → IsSum u by w → ⊥) (IsSum u by)) → IfOk r (λ found. IsSumAt found v by)
sum-found (Ok None) u v by e h = λ x w is s. h w (subst (λ (y : List ℕ). IsSum y by w) (the_value x u (is ∙ sym e)) s)
sum-found (Ok (Some w)) u v by e h = (u, e, h)
sum-found (Err x) u v by e h = tt
