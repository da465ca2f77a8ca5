use Rattle.std.proofs.Common.{ℕ, ℤ, w64, List, subst}
use Rattle.std.proofs.lemmas.Int.{to_z-of_z}
use Rattle.std.specs.Prelude.{IfOk, MatchOption}
use Rattle.sd_model.specs.Numbers.{IsSum}
use Rattle.sd_model.specs.State.{view}
use Rattle.sd_oracle.specs.Lists.{meaning}
use Rattle.sd_oracle.proofs.Sums.{sum-found}
use Rattle.sd_oracle.proofs.records.sum_at.Goals as goal

pub returns-in-Some : goal.returns-in-Some
returns-in-Some c =
    let found = subst (λ (z : ℤ). IfOk c.sum_text.result (λ found. MatchOption found ((w : List ℕ) → IsSum c.in-Some.old.now z w → ⊥) (IsSum c.in-Some.old.now z))) (to_z-of_z w64 c.args.by c.ranges.by) c.sum_text.ensures in
    sum-found c.sum_text.result c.in-Some.old.now (view (meaning c.args.lists.now) c.args.txn.now c.args.rid.now) c.args.by c.in-Some.ensures found
