use Rattle.std.proofs.Common.{ℤ, w64, to_z, of_z, None, refl, subst}
use Rattle.std.proofs.lemmas.Int.{to_z-of_z}
use Rattle.sd_model.specs.Tables.{Content}
use Rattle.sd_model.specs.State.{view}
use Rattle.sd_oracle.specs.Lists.{meaning}
use Rattle.sd_oracle.specs.Judging.{IsSumAt}
use Rattle.sd_oracle.proofs.records.answer_add.Goals as goal

pub returns-in-None-clause-answered : goal.returns-in-None-clause-answered
returns-in-None-clause-answered c =
    let found : Content = view (meaning c.args.lists.now) c.args.txn.now c.args.rid.now in
    let none : IsSumAt None found (to_z w64 (of_z w64 c.args.by)) = subst (λ (o : Content). IsSumAt o found (to_z w64 (of_z w64 c.args.by))) c.in-None.is c.in_ok-sum_at.ensures in
    let never : IsSumAt None found c.args.by = subst (λ (z : ℤ). IsSumAt None found z) (to_z-of_z w64 c.args.by c.ranges.by) none in
    (λ m1 k. never k.0 k.1 k.3 k.4, refl)
