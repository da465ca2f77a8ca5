use Rattle.std.proofs.Common.{◌≡◌, ◌↔◌, ℕ, subst}
use Rattle.std.specs.Prelude.{Contains, Option, Some}
use Rattle.std.proofs.lemmas.Result.{IfOk-weaker}
use Rattle.sd_ckpt.proofs.tables.spans_of.Goals as goal

pub returns-clause-rows : goal.returns-clause-rows
returns-clause-rows c = IfOk-weaker c.in_order.result _ _
    (λ rows each t s. subst (λ (o : Option (ℕ × ℕ)). Contains rows (t, s.0, s.1) ↔ (o ≡ Some s)) (c.in_ok-spans.ensures.spans t)
    (each t s)) c.in_order.ensures.rows
