use Rattle.std.proofs.Common.{Bool, cond, max, sym, ap, ◌∙◌}
use Rattle.sd_recovered.proofs.Keys.{same-eq}
use Rattle.sd_recovered.proofs.last_changes.Last.others.Goals as goal

pub returns-then-eq : goal.returns-then-eq
returns-then-eq c =
    ap (λ (b : Bool). cond b c.args.self.others (max c.args.self.own c.args.self.others))
    (sym c.if-eq.true ∙ c.eq.ensures ∙ same-eq c.args.self.txn c.args.txn)

pub returns-else-eq : goal.returns-else-eq
returns-else-eq c =
    c.max.ensures ∙ ap (λ (b : Bool). cond b c.args.self.others (max c.args.self.own c.args.self.others))
    (sym c.if-eq.false ∙ c.eq.ensures ∙ same-eq c.args.self.txn c.args.txn)
