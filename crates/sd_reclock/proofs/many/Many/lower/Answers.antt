use Rattle.std.proofs.Common.{sym, subst}
use Rattle.sd_reclock.specs.Locks.{Held, held_in, Agree, IsNoStronger}
use Rattle.sd_reclock.proofs.Lowering.{agree_lowered}
use Rattle.sd_reclock.proofs.Marking.{marked_lowered}
use Rattle.sd_reclock.proofs.Unnaming.{indexed_unnamed}
use Rattle.sd_reclock.proofs.many.Many.lower.Goals as goal

weaker : (c : goal.After-unname) → IsNoStronger c.args.to (held_in c.self.inside.records.entries c.args.t.now c.args.r.now)
weaker c = subst (λ (locks : Held). IsNoStronger c.args.to (held_in locks c.args.t.now c.args.r.now)) (sym c.self.view_is) c.requires.weaker

agrees : (c : goal.After-unname) → Agree c.lower.new.records.entries
agrees c = agree_lowered c.self.inside.records.entries c.lower.new.records.entries c.args.t.now c.args.r.now c.args.to c.lower.ensures (weaker c) c.self.invariant.1

pub returns-clause-agree : goal.returns-clause-agree
returns-clause-agree c = agrees c

pub invariant_of-self : goal.invariant_of-self
invariant_of-self c = (
  indexed_unnamed c.self.inside.records.entries c.lower.new.records.entries c.self.inside.index.entries c.unname.new.index.entries c.args.t.now c.args.r.now c.args.to c.self.invariant.0 c.lower.ensures (weaker c) c.unname.ensures,
  agrees c,
  marked_lowered c.self.inside.records.entries c.lower.new.records.entries c.self.inside.pages c.args.t.now c.args.r.now c.args.to (weaker c) c.self.invariant.2 c.lower.ensures,
)
