use Rattle.std.proofs.Common.{◌<◌, length, set, sym, subst}
use Rattle.sd_base.proofs.Results.{on_ok}
use Rattle.sd_reclock.specs.Locks.{Held}
use Rattle.sd_reclock.specs.Placing.{AddsNone}
use Rattle.sd_reclock.proofs.Placed.{one_written, adds_written, raised_row}
use Rattle.sd_reclock.proofs.few.Few.raise.Goals as goal

pub invariant_of-self : goal.invariant_of-self
invariant_of-self c = one_written c.self.inside.rows.items c.args.at c.index_mut.result.now c.put.new.self (subst (λ (l : Held). c.args.at < length l) (sym c.self.view_is) c.requires.inside) c.index_mut.ensures.value c.self.invariant

pub returns-clause-raised : goal.returns-clause-raised
returns-clause-raised c = on_ok c.put.result _ _
    (λ put d. raised_row c.self.inside.rows.items c.args.self.now c.args.at c.index_mut.result.now c.put.new.self (subst (λ (l : Held). c.args.at < length l) (sym c.self.view_is) c.requires.inside) c.index_mut.ensures.value c.args.t.now c.args.mode c.self.view_is c.self.invariant put d)
    c.put.ensures.put

pub returns-clause-rows : goal.returns-clause-rows
returns-clause-rows c = subst (λ (old : Held). AddsNone old (set c.self.inside.rows.items c.args.at (c.index_mut.result.now.0, c.put.new.self))) c.self.view_is
    (adds_written c.self.inside.rows.items c.args.at c.index_mut.result.now c.put.new.self (subst (λ (l : Held). c.args.at < length l) (sym c.self.view_is) c.requires.inside) c.index_mut.ensures.value)
