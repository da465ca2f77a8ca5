use Rattle.std.proofs.Common.{sym, subst, ◌∙◌, set}
use Rattle.sd_base.specs.declared.ids.Rid.{Rid}
use Rattle.sd_base.specs.Ids.{same_txn}
use Rattle.sd_base.proofs.Orders.{same-txn}
use Rattle.std.proofs.lemmas.Bool.{cond-true}
use Rattle.sd_reclock.specs.Locks.{Held, mode_of}
use Rattle.sd_reclock.specs.Placing.{AddsNone, IsOneEach}
use Rattle.sd_reclock.proofs.Writes.{Changes}
use Rattle.sd_reclock.proofs.Placing.{Entry}
use Rattle.sd_reclock.proofs.Placed.{one_written, adds_written, changes_written, same_key, one_taken, adds_taken, changes_taken, behind_written}
use Rattle.sd_reclock.proofs.few.lower_at.Goals as goal

pub returns-then-is_empty-clause-lowered : goal.returns-then-is_empty-clause-lowered
returns-then-is_empty-clause-lowered c d =
    let xs = c.args.rows.now.items in
    let e : Entry = c.index_mut.result.now in
    let lt = c.requires.inside in
    let here = c.index_mut.ensures.value in
    subst (λ (z : Rid). Changes xs c.remove.new.self.items c.args.t.now z c.args.to) (same_key xs c.args.at e c.lower.new.self lt here d)
    (subst (λ (ys : Held). Changes xs ys c.args.t.now e.0 c.args.to) (sym c.remove.ensures.items)
    (changes_taken xs c.args.at e c.lower.new.self lt here c.args.t.now c.args.to c.requires.one c.lower.ensures (c.is_empty.ensures.0 c.if-is_empty.true)))

pub returns-then-is_empty-clause-rows : goal.returns-then-is_empty-clause-rows
returns-then-is_empty-clause-rows c = subst (λ (ys : Held). AddsNone c.args.rows.now.items ys) (sym c.remove.ensures.items)
    (adds_taken c.args.rows.now.items c.args.at c.index_mut.result.now c.lower.new.self c.requires.inside c.index_mut.ensures.value)

pub returns-then-is_empty-clause-one : goal.returns-then-is_empty-clause-one
returns-then-is_empty-clause-one c = subst (λ (ys : Held). IsOneEach ys) (sym c.remove.ensures.items)
    (one_taken c.args.rows.now.items c.args.at c.index_mut.result.now c.lower.new.self c.requires.inside c.index_mut.ensures.value c.requires.one)

pub returns-else-is_empty-clause-lowered : goal.returns-else-is_empty-clause-lowered
returns-else-is_empty-clause-lowered c d =
    let xs = c.args.rows.now.items in
    let e : Entry = c.index_mut.result.now in
    let lt = c.requires.inside in
    let here = c.index_mut.ensures.value in
    subst (λ (z : Rid). Changes xs (set xs c.args.at (e.0, c.lower.new.self)) c.args.t.now z c.args.to) (same_key xs c.args.at e c.lower.new.self lt here d)
    (changes_written xs c.args.at e c.lower.new.self lt here c.args.t.now c.args.to c.requires.one c.lower.ensures)

pub returns-else-is_empty-clause-rows : goal.returns-else-is_empty-clause-rows
returns-else-is_empty-clause-rows c = adds_written c.args.rows.now.items c.args.at c.index_mut.result.now c.lower.new.self c.requires.inside c.index_mut.ensures.value

pub returns-else-is_empty-clause-one : goal.returns-else-is_empty-clause-one
returns-else-is_empty-clause-one c = one_written c.args.rows.now.items c.args.at c.index_mut.result.now c.lower.new.self c.requires.inside c.index_mut.ensures.value c.requires.one

pub returns-else-is_empty-clause-behind : goal.returns-else-is_empty-clause-behind
returns-else-is_empty-clause-behind c gone none = behind_written c.args.rows.now.items c.args.at c.index_mut.result.now c.lower.new.self c.requires.inside c.index_mut.ensures.value c.args.t.now
    (c.lower.ensures c.args.t.now ∙ cond-true (same_txn c.args.t.now c.args.t.now) c.args.to (mode_of c.index_mut.result.now.1 c.args.t.now) (same-txn c.args.t.now) ∙ gone) none
