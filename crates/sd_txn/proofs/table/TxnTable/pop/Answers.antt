use Rattle.std.proofs.Common.{◌-◌, sym, ap, refl, subst, ◌∙◌, arith, rules}
use Rattle.std.specs.Map.{set_value}
use Rattle.sd_base.specs.Ids.{same_txn}
use Rattle.sd_txn.specs.declared.owed.Owed.{Owed}
use Rattle.sd_txn.specs.Kept.{IsTable}
use Rattle.sd_txn.specs.Transactions.{Transaction, popped}
use Rattle.sd_txn.specs.contracts.table.TxnTable.{the_view}
use Rattle.sd_txn.proofs.Keyed.{changed, sets}
use Rattle.sd_txn.proofs.Stacks.{depth-popped, undo_of-popped}
use Rattle.sd_txn.proofs.Steps.{IsTable-popped, IsTable-popped_none, IsWithin-part}
use Rattle.sd_txn.proofs.table.TxnTable.pop.Goals as goal

pub overflow_sub-self : goal.overflow_sub-self
overflow_sub-self c =
    let y = c.in_ok-get_mut.field-0.now in
    let part = IsWithin-part c.self.inside.owed c.self.inside.txns c.self.invariant c.args.t.now y (sym c.in_ok-get_mut.ensures.value) in
    omega (arith, part.undo, undo_of-popped y c.in_ok-rec.rec (sym c.in_ok-rec.ensures.value), c.undo_len.ensures)

pub overflow_sub-self-2 : goal.overflow_sub-self-2
overflow_sub-self-2 c =
    let y = c.in_ok-get_mut.field-0.now in
    let part = IsWithin-part c.self.inside.owed c.self.inside.txns c.self.invariant c.args.t.now y (sym c.in_ok-get_mut.ensures.value) in
    omega (arith, part.records, depth-popped y c.in_ok-rec.rec (sym c.in_ok-rec.ensures.value))

pub invariant_of-self-in_err-rec : goal.invariant_of-self-in_err-rec
invariant_of-self-in_err-rec c =
    subst (IsTable c.self.inside.owed) (sym (c.get_mut.follows.holds c.pop.new.self ∙ ap (λ (x : Transaction). set_value (same_txn c.args.t.now) c.self.inside.txns x) c.pop.ensures.rest))
    (IsTable-popped_none c.self.inside.owed c.self.inside.txns c.self.invariant c.args.t.now c.in_ok-get_mut.field-0.now (sym c.in_ok-get_mut.ensures.value) (sym c.in_err-rec.ensures.value))

pub invariant_of-self-2 : goal.invariant_of-self-2
invariant_of-self-2 c =
    let y = c.in_ok-get_mut.field-0.now in
    let at = sym c.in_ok-get_mut.ensures.value in
    let part = IsWithin-part c.self.inside.owed c.self.inside.txns c.self.invariant c.args.t.now y at in
    let last = sym c.in_ok-rec.ensures.value in
    let owed : Owed = record { undo = c.self.inside.owed.undo - c.undo_len.result; records = c.self.inside.owed.records - 1; spans = c.self.inside.owed.spans } in
    subst (IsTable owed) (sym (c.get_mut.follows.holds c.pop.new.self ∙ ap (λ (x : Transaction). set_value (same_txn c.args.t.now) c.self.inside.txns x) c.pop.ensures.rest))
    (IsTable-popped c.self.inside.owed c.self.inside.txns c.self.invariant c.args.t.now y at owed c.in_ok-rec.rec last
    (omega (arith, part.undo, undo_of-popped y c.in_ok-rec.rec last, c.undo_len.ensures)) (omega (arith, part.records, depth-popped y c.in_ok-rec.rec last)) refl)

pub returns-in_err-rec : goal.returns-in_err-rec
returns-in_err-rec c =
    let s = sets (the_view c.self.inside) c.args.self.now c.self.view_is (c.get_mut.follows.lender c.pop.new.self) c.args.t.now c.in_ok-get_mut.field-0.now c.pop.new.self (c.get_mut.follows.holds c.pop.new.self) (sym c.in_ok-get_mut.ensures.value) in
    record { value = search rules; changed = changed popped _ _ _ _ _ s c.pop.ensures.rest; others = s.others; order = s.order }

pub returns : goal.returns
returns c =
    let s = sets (the_view c.self.inside) c.args.self.now c.self.view_is (c.get_mut.follows.lender c.pop.new.self) c.args.t.now c.in_ok-get_mut.field-0.now c.pop.new.self (c.get_mut.follows.holds c.pop.new.self) (sym c.in_ok-get_mut.ensures.value) in
    record { value = search rules; changed = changed popped _ _ _ _ _ s c.pop.ensures.rest; others = s.others; order = s.order }
