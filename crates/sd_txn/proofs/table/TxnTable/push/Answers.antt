use Rattle.std.proofs.Common.{◌+◌, sym, ap, refl, subst, ◌∙◌, arith, rules}
use Rattle.std.specs.Map.{set_value}
use Rattle.std.specs.Option.{option_copied_mut}
use Rattle.sd_base.specs.Ids.{same_txn}
use Rattle.sd_txn.specs.declared.owed.Owed.{Owed}
use Rattle.sd_txn.specs.Kept.{IsTable}
use Rattle.sd_txn.specs.Transactions.{Transaction, pushed}
use Rattle.sd_txn.specs.contracts.table.TxnTable.{the_view}
use Rattle.sd_txn.proofs.Keyed.{changed, same, sets}
use Rattle.sd_txn.proofs.Marks.{at_err}
use Rattle.sd_txn.proofs.Steps.{IsTable-pushed, IsTable-same}
use Rattle.sd_txn.proofs.Sums.{records-le}
use Rattle.sd_txn.proofs.table.TxnTable.push.Goals as goal

pub overflow_add-self : goal.overflow_add-self
overflow_add-self c =
    let sum = c.in-Some.ensures in
    omega (arith, sum.0, sum.1, c.undo_len.ensures, records-le c.self.inside.txns, c.self.invariant.undo, c.self.invariant.records)

pub invariant_of-self : goal.invariant_of-self
invariant_of-self c =
    let at = sym c.get_mut.ensures.value ∙ ap option_copied_mut c.unwrap.ensures in
    subst (IsTable c.self.inside.owed) (sym (c.get_mut.follows.holds c.push.new.self ∙ ap (λ (x : Transaction). set_value (same_txn c.args.t.now) c.self.inside.txns x) c.in_err-push.ensures.err))
    (IsTable-same c.self.inside.owed c.self.inside.txns c.self.invariant c.args.t.now c.unwrap.result.now at)

pub invariant_of-self-2 : goal.invariant_of-self-2
invariant_of-self-2 c =
    let at = sym c.get_mut.ensures.value ∙ ap option_copied_mut c.unwrap.ensures in
    let sum = c.in-Some.ensures in
    let owed : Owed = record { undo = c.in-Some.undo; records = c.self.inside.owed.records + 1; spans = c.self.inside.owed.spans } in
    subst (IsTable owed) (sym (c.get_mut.follows.holds c.push.new.self ∙ ap (λ (x : Transaction). set_value (same_txn c.args.t.now) c.self.inside.txns x) c.in_ok-push.ensures.ok))
    (IsTable-pushed c.self.inside.owed c.self.inside.txns c.self.invariant c.args.t.now c.unwrap.result.now at owed c.args.rec (sum.1 ∙ ap (λ n. c.self.inside.owed.undo + n) c.undo_len.ensures) refl refl)

pub returns-in_err-push : goal.returns-in_err-push
returns-in_err-push c =
    let at = sym c.get_mut.ensures.value ∙ ap option_copied_mut c.unwrap.ensures in
    let s = sets (the_view c.self.inside) c.args.self.now c.self.view_is (c.get_mut.follows.lender c.push.new.self) c.args.t.now c.unwrap.result.now c.push.new.self (c.get_mut.follows.holds c.push.new.self) at in
    record { changed = search rules; err = at_err c.from_residual.result (same _ _ _ _ _ s c.in_err-push.ensures.err); others = s.others; order = s.order }

pub returns : goal.returns
returns c =
    let at = sym c.get_mut.ensures.value ∙ ap option_copied_mut c.unwrap.ensures in
    let s = sets (the_view c.self.inside) c.args.self.now c.self.view_is (c.get_mut.follows.lender c.push.new.self) c.args.t.now c.unwrap.result.now c.push.new.self (c.get_mut.follows.holds c.push.new.self) at in
    record { changed = changed (pushed c.args.rec) _ _ _ _ _ s c.in_ok-push.ensures.ok; err = tt; others = s.others; order = s.order }
