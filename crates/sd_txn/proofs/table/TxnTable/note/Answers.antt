use Rattle.std.proofs.Common.{◌≡◌, ℕ, ◌+◌, cond, Bool, true, false, not, is_some, option_and_then, length, Option, sym, refl, ap, subst, ◌∙◌, arith}
use Rattle.std.specs.Map.{set_value}
use Rattle.std.specs.Option.{option_copied_mut}
use mir.Val.{bool_byte}
use Rattle.sd_base.specs.Ids.{same_txn}
use Rattle.sd_txn.specs.declared.owed.Owed.{Owed}
use Rattle.sd_txn.specs.Kept.{IsTable}
use Rattle.sd_txn.specs.Transactions.{Transaction, Transactions, noted, txn_at}
use Rattle.sd_txn.specs.contracts.table.TxnTable.{the_view}
use Rattle.sd_txn.proofs.Keyed.{changed, sets}
use Rattle.sd_txn.proofs.Steps.{IsTable-noted}
use Rattle.sd_txn.proofs.Sums.{spans-first}
use Rattle.sd_txn.proofs.table.TxnTable.note.Goals as goal

-- the first record is counted
first-is : (span : Option (ℕ × ℕ)) (first : Bool) → is_some span ≡ not first → bool_byte first ≡ cond (is_some span) 0 1
first-is span true e = ap (λ b. cond b 0 1) (sym e)
first-is span false e = ap (λ b. cond b 0 1) (sym e)

pub overflow_add-self : goal.overflow_add-self
overflow_add-self c =
    let t = c.args.t.now in
    let at = sym c.get_mut.ensures.value ∙ ap option_copied_mut c.unwrap-txn.ensures in
    let span = c.span.ensures ∙ sym (ap (option_and_then (λ (x : Transaction). x.span)) at) in
    let one = c.from.ensures ∙ first-is c.span.result c.is_none-first.result c.is_none-first.ensures ∙ ap (λ o. cond (is_some o) 0 1) span in
    let there = subst (λ (table : Transactions). is_some (txn_at table t) ≡ true) (sym c.self.view_is) c.requires in
    let few = ap (λ (table : Transactions). length table.unresolved) c.self.view_is in
    omega (arith, one, spans-first (same_txn t) c.self.inside.txns there, c.self.invariant.spans, few, c.keeps.ensures.few)

pub invariant_of-self : goal.invariant_of-self
invariant_of-self c =
    let t = c.args.t.now in
    let y = c.unwrap-txn.result.now in
    let at = sym c.get_mut.ensures.value ∙ ap option_copied_mut c.unwrap-txn.ensures in
    let span = c.span.ensures in
    let one = c.from.ensures ∙ first-is c.span.result c.is_none-first.result c.is_none-first.ensures ∙ ap (λ o. cond (is_some o) 0 1) span in
    let owed : Owed = record { undo = c.self.inside.owed.undo; records = c.self.inside.owed.records; spans = c.self.inside.owed.spans + c.from.result } in
    subst (IsTable owed) (sym (c.get_mut.follows.holds c.note.new.self ∙ ap (λ (x : Transaction). set_value (same_txn t) c.self.inside.txns x) c.note.ensures))
    (IsTable-noted c.self.inside.owed c.self.inside.txns c.self.invariant t y at owed c.args.lsn refl refl (ap (λ n. c.self.inside.owed.spans + n) one))

pub returns : goal.returns
returns c =
    let at = sym c.get_mut.ensures.value ∙ ap option_copied_mut c.unwrap-txn.ensures in
    let s = sets (the_view c.self.inside) c.args.self.now c.self.view_is (c.get_mut.follows.lender c.note.new.self) c.args.t.now c.unwrap-txn.result.now c.note.new.self (c.get_mut.follows.holds c.note.new.self) at in
    record { changed = changed (noted c.args.lsn) _ _ _ _ _ s c.note.ensures; others = s.others; order = s.order }
