use Rattle.std.proofs.Common.{sym, ap, subst, ◌∙◌}
use Rattle.std.specs.Map.{set_value}
use Rattle.std.specs.Prelude.{Some}
use Rattle.std.specs.Option.{option_and_then, option_copied_mut, option_map_or}
use Rattle.sd_base.specs.Ids.{same_txn}
use Rattle.sd_txn.specs.Kept.{IsTable}
use Rattle.sd_txn.specs.Transactions.{Transaction, depth, mark_of, saved}
use Rattle.sd_txn.specs.contracts.table.TxnTable.{the_view}
use Rattle.sd_txn.proofs.Keyed.{changed, same, sets}
use Rattle.sd_txn.proofs.Marks.{either_way, err_so, ok_so}
use Rattle.sd_txn.proofs.Steps.{IsTable-same, IsTable-saved}
use Rattle.sd_txn.proofs.table.TxnTable.save.Goals as goal

pub invariant_of-self : goal.invariant_of-self
invariant_of-self c =
    let owed = c.self.inside.owed in
    let txns = c.self.inside.txns in
    let t = c.args.t.now in
    let y = c.unwrap.result.now in
    let at = sym c.get_mut.ensures.value ∙ ap option_copied_mut c.unwrap.ensures in
    let written = λ (x : Transaction). set_value (same_txn t) txns x in
    subst (IsTable owed) (sym (c.get_mut.follows.holds c.save.new.self)) (either_way c.save.result c.save.ensures.ok c.save.ensures.err
    (λ ok. subst (IsTable owed) (sym (ap written ok)) (IsTable-saved owed txns c.self.invariant t y at c.args.mark))
    (λ err. subst (IsTable owed) (sym (ap written err)) (IsTable-same owed txns c.self.invariant t y at)))

pub returns : goal.returns
returns c =
    let at = sym c.get_mut.ensures.value ∙ ap option_copied_mut c.unwrap.ensures in
    let s = sets (the_view c.self.inside) c.args.self.now c.self.view_is (c.get_mut.follows.lender c.save.new.self) c.args.t.now c.unwrap.result.now c.save.new.self (c.get_mut.follows.holds c.save.new.self) at in
    record {
      changed = ok_so c.save.result (changed (saved c.args.mark) _ _ _ _ _ s) c.save.ensures.ok;
      number = ok_so c.save.result
          (λ n. ap (option_and_then (mark_of c.args.mark)) s.now ∙ n ∙ ap (λ k. Some k) (sym (ap (λ o. option_map_or depth o 0) s.was)))
          c.save.ensures.number;
      err = err_so c.save.result (same _ _ _ _ _ s) c.save.ensures.err;
      others = s.others;
      order = s.order;
    }
