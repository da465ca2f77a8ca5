use Rattle.std.proofs.Common.{◌≡◌, ap, arith, filter, leb, length, rules, subst, sum_by, sym, vec_items, ◌∙◌}
use Rattle.std.proofs.lemmas.List.Sums.{sum_by_push}
use Rattle.sd_txn.specs.Marked.{named, AreMarks}
use Rattle.sd_txn.specs.Owing.{undo_len}
use Rattle.sd_txn.specs.Transactions.{popped, top}
use Rattle.sd_txn.specs.contracts.txn.Txn.{the_view}
use Rattle.sd_txn.proofs.Marks.{AreMarks-trimmed}
use Rattle.sd_txn.proofs.Stacks.{empty-length, popped-empty, top-push}
use Rattle.sd_txn.proofs.txn.Txn.pop.Goals as goal

pub returns-in_err-top-clause-rest : goal.returns-in_err-top-clause-rest
returns-in_err-top-clause-rest c =
    let none : length c.self.inside.stack.items ≡ 0 = search (rules, c.in_err-top.ensures.cases) in
    let old = empty-length c.self.inside.stack.items none in
    let left : length c.pop.new.self.items ≡ 0 = search (rules, c.in_err-top.ensures.cases) in
    let new = empty-length c.pop.new.self.items left in
    (λ i. record { state = c.self.inside.state; marks = named vec_items c.self.inside.marks.entries; stack = (new ∙ sym old) i; span = c.self.inside.span })
    ∙ sym (popped-empty (the_view c.self.inside) old c.self.invariant.marked) ∙ ap popped c.self.view_is

pub invariant_of-self-2 : goal.invariant_of-self-2
invariant_of-self-2 c =
    let old = named vec_items c.self.inside.marks.entries in
    let left : c.len.result ≡ length c.pop.new.self.items = search rules in
    let taken = ap (sum_by undo_len) c.in_ok-top.ensures.items ∙ sum_by_push undo_len c.pop.new.self.items c.in_ok-top.top in
    record {
      marked = subst (λ marks. AreMarks marks (length c.pop.new.self.items)) (sym (c.trim.ensures ∙ ap (λ n. filter (λ mark. leb mark.1 n) old) left))
          (AreMarks-trimmed (length c.pop.new.self.items) old c.self.invariant.marked.rising);
      summed = omega (arith, taken, c.self.invariant.summed, c.undo_len.ensures);
    }

pub returns-clause-value : goal.returns-clause-value
returns-clause-value c = sym (top-push (the_view c.self.inside) c.pop.new.self.items c.in_ok-top.top c.in_ok-top.ensures.items) ∙ ap top c.self.view_is

pub overflow_sub-self : goal.overflow_sub-self
overflow_sub-self c =
    let taken = ap (sum_by undo_len) c.in_ok-top.ensures.items ∙ sum_by_push undo_len c.pop.new.self.items c.in_ok-top.top in
    omega (arith, taken, c.self.invariant.summed, c.undo_len.ensures)
