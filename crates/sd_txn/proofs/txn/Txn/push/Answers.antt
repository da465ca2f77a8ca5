use Rattle.std.proofs.Common.{◌+◌, ◌∷◌, [], length, sum_by, vec_items, sym, ap, ◌∙◌, arith, length-append}
use Rattle.std.proofs.lemmas.List.Sums.{sum_by_push}
use Rattle.sd_txn.specs.Marked.{named}
use Rattle.sd_txn.specs.Owing.{undo_len}
use Rattle.sd_txn.proofs.Marks.{AreMarks-more}
use Rattle.sd_txn.proofs.txn.Txn.push.Goals as goal

pub invariant_of-self-2 : goal.invariant_of-self-2
invariant_of-self-2 c =
    let marks = named vec_items c.self.inside.marks.entries in
    let stack = c.self.inside.stack.items in
    let items = c.in_ok-push.ensures.items in
    let sum = c.in-Some.ensures in
    let longer = ap length items ∙ length-append stack (c.args.rec ∷ []) in
    record {
      marked = AreMarks-more marks (length stack) (length c.push.new.self.items) (omega (arith, longer)) c.self.invariant.marked;
      summed = sum.1 ∙ (λ i. c.self.invariant.summed i + c.undo_len.ensures i) ∙ sym (sum_by_push undo_len stack c.args.rec) ∙ ap (sum_by undo_len) (sym items);
    }
