use Rattle.std.proofs.Common.{ap, length, subst, sum_by, sym, vec_items}
use Rattle.sd_txn.specs.Marked.{named, AreMarks}
use Rattle.sd_txn.specs.Owing.{undo_len}
use Rattle.sd_txn.proofs.Marks.{AreMarks-trimmed}
use Rattle.sd_txn.proofs.txn.Txn.shut.Goals as goal

pub invariant_of-self : goal.invariant_of-self
invariant_of-self c =
    let old = named vec_items c.self.inside.marks.entries in
    record {
      marked = subst (AreMarks (named vec_items c.trim.new.marks.entries)) (sym (ap length c.clear.ensures.items))
          (subst (λ marks. AreMarks marks 0) (sym c.trim.ensures) (AreMarks-trimmed 0 old c.self.invariant.marked.rising));
      summed = sym (ap (sum_by undo_len) c.clear.ensures.items);
    }
