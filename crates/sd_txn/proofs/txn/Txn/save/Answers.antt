use Rattle.std.proofs.Common.{◌≡◌, Some, ap, length, rules, subst, sym, vec_items, ◌∙◌}
use Rattle.std.specs.Map.{lookup}
use Rattle.std.specs.Str.{bytes_eq}
use Rattle.sd_txn.specs.Marked.{named, AreMarks}
use Rattle.sd_txn.specs.Transactions.{Transaction, depth, saved, with_mark}
use Rattle.sd_txn.proofs.Marks.{at_err, AreMarks-with_mark}
use Rattle.sd_txn.proofs.txn.Txn.save.Goals as goal

pub invariant_of-self-2 : goal.invariant_of-self-2
invariant_of-self-2 c =
    let old = named vec_items c.self.inside.marks.entries in
    let name = c.in_ok-name.name.items in
    let depth : c.len.result ≡ length c.self.inside.stack.items = search rules in
    record {
      marked = subst (λ marks. AreMarks marks (length c.self.inside.stack.items)) (sym (c.in_ok-put_mark.ensures.ok ∙ ap (λ n. with_mark name n old) depth))
          (AreMarks-with_mark old (length c.self.inside.stack.items) name c.self.invariant.marked);
      summed = c.self.invariant.summed;
    }

pub returns-clause-ok : goal.returns-clause-ok
returns-clause-ok c =
    let old = named vec_items c.self.inside.marks.entries in
    let name : c.in_ok-name.name.items ≡ c.args.mark = search rules in
    let open_now : c.len.result ≡ length c.self.inside.stack.items = search rules in
    (λ i. record {
      state = c.self.inside.state;
      marks = (c.in_ok-put_mark.ensures.ok ∙ (λ j. with_mark (name j) (open_now j) old)) i;
      stack = c.self.inside.stack.items;
      span = c.self.inside.span;
    })
    ∙ ap (saved c.args.mark) c.self.view_is

pub returns-clause-number : goal.returns-clause-number
returns-clause-number c =
    let name : c.in_ok-name.name.items ≡ c.args.mark = search rules in
    let open_now : c.len.result ≡ length c.self.inside.stack.items = search rules in
    ap (λ bytes. lookup (bytes_eq bytes) (named vec_items c.put_mark.new.marks.entries)) (sym name)
    ∙ c.in_ok-put_mark.ensures.number ∙ ap (λ n. Some n) open_now ∙ ap (λ (x : Transaction). Some (depth x)) c.self.view_is

pub returns-in_err-put_mark-clause-err : goal.returns-in_err-put_mark-clause-err
returns-in_err-put_mark-clause-err c = at_err _
    ((λ i. record {
      state = c.self.inside.state;
      marks = c.in_err-put_mark.ensures.err i;
      stack = c.self.inside.stack.items;
      span = c.self.inside.span;
    })
    ∙ c.self.view_is)
