use Rattle.std.proofs.Common.{◌≡◌, None, ap, is_ok, subst, vec_items, ◌∙◌}
use Rattle.std.specs.Map.{lookup, remove_entry}
use Rattle.indexmap.proofs.CallerLemmas.{insert_entry-new}
use Rattle.sd_txn.proofs.Marks.{at_ok, is_named, named-with_mark, number-pushed}
use Rattle.sd_txn.proofs.txn.put_mark.Goals as goal

pub returns-clause-ok : goal.returns-clause-ok
returns-clause-ok c =
    let same = c.as_slice.ensures.value in
    let absent = subst (λ bytes. lookup (is_named vec_items bytes) c.shift_remove.new.self.entries ≡ None) same c.shift_remove.ensures.updates.1 in
    named-with_mark vec_items c.args.marks.now.entries c.shift_remove.new.self.entries c.insert.new.self.entries c.args.name c.args.number
    (c.shift_remove.ensures.entries ∙ (λ i. remove_entry (is_named vec_items (same i)) (c.in_ok-reserve.ensures.entries i)))
    (at_ok c.insert.result (ap is_ok c.unwrap.ensures) c.insert.ensures.entries ∙ insert_entry-new _ c.shift_remove.new.self c.args.name c.args.number absent)

pub returns-clause-number : goal.returns-clause-number
returns-clause-number c =
    let same = c.as_slice.ensures.value in
    let absent = subst (λ bytes. lookup (is_named vec_items bytes) c.shift_remove.new.self.entries ≡ None) same c.shift_remove.ensures.updates.1 in
    number-pushed vec_items c.shift_remove.new.self.entries c.insert.new.self.entries c.args.name c.args.number absent
    (at_ok c.insert.result (ap is_ok c.unwrap.ensures) c.insert.ensures.entries ∙ insert_entry-new _ c.shift_remove.new.self c.args.name c.args.number absent)
