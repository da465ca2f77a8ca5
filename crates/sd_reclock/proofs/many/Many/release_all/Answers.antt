use Rattle.std.proofs.Common.{Option, None, cond, ap, sym, subst, ◌∙◌, List, ◌&&◌}
use Rattle.std.specs.List.{list_any}
use Rattle.std.specs.Global.{Vec}
use Rattle.sd_base.specs.declared.ids.Rid.{Rid}
use Rattle.sd_base.specs.declared.place.Mode.{Mode}
use Rattle.sd_base.specs.Ids.{same_txn, same_rid}
use Rattle.sd_reclock.specs.Locks.{Agree, Held, held_in}
use Rattle.sd_reclock.specs.Indexing.{rids_of}
use Rattle.sd_reclock.proofs.Agreeing.{Frees, frees, frees_nothing, indexed_freed, agree_freed}
use Rattle.sd_reclock.proofs.Marking.{marked_freed}
use Rattle.sd_reclock.proofs.many.Many.release_all.Goals as goal
use Rattle.sd_base.proofs.Orders.{look-txn, put-txn}

freed : (c : goal.After-unmark) → Frees c.self.inside.records.entries c.release_each.new.records.entries c.args.t.now
freed c = frees c.self.inside.records.entries c.release_each.new.records.entries c.self.inside.index.entries c.args.t.now c.in-Some.rids.items c.self.invariant.0
    (λ q. sym (ap (λ (o : Option (Vec Rid)). list_any (same_rid q) (rids_of o)) (c.in-Some.ensures.value ∙ look-txn c.args.t.now c.self.inside.index.entries)))
    (λ u q. c.release_each.ensures u q ∙ ap (λ (rids : List Rid). cond {A = Option Mode} (same_txn c.args.t.now u && list_any (same_rid q) rids) None (held_in c.self.inside.records.entries u q)) c.deref.ensures.value)

agrees : (c : goal.After-unmark) → Agree c.release_each.new.records.entries
agrees c = agree_freed c.self.inside.records.entries c.release_each.new.records.entries c.args.t.now (freed c) c.self.invariant.1

pub returns-in-Some-clause-agree : goal.returns-in-Some-clause-agree
returns-in-Some-clause-agree c = agrees c

pub invariant_of-self : goal.invariant_of-self
invariant_of-self c = (
  indexed_freed c.self.inside.records.entries c.release_each.new.records.entries c.self.inside.index.entries c.remove.new.self.entries c.args.t.now c.self.invariant.0 (freed c)
      (λ u. put-txn c.args.t.now u None c.self.inside.index.entries c.remove.new.self.entries (c.remove.ensures.updates.0 u)),
  agrees c,
  c.unmark.ensures (marked_freed c.self.inside.records.entries c.release_each.new.records.entries c.self.inside.pages c.args.t.now c.self.invariant.2 (freed c)),
)

pub returns-in-Some-clause-released : goal.returns-in-Some-clause-released
returns-in-Some-clause-released c = subst (λ (locks : Held). Frees locks c.release_each.new.records.entries c.args.t.now) c.self.view_is (freed c)

pub returns-in_default-clause-released : goal.returns-in_default-clause-released
returns-in_default-clause-released c = subst (λ (locks : Held). Frees locks c.self.inside.records.entries c.args.t.now) c.self.view_is
    (frees_nothing c.self.inside.records.entries c.self.inside.index.entries c.args.t.now c.self.invariant.0
    (λ q. sym (ap (λ (o : Option (Vec Rid)). list_any (same_rid q) (rids_of o)) (c.in_default.ensures.value ∙ look-txn c.args.t.now c.self.inside.index.entries))))
