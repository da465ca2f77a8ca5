use Rattle.std.proofs.Common.{◌<◌, length, get_or, None, sym, subst}
use Rattle.sd_reclock.specs.Locks.{Held}
use Rattle.sd_reclock.specs.Placing.{IsOneEach}
use Rattle.sd_reclock.proofs.Writes.{PutsRid}
use Rattle.sd_reclock.proofs.Placing.{Entry, one_remove, takes_row}
use Rattle.sd_reclock.proofs.few.Few.take.Goals as goal

pub invariant_of-self : goal.invariant_of-self
invariant_of-self c = subst (λ (ys : Held). IsOneEach ys) (sym c.remove.ensures.items) (one_remove c.self.inside.rows.items c.args.at c.self.invariant)

pub returns : goal.returns
returns c = record {
  taken = subst (λ (old : Held). (d : Entry) → PutsRid old c.remove.new.self.items (get_or old c.args.at d).0 None) c.self.view_is
      (λ d. subst (λ (ys : Held). PutsRid c.self.inside.rows.items ys (get_or c.self.inside.rows.items c.args.at d).0 None) (sym c.remove.ensures.items)
      (takes_row c.self.inside.rows.items c.args.at d c.self.invariant (subst (λ (l : Held). c.args.at < length l) (sym c.self.view_is) c.requires.inside)));
}
