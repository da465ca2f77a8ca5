use Rattle.std.proofs.Common.{◌<◌, length, sym, subst}
use Rattle.sd_reclock.specs.Locks.{Held}
use Rattle.sd_reclock.proofs.Placed.{weaker_row}
use Rattle.sd_reclock.proofs.few.Few.lower.Goals as goal

pub lower_at-requires : goal.lower_at-requires
lower_at-requires c = record {
  one = c.self.invariant;
  inside = subst (λ (l : Held). c.args.at < length l) (sym c.self.view_is) c.requires.inside;
  weaker = weaker_row c.self.inside.rows.items c.args.self.now c.args.at c.args.t.now c.args.to c.self.view_is c.self.invariant c.requires.inside c.requires.weaker;
}
