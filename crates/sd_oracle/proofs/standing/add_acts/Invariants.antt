use Rattle.std.proofs.Common.{◌≡◌, ◌++◌, take}
use Rattle.sd_oracle.proofs.standing.add_acts.Given as goal

abbrev pub invariant-loop-act : goal.invariant-loop-act
invariant-loop-act l = l.all.items ≡ l.fn.all.items ++ take l.act-index l.acts
