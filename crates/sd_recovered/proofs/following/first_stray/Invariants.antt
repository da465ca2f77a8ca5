use Rattle.std.proofs.Common.{drop}
use Rattle.sd_recovered.specs.Following.{as_past}
use Rattle.sd_recovered.specs.Masters.{kept_master}
use Rattle.sd_recovered.proofs.Follows.{Goes}
use Rattle.sd_recovered.proofs.following.first_stray.Given as goal

abbrev pub invariant-loop-p : goal.invariant-loop-p
invariant-loop-p l = Goes l.inst l.chosen (kept_master l.m) l.records (drop l.p-index l.records) (as_past l.past) l.later
