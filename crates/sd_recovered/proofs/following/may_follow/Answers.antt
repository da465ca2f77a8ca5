use Rattle.std.proofs.Common.{arith}
use Rattle.sd_recovered.specs.Following.{as_past}
use Rattle.sd_recovered.specs.Masters.{kept_master}
use Rattle.sd_recovered.proofs.Follows.{start_case}
use Rattle.sd_recovered.proofs.following.may_follow.Goals as goal

pub returns-in-Start : goal.returns-in-Start
returns-in-Start c rest e =
    start_case c.args.inst c.args.chosen (kept_master c.args.m) (as_past c.args.past) c.in-Start.lsn c.in-Start.epoch c.args.rec.now rest c.start_fits.result c.in-Start.is (omega arith) (c.start_fits.ensures rest e)
