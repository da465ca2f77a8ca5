use Rattle.sd_recovered.proofs.Follows.{known_case}
use Rattle.sd_recovered.proofs.following.start_fits.Goals as goal

pub returns-then-lsn-m : goal.returns-then-lsn-m
returns-then-lsn-m c rest e = known_case _ _ c.args.chosen c.known_fits.result c.args.lsn c.args.m.check c.if-chosen.true c.if-lsn-m.true (c.known_fits.ensures rest e)
