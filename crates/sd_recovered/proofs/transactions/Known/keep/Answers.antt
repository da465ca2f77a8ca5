use Rattle.std.proofs.Common.{rules, inr, Some}
use Rattle.sd_base.proofs.Orders.{put-txn}
use Rattle.sd_recovered.proofs.Runs.{keeps_shut}
use Rattle.sd_recovered.proofs.transactions.Known.keep.Goals as goal

pub returns-then-branch : goal.returns-then-branch
returns-then-branch c =
    keeps_shut c.args.txn c.args.seen c.end.result c.args.self.now.closed c.put.new.self c.args.self.now.rows.entries c.end.ensures
    (c.put.ensures.put (search rules))

pub returns : goal.returns
returns c =
    inr (
      c.put.ensures.stays (search rules),
      λ q. put-txn c.args.txn q (Some c.args.seen) c.args.self.now.rows.entries c.insert.new.self.entries
          (c.in_ok-insert.ensures.updates.0 q),
    )
