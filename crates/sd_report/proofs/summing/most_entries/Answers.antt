use Rattle.std.proofs.Common.{arith}
use Rattle.sd_report.proofs.Accounts.{entries_within}
use Rattle.sd_report.proofs.summing.most_entries.Goals as goal

pub returns : goal.returns
returns c =
    let all = c.args.entries in
    omega (arith, entries_within all.noted.now all.lines.now all.whole.now)
