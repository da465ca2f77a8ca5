use Rattle.std.proofs.Common.{◌≡◌, [], length}
use Rattle.sd_model.specs.Booked.{entries_in}
use Rattle.sd_report.specs.Report.{upto}
use Rattle.sd_report.specs.Undone.{open_pages}
use Rattle.sd_report.proofs.undone.last_page.Given as goal

-- what isn't undone behind the entries so far, and those that are left up to the line's
abbrev pub invariant-loop-seen : goal.invariant-loop-seen
invariant-loop-seen l =
    open_pages l.txn l.pages.items (upto l.number (entries_in l.rest)) ≡ open_pages l.txn [] (upto l.number (entries_in l.entries))

abbrev pub decreases-loop-seen : goal.decreases-loop-seen
decreases-loop-seen l = length (entries_in l.rest)
