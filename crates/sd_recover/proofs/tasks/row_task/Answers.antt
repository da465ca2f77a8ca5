use Rattle.std.proofs.Common.{rules, sym}
use Rattle.sd_txn.specs.Transactions.{top_at}
use Rattle.sd_recover.proofs.Owns.{open-loser}
use Rattle.sd_recover.proofs.Nexts.{its-page}
use Rattle.sd_recover.proofs.tasks.row_task.Goals as goal

pub page_of-page-requires : goal.page_of-page-requires
page_of-page-requires c = (open-loser c.args.table.now c.in-Some-last_open.txn (sym c.in-Some-last_open.ensures)).1

pub returns-in-Some-last_open : goal.returns-in-Some-last_open
returns-in-Some-last_open c = (
  search rules,
  sym c.in-Some-last_open.ensures,
  its-page (top_at c.args.table.now c.in-Some-last_open.txn)
      (open-loser c.args.table.now c.in-Some-last_open.txn (sym c.in-Some-last_open.ensures)).1 c.page_of-page.result c.page_of-page.ensures,
)
