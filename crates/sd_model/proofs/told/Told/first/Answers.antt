use Rattle.sd_model.proofs.Booked.{first-help, first-line, parted}
use Rattle.sd_model.proofs.told.Told.first.Goals as goal

pub returns-in-Help : goal.returns-in-Help
returns-in-Help c =
    first-help c.args.self.noted.now _ c.args.self.lines.now c.args.self.whole.now c.first-item.result
    (parted c.args.self.noted.now c.first-item.result c.in-len1-up.len_at_least c.first-item.is)
    c.in-Help.session c.in-Help.page c.in-Help.inst c.in-Help.deed c.in-Help.answer c.in-Help.named c.in-Help.is

pub returns-in-len1-up-lines : goal.returns-in-len1-up-lines
returns-in-len1-up-lines c =
    first-line c.args.self.noted.now _ c.args.self.lines.now _ c.args.self.whole.now c.first-item.result c.short-item.result
    (parted c.args.self.noted.now c.first-item.result c.in-len1-up.len_at_least c.first-item.is) c.in-Line.is
    (parted c.args.self.lines.now c.short-item.result c.in-len1-up-lines.len_at_least c.short-item.is)
