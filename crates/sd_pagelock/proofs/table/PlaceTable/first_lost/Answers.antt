use Rattle.std.proofs.Common.{◌∙◌, ap}
use Rattle.sd_pagelock.proofs.Counts.{lost_at, first-found, first-lowest, first-none}
use Rattle.sd_pagelock.proofs.table.PlaceTable.first_lost.Goals as goal

pub returns-clause-found : goal.returns-clause-found
returns-clause-found c = first-found c.args.self.now c.lost_page.result (c.lost_page.ensures ∙ ap lost_at (c.deref.ensures.value ∙ c.self.view_is))

pub returns-clause-lowest : goal.returns-clause-lowest
returns-clause-lowest c = first-lowest c.args.self.now c.lost_page.result (c.lost_page.ensures ∙ ap lost_at (c.deref.ensures.value ∙ c.self.view_is))

pub returns-clause-none : goal.returns-clause-none
returns-clause-none c = first-none c.args.self.now c.lost_page.result (c.lost_page.ensures ∙ ap lost_at (c.deref.ensures.value ∙ c.self.view_is))
