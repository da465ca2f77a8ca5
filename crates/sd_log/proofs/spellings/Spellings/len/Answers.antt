use Rattle.std.proofs.Common.{sym, ◌∙◌}
use Rattle.sd_log.proofs.Spelling.{entry_count}
use Rattle.sd_log.proofs.spellings.Spellings.len.Goals as goal

pub returns : goal.returns
returns c = c.len.ensures ∙ c.self.inside.slots.ok.0 ∙ sym (entry_count c.self.inside c.args.self.now c.self.invariant c.self.view_is)
