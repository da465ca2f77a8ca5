use Rattle.std.proofs.Common.{ap, ◌∙◌}
use Rattle.sd_logrec.specs.declared.record.Record.{Record}
use Rattle.sd_logrec.specs.View.{flat}
use Rattle.sd_log.proofs.Spelling.{entry_found, found_at, slot_within}
use Rattle.sd_log.proofs.spellings.Spellings.lsn.Goals as goal

pub index-requires : goal.index-requires
index-requires c = slot_within c.self.inside c.args.self.now c.args.index c.self.invariant c.self.view_is c.requires

pub returns : goal.returns
returns c e there =
    let s = c.index.result.now in
    let f = found_at c.self.inside c.args.self.now c.args.index s c.self.invariant c.self.view_is c.requires c.index.ensures in
    f.lsn ∙ ap (λ (r : Record). (flat r).lsn) (entry_found c.self.inside c.args.self.now c.args.index s f e there)
