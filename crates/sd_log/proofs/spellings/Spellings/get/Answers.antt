use Rattle.std.proofs.Common.{drop, ap, ◌∙◌}
use Rattle.sd_log.proofs.Spelling.{found_at, read_is, slot_within}
use Rattle.sd_log.proofs.spellings.Spellings.get.Goals as goal

pub index-slot-requires : goal.index-slot-requires
index-slot-requires c = slot_within c.self.inside c.args.self.now c.args.index c.self.invariant c.self.view_is c.requires

pub returns-in-Ok : goal.returns-in-Ok
returns-in-Ok c =
    let s = c.index-slot.result.now in
    let f = found_at c.self.inside c.args.self.now c.args.index s c.self.invariant c.self.view_is c.requires c.index-slot.ensures in
    let taken = c.take.ensures.taken f.rec f.behind f.fits (ap (drop s.at) c.deref.ensures.value ∙ f.stands) in
    f.entry ∙ read_is s.place _ _ _ _ _ taken c.in-Ok.is
