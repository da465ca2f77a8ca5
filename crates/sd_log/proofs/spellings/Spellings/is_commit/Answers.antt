use Rattle.std.proofs.Common.{◌≤◌, List, ℕ, length, drop, sym, ap, subst, ◌∙◌}
use Rattle.sd_logrec.specs.View.{is_commit_of}
use Rattle.sd_log.proofs.Spelling.{entry_found, found_at, slot_within}
use Rattle.sd_log.proofs.spellings.Spellings.is_commit.Goals as goal

pub index-requires : goal.index-requires
index-requires c = slot_within c.self.inside c.args.self.now c.args.index c.self.invariant c.self.view_is c.requires

pub is_commit_at-requires : goal.is_commit_at-requires
is_commit_at-requires c =
    let s = c.index.result.now in
    let f = found_at c.self.inside c.args.self.now c.args.index s c.self.invariant c.self.view_is c.requires c.index.ensures in
    record { inside = subst (λ (l : List ℕ). s.at ≤ length l) (sym c.deref.ensures.value) f.within }

pub returns : goal.returns
returns c e there =
    let s = c.index.result.now in
    let f = found_at c.self.inside c.args.self.now c.args.index s c.self.invariant c.self.view_is c.requires c.index.ensures in
    c.is_commit_at.ensures f.rec f.behind f.fits (ap (drop s.at) c.deref.ensures.value ∙ f.stands)
    ∙ ap (is_commit_of c.args.t.now) (entry_found c.self.inside c.args.self.now c.args.index s f e there)
