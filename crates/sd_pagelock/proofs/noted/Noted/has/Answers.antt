use Rattle.std.proofs.Common.{◌≡◌, ◌<◌, List, length, get_or, sym, ap, ◌∙◌, arith}
use Rattle.std.proofs.lemmas.List.{get_or_read}
use Rattle.sd_base.specs.declared.set.InstSet.{InstSet}
use Rattle.sd_base.specs.Sets.{has, members}
use Rattle.sd_pagelock.specs.Noted.{is_noted}
use Rattle.sd_pagelock.proofs.Groups.{none, ungrouped}
use Rattle.sd_pagelock.proofs.noted.Noted.has.Goals as goal

pub returns : goal.returns
returns c = λ out q low high.
    let groups = c.self.inside.groups.items in
    let g = c.args.group in
    let i = c.args.i in
    let lt : g < length groups = omega (arith, c.requires, c.self.invariant.grouped) in
    let there : c.index.result.now ≡ get_or groups g none = get_or_read groups g c.index.result.now lt c.index.ensures none in
    ap (λ (x : List InstSet). is_noted x q i) (sym c.self.view_is)
    ∙ ungrouped c.self.inside.pages.items groups g i q c.self.invariant
    (ap (λ (x : InstSet). has i (members x.bits)) (sym there) ∙ sym c.has.ensures ∙ out) low high
