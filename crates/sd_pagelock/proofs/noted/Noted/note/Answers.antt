use Rattle.std.proofs.Common.{◌≡◌, ◌<◌, ◌/◌, ℕ, List, length, get_or, sym, ap, ◌∙◌, arith}
use Rattle.std.specs.Prelude.{slice_set}
use Rattle.std.proofs.lemmas.List.{get_or_read}
use Rattle.sd_base.specs.declared.set.InstSet.{InstSet}
use Rattle.sd_base.specs.Sets.{has, members}
use Rattle.sd_pagelock.specs.Noted.{is_noted}
use Rattle.sd_pagelock.proofs.Groups.{none, grouped-note, set-here, set-others}
use Rattle.sd_pagelock.proofs.noted.Noted.note.Goals as goal

pub invariant_of-self : goal.invariant_of-self
invariant_of-self c =
    let pages = c.self.inside.pages.items in
    let groups = c.self.inside.groups.items in
    let g = c.get.result / 32 in
    let lt : g < length groups = omega (arith, c.get.ensures.range, c.self.invariant.grouped) in
    let there : c.index.result.now ≡ get_or groups g none = get_or_read groups g c.index.result.now lt c.index.ensures none in
    grouped-note pages groups c.get-at.result g c.users-now.result c.both.result c.self.invariant c.get-at.ensures.range
    (ap (λ (n : ℕ). n / 32) (c.get.ensures.value ∙ sym c.get-at.ensures.value))
    (λ k is. c.both.ensures.left k (ap (λ (x : InstSet). has k (members x.bits)) there ∙ is))
    c.both.ensures.right

pub returns-clause-here : goal.returns-clause-here
returns-clause-here c = λ k.
    let lt : c.get-at.result < length c.self.inside.pages.items = omega (arith, c.get-at.ensures.range, c.self.invariant.count) in
    ap (λ (n : ℕ). is_noted (slice_set c.self.inside.pages.items c.get-at.result c.users-now.result) n k) (sym c.get-at.ensures.value)
    ∙ set-here c.self.inside.pages.items c.get-at.result k c.users-now.result lt ∙ c.users-now.ensures k

pub returns-clause-others : goal.returns-clause-others
returns-clause-others c = λ q k ne.
    set-others c.self.inside.pages.items c.get-at.result q k c.users-now.result (λ e. ne (e ∙ c.get-at.ensures.value))
    ∙ ap (λ (x : List InstSet). is_noted x q k) c.self.view_is
