use Rattle.std.proofs.Common.{◌≡◌, ⊎_elim, ◌<◌, ℕ, length, get_or, sym, ap, ◌∙◌, arith}
use Rattle.std.proofs.lemmas.Bool.{cases_eq}
use Rattle.std.proofs.lemmas.List.{get_or_read}
use Rattle.sd_base.specs.declared.set.InstSet.{InstSet}
use Rattle.sd_base.specs.Sets.{has, members}
use Rattle.sd_pagelock.specs.Noted.{is_noted}
use Rattle.sd_pagelock.proofs.Groups.{none}
use Rattle.sd_pagelock.proofs.noted.users_of.Goals as goal

pub loop-at-init : goal.loop-at-init
loop-at-init c = λ q k low lt is. absurd (omega (arith, low, lt))

pub loop-at-preserved : goal.loop-at-preserved
loop-at-preserved c = λ q k low lt is.
    let pages = c.args.pages.now.items in
    let at = c.loop-at.at in
    let within : at < length pages = omega (arith, c.loop-at-test.true, c.requires) in
    let there : c.index.result.now ≡ get_or pages at none = get_or_read pages at c.index.result.now within c.index.ensures none in
    ⊎_elim
    (λ same. c.both-all.ensures.right k (ap (λ (x : InstSet). has k (members x.bits)) there ∙ ap (λ (n : ℕ). is_noted pages n k) (sym same) ∙ is))
    (λ ne. c.both-all.ensures.left k (c.loop-at.invariant q k low (omega (arith, lt, ne)) is))
    (cases_eq q at)

pub returns : goal.returns
returns c = λ q k low high is. c.loop-at.invariant q k low (omega (arith, high, c.loop-at-test.false)) is
