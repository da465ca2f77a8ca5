use Rattle.std.proofs.Common.{◌∙◌, set, refl, ap, arith}
use Rattle.std.proofs.lemmas.List.{get_or_default}
use Rattle.sd_log.proofs.Paging.{pushed_pages}
use Rattle.sd_log.proofs.pages.PageChains.push.Goals as goal

pub invariant_of-self : goal.invariant_of-self
invariant_of-self c =
    let heads = c.self.invariant.heads in
    let low = c.chain_of-chain.ensures.within in
    pushed_pages c.self.inside c.push_reserved.new.self _ (record { chain = c.chain_of-chain.result; before = c.index-before.result.now }) c.self.invariant
    c.push_reserved.ensures.items c.push_reserved.ensures.len low (c.index-before.ensures ∙ get_or_default c.self.inside.last.items c.chain_of-chain.result c.index-before.result.now 0 (omega (arith, c.self.inside.last.ok.0)))
    (ap (set c.self.inside.last.items c.chain_of-chain.result) c.len.ensures) refl
