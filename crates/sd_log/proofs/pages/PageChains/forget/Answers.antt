use Rattle.std.proofs.Common.{◌-◌, ◌∙◌, map, drop, length, ap, refl, arith}
use Rattle.std.proofs.lemmas.List.{length-map, with_items_is}
use Rattle.std.specs.Global.{Vec}
use Rattle.std.specs.Vec.{with_items}
use Rattle.sd_log.specs.PagesInside.{PagesState, chain_of, lowered}
use Rattle.sd_log.specs.declared.pages.Link.{Link}
use Rattle.sd_log.proofs.Paging.{forgot_chains, forgot_pages}
use Rattle.sd_log.proofs.pages.PageChains.forget.Goals as goal

pub invariant_of-self : goal.invariant_of-self
invariant_of-self c =
    let p = c.self.inside in
    let n = c.args.count in
    let links : Vec Link = with_items c.drop-drain.new.self.0 c.lower_links.new.links in
    let there = ap (λ (s : PagesState). length s.chains) c.self.view_is in
    forgot_pages p links (with_items p.last c.lower.new.ends) n c.self.invariant (omega (arith, c.requires.there, there, length-map p.links.items chain_of))
    (with_items_is c.drop-drain.new.self.0 c.lower_links.new.links (c.lower_links.auto.links ∙ c.deref_mut.ensures.len) ∙ c.lower_links.ensures
    ∙ ap (map (lowered n)) (c.deref_mut.ensures.value ∙ c.drop-drain.ensures.items ∙ c.drain.ensures.kept))
    (with_items_is p.last c.lower.new.ends (c.lower.auto.ends ∙ c.deref_mut-2.ensures.len) ∙ c.lower.ensures ∙ ap (map (λ k. k - n)) c.deref_mut-2.ensures.value) refl

pub returns-clause-chains : goal.returns-clause-chains
returns-clause-chains c =
    let n = c.args.count in
    let links : Vec Link = with_items c.drop-drain.new.self.0 c.lower_links.new.links in
    forgot_chains c.self.inside links n
    (with_items_is c.drop-drain.new.self.0 c.lower_links.new.links (c.lower_links.auto.links ∙ c.deref_mut.ensures.len) ∙ c.lower_links.ensures
    ∙ ap (map (lowered n)) (c.deref_mut.ensures.value ∙ c.drop-drain.ensures.items ∙ c.drain.ensures.kept))
    ∙ ap (λ (s : PagesState). drop n s.chains) c.self.view_is
