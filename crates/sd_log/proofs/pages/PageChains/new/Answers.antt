use Rattle.std.proofs.Common.{◌∙◌, [], get_or, sym, ap, subst}
use Rattle.std.specs.Prelude.{map}
use Rattle.std.proofs.lemmas.List.{get_or-replicate}
use Rattle.sd_log.specs.PagesInside.{AreLinked, chain_of, last_of}
use Rattle.sd_log.proofs.pages.PageChains.new.Goals as goal

pub invariant_of-result : goal.invariant_of-result
invariant_of-result c = record {
  heads = c.in_ok-last.ensures.len;
  head_is = λ x low.
      ap (λ l. get_or l x 0) (c.in_ok-last.ensures.items_if_clones_equal (λ y e. e)) ∙ get_or-replicate 1025 x 0 0 low
      ∙ sym (ap (λ ls. last_of x 0 0 (map chain_of ls)) c.new-links.ensures.items);
  linked = subst (AreLinked []) (sym c.new-links.ensures.items) tt;
}
