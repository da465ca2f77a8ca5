use Rattle.std.proofs.Common.{ℕ, List, refl, ◌∙◌, ap, rules}
use Rattle.std.specs.Ordering.{nat_cmp}
use Rattle.std.specs.Map.{keys_of}
use Rattle.std.proofs.lemmas.Map.Keys.{IsDistinct-from_sorted}
use Rattle.sd_pagelock.specs.declared.queue.Ask.{Ask}
use Rattle.sd_pagelock.specs.Asks.{asks_for}
use Rattle.sd_pagelock.proofs.Lookups.{kept_each, asks_for-kept, asked-kept}
use Rattle.sd_pagelock.proofs.asks.Asks.unlist_emptied.Goals as goal

-- all asks stay
abbrev all : ℕ → List Ask → List Ask
all p asks = asks

pub invariant_of-self : goal.invariant_of-self
invariant_of-self c = asked-kept all (λ p xs each. each) c.self.inside.queues.entries c.retain.new.self.entries c.self.invariant
    (kept_each _ _ all (λ p v b w f' t. (search rules, search rules, search rules)) c.self.inside.queues.entries c.retain.new.self.entries (IsDistinct-from_sorted nat_cmp (keys_of c.self.inside.queues.entries) c.retain.ensures.was_ordered) c.retain.ensures.filtered)

pub returns : goal.returns
returns c = λ p. asks_for-kept (all p) refl c.self.inside.queues.entries c.retain.new.self.entries p
    (kept_each _ _ all (λ p v b w f' t. (search rules, search rules, search rules)) c.self.inside.queues.entries c.retain.new.self.entries (IsDistinct-from_sorted nat_cmp (keys_of c.self.inside.queues.entries) c.retain.ensures.was_ordered) c.retain.ensures.filtered p)
    ∙ ap (λ m. asks_for m p) c.self.view_is
