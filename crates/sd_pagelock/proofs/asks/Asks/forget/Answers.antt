use Rattle.std.proofs.Common.{ℕ, eqb, not, refl, ◌∙◌, ap, rules}
use Rattle.std.specs.Ordering.{nat_cmp}
use Rattle.std.specs.Map.{keys_of}
use Rattle.std.proofs.lemmas.Map.Keys.{IsDistinct-from_sorted}
use Rattle.sd_pagelock.specs.declared.queue.Ask.{Ask}
use Rattle.sd_pagelock.specs.Asks.{asks_for, asks_without}
use Rattle.sd_pagelock.proofs.Lookups.{kept_each, asks_for-kept, asked-kept}
use Rattle.sd_pagelock.proofs.Queues.{one_each-filter}
use Rattle.sd_pagelock.proofs.asks.Asks.forget.Goals as goal

pub invariant_of-self : goal.invariant_of-self
invariant_of-self c = asked-kept (λ (p : ℕ). asks_without c.args.i) (λ p xs. one_each-filter (λ (ask : Ask). not (eqb ask.by c.args.i)) xs) c.self.inside.queues.entries c.retain.new.self.entries c.self.invariant
    (kept_each _ _ (λ (p : ℕ). asks_without c.args.i) (λ p v b w f' t. (search rules, search rules, search rules)) c.self.inside.queues.entries c.retain.new.self.entries (IsDistinct-from_sorted nat_cmp (keys_of c.self.inside.queues.entries) c.retain.ensures.was_ordered) c.retain.ensures.filtered)

pub returns : goal.returns
returns c = λ p. asks_for-kept (asks_without c.args.i) refl c.self.inside.queues.entries c.retain.new.self.entries p
    (kept_each _ _ (λ (p : ℕ). asks_without c.args.i) (λ p v b w f' t. (search rules, search rules, search rules)) c.self.inside.queues.entries c.retain.new.self.entries (IsDistinct-from_sorted nat_cmp (keys_of c.self.inside.queues.entries) c.retain.ensures.was_ordered) c.retain.ensures.filtered p)
    ∙ ap (λ m. asks_without c.args.i (asks_for m p)) c.self.view_is
