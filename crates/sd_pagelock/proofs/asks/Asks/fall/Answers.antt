use Rattle.std.proofs.Common.{ℕ, List, eqb, not, refl, ◌∙◌, ap, rules}
use Rattle.std.specs.Ordering.{nat_cmp}
use Rattle.std.specs.Map.{keys_of}
use Rattle.std.proofs.lemmas.Map.Keys.{IsDistinct-from_sorted}
use Rattle.sd_base.specs.declared.place.Place as coded
use Rattle.sd_pagelock.specs.declared.queue.Ask.{Ask}
use Rattle.sd_pagelock.specs.Places.{place_at}
use Rattle.sd_pagelock.specs.Asks.{asks_for, asks_without, open_asks, is_open_ask, IsOneEach}
use Rattle.sd_pagelock.proofs.Lookups.{kept_each, asks_for-kept, asked-kept}
use Rattle.sd_pagelock.proofs.Queues.{one_each-filter}
use Rattle.sd_pagelock.proofs.asks.Asks.fall.Goals as goal

-- what is kept of the asks for a page
abbrev settled : ℕ → List coded.Place → ℕ → List Ask → List Ask
settled i places p asks = open_asks (place_at places p) (asks_without i asks)

one_each-settled : (i : ℕ) (places : List coded.Place) (p : ℕ) (asks : List Ask) → IsOneEach asks → IsOneEach (settled i places p asks)
one_each-settled i places p asks each = one_each-filter (is_open_ask (place_at places p)) (asks_without i asks) (one_each-filter (λ (ask : Ask). not (eqb ask.by i)) asks each)

pub invariant_of-self : goal.invariant_of-self
invariant_of-self c = asked-kept (settled c.args.i c.args.places.now) (one_each-settled c.args.i c.args.places.now) c.self.inside.queues.entries c.retain.new.self.entries c.self.invariant
    (kept_each _ _ (settled c.args.i c.args.places.now) (λ p v b w f' t. (search rules, search rules, search rules)) c.self.inside.queues.entries c.retain.new.self.entries (IsDistinct-from_sorted nat_cmp (keys_of c.self.inside.queues.entries) c.retain.ensures.was_ordered) c.retain.ensures.filtered)

pub returns : goal.returns
returns c = λ p. asks_for-kept (settled c.args.i c.args.places.now p) refl c.self.inside.queues.entries c.retain.new.self.entries p
    (kept_each _ _ (settled c.args.i c.args.places.now) (λ p v b w f' t. (search rules, search rules, search rules)) c.self.inside.queues.entries c.retain.new.self.entries (IsDistinct-from_sorted nat_cmp (keys_of c.self.inside.queues.entries) c.retain.ensures.was_ordered) c.retain.ensures.filtered p)
    ∙ ap (λ m. settled c.args.i c.args.places.now p (asks_for m p)) c.self.view_is
