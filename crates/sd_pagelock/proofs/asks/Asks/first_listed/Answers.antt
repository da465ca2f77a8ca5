use Rattle.std.proofs.Common.{rules, tests, ◌∙◌, ap}
use Rattle.std.specs.Prelude.{find}
use Rattle.std.specs.Option.{option_map}
use Rattle.std.proofs.lemmas.Iterator.Search.{find_from_yields_List}
use Rattle.std.proofs.lemmas.Iterator.Consumers.{YieldsList-from_rest}
use Rattle.sd_pagelock.specs.Places.{place_at}
use Rattle.sd_pagelock.specs.Asks.{Queues, can_give}
use Rattle.sd_pagelock.proofs.Finds.{made_of, in_turn}
use Rattle.sd_pagelock.proofs.asks.Asks.first_listed.Goals as goal

pub returns-clause-value : goal.returns-clause-value
returns-clause-value c =
    made_of c.find.result c.map.result (λ x. x.0.now) _ (λ x y t. search rules) c.map.ensures.cases
    ∙ in_turn (λ x. (x.0.now, x.1.now)) (λ e. e.0) c.find.result
    ∙ ap (option_map (λ e. e.0)) (find_from_yields_List (λ e. can_give (place_at c.args.places.now e.0) c.args.i e.1) _ _ c.find.result c.find.ensures.ran (YieldsList-from_rest _ c.iter.ensures.rest) (λ x b q k. search (rules, tests)))
    ∙ ap (λ (m : Queues). option_map (λ e. e.0) (find (λ e. can_give (place_at c.args.places.now e.0) c.args.i e.1) m)) c.self.view_is
