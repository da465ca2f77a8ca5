use Rattle.std.proofs.Common.{◌≡◌, ℕ, Bool, true, false, refl, List, []}
use Rattle.std.specs.Prelude.{◌&&◌}
use Rattle.sd_base.specs.declared.place.Place as coded
use Rattle.sd_pagelock.specs.Places.{holds, place_at, rests}
use Rattle.sd_pagelock.specs.declared.queue.Ask.{Ask}
use Rattle.sd_pagelock.specs.Asks.{can_give}
use Rattle.sd_pagelock.proofs.Finds.{found_passes, found_lowest, found_none}
use Rattle.sd_pagelock.proofs.asks.Asks.first_for.Goals as goal

-- whether the page can be given, where these places have it
abbrev given : List coded.Place → ℕ → ℕ → List Ask → Bool
given places i p asks = can_give (place_at places p) i asks

-- where nobody asks nothing can be given
idle : (places : List coded.Place) (i p : ℕ) → given places i p [] ≡ false
idle places i p = go (rests (place_at places p)) (holds (place_at places p) i)
  where
    go : (a b : Bool) → (a && (b && false)) ≡ false
    go true true = refl
    go true false = refl
    go false b = refl

pub returns-clause-found : goal.returns-clause-found
returns-clause-found c = found_passes (given c.args.places.now c.args.i) (idle c.args.places.now c.args.i) c.args.self.now c.first_listed.ensures.rising c.first_listed.result c.first_listed.ensures.value

pub returns-clause-lowest : goal.returns-clause-lowest
returns-clause-lowest c = found_lowest (given c.args.places.now c.args.i) (idle c.args.places.now c.args.i) c.args.self.now c.first_listed.ensures.rising c.first_listed.result c.first_listed.ensures.value

pub returns-clause-none : goal.returns-clause-none
returns-clause-none c = found_none (given c.args.places.now c.args.i) (idle c.args.places.now c.args.i) c.args.self.now c.first_listed.result c.first_listed.ensures.value
