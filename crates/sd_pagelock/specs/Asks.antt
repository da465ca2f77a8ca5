-- The asks for a page: who asks, in which mode, in the order of the asks.
use Rattle.std.specs.Prelude.{◌≡◌, ℕ, Bool, true, false, List, [], ◌∷◌, Option, Some, eqb, is_some, not, ◌&&◌, ◌||◌, cond, filter, find, unwrap_or}
use Rattle.std.specs.Ordering.{nat_cmp}
use Rattle.std.specs.Map.{lookup}
use Rattle.std.specs.BTreeMap.{is_at}
use Rattle.std.specs.Option.{option_map}
use Rattle.sd_base.specs.declared.place.Mode.{Mode}
use Rattle.sd_base.specs.declared.place.Mode.TheVariants as modes
use Rattle.sd_pagelock.specs.declared.queue.Ask.{Ask}
use Rattle.sd_pagelock.specs.Places.{PageEntry, holds, holds_as, is_lost, rests}

-- the stronger of two modes
abbrev pub stronger : Mode → Mode → Mode
stronger modes.Shared mode = mode
stronger modes.Excl mode = modes.Excl

-- one more ask: at the end, or in the place of the one that its instance has there, in the stronger mode of both
abbrev pub queued : ℕ → Mode → List Ask → List Ask
queued i mode [] = (record { by = i; mode = mode }) ∷ []
queued i mode (ask ∷ asks) = cond {A = List Ask} (eqb ask.by i)
    ((record { by = ask.by; mode = stronger ask.mode mode }) ∷ asks)
    (ask ∷ queued i mode asks)

-- the first ask of another instance
abbrev pub oldest : ℕ → List Ask → Option (ℕ × Mode)
oldest i asks = option_map (λ ask. (ask.by, ask.mode)) (find (λ ask. not (eqb ask.by i)) asks)

-- i has a copy of a page that is at this place to give, and another asks for it
abbrev pub can_give : PageEntry → ℕ → List Ask → Bool
can_give place i asks = rests place && (holds place i && is_some (oldest i asks))

-- the asks that this place leaves open: no ask for a lost page, and none of one who has the page so
abbrev pub is_open_ask : PageEntry → Ask → Bool
is_open_ask place ask = not (is_lost place || holds_as ask.mode place ask.by)

abbrev pub open_asks : PageEntry → List Ask → List Ask
open_asks place asks = filter (is_open_ask place) asks

-- the asks of the others
abbrev pub asks_without : ℕ → List Ask → List Ask
asks_without i asks = filter (λ ask. not (eqb ask.by i)) asks

-- i asks
abbrev pub asks_by : ℕ → List Ask → Bool
asks_by i [] = false
asks_by i (ask ∷ asks) = cond (eqb ask.by i) true (asks_by i asks)

abbrev pub nobody : List Ask → Bool
nobody [] = true
nobody (ask ∷ asks) = false

-- no two asks of one instance
abbrev pub IsOneEach : List Ask → Type 0
IsOneEach [] = Unit {0}
IsOneEach (ask ∷ asks) = (asks_by ask.by asks ≡ false) × IsOneEach asks

-- the listed pages, rising, each with its asks: those that are asked for, and some that were
abbrev pub Queues : Type 0
Queues = List (ℕ × List Ask)

-- the asks for the page, the oldest first
abbrev pub asks_for : Queues → ℕ → List Ask
asks_for queues p = unwrap_or (lookup (is_at (nat_cmp p)) queues) []

-- nobody asks twice for a page that is listed
abbrev pub AreAsked : Queues → Type 0
AreAsked queues = (p : ℕ) (asks : List Ask) → lookup (is_at (nat_cmp p)) queues ≡ Some asks → IsOneEach asks
