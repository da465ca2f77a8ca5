-- What is told of the pages: where each is, who asks for it, its number, and who has begun a checkpoint.
use Rattle.std.specs.Prelude.{◌≡◌, ℕ, zero, suc, ◌+◌, Bool, true, false, List, [], ◌∷◌, None, Some, eqb, cond, ◌||◌}
use Rattle.sd_base.specs.declared.place.Mode.{Mode}
use Rattle.sd_base.specs.declared.place.Mode.TheVariants as modes
use Rattle.sd_base.specs.Sets.{without}
use Rattle.sd_pagelock.specs.declared.queue.Ask.{Ask}
use Rattle.sd_pagelock.specs.Places.{PageEntry, holds, holds_as, is_free, Formed}
use Rattle.sd_pagelock.specs.Rows.{locked, may_raise, raised, given_shared, given_excl, may_yield, dropped, fallen}
use Rattle.sd_pagelock.specs.Asks.{queued, is_open_ask, open_asks, asks_without, IsOneEach}

-- frames: how many pages a pool holds at most; entry: where each page is; asks: who asks for it, the oldest first;
-- number: the LSN of its newest version; begun: whether the instance has begun a checkpoint
pub record Pages : Type 0 where
  pub frames : ℕ
  pub entry : ℕ → PageEntry
  pub asks : ℕ → List Ask
  pub number : ℕ → ℕ
  pub begun : ℕ → Bool

-- p has x, and each other what it had
abbrev pub put : {X : Type 0} → ℕ → X → (ℕ → X) → ℕ → X
put p x f q = cond (eqb p q) x (f q)

-- page p is there now, and the asks that this serves are off
abbrev pub page_placed : ℕ → PageEntry → Pages → Pages
page_placed p to w = record w { entry = put p to w.entry; asks = put p (open_asks to (w.asks p)) w.asks }

-- i asks for page p in the mode
abbrev pub asked : ℕ → ℕ → Mode → Pages → Pages
asked p i mode w = record w { asks = put p (queued i mode (w.asks p)) w.asks }

-- the newest version of page p has this LSN
abbrev pub numbered : ℕ → ℕ → Pages → Pages
numbered p n w = record w { number = put p n w.number }

-- the newest versions have these LSNs
abbrev pub renumbered : (ℕ → ℕ) → Pages → Pages
renumbered number w = record w { number = number }

-- i has a begun checkpoint, or none
abbrev pub begins : ℕ → Bool → Pages → Pages
begins i b w = record w { begun = put i b w.begun }

-- where the page is once j gave it to this asker in this mode
abbrev pub given : ℕ → ℕ × Mode → PageEntry → PageEntry
given j (i, modes.Shared) place = given_shared i place
given j (i, modes.Excl) place = cond {A = PageEntry} (may_yield i place) (given_excl i place) (dropped j i place)

-- i went down: its copies, its asks and its begun checkpoint are gone
abbrev pub fell : ℕ → (ℕ → ℕ) → Pages → Pages
fell i number w = record w {
  entry = λ p. fallen i (w.entry p);
  asks = λ p. open_asks (fallen i (w.entry p)) (asks_without i (w.asks p));
  number = number;
  begun = put i false w.begun;
}

-- in no pool: lost or as on disk
abbrev pub place_of : Bool → PageEntry
place_of true = PageEntry.Lost
place_of false = PageEntry.Free

-- a complex without pools, of which these pages are lost
abbrev pub emptied : (ℕ → Bool) → (ℕ → ℕ) → Pages → Pages
emptied lost number w = record w { entry = λ p. place_of (lost p); asks = λ p. []; number = number; begun = λ i. false }

-- how many of the first n pages i holds
abbrev pub held_count : (ℕ → PageEntry) → ℕ → ℕ → ℕ
held_count entry i zero = 0
held_count entry i (suc n) = cond (holds (entry n) i) 1 0 + held_count entry i n

-- the lowest of a rising list
abbrev pub lowest_of : List ℕ → ℕ
lowest_of [] = 0
lowest_of (x ∷ xs) = x

-- whom i asks: the writer of the page where that is another, else the lowest other holder
abbrev pub answerer : ℕ → PageEntry → ℕ
answerer i PageEntry.Free = 0
answerer i (PageEntry.Shared set None) = lowest_of (without i set)
answerer i (PageEntry.Shared set (Some w)) = cond (eqb w i) (lowest_of (without i set)) w
answerer i (PageEntry.Excl holder dirty) = holder
answerer i (PageEntry.Moving to mode rest dirty) = 0
answerer i PageEntry.Lost = 0

-- i may have the page in this mode at once: it has it so, it reads it from disk, or it is its only holder
abbrev pub is_had : ℕ → Mode → PageEntry → Bool
is_had i mode place = holds_as mode place i || (is_free place || may_raise i place)

-- where the page is once i has it so
abbrev pub had : ℕ → Mode → PageEntry → PageEntry
had i mode place = cond {A = PageEntry} (holds_as mode place i) place (cond {A = PageEntry} (is_free place) (locked i mode) (raised i place))

-- the page write is i's: it holds the page alone, or is the writer
abbrev pub is_duty : ℕ → PageEntry → Bool
is_duty i PageEntry.Free = false
is_duty i (PageEntry.Shared set None) = false
is_duty i (PageEntry.Shared set (Some w)) = eqb w i
is_duty i (PageEntry.Excl holder dirty) = eqb holder i
is_duty i (PageEntry.Moving to mode rest dirty) = false
is_duty i PageEntry.Lost = false

-- the LSN that is shown of a page: none where no pool has it
abbrev pub number_shown : PageEntry → ℕ → ℕ
number_shown PageEntry.Free n = 0
number_shown PageEntry.Lost n = 0
number_shown (PageEntry.Shared set writer) n = n
number_shown (PageEntry.Excl holder dirty) n = n
number_shown (PageEntry.Moving to mode rest dirty) n = n

-- each of the asks is open: its instance hasn't the page so, and the page isn't lost
abbrev pub AreOpen : PageEntry → List Ask → Type 0
AreOpen place [] = Unit {0}
AreOpen place (ask ∷ asks) = (is_open_ask place ask ≡ true) × AreOpen place asks

-- a page is where it may be, nobody asks twice for it, and nobody who has it so
pub record IsWellAsked (place : PageEntry) (asks : List Ask) : Type 0 where
  pub formed : Formed place
  pub once : IsOneEach asks
  pub open_for : AreOpen place asks

-- so is each page
abbrev pub AreFormed : Pages → Type 0
AreFormed w = (p : ℕ) → IsWellAsked (w.entry p) (w.asks p)
