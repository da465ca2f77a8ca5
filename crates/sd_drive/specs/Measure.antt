-- How far a pull is from its end, by what the directory tells: a number that each round of the pull, from an ask to the next, lowers.
use Rattle.std.specs.Prelude.{◌≡◌, ◌≢◌, ℕ, ◌+◌, ◌*◌, ◌<◌, Bool, true, false, List, length, cond, not}
use Rattle.sd_base.specs.declared.place.Mode.{Mode}
use Rattle.sd_pagelock.specs.declared.queue.Ask.{Ask}
use Rattle.sd_pagelock.specs.Asks.{asks_without, open_asks}
use Rattle.sd_pagelock.specs.Places.{PageEntry, holds, holds_as, receives}
use Rattle.sd_pagelock.specs.Rows.{taken}
use Rattle.sd_world.specs.Pages.{Pages, held_count}

abbrev pub one_if : Bool → ℕ
one_if b = cond b 1 0

-- how many have to be served: the others that ask, and i where it hasn't the page so
abbrev pub unserved : ℕ → Mode → PageEntry → List Ask → ℕ
unserved i mode place asks = length (asks_without i asks) + one_if (not (holds_as mode place i))

-- The same, where a page on its way is seen as its take leaves it. Its receiver is one more until then.
abbrev pub waiting : ℕ → Mode → PageEntry → List Ask → ℕ
waiting i mode PageEntry.Free asks = unserved i mode PageEntry.Free asks
waiting i mode (PageEntry.Shared set writer) asks = unserved i mode (PageEntry.Shared set writer) asks
waiting i mode (PageEntry.Excl holder dirty) asks = unserved i mode (PageEntry.Excl holder dirty) asks
waiting i mode (PageEntry.Moving to how rest dirty) asks =
    unserved i mode (taken (PageEntry.Moving to how rest dirty)) (open_asks (taken (PageEntry.Moving to how rest dirty)) asks) + 1
waiting i mode PageEntry.Lost asks = unserved i mode PageEntry.Lost asks

-- how many hold the page, and one more where one of them can give it
abbrev pub spread : PageEntry → ℕ
spread PageEntry.Free = 0
spread (PageEntry.Shared set writer) = length set + 1
spread (PageEntry.Excl holder dirty) = 2
spread (PageEntry.Moving to mode rest dirty) = length rest
spread PageEntry.Lost = 0

-- A take serves its receiver, and adds two to the spread at most; a give serves none, and lowers the spread.
abbrev pub steps : ℕ → Mode → PageEntry → List Ask → ℕ
steps i mode place asks = 3 * waiting i mode place asks + spread place

-- into whose pool the page comes next: its receiver's, where it is on its way, else that of i
abbrev pub comes_to : ℕ → PageEntry → ℕ
comes_to i PageEntry.Free = i
comes_to i (PageEntry.Shared set writer) = i
comes_to i (PageEntry.Excl holder dirty) = i
comes_to i (PageEntry.Moving to mode rest dirty) = to
comes_to i PageEntry.Lost = i

-- how many pages i holds
unfoldable pub copies_of : (ℕ → PageEntry) → ℕ → ℕ
copies_of entry i = held_count entry i 1024

-- Page p is pulled for i in the mode: the steps to go, and in between the copies that have to go from the pool that it comes into,
-- which are 1,024 at most.
unfoldable pub distance : ℕ → Mode → ℕ → (ℕ → PageEntry) → List Ask → ℕ
distance i mode p entry asks = 1025 * steps i mode (entry p) asks + copies_of entry (comes_to i (entry p))

-- page p came nearer to i
abbrev pub IsNearer : ℕ → Mode → ℕ → Pages → Pages → Type 0
IsNearer i mode p old new = distance i mode p new.entry (new.asks p) < distance i mode p old.entry (old.asks p)

-- i gave up its copy of page v, which doesn't move to it; the other pages are as they were
pub record GivesUp (i v : ℕ) (old new : Pages) : Type 0 where
  pub below : v < 1024
  pub had : holds (old.entry v) i ≡ true
  pub gone : holds (new.entry v) i ≡ false
  pub still : receives (old.entry v) i ≡ false
  pub others : (q : ℕ) → v ≢ q → new.entry q ≡ old.entry q
  pub asks : (q : ℕ) → v ≢ q → new.asks q ≡ old.asks q
