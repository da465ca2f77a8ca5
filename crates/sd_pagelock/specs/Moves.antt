-- The lawful moves of a page: each leads by one row from the place that it finds to the place that it leaves. An
-- instance's fall is no move: it may leave a page lost.
use Rattle.std.specs.Prelude.{◌≡◌, ℕ, true, Option, None, Some}
use Rattle.sd_base.specs.declared.place.Mode.{Mode}
use Rattle.sd_base.specs.Sets.{first}
use Rattle.sd_pagelock.specs.Places.{PageEntry, is_free, is_lost, owns, passes}
use Rattle.sd_pagelock.specs.Rows.{locked, may_raise, raised, may_share, given_shared, may_yield, given_excl, taken, may_drop, may_evict, fallen, may_write, written, dirtied}

-- one row leads from the one to the other
pub data IsMove (from to : PageEntry) : Type 0 where
  -- i asks for a page that is in no pool, and it is read from disk
  lock : (i : ℕ) (mode : Mode) → is_free from ≡ true → to ≡ locked i mode → IsMove from to
  -- i, the only one of a shared page, asks for it alone
  raise : (i : ℕ) → may_raise i from ≡ true → to ≡ raised i from → IsMove from to
  -- a holder gives i a copy
  share : (i : ℕ) → may_share i from ≡ true → to ≡ given_shared i from → IsMove from to
  -- the only holder gives the page to i
  yield : (i : ℕ) → may_yield i from ≡ true → to ≡ given_excl i from → IsMove from to
  -- i drops its copy, so that another can have the page alone
  drop : (i : ℕ) → may_drop i from ≡ true → to ≡ fallen i from → IsMove from to
  -- the receiver takes what moved to it
  take : passes from ≡ true → to ≡ taken from → IsMove from to
  -- i's pool needs the frame
  evict : (i : ℕ) → may_evict i from ≡ true → to ≡ fallen i from → IsMove from to
  -- the holder or the writer writes the page to disk
  write : may_write from ≡ true → to ≡ written from → IsMove from to
  -- i changes the page that it has alone
  change : (i : ℕ) → owns from i ≡ true → to ≡ dirtied i → IsMove from to
  -- the page is built again from the logs, and written
  rebuild : is_lost from ≡ true → to ≡ written from → IsMove from to

-- The same rows in three groups, as the test of a move goes over them.

-- i comes to have the page, or to have it so
pub data Gains (i : ℕ) (from to : PageEntry) : Type 0 where
  lock : (mode : Mode) → is_free from ≡ true → to ≡ locked i mode → Gains i from to
  raise : may_raise i from ≡ true → to ≡ raised i from → Gains i from to
  share : may_share i from ≡ true → to ≡ given_shared i from → Gains i from to
  yield : may_yield i from ≡ true → to ≡ given_excl i from → Gains i from to
  change : owns from i ≡ true → to ≡ dirtied i → Gains i from to

-- the page is taken, written or rebuilt
pub data Turns (from to : PageEntry) : Type 0 where
  take : passes from ≡ true → to ≡ taken from → Turns from to
  write : may_write from ≡ true → to ≡ written from → Turns from to
  rebuild : is_lost from ≡ true → to ≡ written from → Turns from to

-- i's copy goes; one that may be dropped may be evicted too
abbrev pub Loses : ℕ → PageEntry → PageEntry → Type 0
Loses i from to = (may_evict i from ≡ true) × (to ≡ fallen i from)

-- the one who gains a page, by the place that this leaves
abbrev pub newcomer : PageEntry → Option ℕ
newcomer PageEntry.Free = None
newcomer (PageEntry.Shared set writer) = first set
newcomer (PageEntry.Excl holder dirty) = Some holder
newcomer (PageEntry.Moving to mode rest dirty) = Some to
newcomer PageEntry.Lost = None
