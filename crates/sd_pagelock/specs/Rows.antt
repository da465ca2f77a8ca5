-- The rows of the directory's table: for each event the places that it may find, and the place that it leaves.
use Rattle.std.specs.Prelude.{ℕ, Bool, true, false, List, [], ◌∷◌, Option, None, Some, is_some, eqb, not, ◌&&◌, cond}
use Rattle.sd_base.specs.declared.place.Mode.{Mode}
use Rattle.sd_base.specs.declared.place.Mode.TheVariants as modes
use Rattle.sd_base.specs.Sets.{has, without, with_member}
use Rattle.sd_pagelock.specs.Places.{PageEntry, changed, holds}

-- a page that one alone reads from disk
abbrev pub locked : ℕ → Mode → PageEntry
locked i modes.Shared = PageEntry.Shared (i ∷ []) None
locked i modes.Excl = PageEntry.Excl i false

-- i is the only one listed
abbrev pub is_only : ℕ → List ℕ → Bool
is_only i [] = false
is_only i (x ∷ []) = eqb x i
is_only i (x ∷ y ∷ xs) = false

-- one alone is listed, and it is another than i
abbrev pub is_only_other : ℕ → List ℕ → Bool
is_only_other i [] = false
is_only_other i (x ∷ []) = not (eqb x i)
is_only_other i (x ∷ y ∷ xs) = false

-- i is the only one of a shared page
abbrev pub may_raise : ℕ → PageEntry → Bool
may_raise i PageEntry.Free = false
may_raise i (PageEntry.Shared set writer) = is_only i set
may_raise i (PageEntry.Excl holder dirty) = false
may_raise i (PageEntry.Moving to mode rest dirty) = false
may_raise i PageEntry.Lost = false

-- the only one of a shared page has it alone now, and may change it
abbrev pub raised : ℕ → PageEntry → PageEntry
raised i PageEntry.Free = PageEntry.Free
raised i (PageEntry.Shared set writer) = PageEntry.Excl i (is_some writer)
raised i (PageEntry.Excl holder dirty) = PageEntry.Excl holder dirty
raised i (PageEntry.Moving to mode rest dirty) = PageEntry.Moving to mode rest dirty
raised i PageEntry.Lost = PageEntry.Lost

-- a page that rests, at others than i
abbrev pub may_share : ℕ → PageEntry → Bool
may_share i PageEntry.Free = false
may_share i (PageEntry.Shared set writer) = not (has i set)
may_share i (PageEntry.Excl holder dirty) = not (eqb holder i)
may_share i (PageEntry.Moving to mode rest dirty) = false
may_share i PageEntry.Lost = false

-- given to i, shared: the holders keep their copies
abbrev pub given_shared : ℕ → PageEntry → PageEntry
given_shared i PageEntry.Free = PageEntry.Free
given_shared i (PageEntry.Shared set writer) = PageEntry.Moving i modes.Shared set (is_some writer)
given_shared i (PageEntry.Excl holder dirty) = PageEntry.Moving i modes.Shared (holder ∷ []) dirty
given_shared i (PageEntry.Moving to mode rest dirty) = PageEntry.Moving to mode rest dirty
given_shared i PageEntry.Lost = PageEntry.Lost

-- a page that rests at one alone, another than i
abbrev pub may_yield : ℕ → PageEntry → Bool
may_yield i PageEntry.Free = false
may_yield i (PageEntry.Shared set writer) = is_only_other i set
may_yield i (PageEntry.Excl holder dirty) = not (eqb holder i)
may_yield i (PageEntry.Moving to mode rest dirty) = false
may_yield i PageEntry.Lost = false

-- given to i by the only holder, who keeps no copy
abbrev pub given_excl : ℕ → PageEntry → PageEntry
given_excl i place = PageEntry.Moving i modes.Excl [] (changed place)

-- the lowest of those who hold it already, else the receiver
abbrev pub lowest : ℕ → List ℕ → ℕ
lowest to [] = to
lowest to (x ∷ xs) = x

-- the receiver took what moved to it; the lowest of the others has the duty of the page write
abbrev pub taken : PageEntry → PageEntry
taken PageEntry.Free = PageEntry.Free
taken (PageEntry.Shared set writer) = PageEntry.Shared set writer
taken (PageEntry.Excl holder dirty) = PageEntry.Excl holder dirty
taken (PageEntry.Moving to modes.Excl rest dirty) = PageEntry.Excl to dirty
taken (PageEntry.Moving to modes.Shared rest dirty) = PageEntry.Shared (with_member to rest) (cond {A = Option ℕ} dirty (Some (lowest to rest)) None)
taken PageEntry.Lost = PageEntry.Lost

-- in no pool: what only logs have is lost
abbrev pub nowhere : Bool → PageEntry
nowhere true = PageEntry.Lost
nowhere false = PageEntry.Free

-- with these holders alone, and the lowest as writer of a changed page
abbrev pub left_with : Bool → List ℕ → PageEntry
left_with dirty [] = nowhere dirty
left_with dirty (x ∷ xs) = PageEntry.Shared (x ∷ xs) (cond {A = Option ℕ} dirty (Some x) None)

-- the writer stays, or is the lowest one left where it was i
abbrev pub kept_writer : ℕ → Option ℕ → ℕ → Option ℕ
kept_writer i None low = None
kept_writer i (Some w) low = cond {A = Option ℕ} (eqb w i) (Some low) (Some w)

-- shared by those whom i left
abbrev pub shared_left : ℕ → List ℕ → Option ℕ → PageEntry
shared_left i [] writer = nowhere (is_some writer)
shared_left i (x ∷ xs) writer = PageEntry.Shared (x ∷ xs) (kept_writer i writer x)

-- i's copy goes, and what moves to i with it: i fell, or evicted the page, or dropped its copy for another
abbrev pub fallen : ℕ → PageEntry → PageEntry
fallen i PageEntry.Free = PageEntry.Free
fallen i (PageEntry.Shared set writer) = shared_left i (without i set) writer
fallen i (PageEntry.Excl holder dirty) = cond {A = PageEntry} (eqb holder i) (nowhere dirty) (PageEntry.Excl holder dirty)
fallen i (PageEntry.Moving to mode rest dirty) = cond {A = PageEntry} (eqb to i) (left_with dirty (without i rest)) (PageEntry.Moving to mode (without i rest) dirty)
fallen i PageEntry.Lost = PageEntry.Lost

-- i shares the page with others, who keep it when i drops its copy for one of them
abbrev pub may_drop : ℕ → PageEntry → Bool
may_drop i PageEntry.Free = false
may_drop i (PageEntry.Shared set writer) = has i set && not (is_only i set)
may_drop i (PageEntry.Excl holder dirty) = false
may_drop i (PageEntry.Moving to mode rest dirty) = false
may_drop i PageEntry.Lost = false

-- i holds the page, and isn't the only one to know its changes
abbrev pub may_evict : ℕ → PageEntry → Bool
may_evict i PageEntry.Free = false
may_evict i (PageEntry.Shared set writer) = has i set && not (is_only i set && is_some writer)
may_evict i (PageEntry.Excl holder dirty) = eqb holder i && not dirty
may_evict i (PageEntry.Moving to mode rest dirty) = has i rest
may_evict i PageEntry.Lost = false

-- a page that one alone shares is that one's alone; every other place stays
abbrev pub left_alone : PageEntry → PageEntry
left_alone PageEntry.Free = PageEntry.Free
left_alone (PageEntry.Shared [] writer) = PageEntry.Shared [] writer
left_alone (PageEntry.Shared (x ∷ []) writer) = PageEntry.Excl x (is_some writer)
left_alone (PageEntry.Shared (x ∷ y ∷ xs) writer) = PageEntry.Shared (x ∷ y ∷ xs) writer
left_alone (PageEntry.Excl holder dirty) = PageEntry.Excl holder dirty
left_alone (PageEntry.Moving to mode rest dirty) = PageEntry.Moving to mode rest dirty
left_alone PageEntry.Lost = PageEntry.Lost

-- j drops its copy for i, who has the page alone where nobody else is left
abbrev pub dropped : ℕ → ℕ → PageEntry → PageEntry
dropped j i place = cond {A = PageEntry} (holds (left_alone (fallen j place)) i) (left_alone (fallen j place)) (fallen j place)

-- a page that rests, changed
abbrev pub may_write : PageEntry → Bool
may_write PageEntry.Free = false
may_write (PageEntry.Shared set writer) = is_some writer
may_write (PageEntry.Excl holder dirty) = dirty
may_write (PageEntry.Moving to mode rest dirty) = false
may_write PageEntry.Lost = false

-- the newest version is on disk now: the page write, and the rebuild of a lost page
abbrev pub written : PageEntry → PageEntry
written PageEntry.Free = PageEntry.Free
written (PageEntry.Shared set writer) = PageEntry.Shared set None
written (PageEntry.Excl holder dirty) = PageEntry.Excl holder false
written (PageEntry.Moving to mode rest dirty) = PageEntry.Moving to mode rest dirty
written PageEntry.Lost = PageEntry.Free

-- i, who has the page alone, changed it
abbrev pub dirtied : ℕ → PageEntry
dirtied i = PageEntry.Excl i true
