-- Where a page is, as laws see it: sets of instances are rising lists.
use Rattle.std.specs.Prelude.{◌≡◌, ◌≢◌, ℕ, ◌<◌, ◌≤◌, Bool, true, false, List, [], Option, Some, is_some, eqb, cond, get_or}
use Rattle.sd_base.specs.declared.place.Mode.{Mode}
use Rattle.sd_base.specs.declared.place.Mode.TheVariants as modes
use Rattle.sd_base.specs.declared.place.Place as coded
use Rattle.sd_base.specs.declared.place.Place.TheVariants as variants
use Rattle.sd_base.specs.Sets.{members, has}

-- in no pool and as on disk; shared by the listed ones, with a writer where it is changed; with one alone, changed or
-- not; on its way to one, in a mode, with copies left at the listed ones, changed or not; in no pool, with changes that
-- only logs have
pub data PageEntry : Type 0 where
  Free : PageEntry
  Shared : List ℕ → Option ℕ → PageEntry
  Excl : ℕ → Bool → PageEntry
  Moving : ℕ → Mode → List ℕ → Bool → PageEntry
  Lost : PageEntry

-- the place of the code, as laws see it
abbrev pub seen : coded.Place → PageEntry
seen variants.Free = PageEntry.Free
seen (variants.Shared set writer) = PageEntry.Shared (members set.bits) writer
seen (variants.Excl holder dirty) = PageEntry.Excl holder dirty
seen (variants.Moving to mode rest dirty) = PageEntry.Moving to mode (members rest.bits) dirty
seen variants.Lost = PageEntry.Lost

-- where the page is, by a list of all places
abbrev pub place_at : List coded.Place → ℕ → PageEntry
place_at places p = seen (get_or places p variants.Free)

-- the pool of k has the page
abbrev pub holds : PageEntry → ℕ → Bool
holds PageEntry.Free k = false
holds (PageEntry.Shared set writer) k = has k set
holds (PageEntry.Excl holder dirty) k = eqb holder k
holds (PageEntry.Moving to mode rest dirty) k = has k rest
holds PageEntry.Lost k = false

-- k has the page alone, and may change it
abbrev pub owns : PageEntry → ℕ → Bool
owns PageEntry.Free k = false
owns (PageEntry.Shared set writer) k = false
owns (PageEntry.Excl holder dirty) k = eqb holder k
owns (PageEntry.Moving to mode rest dirty) k = false
owns PageEntry.Lost k = false

-- k holds the page in this mode, or in a stronger one
abbrev pub holds_as : Mode → PageEntry → ℕ → Bool
holds_as modes.Shared place k = holds place k
holds_as modes.Excl place k = owns place k

-- the page is on its way
abbrev pub passes : PageEntry → Bool
passes PageEntry.Free = false
passes (PageEntry.Shared set writer) = false
passes (PageEntry.Excl holder dirty) = false
passes (PageEntry.Moving to mode rest dirty) = true
passes PageEntry.Lost = false

-- the page moves to k
abbrev pub receives : PageEntry → ℕ → Bool
receives PageEntry.Free k = false
receives (PageEntry.Shared set writer) k = false
receives (PageEntry.Excl holder dirty) k = false
receives (PageEntry.Moving to mode rest dirty) k = eqb to k
receives PageEntry.Lost k = false

-- k is a holder, or the receiver
abbrev pub uses : PageEntry → ℕ → Bool
uses PageEntry.Free k = false
uses (PageEntry.Shared set writer) k = has k set
uses (PageEntry.Excl holder dirty) k = eqb holder k
uses (PageEntry.Moving to mode rest dirty) k = cond (eqb to k) true (has k rest)
uses PageEntry.Lost k = false

-- the newest version isn't on disk
abbrev pub changed : PageEntry → Bool
changed PageEntry.Free = false
changed (PageEntry.Shared set writer) = is_some writer
changed (PageEntry.Excl holder dirty) = dirty
changed (PageEntry.Moving to mode rest dirty) = dirty
changed PageEntry.Lost = true

-- no pool has it, and no change of it is wanting on disk
abbrev pub is_free : PageEntry → Bool
is_free PageEntry.Free = true
is_free (PageEntry.Shared set writer) = false
is_free (PageEntry.Excl holder dirty) = false
is_free (PageEntry.Moving to mode rest dirty) = false
is_free PageEntry.Lost = false

abbrev pub is_lost : PageEntry → Bool
is_lost PageEntry.Free = false
is_lost (PageEntry.Shared set writer) = false
is_lost (PageEntry.Excl holder dirty) = false
is_lost (PageEntry.Moving to mode rest dirty) = false
is_lost PageEntry.Lost = true

-- it is shared, or with one alone: a copy can be given
abbrev pub rests : PageEntry → Bool
rests PageEntry.Free = false
rests (PageEntry.Shared set writer) = true
rests (PageEntry.Excl holder dirty) = true
rests (PageEntry.Moving to mode rest dirty) = false
rests PageEntry.Lost = false

-- A shared page has a holder, and its writer is one; the receiver holds no copy, and no other does where it is to have
-- the page alone.
abbrev pub Formed : PageEntry → Type 0
Formed PageEntry.Free = Unit {0}
Formed (PageEntry.Shared set writer) = (set ≢ []) × ((k : ℕ) → writer ≡ Some k → has k set ≡ true)
Formed (PageEntry.Excl holder dirty) = Unit {0}
Formed (PageEntry.Moving to mode rest dirty) = (mode ≡ modes.Excl → rest ≡ []) × (has to rest ≡ false)
Formed PageEntry.Lost = Unit {0}

-- those who hold it or receive it are instances of the complex
abbrev pub InRange : PageEntry → Type 0
InRange place = (k : ℕ) → uses place k ≡ true → (1 ≤ k) × (k ≤ 8)

-- the sets of a place are bytes
abbrev pub InBytes : coded.Place → Type 0
InBytes variants.Free = Unit {0}
InBytes (variants.Shared set writer) = set.bits < 256
InBytes (variants.Excl holder dirty) = Unit {0}
InBytes (variants.Moving to mode rest dirty) = rest.bits < 256
InBytes variants.Lost = Unit {0}
