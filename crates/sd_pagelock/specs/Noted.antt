-- Who uses which page, and for which groups of 32 pages instances are noted.
use Rattle.std.specs.Prelude.{◌≡◌, ℕ, ◌/◌, Bool, true, List, get_or, length}
use Rattle.sd_base.specs.declared.place.Place as coded
use Rattle.sd_base.specs.declared.set.InstSet.{InstSet}
use Rattle.sd_base.specs.Sets.{has, members}
use Rattle.sd_pagelock.specs.Places.{place_at, uses}

-- the instance is in the set that stands there
abbrev pub is_noted : List InstSet → ℕ → ℕ → Bool
is_noted sets n k = has k (members (get_or sets n (record { bits = 0 })).bits)

-- by page the set of its users; and by group of 32 pages a set that has all of theirs
pub record AreGrouped (pages groups : List InstSet) : Type 0 where
  pub count : length pages ≡ 1024
  pub grouped : length groups ≡ 32
  pub whole : (q k : ℕ) → is_noted pages q k ≡ true → is_noted groups (q / 32) k ≡ true

-- by page just its users are noted
abbrev pub AreNoted : List coded.Place → List InstSet → Type 0
AreNoted places pages = (p k : ℕ) → is_noted pages p k ≡ uses (place_at places p) k
