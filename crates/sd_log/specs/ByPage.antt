-- Which records of a log change a page.
use Rattle.std.specs.Prelude.{ℕ, suc, ◌==◌, if◌then◌else◌, List, [], ◌∷◌, map, unwrap_or}
use Rattle.sd_logrec.specs.declared.record.Record.{Record}
use Rattle.sd_logrec.specs.View.{page_of}
use Rattle.sd_log.specs.declared.placed.Placed.{Placed}

-- the number of the page that a record changes, or 1024 where it changes none
abbrev pub changed_page : Record → ℕ
changed_page r = unwrap_or (page_of r) 1024

-- the pages that records change, one after the other
abbrev pub changed_pages : List Placed → List ℕ
changed_pages ps = map (λ p. changed_page p.rec) ps

-- where this number stands in a list of which the first item has index n
abbrev pub places_of : ℕ → ℕ → List ℕ → List ℕ
places_of x n [] = []
places_of x n (y ∷ ys) = if y == x then n ∷ places_of x (suc n) ys else places_of x (suc n) ys
