-- A buffer pool as a value: the pages that it holds, each with its image, the last used first.
use Rattle.std.specs.Prelude.{◌≡◌, ℕ, ◌-◌, ◌≤◌, List, ◌∷◌, length, nat_eq, Option, None, map, slice_get}
use Rattle.std.specs.Global.{Box}
use Rattle.std.specs.List.{IsDistinct}
use Rattle.std.specs.Map.{keys_of, lookup, remove_entry}
use Rattle.std.specs.Option.{option_map_or}
use Rattle.sd_page.specs.Page.{Page}

-- what a pool holds, page by page, and of how many pages it has frames
pub record Buffers : Type 0 where
  pub held : List (ℕ × Page)
  pub frames : ℕ

-- each page with the image that its box holds
abbrev pub unboxed : List (ℕ × Box Page) → List (ℕ × Page)
unboxed = map (λ e. (e.0, e.1.value))

-- the image of a page that is held
abbrev pub image_at : Buffers → ℕ → Option Page
image_at pool p = lookup (nat_eq p) pool.held

-- the numbers of the pages, the last used first
abbrev pub pages : Buffers → List ℕ
pages pool = keys_of pool.held

-- the pool without a page; the others keep their order
abbrev pub without_page : Buffers → ℕ → Buffers
without_page pool p = record { held = remove_entry (nat_eq p) pool.held; frames = pool.frames }

-- the pool with this image of a page, which is then the last used
abbrev pub with_page : Buffers → ℕ → Page → Buffers
with_page pool p image = record { held = (p, image) ∷ remove_entry (nat_eq p) pool.held; frames = pool.frames }

-- the pool after a use of a page; a page that isn't held isn't used
abbrev pub used : Buffers → ℕ → Buffers
used pool p = option_map_or (with_page pool p) (image_at pool p) pool

-- the pool with this image in place of a page's, where it is held; the page is then the last used
abbrev pub rewritten : Buffers → ℕ → Page → Buffers
rewritten pool p image = option_map_or (λ _. with_page pool p image) (image_at pool p) pool

-- the page whose last use is longest ago
abbrev pub least_recent : Buffers → Option ℕ
least_recent pool = slice_get (pages pool) (length pool.held - 1)

-- a page isn't held, and each frame holds another
abbrev pub LacksFrame : Buffers → ℕ → Type 0
LacksFrame pool p = (image_at pool p ≡ None) × (length pool.held ≡ pool.frames)

-- what holds of every pool: no page is held twice, and each has a frame
pub record IsPool (pool : Buffers) : Type 0 where
  pub distinct : IsDistinct nat_eq (pages pool)
  pub few : length pool.held ≤ pool.frames
  pub least : 1 ≤ pool.frames
  pub most : pool.frames ≤ 1024
