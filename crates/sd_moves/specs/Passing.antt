-- What a page leaves that passes from pool to pool.
use Rattle.std.specs.Prelude.{◌≡◌, ◌≢◌, ℕ, Bool, Option}
use Rattle.sd_base.specs.declared.place.Mode.{Mode}
use Rattle.sd_base.specs.declared.place.Mode.TheVariants as modes
use Rattle.sd_page.specs.Page.{Page}
use Rattle.sd_pagelock.specs.Directory.{DirectoryState, moving_image_at}
use Rattle.sd_pagelock.specs.Places.{PageEntry}
use Rattle.sd_pagelock.specs.Rows.{given_excl, given_shared, may_share, may_yield}
use Rattle.sd_pool.specs.Buffers.{without_page}
use Rattle.sd_state.specs.Locking.{with_place}
use Rattle.sd_state.specs.Parts.{Parts, pool_at}
use Rattle.sd_moves.specs.Places.{with_directory}

-- the page may set out for i in this mode
abbrev pub may_set_out : Mode → ℕ → PageEntry → Bool
may_set_out modes.Shared i place = may_share i place
may_set_out modes.Excl i place = may_yield i place

-- where it is then
abbrev pub set_out : Mode → ℕ → PageEntry → PageEntry
set_out modes.Shared i place = given_shared i place
set_out modes.Excl i place = given_excl i place

-- The directory is this one. The giver of page p keeps its copy where that is to be shared.
abbrev pub with_sent : Mode → ℕ → ℕ → DirectoryState Page → Parts → Parts
with_sent modes.Shared p giver places c = with_directory places c
with_sent modes.Excl p giver places c = with_place giver (without_page (pool_at c giver) p) places c

-- This is on its way of page p, and of each other what was.
pub record IsOnWay (p : ℕ) (image : Option Page) (old new : DirectoryState Page) : Type 0 where
  pub here : moving_image_at new p ≡ image
  pub others : (q : ℕ) → q ≢ p → moving_image_at new q ≡ moving_image_at old q
