-- What a pool is once a loan of an image has ended.
use Rattle.std.specs.Prelude.{◌≡◌, ℕ, Option}
use Rattle.std.specs.Borrow.{Fml, MutBor, LendsSo}
use Rattle.sd_page.specs.Page.{Page}
use Rattle.sd_page.specs.contracts.image.Image.{the_row as image_row}
use Rattle.sd_pool.specs.contracts.pool.Pool.{the_row}
use Rattle.sd_pool.specs.Buffers.{Buffers, rewritten}

-- the page has the last image that was written through r, and is the last used; where none was lent, the pool stays
abbrev pub LendsImage : MutBor Buffers → ℕ → Option (MutBor Page) → Fml
LendsImage pool p r = LendsSo the_row image_row pool r (λ after image. after ≡ rewritten pool.now p image) (λ after. after ≡ pool.now)
