-- The copies that instances hold. For `copy` and `found`.
use Rattle.std.proofs.Common.{◌≡◌, ℕ, ◌-◌, ◌≤◌, true, get_or, refl, sym, ap, ◌∙◌, Bor}
use Rattle.std.specs.Prelude.{Option, None, Some, IsSome, List, option_copied, option_map, unwrap_or}
use Rattle.sd_base.specs.declared.ids.TxnId.{TxnId}
use Rattle.sd_base.specs.declared.place.Mode.{Mode}
use Rattle.sd_base.specs.declared.place.Mode.TheVariants as modes
use Rattle.sd_model.specs.State.{State}
use Rattle.sd_page.specs.Page.{Page, Slot, empty_page, value_at}
use Rattle.sd_pagelock.specs.Directory.{entry_at}
use Rattle.sd_pool.specs.Buffers.{Buffers, image_at}
use Rattle.sd_chain.specs.Pages.{value}
use Rattle.sd_chain.specs.Records.{home}
use Rattle.sd_chain.proofs.Slots.{value-at}
use Rattle.sd_rig.specs.Devices.{DeviceImages}
use Rattle.sd_chain.specs.Logs.{Outcomes}
use Rattle.sd_update.specs.Changing.{image_for}
use Rattle.sd_state.specs.Good.{Good}
use Rattle.sd_state.specs.Laws.{newest_of}
use Rattle.sd_state.specs.Parts.{Parts, pool_at}
use Rattle.sd_state.specs.Values.{Pending}
use Rattle.sd_state.proofs.Locks.{pool-lent}
use Rattle.sd_state.proofs.Standing.{each-copy-is-newest}
use Rattle.sd_pagelock.specs.Places.{PageEntry, holds, holds_as}

-- who holds a page in a mode holds it
pub as-held : (mode : Mode) (e : PageEntry) (i : ℕ) → holds_as mode e i ≡ true → holds e i ≡ true
as-held modes.Shared e i h = h
as-held modes.Excl PageEntry.Free i h = absurd (cc)
as-held modes.Excl (PageEntry.Shared set writer) i h = absurd (cc)
as-held modes.Excl (PageEntry.Excl holder dirty) i h = h
as-held modes.Excl (PageEntry.Moving to mode rest dirty) i h = absurd (cc)
as-held modes.Excl PageEntry.Lost i h = absurd (cc)

-- ---- what `copy` lends

some-copied : (o : Option (Bor Page)) (held : Option Page) (x : Page) → option_copied o ≡ held → held ≡ Some x → IsSome o
some-copied None held x is there = absurd (cc)
some-copied (Some b) held x is there = refl

module _ (seen : DeviceImages) (leaves : Outcomes) (pend : Pending) (c : Parts) (m : State) (g : Good seen leaves pend c m) (mode : Mode) (i at p : ℕ)
    (low : 1 ≤ i) (high : i ≤ 8) (place : at ≡ i - 1) (pool : Buffers) (lent : pool ≡ get_or c.pools at pool)
    (held_so : holds_as mode (entry_at c.directory p) i ≡ true) (o : Option (Bor Page)) (looked : option_copied o ≡ image_at pool p) where
  there : image_at pool p ≡ Some (newest_of seen leaves c p)
  there = ap (λ (b : Buffers). image_at b p) (sym (pool-lent c i at pool low high g.shape.pools place lent))
      ∙ (each-copy-is-newest leaves seen pend c m g p i).0 (as-held mode (entry_at c.directory p) i held_so)

  -- who holds the page so has a copy
  pub copy-there : IsSome o
  copy-there = some-copied o (image_at pool p) (newest_of seen leaves c p) looked there

  -- and that is what its pool has
  pub copy-is : (x : Bor Page) → o ≡ Some x → image_at (pool_at c i) p ≡ Some x.now
  copy-is x is = ap (λ (b : Buffers). image_at b p) (pool-lent c i at pool low high g.shape.pools place lent)
      ∙ sym looked ∙ ap (λ (y : Option (Bor Page)). option_copied y) is

-- what is lent of a slot is its value
pub lent-value : (o : Option (Bor (List ℕ))) (slots : List Slot) (s : ℕ) → option_map (λ (v : Bor (List ℕ)). v.now) o ≡ value_at slots s
    → option_copied o ≡ value slots s
lent-value None slots s is = is ∙ value-at slots s
lent-value (Some b) slots s is = is ∙ value-at slots s

-- the copy that the pool has is the one of the transaction's instance
pub copied-value : (t : TxnId) (p s : ℕ) (c : Parts) (image : Page) → image_at (pool_at c (home t)) p ≡ Some image
    → value image.slots s ≡ value (image_for t p c).slots s
copied-value t p s c image is = sym (ap (λ (o : Option Page). value (unwrap_or o (empty_page p)).slots s) is)
