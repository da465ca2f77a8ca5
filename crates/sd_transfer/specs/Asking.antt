-- When an instance may ask for a page, and why it isn't served.
use Rattle.std.specs.Prelude.{◌≡◌, ℕ, true, false}
use Rattle.sd_base.specs.declared.refusal.Refusal.{Refusal}
use Rattle.sd_base.specs.declared.refusal.Refusal.TheVariants as R
use Rattle.sd_pagelock.specs.Directory.{entry_at}
use Rattle.sd_pagelock.specs.Places.{is_lost, passes, receives}
use Rattle.sd_state.specs.Parts.{Parts, is_active}
use Rattle.sd_transfer.specs.Barring.{IsBarred}

-- The instance is active, and the page is neither lost nor on its way.
pub record MayAsk (c : Parts) (i p : ℕ) : Type 0 where
  pub active : is_active c i ≡ true
  pub found : is_lost (entry_at c.directory p) ≡ false
  pub still : passes (entry_at c.directory p) ≡ false

-- instance i isn't served page p for this cause, and no cause before it applies
abbrev pub IsUnserved : Parts → ℕ → ℕ → Refusal → Type 0
IsUnserved c i p (R.MovingTo to) =
    (is_active c i ≡ true) × (is_lost (entry_at c.directory p) ≡ false) × (passes (entry_at c.directory p) ≡ true)
    × (receives (entry_at c.directory p) to ≡ true)
IsUnserved c i p n = IsBarred c i p n
