-- When an instance may take a page, and why it doesn't.
use Rattle.std.specs.Prelude.{◌≡◌, ℕ, true, false}
use Rattle.sd_base.specs.declared.refusal.Refusal.{Refusal}
use Rattle.sd_base.specs.declared.refusal.Refusal.TheVariants as R
use Rattle.sd_pagelock.specs.Directory.{entry_at}
use Rattle.sd_pagelock.specs.Places.{is_lost, receives, seen}
use Rattle.sd_state.specs.Parts.{Parts, is_active}
use Rattle.sd_transfer.specs.Barring.{IsBarred}

-- The instance is active, and the page moves to it.
pub record MayTake (c : Parts) (i p : ℕ) : Type 0 where
  pub active : is_active c i ≡ true
  pub found : is_lost (entry_at c.directory p) ≡ false
  pub receiver : receives (entry_at c.directory p) i ≡ true

-- instance i doesn't take page p for this cause, and no cause before it applies
abbrev pub IsUntaken : Parts → ℕ → ℕ → Refusal → Type 0
IsUntaken c i p (R.NeedPage place) =
    (is_active c i ≡ true) × (is_lost (entry_at c.directory p) ≡ false) × (receives (entry_at c.directory p) i ≡ false)
    × (seen place ≡ entry_at c.directory p)
IsUntaken c i p n = IsBarred c i p n
