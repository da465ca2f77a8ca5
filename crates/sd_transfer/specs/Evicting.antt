-- Why a copy stays in its pool.
use Rattle.std.specs.Prelude.{◌≡◌, ℕ, true, false}
use Rattle.sd_base.specs.declared.refusal.Refusal.{Refusal}
use Rattle.sd_base.specs.declared.refusal.Refusal.TheVariants as R
use Rattle.sd_pagelock.specs.Directory.{entry_at}
use Rattle.sd_pagelock.specs.Places.{holds, is_lost, seen}
use Rattle.sd_pagelock.specs.Rows.{may_evict}
use Rattle.sd_state.specs.Parts.{Parts, is_active}
use Rattle.sd_transfer.specs.Barring.{IsBarred}

-- the copy of page p stays in the pool of instance i for this cause, and no cause before it applies
abbrev pub StaysFor : Parts → ℕ → ℕ → Refusal → Type 0
StaysFor c i p (R.NeedPage place) =
    (is_active c i ≡ true) × (is_lost (entry_at c.directory p) ≡ false) × (holds (entry_at c.directory p) i ≡ false)
    × (seen place ≡ entry_at c.directory p)
StaysFor c i p R.Dirty =
    (is_active c i ≡ true) × (is_lost (entry_at c.directory p) ≡ false) × (holds (entry_at c.directory p) i ≡ true)
    × (may_evict i (entry_at c.directory p) ≡ false)
StaysFor c i p n = IsBarred c i p n
