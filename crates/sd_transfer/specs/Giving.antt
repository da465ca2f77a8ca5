-- When an instance may give a page, and why it doesn't.
use Rattle.std.specs.Prelude.{◌≡◌, ◌⊎◌, ℕ, ◌-◌, true, false, [], None, Some, cond, slice_set}
use Rattle.sd_base.specs.declared.place.Mode.{Mode}
use Rattle.sd_base.specs.declared.refusal.Refusal.{Refusal}
use Rattle.sd_base.specs.declared.refusal.Refusal.TheVariants as R
use Rattle.sd_pagelock.specs.Asks.{oldest}
use Rattle.sd_pagelock.specs.Directory.{asks_at, entry_at}
use Rattle.sd_pagelock.specs.Places.{holds, is_lost, owns, passes, receives, seen}
use Rattle.sd_pool.specs.Buffers.{without_page}
use Rattle.sd_state.specs.Parts.{Parts, is_active, is_loose, log_at, pool_at}
use Rattle.sd_transfer.specs.Barring.{IsBarred}
use Rattle.sd_transfer.specs.Forcing.{force_calls}

-- The instance is active and has a copy of the page, which is neither lost nor on its way; `to` asks in this mode, and no other's
-- ask is older.
pub record MayGive (c : Parts) (j p to : ℕ) (mode : Mode) : Type 0 where
  pub active : is_active c j ≡ true
  pub found : is_lost (entry_at c.directory p) ≡ false
  pub still : passes (entry_at c.directory p) ≡ false
  pub held : holds (entry_at c.directory p) j ≡ true
  pub asked : oldest j (asks_at c.directory p) ≡ Some (to, mode)

-- instance j doesn't give page p for this cause, and no cause before it applies
abbrev pub IsUngiven : Parts → ℕ → ℕ → Refusal → Type 0
IsUngiven c j p (R.MovingTo to) =
    (is_active c j ≡ true) × (is_lost (entry_at c.directory p) ≡ false) × (passes (entry_at c.directory p) ≡ true)
    × (receives (entry_at c.directory p) to ≡ true)
IsUngiven c j p (R.NeedPage place) =
    (is_active c j ≡ true) × (is_lost (entry_at c.directory p) ≡ false) × (passes (entry_at c.directory p) ≡ false)
    × (holds (entry_at c.directory p) j ≡ false) × (seen place ≡ entry_at c.directory p)
IsUngiven c j p R.NotAsked =
    (is_active c j ≡ true) × (is_lost (entry_at c.directory p) ≡ false) × (passes (entry_at c.directory p) ≡ false)
    × (holds (entry_at c.directory p) j ≡ true) × (oldest j (asks_at c.directory p) ≡ None)
IsUngiven c j p n = IsBarred c j p n

-- where the instance has the page alone, its log is forced, unless that isn't settled
abbrev pub IsForcedFor : Parts → ℕ → ℕ → Parts → Type 0
IsForcedFor old j p new = owns (entry_at old.directory p) j ≡ true → is_loose old j ≡ false → (log_at new j).tail ≡ []

-- The pools are as they were, but that the giver's copy of the page may have gone.
abbrev pub MayLeave : ℕ → ℕ → Parts → Parts → Type 0
MayLeave j p old new = (new.pools ≡ old.pools) ⊎ (new.pools ≡ slice_set old.pools (j - 1) (without_page (pool_at old j) p))

-- the writes and syncs of a give that is done: those of a force of the giver's log, where it has the page alone
abbrev pub give_calls : ℕ → ℕ → Parts → ℕ
give_calls j p c = cond (owns (entry_at c.directory p) j) (force_calls j c) 0
