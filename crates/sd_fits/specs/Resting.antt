-- What events of others leave of a recovery that is under way.
use Rattle.std.specs.Prelude.{◌≡◌, ◌⊎◌, ℕ, zero, suc, ◌+◌, ◌<◌, Bool, true, cond}
use Rattle.sd_base.specs.declared.place.Status.TheVariants as S
use Rattle.sd_pagelock.specs.Directory.{entry_at}
use Rattle.sd_pagelock.specs.Places.{is_lost}
use Rattle.sd_state.specs.Parts.{Parts, is_active, is_loose, status_at, txns_at}

abbrev pub one_if : Bool → ℕ
one_if b = cond b 1 0

-- how many of the first n are so
unfoldable pub count_to : (ℕ → Bool) → ℕ → ℕ
count_to f zero = 0
count_to f (suc n) = one_if (f n) + count_to f n

-- how many instances may have pages
abbrev pub active_count : Parts → ℕ
active_count c = count_to (is_active c) 9

-- Whoever is recovered still has its table, and its log's mark; and somebody fell, or everybody stands as before, no device is marked
-- and no page lost.
pub record LeavesRest (old new : Parts) : Type 0 where
  pub recovered : (i by : ℕ) → status_at new i ≡ S.Recovering by
      → (status_at old i ≡ S.Recovering by) × (txns_at new i ≡ txns_at old i) × (is_loose new i ≡ is_loose old i)
  pub others : (active_count new < active_count old)
      ⊎ (((j : ℕ) → status_at new j ≡ status_at old j) × ((d : ℕ) → is_loose new d ≡ true → is_loose old d ≡ true)
      × ((p : ℕ) → is_lost (entry_at new.directory p) ≡ true → is_lost (entry_at old.directory p) ≡ true))
