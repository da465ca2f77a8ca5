-- What bars an instance from any event of a page.
use Rattle.std.specs.Prelude.{◌≡◌, ℕ, true, false}
use Rattle.sd_base.specs.declared.refusal.Refusal.{Refusal}
use Rattle.sd_base.specs.declared.refusal.Refusal.TheVariants as R
use Rattle.sd_pagelock.specs.Directory.{entry_at}
use Rattle.sd_pagelock.specs.Places.{is_lost}
use Rattle.sd_state.specs.Parts.{Parts, is_active}

-- instance i isn't active, or it is and page p is lost
abbrev pub IsBarred : Parts → ℕ → ℕ → Refusal → Type 0
IsBarred c i p R.Down = is_active c i ≡ false
IsBarred c i p R.Lost = (is_active c i ≡ true) × (is_lost (entry_at c.directory p) ≡ true)
IsBarred c i p n = ⊥
