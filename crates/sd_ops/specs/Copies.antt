-- Why an instance hasn't a page as a call wants it.
use Rattle.std.specs.Prelude.{◌≡◌, ℕ, true, false}
use Rattle.sd_base.specs.declared.place.Mode.{Mode}
use Rattle.sd_base.specs.declared.refusal.Refusal.{Refusal}
use Rattle.sd_base.specs.declared.refusal.Refusal.TheVariants as R
use Rattle.sd_pagelock.specs.Directory.{entry_at}
use Rattle.sd_pagelock.specs.Places.{holds_as, is_lost, seen}
use Rattle.sd_state.specs.Parts.{Parts}

-- the page is lost, or the instance hasn't it in this mode; memory has no cause
abbrev pub LacksPage : Mode → ℕ → ℕ → Parts → Refusal → Type 0
LacksPage mode i p c R.Lost = is_lost (entry_at c.directory p) ≡ true
LacksPage mode i p c (R.NeedPage place) =
    (is_lost (entry_at c.directory p) ≡ false) × (holds_as mode (entry_at c.directory p) i ≡ false) × (seen place ≡ entry_at c.directory p)
LacksPage mode i p c R.Memory = Unit {0}
LacksPage mode i p c n = ⊥
