-- What an event of a page leaves of what no world has.
use Rattle.std.specs.Prelude.{◌≡◌, ℕ, Bool, Result, Ok, Err}
use Rattle.sd_base.specs.declared.refusal.Refusal.{Refusal}
use Rattle.sd_base.specs.declared.refusal.Refusal.TheVariants as R
use Rattle.sd_fits.specs.Untouched.{FallTouches, IsUntouched, none_of, only}
use Rattle.sd_state.specs.Parts.{Parts}

-- the pools of these, once the event is done, and of none where it isn't
abbrev pub once_done : {X : Type 0} → Result X Refusal → (ℕ → Bool) → ℕ → Bool
once_done (Ok x) whose = whose
once_done (Err n) whose = none_of

-- What no world has, behind an event of instance i for which its log is forced: it is as it was, but for these pools, and as the fall of
-- i leaves it where the device of its log failed. Each other refusal leaves all as it was.
abbrev pub Touches : {X : Type 0} → ℕ → (ℕ → Bool) → Result X Refusal → Parts → Parts → Type 0
Touches i whose (Ok x) old new = IsUntouched whose none_of old new
Touches i whose (Err R.Failed) old new = FallTouches i (only i) none_of old new
Touches i whose (Err n) old new = new ≡ old
