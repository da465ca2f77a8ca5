-- What is to become of a record, and what its page says of that.
use Rattle.std.specs.Prelude.{◌≡◌, ◌⊎◌, ◌<◌, ◌≤◌, ℕ, ℤ, List, Option, None, Some, length, option_copied}
use Rattle.sd_base.specs.declared.ids.Rid.{Rid}
use Rattle.sd_base.specs.declared.ids.TxnId.{TxnId}
use Rattle.sd_base.specs.declared.refusal.Refusal.{Refusal}
use Rattle.sd_base.specs.declared.refusal.Refusal.TheVariants as R
use Rattle.sd_chain.specs.Pages.{FitsUpdate, capacity as capacity_of, value}
use Rattle.sd_model.specs.declared.event.Event.{Event}
use Rattle.sd_model.specs.declared.event.Event.TheVariants as event
use Rattle.sd_model.specs.Numbers.{HasLongSum, IsNumber, Sums}
use Rattle.sd_page.specs.Page.{Page}
use Rattle.sd_ops.specs.declared.edits.Edit.{Edit}
use Rattle.sd_ops.specs.declared.edits.Edit.TheVariants.{To, By, Gone}
use Rattle.sd_ops.specs.declared.edits.Plan.{Plan}
use Rattle.sd_ops.specs.declared.edits.Plan.TheVariants.{Put, Refuse}

-- a value of over 256 bytes is asked for
abbrev pub IsLongEdit : Edit → Type 0
IsLongEdit (To v) = 256 < length v.now
IsLongEdit (By by) = ⊥
IsLongEdit Gone = ⊥

-- a value that is put in a slot of this capacity, or is too long for it
abbrev pub IsFitted : ℕ → List ℕ → Plan → Type 0
IsFitted own v (Put capacity after) = (capacity ≡ own) × (option_copied after ≡ Some v) × (length v ≤ own)
IsFitted own v (Refuse R.TooLong) = own < length v
IsFitted own v (Refuse n) = ⊥

-- the sum's text is put in a slot of this capacity, or there is none, or it is too long for it
abbrev pub IsSumFitted : ℕ → List ℕ → ℤ → Plan → Type 0
IsSumFitted own u by (Put capacity after) = (w : List ℕ) × (capacity ≡ own) × (option_copied after ≡ Some w) × (length w ≤ own) × Sums u by w
IsSumFitted own u by (Refuse R.NotNumber) = IsNumber u → ⊥
IsSumFitted own u by (Refuse R.TooLong) = HasLongSum u by ⊎ ((w : List ℕ) × (own < length w) × Sums u by w)
IsSumFitted own u by (Refuse n) = ⊥

-- what the edit makes of a value
abbrev pub Makes : Edit → List ℕ → Option (List ℕ) → Type 0
Makes (To v) u after = after ≡ Some v.now
Makes (By by) u after = (w : List ℕ) × (after ≡ Some w) × Sums u by w
Makes Gone u after = after ≡ None

-- why it makes none of it in a slot of this capacity
abbrev pub Spoils : Edit → List ℕ → ℕ → Refusal → Type 0
Spoils (To v) u own R.TooLong = own < length v.now
Spoils (By by) u own R.NotNumber = IsNumber u → ⊥
Spoils (By by) u own R.TooLong = HasLongSum u by ⊎ ((w : List ℕ) × (own < length w) × Sums u by w)
Spoils edit u own n = ⊥

-- The record is there, and gets a value that its slot takes.
pub record Sets (page : Page) (s : ℕ) (edit : Edit) (capacity : ℕ) (after : Option (List ℕ)) : Type 0 where
  pub u : List ℕ
  pub found : value page.slots s ≡ Some u
  pub makes : Makes edit u after
  pub place : s < length page.slots
  pub fits : FitsUpdate page.slots s capacity (value page.slots s) after
  pub small : capacity ≤ 256
  pub had_small : length u ≤ 256

-- The record is there, and gets none, by what its slot takes.
pub record IsSpoiled (page : Page) (s : ℕ) (edit : Edit) (n : Refusal) : Type 0 where
  pub u : List ℕ
  pub found : value page.slots s ≡ Some u
  pub place : s < length page.slots
  pub room : length u ≤ capacity_of page.slots s
  pub why : Spoils edit u (capacity_of page.slots s) n

-- why an edit is refused, once the record's lock is given
abbrev pub IsVain : Page → ℕ → Edit → Refusal → Type 0
IsVain page s edit R.NoRecord = value page.slots s ≡ None
IsVain page s edit n = IsSpoiled page s edit n

abbrev pub IsPlan : Page → ℕ → Edit → Plan → Type 0
IsPlan page s edit (Put capacity after) = Sets page s edit capacity (option_copied after)
IsPlan page s edit (Refuse n) = IsVain page s edit n

-- the event that asks for the edit
abbrev pub event_of : TxnId → Rid → Edit → Event
event_of t r (To v) = event.Write t r v.now
event_of t r (By by) = event.Add t r by
event_of t r Gone = event.Delete t r
