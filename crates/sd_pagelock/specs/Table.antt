-- What a table of places keeps.
use Rattle.std.specs.Prelude.{◌≡◌, ℕ, List, length}
use Rattle.std.specs.List.{count_by}
use Rattle.sd_base.specs.declared.place.Place as coded
use Rattle.sd_pagelock.specs.Places.{seen, place_at, is_lost, Formed, InRange}

-- how many pages only logs have
abbrev pub lost_among : List coded.Place → ℕ
lost_among places = count_by (λ (place : coded.Place). is_lost (seen place)) places

-- 1,024 places, well formed and over instances of the complex, and the number of those that are lost
pub record AreKept (places : List coded.Place) (lost : ℕ) : Type 0 where
  pub pages : length places ≡ 1024
  pub counted : lost ≡ lost_among places
  pub formed : (p : ℕ) → Formed (place_at places p)
  pub in_range : (p : ℕ) → InRange (place_at places p)
