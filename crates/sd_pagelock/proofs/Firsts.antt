-- The first of a list that passes a test, where none does. For whoever looks for one.
use Rattle.std.proofs.Common.{◌≡◌, ℕ, ◌≤◌, Bool, true, false, cond, List, length, Option, None, Some, refl}
use Rattle.std.specs.Prelude.{ltb, position}
use Rattle.std.specs.List.{position_or_len}
use Rattle.std.proofs.lemmas.Bool.{ltb-false}

pub past_end : {X : Type 0} (p : X → Bool) (xs : List X) → position p xs ≡ None → length xs ≤ position_or_len p xs
past_end p xs missing = ltb-false (position_or_len p xs) (length xs) (go (ltb (position_or_len p xs) (length xs)) missing)
  where
    go : (b : Bool) → cond {A = Option ℕ} b (Some (position_or_len p xs)) None ≡ None → b ≡ false
    go true e = absurd (cc)
    go false e = refl
