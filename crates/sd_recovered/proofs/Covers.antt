-- Each log with its losers, found by its instance. It serves the goals of reading.rt.
use Rattle.std.proofs.Common.{◌≡◌, inl, inr, ℕ, zero, suc, ◌+◌, List, [], ◌∷◌, length, refl, subst, arith}
use Rattle.std.specs.Prelude.{All, Some, slice_get}
use Rattle.std.proofs.lemmas.List.Elements.{All-nil, All-cons}
use Rattle.sd_log.specs.Logs.{AreSpelled, LogState, scanned}
use Rattle.sd_recovered.specs.declared.losers.Loser.{Loser}
use Rattle.sd_recovered.specs.Reading.{AreRead, IsUnread, LogIsRead, SomeUnread}

-- the log of this index, and its losers
pub record Covered (j k : ℕ) (device : List ℕ) (logs : List LogState) (losers : List (List Loser)) : Type 0 where
  pub log : LogState
  pub found : List Loser
  pub log_at : slice_get logs k ≡ Some log
  pub read : LogIsRead (j + k) device log found

pub covered : (j k : ℕ) (ds : List (List ℕ)) (logs : List LogState) (losers : List (List Loser)) (d : List ℕ) → AreRead j ds logs losers
    → slice_get ds k ≡ Some d → Covered j k d logs losers
covered j k [] logs losers d are at = absurd (cc)
covered j k (x ∷ ds) [] losers d are at = absurd are
covered j k (x ∷ ds) (y ∷ logs) [] d are at = absurd are
covered j zero (x ∷ ds) (y ∷ logs) (z ∷ losers) d are at =
    let same : x ≡ d = cc in
    let e : j ≡ j + 0 = omega arith in
    record { log = y; found = z; log_at = refl; read = subst (λ (n : ℕ). LogIsRead n d y z) e (subst (λ (b : List ℕ). LogIsRead j b y z) same are.0) }
covered j (suc k) (x ∷ ds) (y ∷ logs) (z ∷ losers) d are at =
    let c = covered (suc j) k ds logs losers d are.1 at in
    let e : suc j + k ≡ j + suc k = omega arith in
    record { log = c.log; found = c.found; log_at = c.log_at; read = subst (λ (n : ℕ). LogIsRead n d c.log c.found) e c.read }

-- as many logs as devices
pub as_many : (j : ℕ) (ds : List (List ℕ)) (logs : List LogState) (losers : List (List Loser)) → AreRead j ds logs losers
    → length logs ≡ length ds
as_many j [] [] [] are = refl
as_many j [] [] (z ∷ losers) are = absurd are
as_many j [] (y ∷ logs) losers are = absurd are
as_many j (x ∷ ds) [] losers are = absurd are
as_many j (x ∷ ds) (y ∷ logs) [] are = absurd are
as_many j (x ∷ ds) (y ∷ logs) (z ∷ losers) are = let ih = as_many (suc j) ds logs losers are.1 in omega (arith, ih)

-- each record is one of the grammar
pub all_spelled : (j : ℕ) (ds : List (List ℕ)) (logs : List LogState) (losers : List (List Loser)) → AreRead j ds logs losers
    → All (λ log. AreSpelled (scanned log)) logs
all_spelled j [] [] [] are = All-nil (λ log. AreSpelled (scanned log))
all_spelled j [] [] (z ∷ losers) are = absurd are
all_spelled j [] (y ∷ logs) losers are = absurd are
all_spelled j (x ∷ ds) [] losers are = absurd are
all_spelled j (x ∷ ds) (y ∷ logs) [] are = absurd are
all_spelled j (x ∷ ds) (y ∷ logs) (z ∷ losers) are =
    All-cons (λ log. AreSpelled (scanned log)) y logs are.0.spelled (all_spelled (suc j) ds logs losers are.1)

-- where one breaks a check, that one is found
pub record Unread (j : ℕ) (ds : List (List ℕ)) : Type 0 where
  pub index : ℕ
  pub device : List ℕ
  pub device_at : slice_get ds index ≡ Some device
  pub bad : IsUnread (j + index) device

pub found_unread : (j : ℕ) (ds : List (List ℕ)) → SomeUnread j ds → Unread j ds
found_unread j [] some = absurd some
found_unread j (x ∷ ds) (inl bad) =
    let e : j ≡ j + 0 = omega arith in
    record { index = 0; device = x; device_at = refl; bad = subst (λ (n : ℕ). IsUnread n x) e bad }
found_unread j (x ∷ ds) (inr some) =
    let u = found_unread (suc j) ds some in
    let e : suc j + u.index ≡ j + suc u.index = omega arith in
    record { index = suc u.index; device = u.device; device_at = u.device_at; bad = subst (λ (n : ℕ). IsUnread n u.device) e u.bad }
