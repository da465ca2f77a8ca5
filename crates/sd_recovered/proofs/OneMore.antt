-- Log devices read one after another. It serves the goals of logs.rt and reading.rt.
use Rattle.std.proofs.Common.{◌≡◌, inl, inr, ℕ, zero, suc, ◌+◌, ◌<◌, List, [], ◌∷◌, ◌++◌, length, get_or, subst, arith}
use Rattle.sd_log.specs.Logs.{LogState}
use Rattle.sd_recovered.specs.declared.losers.Loser.{Loser}
use Rattle.sd_recovered.specs.Reading.{AreRead, IsUnread, LogIsRead, SomeUnread}

-- one device more
pub AreRead-more : (j : ℕ) (ds : List (List ℕ)) (logs : List LogState) (losers : List (List Loser)) (d : List ℕ) (log : LogState) (ls : List Loser)
    → AreRead j ds logs losers → LogIsRead (j + length ds) d log ls → AreRead j (ds ++ d ∷ []) (logs ++ log ∷ []) (losers ++ ls ∷ [])
AreRead-more j [] [] [] d log ls a b = let e : j + 0 ≡ j = omega arith in (subst (λ (k : ℕ). LogIsRead k d log ls) e b, tt)
AreRead-more j [] (x ∷ logs) losers d log ls a b = absurd a
AreRead-more j [] [] (x ∷ losers) d log ls a b = absurd a
AreRead-more j (x ∷ ds) [] losers d log ls a b = absurd a
AreRead-more j (x ∷ ds) (y ∷ logs) [] d log ls a b = absurd a
AreRead-more j (x ∷ ds) (y ∷ logs) (z ∷ losers) d log ls a b =
    let e : j + suc (length ds) ≡ suc j + length ds = omega arith in
    (a.0, AreRead-more (suc j) ds logs losers d log ls a.1 (subst (λ (k : ℕ). LogIsRead k d log ls) e b))

-- one that isn't sound
pub some_unread : (j k : ℕ) (ds : List (List ℕ)) (d : List ℕ) → k < length ds → IsUnread (j + k) (get_or ds k d) → SomeUnread j ds
some_unread j k [] d lt bad = absurd (omega (arith, lt))
some_unread j zero (x ∷ ds) d lt bad = let e : j + 0 ≡ j = omega arith in inl (subst (λ (i : ℕ). IsUnread i x) e bad)
some_unread j (suc k) (x ∷ ds) d lt bad =
    let e : j + suc k ≡ suc j + k = omega arith in
    inr (some_unread (suc j) k ds d (omega (arith, lt)) (subst (λ (i : ℕ). IsUnread i (get_or ds k d)) e bad))
