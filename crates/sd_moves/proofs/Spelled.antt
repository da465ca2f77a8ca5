-- The records of each of some logs are of the grammar. For the goals of `spelled`.
use Rattle.std.proofs.Common.{◌≡◌, ℕ, zero, suc, ◌+◌, ◌<◌, List, [], ◌∷◌, ◌++◌, length, get_or, take, sym, ap, ◌∙◌, subst, arith}
use Rattle.std.specs.Prelude.{All}
use Rattle.std.proofs.lemmas.List.{take_more}
use Rattle.std.proofs.lemmas.List.Elements.{All-append}
use Rattle.sd_log.specs.Logs.{AreSpelled, LogState, scanned}

abbrev pub IsSpelled : LogState → Type 0
IsSpelled log = AreSpelled (scanned log)

one-spelled : (x : LogState) → IsSpelled x → All IsSpelled (x ∷ [])
one-spelled x h zero d lt = h
one-spelled x h (suc k) d lt = absurd (omega (arith, lt))

-- with one more log
pub more-spelled : (logs : List LogState) (i : ℕ) (x : LogState) → i < length logs → x ≡ get_or logs i x → IsSpelled x
    → All IsSpelled (take i logs) → All IsSpelled (take (i + 1) logs)
more-spelled logs i x lt is h before =
    subst (All IsSpelled) (sym (take_more logs i x lt ∙ ap (λ (y : LogState). take i logs ++ y ∷ []) (sym is)))
    (All-append IsSpelled (take i logs) (x ∷ []) before (one-spelled x h))
