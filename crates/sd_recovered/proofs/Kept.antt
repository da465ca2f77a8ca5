-- The records of a log in memory are those that its device keeps. It serves the goals of logs.rt and reading.rt.
use Rattle.std.proofs.Common.{◌≡◌, ℕ, List, [], sym, ap, ◌∙◌, subst}
use Rattle.std.specs.Prelude.{map}
use Rattle.std.specs.List.{flat_map}
use Rattle.sd_logrec.specs.Kept.{Reading, Whole, kept}
use Rattle.sd_logrec.specs.View.{flat}
use Rattle.sd_log.specs.Logs.{LogState, flats, scanned}
use Rattle.sd_chain.specs.Bytes.{records_of}
use Rattle.sd_chain.specs.Checks.{placed_of, records_in}
use Rattle.sd_chain.specs.Order.{Tidy}
use Rattle.sd_recovered.specs.Losers.{AreTidy}
use Rattle.sd_recovered.specs.Reading.{IsUnread}
use Rattle.sd_chain.proofs.Soundly.{flat_records}
use Rattle.sd_redo.proofs.Flats.{flats-log}

-- what the device keeps, as chains see it
pub kept_flats : (bytes : List ℕ) (log : LogState) → kept bytes ≡ Whole log.groups log.gate → log.tail ≡ []
    → flats (scanned log) ≡ records_of (kept bytes)
kept_flats bytes log whole none = flats-log log none ∙ ap records_of (sym whole)

-- and as the checks do
pub kept_records : (bytes : List ℕ) (log : LogState) → kept bytes ≡ Whole log.groups log.gate → log.tail ≡ []
    → flats (scanned log) ≡ map flat (records_in bytes)
kept_records bytes log whole none =
    flats-log log none
    ∙ sym (flat_records (flat_map (λ g. g.records) log.groups))
    ∙ ap (λ (r : Reading). map flat (map (λ p. p.1) (placed_of r))) (sym whole)

-- records that aren't in order stand on a device that breaks a check
pub unread : (inst : ℕ) (bytes : List ℕ) (log : LogState) → kept bytes ≡ Whole log.groups log.gate → log.tail ≡ []
    → (AreTidy (scanned log) → ⊥) → IsUnread inst bytes
unread inst bytes log whole none untidy =
    λ master groups txns. untidy (λ t. subst (Tidy t) (sym (kept_records bytes log whole none)) (txns t))
