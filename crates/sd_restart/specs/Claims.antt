-- What transactions that are left open have open, and the exclusive locks on it.
use Rattle.std.specs.Prelude.{◌≡◌, Bool, true, ◌&&◌, cond, List, Option, Some}
use Rattle.std.specs.List.{list_any}
use Rattle.sd_base.specs.declared.ids.TxnId.{TxnId}
use Rattle.sd_base.specs.declared.ids.Rid.{Rid}
use Rattle.sd_base.specs.declared.place.Mode.{Mode}
use Rattle.sd_base.specs.declared.place.Mode.TheVariants as modes
use Rattle.sd_base.specs.Ids.{same_txn}
use Rattle.sd_logrec.specs.View.{Rec}
use Rattle.sd_log.specs.Logs.{LogState, log_in}
use Rattle.sd_recovered.specs.declared.losers.Loser.{Loser}
use Rattle.sd_chain.specs.Fates.{fate}
use Rattle.sd_chain.specs.Records.{at, home, stack}
use Rattle.sd_moves.specs.Opening.{is_left}

-- one of these records changed it
abbrev pub changed_in : List Rec → Rid → Bool
changed_in xs r = list_any (at r.page r.slot) xs

-- the transaction has it open in its log
abbrev pub opens_in : List Rec → TxnId → Rid → Bool
opens_in log t r = changed_in (stack t log) r

-- the transaction is one of these
abbrev pub is_listed : List Loser → TxnId → Bool
is_listed losers t = list_any (λ l. same_txn l.txn t) losers

-- the logs leave the transaction open, and so this record, which it changed; the first of them is that of instance 1
abbrev pub has_in : List LogState → TxnId → Rid → Bool
has_in logs t r = is_left (fate t (log_in logs (home t))) && opens_in (log_in logs (home t)) t r

-- no record is open of two transactions
abbrev pub AreApart : List LogState → Type 0
AreApart logs = (t u : TxnId) (r : Rid) → has_in logs t r ≡ true → has_in logs u r ≡ true → t ≡ u

-- nor of two of these losers
abbrev pub LosersAreApart : List Rec → List Loser → Type 0
LosersAreApart log losers = (t u : TxnId) (r : Rid) → is_listed losers t ≡ true → is_listed losers u ≡ true
    → opens_in log t r ≡ true → opens_in log u r ≡ true → t ≡ u

-- an exclusive lock, or what was held before
abbrev pub claimed : Bool → Option Mode → Option Mode
claimed claims had = cond {A = Option Mode} claims (Some modes.Excl) had
