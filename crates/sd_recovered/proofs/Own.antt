-- The losers of a log are of its instance. It serves the goals of logs.rt.
use Rattle.std.proofs.Common.{◌≡◌, ⊎_elim, ℕ, suc, true, false, Bool, ◌&&◌, ◌||◌, List, [], ◌∷◌, refl, subst}
use Rattle.std.specs.Prelude.{map, is_some}
use Rattle.std.specs.List.{list_any}
use Rattle.std.proofs.lemmas.Bool.{cases_Bool}
use Rattle.sd_base.specs.declared.ids.TxnId.{TxnId}
use Rattle.sd_base.specs.Ids.{same_txn}
use Rattle.sd_base.specs.Twin.{chosen_body}
use Rattle.sd_logrec.specs.declared.record.Record.{Record}
use Rattle.sd_logrec.specs.declared.record.Record.TheVariants as records
use Rattle.sd_logrec.specs.Kept.{Master, master}
use Rattle.sd_logrec.specs.View.{Rec, flat}
use Rattle.sd_log.specs.Logs.{LogState, flats, scanned}
use Rattle.sd_chain.specs.Checks.{Follow, MayCome, Past, after_record, past_of, records_in}
use Rattle.sd_chain.specs.Order.{of_txn, speaks}
use Rattle.sd_chain.specs.Records.{Each, home}
use Rattle.sd_recovered.specs.declared.losers.Loser.{Loser}
use Rattle.sd_recovered.specs.Losers.{IsLoser}
use Rattle.sd_recovered.specs.UndoPass.{AreLosersFrom}
use Rattle.sd_recovered.specs.Reading.{AreRead, LogIsRead}
use Rattle.sd_recovered.proofs.Kept.{kept_records}
use Rattle.sd_base.proofs.SameIds.{cases_txn, ne-same}

-- a record that has a transaction has one of this instance
abbrev pub IsOf : ℕ → Record → Type 0
IsOf inst r = speaks (flat r).kind ≡ true → home (flat r).txn ≡ inst

is_of : (inst : ℕ) (past : Past) (r : Record) → MayCome inst past r → IsOf inst r
is_of inst past (records.Start l epoch) may = λ is. absurd (cc)
is_of inst past (records.Update l txn prev page slot capacity before after) may = λ is. may.0
is_of inst past (records.Clr l txn prev next page slot after) may = λ is. may.0
is_of inst past (records.Commit l txn prev) may = λ is. may.0
is_of inst past (records.End l txn prev) may = λ is. may.0
is_of inst past (records.BeginCheck l) may = λ is. absurd (cc)
is_of inst past (records.EndCheck l begin spans recs) may = λ is. absurd (cc)

pub are_of : (inst : ℕ) (chosen : Bool) (m : Master) (past : Past) (rs : List Record) → Follow inst chosen m past rs → Each (IsOf inst) rs
are_of inst chosen m past [] follow = tt
are_of inst chosen m past (r ∷ rs) follow = (is_of inst past r follow.1, are_of inst chosen m (after_record past r) rs follow.3)

of_both : (a b : Bool) → (a && b) ≡ true → (a ≡ true) × (b ≡ true)
of_both true b is = (refl, is)
of_both false b is = absurd (cc)

same_is : (a b : TxnId) → same_txn a b ≡ true → a ≡ b
same_is a b is = ⊎_elim (λ e. e) (λ ne. let no = ne-same a b ne in absurd (cc)) (cases_txn a b)

other : (a b : Bool) → a ≡ false → (a || b) ≡ true → b ≡ true
other true b off some = absurd (cc)
other false b off some = some

named_here : (inst : ℕ) (t : TxnId) (rs : List Record) → Each (IsOf inst) rs → list_any (of_txn t) (map flat rs) ≡ true → home t ≡ inst
named_here inst t [] are some = absurd (cc)
named_here inst t (r ∷ rs) are some = ⊎_elim
    (λ is. let both = of_both (speaks (flat r).kind) (same_txn (flat r).txn t) is in
    subst (λ (u : TxnId). home u ≡ inst) (same_is (flat r).txn t both.1) (are.0 both.0))
    (λ no. named_here inst t rs are.1 (other (of_txn t (flat r)) (list_any (of_txn t) (map flat rs)) no some))
    (cases_Bool (of_txn t (flat r)))

own_losers : (inst : ℕ) (bytes : List ℕ) (log : LogState) (found : List Loser) → LogIsRead inst bytes log found → (ls : List Loser)
    → Each (IsLoser (scanned log)) ls → Each (λ l. home l.txn ≡ inst) ls
own_losers inst bytes log found read [] each = tt
own_losers inst bytes log found read (l ∷ ls) each =
    let records : flats (scanned log) ≡ map flat (records_in bytes) = kept_records bytes log read.kept_is read.no_tail in
    let are = are_of inst (is_some (chosen_body 0 64 bytes)) (master bytes) (past_of (master bytes)) (records_in bytes) read.groups.follow in
    let some : list_any (of_txn l.txn) (map flat (records_in bytes)) ≡ true =
    subst (λ (rs : List Rec). list_any (of_txn l.txn) rs ≡ true) records each.0.there in
    (named_here inst l.txn (records_in bytes) are some, own_losers inst bytes log found read ls each.1)

pub losers_read : (j : ℕ) (ds : List (List ℕ)) (logs : List LogState) (losers : List (List Loser)) → AreRead j ds logs losers
    → AreLosersFrom j logs losers
losers_read j [] [] [] are = tt
losers_read j [] [] (z ∷ losers) are = absurd are
losers_read j [] (y ∷ logs) losers are = absurd are
losers_read j (x ∷ ds) [] losers are = absurd are
losers_read j (x ∷ ds) (y ∷ logs) [] are = absurd are
losers_read j (x ∷ ds) (y ∷ logs) (z ∷ losers) are = (
  record { losers_are = are.0.losers_are; own = own_losers j x y z are.0 z are.0.losers_are.each },
  losers_read (suc j) ds logs losers are.1,
)
