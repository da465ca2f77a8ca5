-- Where a walk over stacks stops, told of the pages that it began with. It serves the loops of taking_back.rt.
use Rattle.std.proofs.Common.{◌≡◌, ◌<◌, ℕ, List, ◌++◌, Some, append_assoc, get_or, reverse, slice_get, take, sym, ap, subst, ◌∙◌, length}
use Rattle.std.proofs.lemmas.Option.{slice_get-get_or}
use Rattle.sd_base.specs.declared.ids.TxnId.{TxnId}
use Rattle.sd_page.specs.Page.{Page}
use Rattle.sd_logrec.specs.View.{Rec}
use Rattle.sd_log.specs.declared.placed.Placed.{Placed}
use Rattle.sd_log.specs.Logs.{LogState, scanned}
use Rattle.sd_recovered.specs.declared.losers.Loser.{Loser}
use Rattle.sd_recovered.specs.Stops.{StopsAt, StopsIn}
use Rattle.sd_recovered.specs.Taking.{MayTake, Taken, lowest_place, open_in, picked, stacks_in}
use Rattle.sd_recovered.proofs.Steps.{takes-append, takes-back}

pub listed : {X : Type 0} (xs : List X) (i : ℕ) (x : X) → i < length xs → x ≡ get_or xs i x → slice_get xs i ≡ Some x
listed xs i x lt is = slice_get-get_or xs i x lt ∙ ap (λ y. Some y) (sym is)

module _ (top : TxnId → ℕ → ℕ → ℕ) (a b : List Page) where
  -- at a loser of a log
  pub stops_in : (log : List Placed) (losers : List Loser) (i : ℕ) (x : Loser) (inst place : ℕ) → slice_get losers i ≡ Some x
      → inst ≡ x.txn.inst → place ≡ lowest_place log x.open
      → MayTake a top (stacks_in log (take i losers)) × Taken a b (stacks_in log (take i losers))
      → (MayTake b top (picked log (reverse x.open)) → ⊥) → StopsIn a top log losers inst place
  stops_in log losers i x inst place there e f taken not = record {
    index = i;
    loser = x;
    there = there;
    inst_is = e;
    place_is = f;
    front = taken.0;
    stops = λ may. not (takes-back top a b (stacks_in log (take i losers)) (picked log (reverse x.open)) taken.1 may);
  }

  -- behind the logs before it
  pub stops_at : (logs : List LogState) (losers : List (List Loser)) (j : ℕ) (log : LogState) (own : List Loser) (inst place : ℕ)
      → slice_get logs j ≡ Some log → slice_get losers j ≡ Some own
      → MayTake a top (open_in (take j logs) (take j losers)) × Taken a b (open_in (take j logs) (take j losers))
      → StopsIn b top (scanned log) own inst place → StopsAt a top logs losers inst place
  stops_at logs losers j log own inst place e f taken s =
      let before : List Rec = open_in (take j logs) (take j losers) in
      let front : List Rec = stacks_in (scanned log) (take s.index own) in
      let stack : List Rec = picked (scanned log) (reverse s.loser.open) in record {
        number = j;
        log = log;
        log_is = e;
        own = own;
        own_are = f;
        index = s.index;
        loser = s.loser;
        there = s.there;
        inst_is = s.inst_is;
        place_is = s.place_is;
        front = takes-append top a b before front taken.0 taken.1 s.front;
        stops = λ may. s.stops (takes-back top a b before (front ++ stack) taken.1
            (subst (MayTake a top) (append_assoc before front stack) may));
      }
