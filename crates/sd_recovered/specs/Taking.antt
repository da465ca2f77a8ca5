-- Records that are taken back in pages, one after another.
use Rattle.std.specs.Prelude.{◌≡◌, ℕ, ◌<◌, ◌≤◌, List, [], ◌∷◌, ◌++◌, length, option_and_then, reverse, slice_get}
use Rattle.std.specs.List.{All, filter_map, flat_map}
use Rattle.std.specs.Option.{option_map_or}
use Rattle.sd_base.specs.declared.ids.TxnId.{TxnId}
use Rattle.sd_base.specs.Values.{size}
use Rattle.sd_page.specs.Page.{Page, Slot}
use Rattle.sd_logrec.specs.View.{Rec}
use Rattle.sd_logrec.specs.View.Kind.{Update}
use Rattle.sd_log.specs.declared.placed.Placed.{Placed}
use Rattle.sd_log.specs.Logs.{LogState, scanned}
use Rattle.sd_chain.specs.Records.{Val, Each}
use Rattle.sd_chain.specs.Pages.{value, capacity}
use Rattle.sd_chain.specs.Storage.{HasPlace}
use Rattle.sd_chain.specs.Undoing.{EachFound, undo_all}
use Rattle.sd_recovered.specs.declared.losers.Loser.{Loser}
use Rattle.sd_recovered.specs.Losers.{record_at}
use Rattle.sd_recovered.specs.Values.{values_in, slots_in, SameShape}

-- the slot has a place for the value before, and has the value after
pub record Holds (slots : List Slot) (s : ℕ) (before after : Val) : Type 0 where
  pub slot : s < length slots
  pub room : size before ≤ capacity slots s
  pub found : value slots s ≡ after

-- The records may be taken back: they are changes, each finds the value that it left and has a place for the one before
-- it, and is above what others did to its record.
pub record MayTake (pages : List Page) (others : TxnId → ℕ → ℕ → ℕ) (xs : List Rec) : Type 0 where
  pub kinds : Each (λ x. x.kind ≡ Update) xs
  pub found : EachFound (values_in pages) xs
  pub places : Each (λ x. HasPlace (slots_in pages x.page) x) xs
  pub last : Each (λ x. others x.txn x.page x.slot < x.lsn) xs

-- and they were
pub record Taken (old new : List Page) (xs : List Rec) : Type 0 where
  pub values : values_in new ≡ undo_all (values_in old) xs
  pub shape : SameShape old new

-- the records of these indices
abbrev pub picked : List Placed → List ℕ → List Rec
picked log indices = filter_map (record_at log) indices

-- where the lowest record of a stack stands
abbrev pub lowest_place : List Placed → List ℕ → ℕ
lowest_place log indices = option_map_or (λ p. p.place) (option_and_then (λ at. slice_get log at) (slice_get indices 0)) 0

-- what the losers of a log have open, one after another, each from the top down
abbrev pub stacks_in : List Placed → List Loser → List Rec
stacks_in log losers = flat_map (λ l. picked log (reverse l.open)) losers

-- the same of all logs
abbrev pub open_in : List LogState → List (List Loser) → List Rec
open_in [] losers = []
open_in (log ∷ logs) [] = []
open_in (log ∷ logs) (ls ∷ losers) = stacks_in (scanned log) ls ++ open_in logs losers

-- none of these losers has anything open
abbrev pub HaveNothingOpen : List Loser → Type 0
HaveNothingOpen losers = All (λ l. l.open ≡ []) losers
