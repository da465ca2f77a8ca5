-- What contracts see of a log: the groups that are forced, and the records of the tail.
use Rattle.std.specs.Prelude.{◌≡◌, ℕ, zero, suc, ◌+◌, ◌-◌, ◌<◌, ◌≤◌, Bool, true, false, List, [], ◌∷◌, ◌++◌, All, filter, leb, length, map, slice_get}
use Rattle.std.specs.List.{AllByRecursion, flat_map}
use Rattle.std.specs.Option.{option_map_or}
use Rattle.sd_logrec.specs.declared.record.Record.{Record}
use Rattle.sd_logrec.specs.Kept.{Group, Records, Whole, area, placed_from, reading, spelled}
use Rattle.sd_logrec.specs.Spelling.{HasSpelling}
use Rattle.sd_logrec.specs.View.{Rec, flat}
use Rattle.sd_log.specs.declared.placed.Placed.{Placed}
use Rattle.sd_log.specs.Spellings.{record_in}

-- The instance; the place where the log begins, and the place of the next gate, from the area's start; the forced groups
-- between them; the records of the tail; and how many bytes of records find memory.
pub record LogState : Type 0 where
  pub inst : ℕ
  pub start : ℕ
  pub gate : ℕ
  pub groups : List Group
  pub tail : List Record
  pub spare : ℕ

-- the bytes of the tail's records
abbrev pub tail_len : LogState → ℕ
tail_len log = length (spelled log.tail)

-- a record of the log with its place
abbrev pub placed : Bool → ℕ × Record → Placed
placed is_forced r = record { place = r.0; rec = r.1; forced = is_forced }

-- the records of groups
abbrev pub placed_groups : List Group → List Placed
placed_groups groups = flat_map (λ g. map (placed true) g.records) groups

-- the records of a tail, with the places that they get when they are forced
abbrev pub placed_tail : ℕ → List Record → List Placed
placed_tail gate tail = map (placed false) (placed_from (gate + 5) tail)

-- all records of a log
abbrev pub scanned : LogState → List Placed
scanned log = placed_groups log.groups ++ placed_tail log.gate log.tail

abbrev pub lsn_of : Placed → ℕ
lsn_of p = (flat p.rec).lsn

-- the records, whatever their places, seen flat
abbrev pub flats : List Placed → List Rec
flats ps = map (λ p. flat p.rec) ps

-- each record is one of the grammar
abbrev pub AreSpelled : List Placed → Type 0
AreSpelled ps = All (λ p. HasSpelling p.rec) ps

-- the records of log j of these logs, of which the first is log 1
abbrev pub log_in : List LogState → ℕ → List Rec
log_in logs zero = []
log_in logs (suc j) = option_map_or (λ log. flats (scanned log)) (slice_get logs j) []

-- the LSN of the last record, or 0
abbrev pub last_lsn : List Placed → ℕ
last_lsn ps = option_map_or lsn_of (slice_get ps (length ps - 1)) 0

-- the place behind the next gate, were the tail forced with n more bytes, and with these bytes reserved
abbrev pub needed : LogState → ℕ → ℕ → ℕ
needed log n reserve = log.gate + 5 + tail_len log + n + reserve + 1

-- the group of a tail
abbrev pub tail_group : LogState → Group
tail_group log = record { at = log.gate; records = placed_from (log.gate + 5) log.tail }

-- the log with this tail as one more group, if there is one
abbrev pub forced_with : LogState → List Record → LogState
forced_with log [] = log
forced_with log (r ∷ rs) = record {
  inst = log.inst;
  start = log.start;
  gate = log.gate + 5 + tail_len log;
  groups = log.groups ++ tail_group log ∷ [];
  tail = [];
  spare = log.spare;
}

-- the log once its tail is forced
abbrev pub forced : LogState → LogState
forced log = forced_with log log.tail

-- there are some records
abbrev pub are_there : List Record → Bool
are_there [] = false
are_there (r ∷ rs) = true

-- the log has records that aren't forced
abbrev pub has_tail : LogState → Bool
has_tail log = are_there log.tail

-- the log without its tail
abbrev pub without_tail : LogState → LogState
without_tail log = record { inst = log.inst; start = log.start; gate = log.gate; groups = log.groups; tail = []; spare = log.spare }

-- the forced records of log j of these logs, of which the first is log 1
abbrev pub forced_in : List LogState → ℕ → List Rec
forced_in logs = log_in (map without_tail logs)

-- the log with one more record
abbrev pub with_record : Record → ℕ → LogState → LogState
with_record r spare log = record { inst = log.inst; start = log.start; gate = log.gate; groups = log.groups; tail = log.tail ++ r ∷ []; spare = spare }

-- The log's groups stand on its device, with a closed gate behind them.
abbrev pub StandsOn : LogState → List ℕ → Type 0
StandsOn log device = reading log.start (area device) ≡ Whole log.groups log.gate

-- each record has an LSN below this one
abbrev pub AreBelow : ℕ → Records → Type 0
AreBelow low rs = AllByRecursion (λ r. (flat r.1).lsn < low) rs

-- where the first of these groups stands, or else the next gate
abbrev pub boundary : List Group → ℕ → ℕ
boundary [] gate = gate
boundary (g ∷ gs) gate = g.at

-- The place is where one of these groups begins, or the next gate.
abbrev pub IsBoundary : ℕ → List Group → ℕ → Type 0
IsBoundary place groups gate = (before behind : List Group) × (groups ≡ before ++ behind) × (place ≡ boundary behind gate)

-- the log from this place on
abbrev pub begun_at : ℕ → LogState → LogState
begun_at place log = record log { start = place; groups = filter (λ g. leb place g.at) log.groups }

-- The groups stand one behind the other, the first at this place and the gate behind the last, each where its gate, its length
-- and its records have room.
abbrev pub ArePlaced : ℕ → ℕ → List Group → Type 0
ArePlaced start gate [] = start ≡ gate
ArePlaced start gate (g ∷ gs) = (g.at ≡ start) × (start + 5 + length (spelled (map record_in g.records)) ≤ boundary gs gate) × ArePlaced (boundary gs gate) gate gs

-- So they stand, and each record is one of the grammar.
pub record AreForced (start gate : ℕ) (groups : List Group) : Type 0 where
  pub places : ArePlaced start gate groups
  pub spelled : AreSpelled (placed_groups groups)

-- the first of these groups, if there is one, has a record whose LSN isn't below this one
abbrev pub BeginsAtOrAbove : ℕ → List Group → Type 0
BeginsAtOrAbove low [] = Unit {0}
BeginsAtOrAbove low (g ∷ gs) = AreBelow low g.records → ⊥

-- The greatest boundary of groups before which each record has an LSN below low.
pub record IsStartFor (low : ℕ) (groups : List Group) (gate place : ℕ) : Type 0 where
  pub before : List Group
  pub behind : List Group
  pub parts : groups ≡ before ++ behind
  pub place_is : place ≡ boundary behind gate
  pub below : AllByRecursion (λ g. AreBelow low g.records) before
  pub greatest : BeginsAtOrAbove low behind
