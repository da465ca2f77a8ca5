-- How marks part a list of records into groups and a tail.
use Rattle.std.specs.Prelude.{◌≡◌, ℕ, ◌≤◌, true, false, List, ◌++◌, take, drop, length, map}
use Rattle.sd_logrec.specs.declared.record.Record.{Record}
use Rattle.sd_logrec.specs.Kept.{Group, Records, spelled}
use Rattle.sd_log.specs.declared.placed.Placed.{Placed}
use Rattle.sd_log.specs.Logs.{placed, placed_groups, placed_tail}
use Rattle.sd_log.specs.Marks.{AreMarks, MarksState, counted, end_of, grouped}

abbrev pub record_of : Placed → Record
record_of p = p.rec

abbrev pub groups_of : MarksState → List Placed → List Group
groups_of m ps = grouped m.start m.marks (take m.forced ps)

abbrev pub tail_of : MarksState → List Placed → List Record
tail_of m ps = map record_of (drop m.forced ps)

-- The marks part the records that are forced, and each record tells its place and whether it is forced.
pub record IsParted (m : MarksState) (ps : List Placed) : Type 0 where
  pub within : m.forced ≤ length ps
  pub count : m.forced ≡ counted m.marks
  pub gate_is : m.gate ≡ end_of m.start m.marks
  pub marks_are : AreMarks m.start m.marks (take m.forced ps)
  pub forced_ones : take m.forced ps ≡ placed_groups (groups_of m ps)
  pub tail_ones : drop m.forced ps ≡ placed_tail m.gate (tail_of m ps)

-- the bytes of the records of groups
abbrev pub text_of : List Group → List ℕ
text_of gs = spelled (map record_of (placed_groups gs))

-- records with their places, of which so many are forced
abbrev pub items_of : ℕ → Records → List Placed
items_of n es = map (placed true) (take n es) ++ map (placed false) (drop n es)
