-- Marks: where each group ends, how many records it has, and the greatest LSN of these. They part a list of records into groups.
use Rattle.std.specs.Prelude.{◌≡◌, ℕ, ◌+◌, ◌<◌, true, max, List, [], ◌∷◌, take, drop, map, nat_lt}
use Rattle.std.specs.List.{position_or_len}
use Rattle.sd_logrec.specs.declared.record.Record.{Record}
use Rattle.sd_logrec.specs.Kept.{Group}
use Rattle.sd_log.specs.declared.placed.Placed.{Placed}
use Rattle.sd_log.specs.declared.marks.Mark.{Mark}
use Rattle.sd_log.specs.Logs.{lsn_of}

-- how many records the groups have
abbrev pub counted : List Mark → ℕ
counted [] = 0
counted (m ∷ ms) = m.count + counted ms

-- where the last group ends
abbrev pub end_of : ℕ → List Mark → ℕ
end_of at [] = at
end_of at (m ∷ ms) = end_of m.end ms

-- a record and its place
abbrev pub entry : Placed → ℕ × Record
entry p = (p.place, p.rec)

-- the groups from this place on
abbrev pub grouped : ℕ → List Mark → List Placed → List Group
grouped at [] ps = []
grouped at (m ∷ ms) ps = record { at = at; records = map entry (take m.count ps) } ∷ grouped m.end ms (drop m.count ps)

-- the greatest LSN, or 0
abbrev pub greatest_lsn : List Placed → ℕ
greatest_lsn [] = 0
greatest_lsn (p ∷ ps) = max (lsn_of p) (greatest_lsn ps)

-- The groups stand one behind the other, each has a record, and each mark has the greatest LSN of its group.
abbrev pub AreMarks : ℕ → List Mark → List Placed → Type 0
AreMarks at [] ps = Unit {0}
AreMarks at (m ∷ ms) ps = (at < m.end) × (0 < m.count) × (m.high ≡ greatest_lsn (take m.count ps)) × AreMarks m.end ms (drop m.count ps)

-- how many groups stand in front of the first one that ends behind this place
abbrev pub gone_before : ℕ → List Mark → ℕ
gone_before place ms = position_or_len (λ m. nat_lt place m.end) ms

-- the same record, forced
abbrev pub as_forced : Placed → Placed
as_forced p = record { place = p.place; rec = p.rec; forced = true }

-- Where the groups begin, where the next gate stands, the marks between, how many records they have, and how many groups
-- more find memory.
pub record MarksState : Type 0 where
  pub start : ℕ
  pub gate : ℕ
  pub marks : List Mark
  pub forced : ℕ
  pub room : ℕ
