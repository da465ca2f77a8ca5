-- The records that are read of a log in front of a group or a record that breaks the format; all of them, where none does.
use Rattle.std.specs.Prelude.{ℕ, zero, suc, ◌+◌, if◌then◌else◌, List, [], ◌∷◌, ◌++◌, length, take, drop, Option, None, Some, Result, Ok, Err}
use Rattle.sd_base.specs.Twin.{is_open}
use Rattle.sd_logrec.specs.declared.record.Record.{Record}
use Rattle.sd_logrec.specs.Reading.{record_at}
use Rattle.sd_logrec.specs.Spelling.{spelling}
use Rattle.sd_logrec.specs.Kept.{Records, fits_area, group_len, records_at}

-- what stands at this place, in front of what is read behind it
abbrev pub front_then : ℕ → Option (Record × List ℕ) → (ℕ → List ℕ → Records) → Records
front_then at None behind = []
front_then at (Some (r, rest)) behind = (at, r) ∷ behind (at + length (spelling r)) rest

-- the records of a body at this place, up to where none starts; no more of them than it has bytes
unfoldable pub front_within : ℕ → ℕ → List ℕ → Records
front_within n at [] = []
front_within zero at (b ∷ body) = []
front_within (suc n) at (b ∷ body) = front_then at (record_at (b ∷ body)) (front_within n)

-- a body's records, up to where none starts
abbrev pub front_at : ℕ → List ℕ → Records
front_at at body = front_within (length body) at body

-- a group's records in front of what is read behind it, which is nothing where the group breaks the format
abbrev pub group_front : Result Records ℕ → Records → Records → Records
group_front (Ok records) front behind = records ++ behind
group_front (Err place) front behind = front

-- the records in front of what breaks the format in these bytes at this place
unfoldable pub fronts_within : ℕ → ℕ → List ℕ → Records
fronts_within zero at bytes = []
fronts_within (suc n) at bytes =
    let len = group_len bytes in
    let body = take len (drop 5 bytes) in
    if is_open 0 bytes
    then (if fits_area at len then group_front (records_at (at + 5) body) (front_at (at + 5) body) (fronts_within n (at + 5 + len) (drop (5 + len) bytes)) else [])
    else []

-- the records of an area from this place on, in front of what breaks the format
unfoldable pub front : ℕ → List ℕ → Records
front start bytes = fronts_within (length (drop start bytes)) start (drop start bytes)
