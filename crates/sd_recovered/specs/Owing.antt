-- The bytes that the end of a loser takes, by the indices of what it has open.
use Rattle.std.specs.Prelude.{ℕ, ◌+◌, List, sum_by}
use Rattle.std.specs.Option.{option_map_or}
use Rattle.sd_base.specs.Values.{size}
use Rattle.sd_log.specs.declared.placed.Placed.{Placed}
use Rattle.sd_recovered.specs.declared.losers.Loser.{Loser}
use Rattle.sd_recovered.specs.Losers.{record_at}

-- the bytes of the undo of the record of this index
abbrev pub bytes_at : List Placed → ℕ → ℕ
bytes_at log at = option_map_or (λ x. 47 + size x.before) (record_at log at) 0

-- the bytes of the undos of a loser, and of its End
abbrev pub bytes_for : List Placed → Loser → ℕ
bytes_for log loser = 31 + sum_by (bytes_at log) loser.open
