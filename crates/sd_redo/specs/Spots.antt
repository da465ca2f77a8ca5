-- Records of live logs, as an LSN and an index name them.
use Rattle.std.specs.Prelude.{◌≡◌, ◌<◌, false, get_or, length}
use Rattle.sd_logrec.specs.declared.record.Record.TheVariants as records
use Rattle.sd_log.specs.declared.placed.Placed.{Placed}
use Rattle.sd_log.specs.Logs.{lsn_of, scanned}
use Rattle.sd_redo.specs.declared.change.Spot.{Spot}

-- a record of no log
abbrev pub no_record : Placed
no_record = record { place = 0; rec = records.BeginCheck 0; forced = false }

-- the record that is named
abbrev pub found_at : Spot → Placed
found_at t = get_or (scanned t.log.now) t.index no_record

-- There is one, and it has this LSN.
pub record IsSpot (t : Spot) : Type 0 where
  pub there : t.index < length (scanned t.log.now)
  pub lsn_is : t.lsn ≡ lsn_of (found_at t)
