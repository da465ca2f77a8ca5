-- What the records so far say, one record further. It serves callers.
use Rattle.std.proofs.Common.{◌≡◌, refl}
use Rattle.sd_logrec.specs.declared.record.Record.{Record}
use Rattle.sd_logrec.specs.declared.record.Record.TheVariants as records
use Rattle.sd_chain.specs.Checks.{Past, after_record, lsn_of}

-- the LSN so far is that of the last record
pub lsn_after : (past : Past) (r : Record) → (after_record past r).lsn ≡ lsn_of r
lsn_after past (records.Start l epoch) = refl
lsn_after past (records.Update l txn prev page slot capacity before after) = refl
lsn_after past (records.Clr l txn prev undo_next page slot after) = refl
lsn_after past (records.Commit l txn prev) = refl
lsn_after past (records.End l txn prev) = refl
lsn_after past (records.BeginCheck l) = refl
lsn_after past (records.EndCheck l begin spans recs) = refl
