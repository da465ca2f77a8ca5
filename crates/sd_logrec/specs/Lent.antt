-- The record that a lent one stands for.
use Rattle.std.specs.Prelude.{option_copied}
use Rattle.sd_logrec.specs.declared.lent.Held.{Held}
use Rattle.sd_logrec.specs.declared.lent.Held.TheVariants as held
use Rattle.sd_logrec.specs.declared.lent.Update.{Update}
use Rattle.sd_logrec.specs.declared.record.Record.{Record}
use Rattle.sd_logrec.specs.declared.record.Record.TheVariants as records

abbrev pub update_record : Update → Record
update_record u = records.Update u.lsn u.txn u.prev u.page u.slot u.capacity (option_copied u.before) (option_copied u.after)

abbrev pub lent_record : Held → Record
lent_record (held.Whole rec) = rec.now
lent_record (held.Update u) = update_record u.now
