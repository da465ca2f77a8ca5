use Rattle.std.proofs.Common.{refl, sym}
use Rattle.std.proofs.lemmas.Bool.{true≢false}
use Rattle.sd_script.specs.Causes.{IsAllowed}
use Rattle.sd_script.proofs.FirstCause.{by_byte, by_size}
use Rattle.sd_script.proofs.causes.cause_unprinted.Goals as goal

pub returns-then-is_one_table_too_many : goal.returns-then-is_one_table_too_many
returns-then-is_one_table_too_many c = λ number end few most. by_size c.args.reader.now c.args.line.now number end
    (λ allowed. c.if-is_one_table_too_many.ensures.many refl allowed.tables_most)

pub returns-else-is_one_table_too_many : goal.returns-else-is_one_table_too_many
returns-else-is_one_table_too_many c = λ number end few most.
    let allowed : IsAllowed c.args.reader.now c.args.line.now number end = record {
      bytes_most = c.requires.bytes;
      lines_most = few;
      text_most = most;
      tables_most = c.if-is_one_table_too_many.ensures.few (λ e. true≢false (sym e));
    } in
    by_byte c.args.reader.now c.args.line.now number end allowed c.requires.printed
