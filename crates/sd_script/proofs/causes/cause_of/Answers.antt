use Rattle.std.proofs.Common.{refl, sym}
use Rattle.std.proofs.lemmas.Bool.{true≢false}
use Rattle.sd_script.specs.Causes.{IsAllowed}
use Rattle.sd_script.specs.Words.{words_of}
use Rattle.sd_script.proofs.Causing.{made}
use Rattle.sd_script.proofs.FirstCause.{by_order, by_size, by_words}
use Rattle.sd_script.proofs.causes.cause_of.Goals as goal

pub returns-then-is_one_table_too_many : goal.returns-then-is_one_table_too_many
returns-then-is_one_table_too_many c = λ number end few most. by_size c.args.reader.now c.args.line.now number end
    (λ allowed. c.if-is_one_table_too_many.ensures.many refl allowed.tables_most)

pub returns-then-is_misplaced : goal.returns-then-is_misplaced
returns-then-is_misplaced c = λ number end few most.
    let allowed : IsAllowed c.args.reader.now c.args.line.now number end = record {
      bytes_most = c.requires.bytes;
      lines_most = few;
      text_most = most;
      tables_most = c.if-is_one_table_too_many.ensures.few (λ e. true≢false (sym e));
    } in
    by_order c.args.reader.now c.args.line.now number end allowed c.requires.printed (c.if-is_misplaced.ensures.0 refl)

pub returns-else-is_misplaced : goal.returns-else-is_misplaced
returns-else-is_misplaced c = λ number end few most.
    let allowed : IsAllowed c.args.reader.now c.args.line.now number end = record {
      bytes_most = c.requires.bytes;
      lines_most = few;
      text_most = most;
      tables_most = c.if-is_one_table_too_many.ensures.few (λ e. true≢false (sym e));
    } in
    by_words c.args.reader.now c.args.line.now number end allowed c.requires.printed
    (λ wrong. true≢false (sym (c.if-is_misplaced.ensures.1 wrong))) c.cause_in_words.result c.cause_in_words.ensures

pub cause_in_words-requires : goal.cause_in_words-requires
cause_in_words-requires c = λ k passed.
    let found = made c.args.reader.now (words_of c.args.line.now) k
    (λ wrong. true≢false (sym (c.if-is_misplaced.ensures.1 wrong)))
    (c.if-is_one_table_too_many.ensures.few (λ e. true≢false (sym e))) passed in
    c.requires.none found.0 found.1 found.2 found.3
