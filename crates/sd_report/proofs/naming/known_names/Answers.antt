use Rattle.std.proofs.Common.{◌≡◌, ◌+◌, ◌++◌, take, refl, sym, ap, ◌∙◌}
use Rattle.std.specs.Map.{update_all}
use Rattle.std.specs.Prelude.{Option}
use Rattle.std.proofs.lemmas.List.Sums.{fold-append}
use Rattle.sd_base.specs.Ids.{same_txn}
use Rattle.sd_model.specs.Booked.{entries_in}
use Rattle.sd_model.specs.declared.event.Entry.{Entry}
use Rattle.sd_report.specs.Names.{name_in}
use Rattle.sd_report.specs.Words.{NamesOf, no_names}
use Rattle.sd_report.specs.Report.{entries_of, gathered, given, given_last, names_of, upto}
use Rattle.sd_report.proofs.LineOrder.{parted_none, parted_more, some_number, gathered_more}
use Rattle.sd_report.proofs.naming.known_names.Goals as goal

pub loop-line-init : goal.loop-line-init
loop-line-init c = record {
  parted = (0, parted_none c.args.lines.now (entries_in c.args.entries) c.requires.lines c.requires.entries);
  names = c.new-names.ensures;
}

pub part_at-requires : goal.part_at-requires
part_at-requires c =
    let at = c.loop-line.invariant.parted in
    record {
      number = some_number c.args.lines.now (entries_in c.args.entries) (entries_in c.loop-line.rest) c.loop-line.line-index at.0
          c.line-item.result at.1 c.loop-line-test.true c.line-item.is;
    }

-- the line's name is known too
pub loop-line-preserved : goal.loop-line-preserved
loop-line-preserved c =
    let lines = c.args.lines.now in
    let entries = entries_in c.args.entries in
    let line = c.line-item.result in
    let i = c.loop-line.line-index in
    let rest = entries_in c.loop-line.rest in
    let at = c.loop-line.invariant.parted in
    let own = upto line.number rest in
    let mine = entries_of line.number own in
    let before : NamesOf = names_of (take i lines) entries in
    let same : name_in c.loop-line.names ≡ before = λ j t. c.loop-line.invariant.names t j in
    let more : gathered given (take (i + 1) lines) entries ≡ gathered given (take i lines) entries ++ given line.form mine =
    gathered_more lines entries rest i at.0 line at.1 c.loop-line-test.true c.line-item.is given own refl in
    let grown : names_of (take (i + 1) lines) entries ≡ update_all same_txn before (given line.form mine) =
    ap (update_all same_txn no_names) more ∙ fold-append _ no_names (gathered given (take i lines) entries)
    (given line.form mine) in
    record {
      parted = (
        line.number,
        parted_more lines entries rest i at.0 line at.1 c.loop-line-test.true c.line-item.is
            (entries_in c.part_at.result.1) c.part_at.ensures.others,
      );
      names = λ t. c.in_ok-learn.ensures t
          ∙ ap (λ (last : Option Entry). update_all same_txn (name_in c.loop-line.names) (given_last line.form last) t)
          c.part_at.ensures.last
          ∙ ap (λ (f : NamesOf). update_all same_txn f (given line.form mine) t) same
          ∙ ap (λ (f : NamesOf). f t) (sym grown);
    }
