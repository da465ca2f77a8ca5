use Rattle.std.proofs.Common.{◌≡◌, ◌++◌, ℕ, List, take, refl, sym, ap, ◌∙◌}
use Rattle.std.proofs.lemmas.List.{take_all}
use Rattle.sd_script.specs.declared.line.Line.{Line}
use Rattle.sd_model.specs.Booked.{entries_in}
use Rattle.sd_report.specs.Names.{name_in}
use Rattle.sd_report.specs.Report.{entries_of, gathered, reported_in, upto}
use Rattle.sd_report.proofs.LineOrder.{parted_none, parted_more, some_number, gathered_more}
use Rattle.sd_report.proofs.report.render.Goals as goal

pub loop-line-init : goal.loop-line-init
loop-line-init c = record {
  parted = (0, parted_none c.args.lines.now (entries_in c.args.entries) c.requires.lines c.requires.entries);
  text = c.new-out.ensures.items;
}

pub part_at-requires : goal.part_at-requires
part_at-requires c =
    let at = c.loop-line.invariant.parted in
    record {
      number = some_number c.args.lines.now (entries_in c.args.entries) (entries_in c.loop-line.rest) c.loop-line.line-index at.0
          c.line-item.result at.1 c.loop-line-test.true c.line-item.is;
    }

pub push_told-requires-clause-number : goal.push_told-requires-clause-number
push_told-requires-clause-number c =
    let at = c.loop-line.invariant.parted in
    some_number c.args.lines.now (entries_in c.args.entries) (entries_in c.loop-line.rest) c.loop-line.line-index at.0
    c.line-item.result at.1 c.loop-line-test.true c.line-item.is

-- the line's entries are reported, and those behind it are left
pub loop-line-preserved : goal.loop-line-preserved
loop-line-preserved c =
    let lines = c.args.lines.now in
    let entries = entries_in c.args.entries in
    let line = c.line-item.result in
    let i = c.loop-line.line-index in
    let rest = entries_in c.loop-line.rest in
    let at = c.loop-line.invariant.parted in
    let f = reported_in (name_in c.in_ok-names.names) entries in
    record {
      parted = (
        line.number,
        parted_more lines entries rest i at.0 line at.1 c.loop-line-test.true c.line-item.is
            (entries_in c.part_at.result.1) c.part_at.ensures.others,
      );
      text = c.in_ok-push_told.ensures ∙ ap (λ (l : List ℕ). l ++ f line.form
          (entries_of line.number (upto line.number rest))) c.loop-line.invariant.text
          ∙ sym (gathered_more lines entries rest i at.0 line at.1 c.loop-line-test.true c.line-item.is f (upto line.number rest)
          refl);
    }

pub returns : goal.returns
returns c =
    let lines = c.args.lines.now in
    let entries = entries_in c.args.entries in
    let whole : take c.loop-line.line-index lines ≡ lines = take_all c.loop-line.line-index lines c.loop-line-test.false in
    c.loop-line.invariant.text ∙ ap (λ (l : List Line). gathered (reported_in (name_in c.in_ok-names.names) entries) l entries) whole
    ∙ c.in_ok-names.ensures
