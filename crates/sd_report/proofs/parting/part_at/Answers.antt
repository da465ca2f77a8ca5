use Rattle.std.proofs.Common.{◌≡◌, ◌≤◌, List, arith, ap, sym, ◌∙◌}
use Rattle.std.specs.Prelude.{option_map}
use Rattle.std.proofs.lemmas.Bool.{lt-ltb}
use Rattle.sd_model.specs.declared.packed.Noted.{Noted}
use Rattle.sd_model.specs.Shorts.{line_entry}
use Rattle.sd_model.specs.Booked.{entries_in, seen_entry, unpacked}
use Rattle.sd_report.proofs.Notes.{no_items, reads_help, reads_line, reads_no_line, reads_no_whole, reads_whole}
use Rattle.sd_report.proofs.OneLine.{early_behind, last_none, last_or_before, last_upto, later_last, other_last, own_last}
use Rattle.sd_report.proofs.parting.part_at.Goals.{in_default, in-len1-up+in-Line+in-empty, in-len1-up+in-Line+in-len1-up-lines+then-line-number, in-len1-up+in-Whole+in-empty-whole, in-len1-up+in-Whole+in-len1-up-whole+then-entry-number}
use Rattle.sd_report.proofs.parting.part_at.Goals as goal

-- all that is left stands unnoted
pub returns-in-empty-noted-clause-last : goal.returns-in-empty-noted-clause-last
returns-in-empty-noted-clause-last c =
    let n = c.args.number in
    let lines = c.loop-noted.lines.now in
    let whole = c.loop-noted.whole.now in
    let last = option_map seen_entry c.loop-noted.last in
    let none = no_items c.loop-noted.noted.now (let few = c.in-empty-noted.len_below in omega (arith, few)) in
    c.part_unnoted.ensures.last ∙ sym (last_or_before n last whole)
    ∙ ap (last_upto n last) (sym (ap (λ (notes : List Noted). unpacked notes lines whole) none))
    ∙ c.loop-noted.invariant.last ∙ last_none n (entries_in c.args.entries)

-- behind the last that was seen none is of the line
pub returns-in_default-noted-clause-last : goal.returns-in_default-noted-clause-last
returns-in_default-noted-clause-last c =
    let n = c.args.number in
    let notes = c.loop-noted.noted.now in
    let lines = c.loop-noted.lines.now in
    let whole = c.loop-noted.whole.now in
    let last = option_map seen_entry c.loop-noted.last in
    let end : last ≡ last_upto n last (unpacked notes lines whole) =
    elim c.if-noted-lt1.branch [
      | in_default w ↦ (let few = w.in_default in absurd (omega (arith, few, c.in_default-noted.len_at_least)))
      | in-len1-up+in-Line+in-empty w ↦ sym (ap (last_upto n last) (reads_no_line notes w.first-item.result
          w.in-len1-up.len_at_least w.first-item.is lines whole w.in-Line.is
          (no_items lines (let few = w.in-empty in omega (arith, few)))))
      | in-len1-up+in-Line+in-len1-up-lines+then-line-number w ↦ sym (later_last n (unpacked notes lines whole) _
          (line_entry w.short-item.result)
          (reads_line notes w.first-item.result w.in-len1-up.len_at_least w.first-item.is lines whole w.short-item.result
          w.in-Line.is w.in-len1-up-lines.len_at_least w.short-item.is)
          (lt-ltb n (line_entry w.short-item.result).line (omega (arith, w.line-line.ensures, w.if-line-number.true))) last)
      | in-len1-up+in-Whole+in-empty-whole w ↦ sym (ap (last_upto n last) (reads_no_whole notes w.first-item.result
          w.in-len1-up.len_at_least w.first-item.is lines whole w.in-Whole.is
          (no_items whole (let few = w.in-empty-whole in omega (arith, few)))))
      | in-len1-up+in-Whole+in-len1-up-whole+then-entry-number w ↦ sym (later_last n (unpacked notes lines whole) _
          w.entry-item.result
          (reads_whole notes w.first-item.result w.in-len1-up.len_at_least w.first-item.is lines whole w.entry-item.result
          w.in-Whole.is w.in-len1-up-whole.len_at_least w.entry-item.is)
          (lt-ltb n w.entry-item.result.line w.if-entry-number.true) last)
    ] in
    end ∙ c.loop-noted.invariant.last
    ∙ last_none n (entries_in c.args.entries)

-- a help is of no line
pub loop-noted-preserved-in-Help : goal.loop-noted-preserved-in-Help
loop-noted-preserved-in-Help c =
    let n = c.args.number in
    let notes = c.loop-noted.noted.now in
    let es = unpacked notes c.loop-noted.lines.now c.loop-noted.whole.now in
    let is = reads_help notes c.first-item.result c.in-len1-up.len_at_least c.first-item.is c.loop-noted.lines.now
    c.loop-noted.whole.now c.in-Help.is in
    record {
      last = other_last n es _ _ is (omega arith) (λ own. omega (arith, own, c.requires))
          (option_map seen_entry c.loop-noted.last) ∙ c.loop-noted.invariant.last;
      others = early_behind n es _ _ is (omega arith) ∙ c.loop-noted.invariant.others;
    }

pub loop-noted-preserved-then-line-number-2 : goal.loop-noted-preserved-then-line-number-2
loop-noted-preserved-then-line-number-2 c =
    let n = c.args.number in
    let e = line_entry c.short-item.result in
    let lines = c.loop-noted.lines.now in
    let es = unpacked c.loop-noted.noted.now lines c.loop-noted.whole.now in
    let is = reads_line c.loop-noted.noted.now c.first-item.result c.in-len1-up.len_at_least c.first-item.is lines
    c.loop-noted.whole.now c.short-item.result c.in-Line.is c.in-len1-up-lines.len_at_least c.short-item.is in
    let own : e.line ≡ n = sym c.line-line.ensures ∙ c.if-line-number-2.true in
    record {
      last = own_last n es _ e is (omega (arith, own)) own (option_map seen_entry c.loop-noted.last)
          ∙ c.loop-noted.invariant.last;
      others = early_behind n es _ e is (omega (arith, own)) ∙ c.loop-noted.invariant.others;
    }

pub loop-noted-preserved-else-line-number-2 : goal.loop-noted-preserved-else-line-number-2
loop-noted-preserved-else-line-number-2 c =
    let n = c.args.number in
    let e = line_entry c.short-item.result in
    let lines = c.loop-noted.lines.now in
    let es = unpacked c.loop-noted.noted.now lines c.loop-noted.whole.now in
    let is = reads_line c.loop-noted.noted.now c.first-item.result c.in-len1-up.len_at_least c.first-item.is lines
    c.loop-noted.whole.now c.short-item.result c.in-Line.is c.in-len1-up-lines.len_at_least c.short-item.is in
    let early : e.line ≤ n = omega (arith, c.line-line.ensures, c.if-line-number.false) in
    record {
      last = other_last n es _ e is early (λ own. c.if-line-number-2.false (c.line-line.ensures ∙ own))
          (option_map seen_entry c.loop-noted.last) ∙ c.loop-noted.invariant.last;
      others = early_behind n es _ e is early ∙ c.loop-noted.invariant.others;
    }

pub loop-noted-preserved-then-entry-number-2 : goal.loop-noted-preserved-then-entry-number-2
loop-noted-preserved-then-entry-number-2 c =
    let n = c.args.number in
    let e = c.entry-item.result in
    let whole = c.loop-noted.whole.now in
    let es = unpacked c.loop-noted.noted.now c.loop-noted.lines.now whole in
    let is = reads_whole c.loop-noted.noted.now c.first-item.result c.in-len1-up.len_at_least c.first-item.is
    c.loop-noted.lines.now whole e c.in-Whole.is c.in-len1-up-whole.len_at_least c.entry-item.is in
    let own : e.line ≡ n = c.if-entry-number-2.true in
    record {
      last = own_last n es _ e is (omega (arith, own)) own (option_map seen_entry c.loop-noted.last)
          ∙ c.loop-noted.invariant.last;
      others = early_behind n es _ e is (omega (arith, own)) ∙ c.loop-noted.invariant.others;
    }

pub loop-noted-preserved : goal.loop-noted-preserved
loop-noted-preserved c =
    let n = c.args.number in
    let e = c.entry-item.result in
    let whole = c.loop-noted.whole.now in
    let es = unpacked c.loop-noted.noted.now c.loop-noted.lines.now whole in
    let is = reads_whole c.loop-noted.noted.now c.first-item.result c.in-len1-up.len_at_least c.first-item.is
    c.loop-noted.lines.now whole e c.in-Whole.is c.in-len1-up-whole.len_at_least c.entry-item.is in
    record {
      last = other_last n es _ e is c.if-entry-number.false c.if-entry-number-2.false (option_map seen_entry c.loop-noted.last)
          ∙ c.loop-noted.invariant.last;
      others = early_behind n es _ e is c.if-entry-number.false ∙ c.loop-noted.invariant.others;
    }
