use Rattle.std.proofs.Common.{◌≡◌, arith, ap, sym, ◌∙◌}
use Rattle.std.specs.Prelude.{option_map}
use Rattle.std.proofs.lemmas.Bool.{lt-ltb}
use Rattle.sd_model.specs.Booked.{seen_entry}
use Rattle.sd_report.proofs.Notes.{by_first, no_items}
use Rattle.sd_report.proofs.OneLine.{early_behind, last_or_before, last_upto, later_last, other_last, own_last}
use Rattle.sd_report.proofs.parting.part_unnoted.Goals.{in_default, in-len1-up+then-entry-number}
use Rattle.sd_report.proofs.parting.part_unnoted.Goals as goal

-- behind the last that was seen none is of the line
pub returns-clause-last : goal.returns-clause-last
returns-clause-last c =
    let n = c.args.number in
    let rest = c.loop-rest.rest.now in
    let last = option_map seen_entry c.loop-rest.last in
    let end : last ≡ last_upto n last rest =
    elim c.if-rest-lt1.branch [
      | in-len1-up+then-entry-number w ↦ sym (later_last n rest _ w.entry-item.result
          (by_first rest w.entry-item.result w.in-len1-up.len_at_least w.entry-item.is)
          (lt-ltb n w.entry-item.result.line w.if-entry-number.true) last)
      | in_default w ↦ sym (ap (last_upto n last) (no_items rest (let few = w.in_default in omega (arith, few))))
    ] in
    end ∙ c.loop-rest.invariant.last ∙ last_or_before n (option_map seen_entry c.args.last) c.args.entries.now

pub loop-rest-preserved-then-entry-number-2 : goal.loop-rest-preserved-then-entry-number-2
loop-rest-preserved-then-entry-number-2 c =
    let n = c.args.number in
    let rest = c.loop-rest.rest.now in
    let e = c.entry-item.result in
    let is = by_first rest e c.in-len1-up.len_at_least c.entry-item.is in
    let own : e.line ≡ n = c.if-entry-number-2.true in
    record {
      last = own_last n rest _ e is (omega (arith, own)) own (option_map seen_entry c.loop-rest.last)
          ∙ c.loop-rest.invariant.last;
      others = early_behind n rest _ e is (omega (arith, own)) ∙ c.loop-rest.invariant.others;
    }

pub loop-rest-preserved : goal.loop-rest-preserved
loop-rest-preserved c =
    let n = c.args.number in
    let rest = c.loop-rest.rest.now in
    let e = c.entry-item.result in
    let is = by_first rest e c.in-len1-up.len_at_least c.entry-item.is in
    record {
      last = other_last n rest _ e is c.if-entry-number.false c.if-entry-number-2.false (option_map seen_entry c.loop-rest.last)
          ∙ c.loop-rest.invariant.last;
      others = early_behind n rest _ e is c.if-entry-number.false ∙ c.loop-rest.invariant.others;
    }
