use Rattle.std.proofs.Common.{refl, sym}
use Rattle.sd_script.proofs.Lines.{line_to_end, line_to_feed}
use Rattle.sd_script.proofs.Printed.{all_printed, first_feed, none_printed, printed_front, without_feed}
use Rattle.sd_script.proofs.text.first_line.Goals as goal

pub returns-in-Some-clause-lines : goal.returns-in-Some-clause-lines
returns-in-Some-clause-lines c = line_to_feed c.args.text.now c.in-Some.end
    (first_feed c.args.text.now c.in-Some.end (sym c.in-Some.ensures) 0 c.if-text-end-eq10.true)

pub returns-in-Some-clause-printed : goal.returns-in-Some-clause-printed
returns-in-Some-clause-printed c = (λ _. printed_front c.args.text.now c.in-Some.end (sym c.in-Some.ensures), λ _. refl)

pub returns-in-Some-2-clause-printed : goal.returns-in-Some-2-clause-printed
returns-in-Some-2-clause-printed c =
    none_printed c.cut_at_feed.result.0.now c.unprinted-in-Some-2.result c.is_none.result c.unprinted-in-Some-2.ensures c.is_none.ensures

pub returns-in-None-clause-lines : goal.returns-in-None-clause-lines
returns-in-None-clause-lines c = line_to_end c.args.text.now c.requires (without_feed c.args.text.now (sym c.in-None.ensures))

pub returns-in-None-clause-printed : goal.returns-in-None-clause-printed
returns-in-None-clause-printed c = (λ _. all_printed c.args.text.now (sym c.in-None.ensures), λ _. refl)
