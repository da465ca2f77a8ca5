use Rattle.std.proofs.Common.{sym, arith}
use Rattle.sd_script.proofs.Spellings.{dotted, parted, has_dot}
use Rattle.sd_script.proofs.parts.rid_of.Goals as goal

pub returns-in_default-clause-none : goal.returns-in_default-clause-none
returns-in_default-clause-none c = λ r is e. has_dot c.args.word.now r (omega (arith, is.0)) e (sym c.in_default.ensures)

pub returns-in_default-page_of-clause-none : goal.returns-in_default-page_of-clause-none
returns-in_default-page_of-clause-none c = λ r is e. let at = parted c.args.word.now c.in-Some.dot r (omega (arith, is.0)) e
    (sym c.in-Some.ensures) in c.in_default-page_of.ensures.none r.page is.0 at.0

pub returns-in_default-number_within-clause-none : goal.returns-in_default-number_within-clause-none
returns-in_default-number_within-clause-none c = λ r is e. let at = parted c.args.word.now c.in-Some.dot r (omega (arith, is.0)) e
    (sym c.in-Some.ensures) in c.in_default-number_within.ensures.none r.slot (omega arith) (omega (arith, is)) at.1

pub returns-clause-found : goal.returns-clause-found
returns-clause-found c = dotted c.args.word.now c.in-Some.dot c.in-Some-page_of.page c.in-Some-number_within.slot
    (sym c.in-Some.ensures) c.in-Some-page_of.ensures.found c.in-Some-number_within.ensures.found
