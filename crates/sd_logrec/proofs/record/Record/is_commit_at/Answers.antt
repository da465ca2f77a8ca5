use Rattle.std.proofs.Common.{◌≡◌, ◌∙◌, sym, ap}
use Rattle.std.specs.Prelude.{Some}
use Rattle.sd_base.specs.Ids.{same_txn}
use Rattle.sd_logrec.specs.Reading.{record_at}
use Rattle.sd_logrec.proofs.Records.{record_again}
use Rattle.sd_logrec.proofs.record.Record.is_commit_at.Goals as goal

pub returns-in-Some : goal.returns-in-Some
unfolding same_txn
returns-in-Some c r rest fits stands =
    let read : record_at c.split_at.result.1.now ≡ Some (r, rest) = ap record_at (c.split_at.ensures.back ∙ stands) ∙ record_again r rest fits in
    c.eq.ensures ∙ sym (c.in-Some.ensures (r, rest) read c.args.t.now)

pub returns-in-None : goal.returns-in-None
returns-in-None c r rest fits stands =
    let read : record_at c.split_at.result.1.now ≡ Some (r, rest) = ap record_at (c.split_at.ensures.back ∙ stands) ∙ record_again r rest fits in
    sym (c.in-None.ensures (r, rest) read c.args.t.now)
