use Rattle.std.proofs.Common.{◌∙◌, sym, arith}
use Rattle.sd_logrec.proofs.Commits.{byte_in_front, is_no_commit}
use Rattle.sd_logrec.proofs.Records.{record_takes}
use Rattle.sd_logrec.proofs.take.commit_in.Goals as goal

pub returns-then-kind-ne4 : goal.returns-then-kind-ne4
returns-then-kind-ne4 c x read t =
    let front = byte_in_front c.args.bytes.now c.in-Some.kind c.in-Some.rest.now c.in-Some.ensures in
    let took = record_takes c.args.bytes.now x (λ i. omega (arith, c.type_inv.bytes i)) read in
    is_no_commit x.0 x.1 c.in-Some.kind c.in-Some.rest.now t (sym front ∙ took.0) c.if-kind-ne4.true
