use Rattle.std.proofs.Common.{sym, ap, ◌∙◌, arith}
use Rattle.std.proofs.lemmas.List.{take_all}
use Rattle.std.specs.Map.{lookup}
use Rattle.sd_base.specs.Ids.{same_rid}
use Rattle.sd_report.proofs.Accounts.{lookup_here, lookup_not_yet}
use Rattle.sd_report.proofs.summing.value_in.Goals as goal

pub loop-at-preserved : goal.loop-at-preserved
unfolding same_rid
loop-at-preserved c =
    lookup_not_yet c.args.rid.now c.args.rows.now c.loop-at.at-index c.loop-at-item.result c.loop-at-test.true c.loop-at-item.is
    (sym c.if-eq.ensures) c.loop-at.invariant

pub returns-then-eq : goal.returns-then-eq
unfolding same_rid
returns-then-eq c =
    lookup_here c.args.rid.now c.args.rows.now c.loop-at.at-index c.loop-at-item.result c.loop-at-test.true c.loop-at-item.is
    (sym c.if-eq.ensures) c.loop-at.invariant

pub returns : goal.returns
returns c =
    sym c.loop-at.invariant
    ∙ ap (lookup (same_rid c.args.rid.now)) (take_all c.loop-at.at-index c.args.rows.now (omega (arith, c.loop-at-test.false)))
