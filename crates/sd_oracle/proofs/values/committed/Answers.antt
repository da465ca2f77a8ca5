use Rattle.std.proofs.Common.{sym, refl, List}
use Rattle.std.specs.Prelude.{option_copied}
use Rattle.sd_model.specs.declared.act.Done.{Done}
use Rattle.sd_model.specs.Tables.{Content, contents}
use Rattle.sd_model.specs.Acts.{live, seen_over, after}
use Rattle.sd_oracle.proofs.Loops.{fold-next}
use Rattle.sd_oracle.proofs.Scans.{after-of}
use Rattle.sd_oracle.proofs.values.committed.Goals as goal

pub loop-transaction-init : goal.loop-transaction-init
loop-transaction-init c = after-of (contents c.args.start.now) (option_copied c.find_row-found.result) c.args.done.now c.args.rid.now c.find_row-found.ensures

pub loop-transaction-preserved : goal.loop-transaction-preserved
loop-transaction-preserved c =
    fold-next (λ (x : Content) (l : List Done). after (λ _. x) l c.args.rid.now) (λ (x : Content) (d : Done). seen_over (λ _. x) (live d.acts) c.args.rid.now)
    (λ x d l. sym (after-of (seen_over (λ _. x) (live d.acts)) (seen_over (λ _. x) (live d.acts) c.args.rid.now) l c.args.rid.now refl))
    (option_copied c.loop-transaction.found) (option_copied c.overlaid-found.result) c.transaction-item.result c.args.done.now c.loop-transaction.transaction-index
    (after (contents c.args.start.now) c.args.done.now c.args.rid.now) c.loop-transaction-test.true c.transaction-item.is
    (sym (c.overlaid-found.ensures (λ _. option_copied c.loop-transaction.found) refl)) c.loop-transaction.invariant
