use Rattle.std.proofs.Common.{◌∙◌, ap, sym, refl, Bool, cond, List}
use Rattle.std.specs.Prelude.{option_copied}
use Rattle.sd_base.specs.declared.ids.TxnId.{TxnId}
use Rattle.sd_oracle.specs.declared.standing.Standing.{Standing}
use Rattle.sd_base.specs.Ids.{same_txn}
use Rattle.sd_model.specs.State.{Part}
use Rattle.sd_oracle.specs.Lists.{part_of, part_at, part_from, part_in}
use Rattle.sd_oracle.proofs.Loops.{fold-next, same_txn-test}
use Rattle.sd_oracle.proofs.standing.last_standing.Goals as goal
use Rattle.sd_oracle.proofs.standing.last_standing.Goals.{then-eq, else-eq}

pub loop-owner-preserved : goal.loop-owner-preserved
loop-owner-preserved c =
    let t : TxnId = c.args.txn.now in
    let x : TxnId × Standing = c.loop-owner-item.result in
    let old : Part = part_at (option_copied c.loop-owner.found) in
    let same = same_txn-test x.0 t c.eq.result c.eq.ensures in
    let next = fold-next (λ (s : Part) (l : List (TxnId × Standing)). part_from s l t) (λ (s : Part) (y : TxnId × Standing). cond (same_txn y.0 t) (part_of y.1) s) (λ s y l. refl)
    old (part_at (option_copied c.if-eq.found)) x c.args.parts.now c.loop-owner.owner-index (part_in c.args.parts.now t) c.loop-owner-test.true c.loop-owner-item.is in
    elim c.if-eq.branch [
      | then-eq w ↦ next (ap (λ (b : Bool). cond b (part_of x.1) old) (same ∙ w.if-eq.true) ∙ sym (ap (λ o. part_at (option_copied o)) w.found-is)) c.loop-owner.invariant
      | else-eq w ↦ next (ap (λ (b : Bool). cond b (part_of x.1) old) (same ∙ w.if-eq.false) ∙ sym (ap (λ o. part_at (option_copied o)) w.found-is)) c.loop-owner.invariant
    ]
