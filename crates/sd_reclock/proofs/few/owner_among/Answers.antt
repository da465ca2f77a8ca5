use Rattle.std.proofs.Common.{◌≡◌, ◌∷◌, ◌+◌, Option, drop, sym, subst, ap, ◌∙◌, arith}
use Rattle.std.proofs.lemmas.List.{drop_more, drop_all}
use Rattle.std.specs.List.{Contains}
use Rattle.sd_base.specs.declared.ids.TxnId.{TxnId}
use Rattle.sd_reclock.proofs.Placing.{Entry}
use Rattle.sd_reclock.proofs.Ranging.{IsSeen, row_agrees, row_found, seen_more, seen_past, seen_rows, same_page, other_page}
use Rattle.sd_reclock.proofs.few.owner_among.Goals as goal
use Rattle.sd_reclock.proofs.few.owner_among.Goals.{then-eq, else-eq}

pub owner-requires : goal.owner-requires
owner-requires c =
    let e : Entry = c.row-item.result in
    let inside : Contains c.args.rows.now e = (c.loop-row.row-index, c.loop-row-test.true, sym c.row-item.is) in
    record { agree = row_agrees c.args.rows.now e c.requires.agree (row_found c.args.rows.now e c.requires.one inside) }

pub loop-row-preserved : goal.loop-row-preserved
loop-row-preserved c =
    let step : drop c.loop-row.row-index c.args.rows.now ≡ c.row-item.result ∷ drop (c.loop-row.row-index + 1) c.args.rows.now =
    drop_more c.args.rows.now c.loop-row.row-index c.row-item.result c.loop-row-test.true ∙ ap (λ (z : Entry). z ∷ drop (c.loop-row.row-index + 1) c.args.rows.now) (sym c.row-item.is) in
    elim c.if-eq.branch [
      | then-eq w ↦ subst (λ (o : Option TxnId). IsSeen c.args.p c.args.rows.now (drop (c.loop-row.row-index + 1) c.args.rows.now) o) (sym w.lowest-is)
          (seen_more c.args.p c.args.rows.now (drop c.loop-row.row-index c.args.rows.now) (drop (c.loop-row.row-index + 1) c.args.rows.now) c.row-item.result c.loop-row.lowest w.owner.result w.lower_of-lowest.result step
          (same_page c.row-item.result.0.page c.args.p (sym w.if-eq.ensures)) w.owner.ensures w.lower_of-lowest.ensures c.loop-row.invariant)
      | else-eq w ↦ subst (λ (o : Option TxnId). IsSeen c.args.p c.args.rows.now (drop (c.loop-row.row-index + 1) c.args.rows.now) o) (sym w.lowest-is)
          (seen_past c.args.p c.args.rows.now (drop c.loop-row.row-index c.args.rows.now) (drop (c.loop-row.row-index + 1) c.args.rows.now) c.row-item.result c.loop-row.lowest step
          (other_page c.row-item.result.0.page c.args.p (sym w.if-eq.ensures)) c.loop-row.invariant)
    ]

pub returns : goal.returns
returns c = seen_rows c.args.rows.now (drop c.loop-row.row-index c.args.rows.now) c.args.p c.loop-row.lowest c.requires.one (drop_all c.loop-row.row-index c.args.rows.now (omega (arith, c.loop-row-test.false))) c.loop-row.invariant
