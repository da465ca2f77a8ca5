use Rattle.std.proofs.Common.{ℕ, refl, subst, List}
use Rattle.sd_base.specs.declared.ids.Rid.{Rid}
use Rattle.sd_model.specs.declared.act.Done.{Done}
use Rattle.sd_model.specs.Tables.{Contents}
use Rattle.sd_model.specs.State.{now}
use Rattle.sd_oracle.specs.Lists.{meaning}
use Rattle.sd_oracle.specs.Rows.{AgreeAtRows, AgreeAtDone}
use Rattle.sd_oracle.proofs.Search.{not_true}
use Rattle.sd_oracle.proofs.RowsWhole.{rows-whole, all-rows, all-done}
use Rattle.sd_oracle.proofs.rows.are_rows.Goals as goal

pub returns-then-not-agree_at_rows : goal.returns-then-not-agree_at_rows
returns-then-not-agree_at_rows c = (
  λ f. absurd (not_true f),
  λ h. c.if-not-agree_at_rows.ensures.1 (all-rows c.args.rows.now c.args.page (now (meaning c.args.lists.now)) c.args.rows.now h.same),
)

pub returns-then-not-agree_at_rows-2 : goal.returns-then-not-agree_at_rows-2
returns-then-not-agree_at_rows-2 c = (
  λ f. absurd (not_true f),
  λ h. c.if-not-agree_at_rows-2.ensures.1 (all-rows c.args.rows.now c.args.page (now (meaning c.args.lists.now)) c.items.result.now h.same),
)

pub returns : goal.returns
returns c =
    let rows : List (Rid × List ℕ) = c.args.rows.now in
    let table : Contents = now (meaning c.args.lists.now) in (
      λ t. rows-whole rows c.args.page c.args.lists.now.start c.args.lists.now.done.items (c.if-not-are_in.ensures.0 refl) (c.if-not-are_rising.ensures.0 refl) (c.if-not-agree_at_rows.ensures.0 refl)
          (subst (λ (l : List (Rid × List ℕ)). AgreeAtRows c.args.page table rows l) c.items.ensures (c.if-not-agree_at_rows-2.ensures.0 refl))
          (subst (λ (l : List Done). AgreeAtDone c.args.page table rows l) c.deref.ensures.value (c.agree_at_done.ensures.0 t)),
      λ h. c.agree_at_done.ensures.1 (all-done rows c.args.page table c.deref.result.now h.same),
    )
