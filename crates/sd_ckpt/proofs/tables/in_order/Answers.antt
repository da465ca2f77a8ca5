use Rattle.std.proofs.Common.{◌≡◌, ◌↔◌, ◌≤◌, [], ◌∷◌, ◌++◌, List, append-nil, sym, ap, ◌∙◌, rules, subst, map, length, arith}
use Rattle.std.specs.Prelude.{Contains, Some}
use Rattle.std.specs.List.{AllByRecursion}
use Rattle.std.specs.Map.{lookup}
use Rattle.sd_base.specs.Ids.{same_txn}
use Rattle.sd_logrec.specs.Spelling.{AreSpans, Span}
use Rattle.sd_ckpt.specs.Rows.{IsInRange, flat_row}
use Rattle.sd_ckpt.proofs.TableRows.{Entry, in-range-more, moved-row, rows-are, rows-count, rows-spelled}
use Rattle.sd_ckpt.proofs.tables.in_order.Goals as goal

pub loop-row-preserved : goal.loop-row-preserved
loop-row-preserved c =
    let es : List Entry = c.args.spans.entries in
    let rows : List Span = c.loop-row.rows.items in
    let row : Entry = c.in-Some.row in
    let next : List Entry = c.next.new.self in
    let steps : c.loop-row.row-iterator ≡ row ∷ next = search rules in
    let items : c.push.new.self.items ≡ rows ++ flat_row row ∷ [] = c.in_ok-push.ensures.items
    ∙ ap (λ (x : Span). rows ++ x ∷ []) c.row_of.ensures.row in (
      ap (λ (l : List Span). l ++ map flat_row next) items ∙ moved-row rows (flat_row row) (map flat_row next)
          ∙ subst (λ (l : List Entry). rows ++ map flat_row l ≡ map flat_row es) steps c.loop-row.invariant.0,
      subst (AllByRecursion IsInRange) (sym items) (in-range-more rows (flat_row row) c.loop-row.invariant.1
          (subst IsInRange c.row_of.ensures.row c.row_of.ensures.ranges)),
    )

pub returns-clause-rows : goal.returns-clause-rows
returns-clause-rows c t s =
    let es : List Entry = c.args.spans.entries in
    let left : c.loop-row.row-iterator ≡ [] = search rules in
    let all : c.loop-row.rows.items ≡ map flat_row es = sym (append-nil c.loop-row.rows.items)
    ∙ subst (λ (l : List Entry). c.loop-row.rows.items ++ map flat_row l ≡ map flat_row es) left c.loop-row.invariant.0 in
    subst (λ (l : List Span). Contains l (t, s.0, s.1) ↔ (lookup (same_txn t) es ≡ Some s)) (sym (c.of.ensures ∙ all))
    (rows-are es c.into_iter-row-iterator.ensures.into_iter_gives.5 t s)

pub returns-clause-spelled : goal.returns-clause-spelled
returns-clause-spelled c =
    let es : List Entry = c.args.spans.entries in
    let left : c.loop-row.row-iterator ≡ [] = search rules in
    let all : c.loop-row.rows.items ≡ map flat_row es = sym (append-nil c.loop-row.rows.items)
    ∙ subst (λ (l : List Entry). c.loop-row.rows.items ++ map flat_row l ≡ map flat_row es) left c.loop-row.invariant.0 in
    subst AreSpans (sym (c.of.ensures ∙ all))
    (rows-spelled es c.into_iter-row-iterator.ensures.into_iter_gives.5 c.requires.few c.requires.numbered
    (subst (λ (l : List Span). AllByRecursion IsInRange l) all c.loop-row.invariant.1))

pub returns-clause-few : goal.returns-clause-few
returns-clause-few c =
    let es : List Entry = c.args.spans.entries in
    let few = c.requires.few in
    let left : c.loop-row.row-iterator ≡ [] = search rules in
    let all : c.loop-row.rows.items ≡ map flat_row es = sym (append-nil c.loop-row.rows.items)
    ∙ subst (λ (l : List Entry). c.loop-row.rows.items ++ map flat_row l ≡ map flat_row es) left c.loop-row.invariant.0 in
    let count = rows-count es in
    subst (λ (l : List Span). length l ≤ 64) (sym (c.of.ensures ∙ all)) (omega (arith, few, count))
