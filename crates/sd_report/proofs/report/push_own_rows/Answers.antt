use Rattle.std.proofs.Common.{◌≡◌, ◌++◌, ◌+◌, ℕ, List, [], length, arith, sym, ap, ◌∙◌}
use Rattle.std.specs.List.{flat_map}
use Rattle.sd_base.specs.declared.ids.Rid.{Rid}
use Rattle.sd_model.specs.Booked.{entries_in, seen_entry}
use Rattle.sd_report.specs.Report.{entries_of, row_line, rows_in, table_rows, upto}
use Rattle.sd_report.proofs.OneLine.{later_rows, own_rows, other_rows, rows_text, rows_count, rows_end}
use Rattle.sd_report.proofs.report.push_own_rows.Goals as goal

-- the rows of an entry of the line are put behind
pub loop-seen-preserved-in_ok-count : goal.loop-seen-preserved-in_ok-count
loop-seen-preserved-in_ok-count c =
    let n = c.args.number in
    let e = seen_entry c.in-Some.seen in
    let rest = entries_in c.loop-seen.rest in
    let after = entries_in c.in-Some.after in
    let rows = rows_in e.reply in
    let behind = table_rows (entries_of n (upto n after)) in
    let left = table_rows (entries_of n (upto n rest)) in
    let parts : left ≡ rows ++ behind =
    own_rows n rest after e c.in-Some.ensures (sym c.line-line.ensures ∙ c.if-line-number-2.true) in
    let count : length left ≡ length rows + length behind = rows_count rows behind left parts in
    record {
      text = rows_text rows behind left parts c.loop-seen.out.items c.push_seen.new.out.items c.in_ok-count.ensures.text
          ∙ c.loop-seen.invariant.text;
      count = omega (arith, count, c.in_ok-count.ensures.count, c.loop-seen.invariant.count);
      bytes = omega (arith, c.in_ok-count.ensures.bytes, c.loop-seen.invariant.bytes);
    }

-- an entry of another line has none of its rows
pub loop-seen-preserved : goal.loop-seen-preserved
loop-seen-preserved c =
    let n = c.args.number in
    let rest = entries_in c.loop-seen.rest in
    let after = entries_in c.in-Some.after in
    let same : table_rows (entries_of n (upto n after)) ≡ table_rows (entries_of n (upto n rest)) =
    sym (other_rows n rest after (seen_entry c.in-Some.seen) c.in-Some.ensures (omega (arith, c.line-line.ensures, c.if-line-number.false))
    (λ own. c.if-line-number-2.false (c.line-line.ensures ∙ own))) in
    record {
      text = ap (λ (l : List (Rid × List ℕ)). c.loop-seen.out.items ++ flat_map row_line l) same ∙ c.loop-seen.invariant.text;
      count = ap (λ (l : List (Rid × List ℕ)). c.loop-seen.count + length l) same ∙ c.loop-seen.invariant.count;
      bytes = c.loop-seen.invariant.bytes;
    }

pub returns-then-line-number : goal.returns-then-line-number
returns-then-line-number c =
    let n = c.args.number in
    let left = table_rows (entries_of n (upto n (entries_in c.loop-seen.rest))) in
    let all = table_rows (entries_of n (upto n (entries_in c.args.entries))) in
    let none : left ≡ [] = later_rows n (entries_in c.loop-seen.rest) (entries_in c.in-Some.after) (seen_entry c.in-Some.seen)
    c.in-Some.ensures (omega (arith, c.line-line.ensures, c.if-line-number.true)) in
    record {
      text = rows_end left all none c.loop-seen.out.items c.args.out.now.items c.loop-seen.invariant.text;
      count = omega (arith, ap length none, c.loop-seen.invariant.count);
    }
