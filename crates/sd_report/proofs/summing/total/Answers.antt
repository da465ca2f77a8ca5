use Rattle.std.proofs.Common.{ℕ, sym, ap, ◌∙◌, arith}
use Rattle.std.proofs.lemmas.Int.{ints, to_z-of_z}
use Rattle.std.specs.Prelude.{ℤ, Some}
use Rattle.sd_model.specs.Booked.{entries_in}
use Rattle.sd_report.specs.Report.{entries_of, table_rows}
use Rattle.sd_report.specs.Summary.{total_of}
use Rattle.sd_report.proofs.Accounts.{no_total, none_of_them, total_more}
use Rattle.sd_report.proofs.summing.total.Goals as goal

pub loop-account_number-init : goal.loop-account_number-init
loop-account_number-init c = record {
  sum = none_of_them (table_rows (entries_of c.args.line (entries_in c.args.entries)));
  low = omega (arith, ints);
  high = omega (arith, ints);
}

pub loop-account_number-preserved : goal.loop-account_number-preserved
loop-account_number-preserved c =
    let rows = table_rows (entries_of c.args.line (entries_in c.args.entries)) in
    record {
      sum = total_more c.loop-account_number.account_number rows _ c.in_ok-balance.field-0 c.loop-account_number.invariant.sum
          (sym c.in_ok-balance.ensures) ∙ ap (λ (z : ℤ). Some z) (grind (arith, ints, to_z-of_z));
      low = omega (arith, ints);
      high = omega (arith, ints);
    }

pub returns-in_err-balance : goal.returns-in_err-balance
returns-in_err-balance c =
    let rows = table_rows (entries_of c.args.line (entries_in c.args.entries)) in
    c.from_residual.ensures
    ∙ sym (no_total c.loop-account_number.account_number 10 rows (sym c.in_err-balance.ensures) c.loop-account_number-test.true)

pub returns : goal.returns
returns c =
    let rows = table_rows (entries_of c.args.line (entries_in c.args.entries)) in
    sym c.loop-account_number.invariant.sum
    ∙ ap (λ (k : ℕ). total_of k rows) (omega (arith, c.loop-account_number-test.false, c.loop-account_number.auto.account_number-end))
