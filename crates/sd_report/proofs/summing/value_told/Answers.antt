use Rattle.std.proofs.Common.{sym, ◌∙◌}
use Rattle.std.specs.Option.{option_copied}
use Rattle.sd_model.specs.Booked.{entries_in, seen_entry}
use Rattle.sd_report.proofs.Accounts.{found_at, mapped_some, none_yet}
use Rattle.sd_report.proofs.summing.value_told.Goals as goal

pub returns-then-is_some : goal.returns-then-is_some
returns-then-is_some c =
    found_at c.args.rid.now c.args.line (entries_in c.loop-seen.rest) (entries_in c.in-Some.after) (seen_entry c.in-Some.seen)
    c.in-Some.ensures c.rows_of.result.now c.rows_of.ensures (option_copied c.value_in-found.result) c.value_in-found.ensures
    (mapped_some (λ x. x.now) c.value_in-found.result ∙ sym c.is_some.ensures ∙ c.if-is_some.true)
    ∙ c.loop-seen.invariant

pub loop-seen-preserved : goal.loop-seen-preserved
loop-seen-preserved c =
    none_yet c.args.rid.now c.args.line (entries_in c.loop-seen.rest) (entries_in c.in-Some.after) (seen_entry c.in-Some.seen)
    c.in-Some.ensures c.rows_of.result.now c.rows_of.ensures (option_copied c.value_in-found.result) c.value_in-found.ensures
    (mapped_some (λ x. x.now) c.value_in-found.result ∙ sym c.is_some.ensures ∙ c.if-is_some.false)
    ∙ c.loop-seen.invariant
