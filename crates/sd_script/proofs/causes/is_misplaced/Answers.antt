use Rattle.std.proofs.Common.{refl, sym}
use Rattle.std.proofs.lemmas.Bool.{true≢false}
use Rattle.sd_script.proofs.Trying.{misplaced_first, misplaced_later}
use Rattle.sd_script.proofs.causes.is_misplaced.Goals as goal

pub returns-then-not-is_empty : goal.returns-then-not-is_empty
returns-then-not-is_empty c = misplaced_later c.args.reader.now _ c.passes.result
    (λ none. true≢false (sym (c.if-not-is_empty.ensures.1 none))) c.passes.ensures

pub returns : goal.returns
returns c = misplaced_first c.args.reader.now _ c.begins_complex.result (c.if-not-is_empty.ensures.0 refl) c.begins_complex.ensures
