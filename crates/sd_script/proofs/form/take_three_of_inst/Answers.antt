use Rattle.std.proofs.Common.{[], ◌∷◌}
use Rattle.std.specs.Fmt.{decimal}
use Rattle.sd_script.specs.Order.{begun, ordinal_of}
use Rattle.sd_script.proofs.form.take_three_of_inst.Goals as goal

pub take_other-requires-clause-form : goal.take_other-requires-clause-form
take_other-requires-clause-form c = (decimal c.args.inst ∷ c.args.verb.now ∷ c.args.word.now ∷ [], c.three_of_inst.ensures (ordinal_of (begun c.args.reader.now)))

pub returns-else-is_begin : goal.returns-else-is_begin
returns-else-is_begin c = c.take_other.ensures (decimal c.args.inst ∷ c.args.verb.now ∷ c.args.word.now ∷ []) (c.three_of_inst.ensures (ordinal_of (begun c.args.reader.now)))
