use Rattle.std.proofs.Common.{[], ◌∷◌}
use Rattle.std.specs.Prelude.{codes}
use Rattle.std.specs.Fmt.{decimal}
use Rattle.sd_script.specs.Order.{begun, ordinal_of}
use Rattle.sd_script.proofs.reader.Reader.take_begin.Goals as goal

pub take_form-requires-clause-form : goal.take_form-requires-clause-form
take_form-requires-clause-form c = (decimal c.args.inst ∷ codes "begin" ∷ c.args.name.now ∷ [], c.in_ok-form.ensures (ordinal_of (begun c.args.self.now)))

pub returns : goal.returns
returns c = c.take_form.ensures (decimal c.args.inst ∷ codes "begin" ∷ c.args.name.now ∷ []) (c.in_ok-form.ensures (ordinal_of (begun c.args.self.now)))
