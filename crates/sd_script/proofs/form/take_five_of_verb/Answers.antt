use Rattle.std.proofs.Common.{[], ◌∷◌}
use Rattle.sd_script.specs.Known.{known}
use Rattle.sd_script.proofs.Taking.{by_ordinals}
use Rattle.sd_script.proofs.form.take_five_of_verb.Goals as goal

pub take_other-requires-clause-form : goal.take_other-requires-clause-form
take_other-requires-clause-form c = (
  c.args.verb.now ∷ c.args.second.now ∷ c.args.third.now ∷ c.args.fourth.now ∷ c.args.fifth.now ∷ [],
  by_ordinals c.args.reader.now (known c.names.result.now) c.names.ensures (c.args.verb.now ∷ c.args.second.now ∷ c.args.third.now ∷ c.args.fourth.now ∷ c.args.fifth.now ∷ [])
      c.in_ok-form.form c.in_ok-form.ensures,
)

pub returns : goal.returns
returns c = c.take_other.ensures (c.args.verb.now ∷ c.args.second.now ∷ c.args.third.now ∷ c.args.fourth.now ∷ c.args.fifth.now ∷ []) (by_ordinals c.args.reader.now (known c.names.result.now) c.names.ensures (c.args.verb.now ∷ c.args.second.now ∷ c.args.third.now ∷ c.args.fourth.now ∷ c.args.fifth.now ∷ [])
    c.in_ok-form.form c.in_ok-form.ensures)
