use Rattle.std.proofs.Common.{sym, ◌∙◌}
use Rattle.sd_script.proofs.Rising.{none_from, ordinal_insert}
use Rattle.sd_script.proofs.names.insert.Goals as goal

pub returns-clause-ok : goal.returns-clause-ok
returns-clause-ok c = λ _ other.
    ordinal_insert c.args.rising.now c.args.others.now c.insert.new.self c.args.key c.args.ordinal other
    (sym c.found.ensures ∙ none_from c.found.result (sym c.is_some.ensures ∙ c.if-is_some.false)) (c.in_ok-insert.ensures.updates.0 other)
