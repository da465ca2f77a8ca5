use Rattle.sd_script.specs.Words.{words_of}
use Rattle.sd_script.proofs.Trying.{fit_none}
use Rattle.sd_script.proofs.causes.«+fit».Goals as goal

pub returns-in_default : goal.returns-in_default
returns-in_default t c = fit_none c.args.reader.now c.args.cause c.args.parts.now c.args.before.now (words_of c.args.line.now) c.is_empty.result
    c.in_default.ensures.none c.is_empty.ensures
