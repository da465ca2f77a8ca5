use Rattle.std.proofs.Common.{not, sym, subst}
use Rattle.std.specs.Prelude.{IsTrue, ◌↔◌}
use Rattle.sd_script.specs.declared.kinds.Part.{Part}
use Rattle.sd_script.specs.Causes.{IsUnused}
use Rattle.sd_script.proofs.Trying.{unused_is}
use Rattle.sd_script.proofs.causes.is_unused.Goals as goal

pub returns-in-Begins : goal.returns-in-Begins
returns-in-Begins c =
    subst (λ (p : Part). IsTrue (not c.is_begun.result) ↔ IsUnused c.args.reader.now p c.args.word.now) (sym c.in-Begins.is)
    (unused_is c.args.reader.now c.args.word.now c.is_begun.result c.is_begun.ensures)
