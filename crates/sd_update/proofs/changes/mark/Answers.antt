use Rattle.std.proofs.Common.{refl}
use Rattle.sd_pagelock.specs.Moves.{IsMove}
use Rattle.sd_update.proofs.changes.mark.Goals as goal

pub set-requires-clause-lawful : goal.set-requires-clause-lawful
set-requires-clause-lawful c = IsMove.change c.args.i c.requires.owns refl
