use Rattle.sd_state.proofs.Answered.{still-unboxed}
use Rattle.sd_moves.proofs.blanks.free_pages.Goals as goal

pub returns-clause-still : goal.returns-clause-still
returns-clause-still c = still-unboxed c.new.result c.new.ensures.still
