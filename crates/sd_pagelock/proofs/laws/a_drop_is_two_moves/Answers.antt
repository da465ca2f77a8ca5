use Rattle.sd_pagelock.proofs.Drops.{two_moves}
use Rattle.sd_pagelock.proofs.laws.a_drop_is_two_moves.Goals as goal

pub returns : goal.returns
returns c = two_moves
