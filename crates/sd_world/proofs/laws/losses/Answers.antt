use Rattle.sd_world.proofs.Losses.{loss-known}
use Rattle.sd_world.proofs.laws.losses.Goals as goal

pub returns : goal.returns
returns c = loss-known
