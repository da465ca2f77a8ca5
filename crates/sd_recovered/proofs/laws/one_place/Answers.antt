use Rattle.sd_recovered.proofs.OnePlace.{one_place}
use Rattle.sd_recovered.proofs.laws.one_place.Goals as goal

pub returns : goal.returns
returns c = one_place
