use Rattle.sd_chain.proofs.TwoPlaces.{two_places-left, two_places-force, two_places-put}
use Rattle.sd_chain.proofs.soundness_laws.two_places.Goals as goal

pub returns-clause-left : goal.returns-clause-left
returns-clause-left g c = two_places-left g.M.Moment.leaves g.P.Places.first g.P.Places.second

pub returns-clause-force : goal.returns-clause-force
returns-clause-force g c = two_places-force g.M.Moment.leaves g.P.Places.first g.P.Places.second

pub returns-clause-put : goal.returns-clause-put
returns-clause-put g c = two_places-put g.M.Moment.leaves g.P.Places.first g.P.Places.second
