use Rattle.sd_chain.proofs.Devices.{put-during, force-during}
use Rattle.sd_chain.proofs.laws.devices.Goals as goal

pub returns-clause-put : goal.returns-clause-put
returns-clause-put g c p page tails before after fits could w = put-during p page tails g.C.Crashes.may before after fits could w

pub returns-clause-forced : goal.returns-clause-forced
returns-clause-forced g c i tails before after is_log could w = force-during i tails g.C.Crashes.may before after is_log could w
