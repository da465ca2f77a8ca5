use Rattle.sd_chain.proofs.Soundly.{sound-opens}
use Rattle.sd_chain.proofs.laws.sound_devices.Goals as goal

pub returns : goal.returns
returns c = record { opens = sound-opens }
