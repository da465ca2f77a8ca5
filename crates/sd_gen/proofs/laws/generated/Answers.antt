use Rattle.sd_gen.proofs.Scripted.{generated}
use Rattle.sd_gen.proofs.laws.generated.Goals as goal

pub returns : goal.returns
returns c = generated
