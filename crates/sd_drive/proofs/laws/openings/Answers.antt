use Rattle.sd_drive.proofs.Behind.{opening-recovers}
use Rattle.sd_drive.proofs.laws.openings.Goals as goal

pub returns : goal.returns
returns c = record { recovers = opening-recovers }
