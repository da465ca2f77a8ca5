use Rattle.sd_page.specs.Reading.{eight_at}
use Rattle.sd_page.proofs.Parts.{length-spelling}
use Rattle.sd_page.proofs.Told.{told-lsn}
use Rattle.sd_page.proofs.laws.image_shape.Goals as goal

pub returns-clause-bytes : goal.returns-clause-bytes
returns-clause-bytes c = length-spelling

pub returns-clause-lsn : goal.returns-clause-lsn
unfolding eight_at
returns-clause-lsn c = told-lsn
