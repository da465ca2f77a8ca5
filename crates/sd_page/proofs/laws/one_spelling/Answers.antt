use Rattle.sd_page.proofs.Told.{one_spelling}
use Rattle.sd_page.proofs.laws.one_spelling.Goals as goal

pub returns : goal.returns
returns c = one_spelling
