use Rattle.sd_page.proofs.Changed.{change_fits}
use Rattle.sd_page.proofs.laws.change_fits.Goals as goal

pub returns : goal.returns
returns c = change_fits
